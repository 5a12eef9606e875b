-- What each return of the reader needs: the mark byte by byte, a well-formed map test by test, the limits, and the answer.
-- Rests on paper's Map and Refusals.
use Prim.Native.Nat.{ℕ, suc, ◌+◌, ◌*◌, ◌≤◌, ◌<◌}
use native.Mathlib.Numerals.{add-one}
use native.Mathlib.Omega.{arith}
use mathlib.Core.Bool.{true, false, ◌&&◌, and-false}
use mathlib.Core.List.{List, [], ◌∷◌}
use mathlib.Core.Path.{◌≡◌, refl, sym, ap, ◌∙◌, subst}
use lib.Dec.{T, eqb}
use lib.ListN.{length, get_or, take, drop}
use lib.Seq.{drop-cons}
use mir.Syntax.{w8}
use mir.Val.{Fits}
use borrow.Author.Tests.{eq-eqb, ne_eqb, le-leb, lt-leb}
use Rattle.lists.proofs.Tests.{Says, itself, ◌and◌, eq_says, le_says}
use Rattle.lists.specs.Lists.{same, all, upto}
use Rattle.paper.specs.Map.{trailer, N, L, P, ins, outs, to_nodes, to_links, mark, PGT1, well_formed, within_limits}
use Rattle.paper.specs.Refusals.{passed, refuse, rule1, rule2, decide, Answer, refused, answered, answer}
use Rattle.stepmap.specs.Formed.{few_ports, sizes_of}
use Rattle.stepmap.specs.declared.read.Sizes.{Sizes}
use Rattle.stepmap.proofs.Fields.{word_below}

-- the mark, byte by byte
module _ (b : List ℕ) (at : ℕ) (fits : at + 4 ≤ length b) where
  one_more : (p q n : ℕ) → p < length b → q ≡ p + 1 → take (suc n) (drop p b) ≡ get_or b p 0 ∷ take n (drop q b)
  one_more p q n h e =
      ap (take (suc n)) (drop-cons b p 0 h) ∙ ap (λ (i : ℕ). get_or b p 0 ∷ take n (drop i b)) (sym (e ∙ add-one p))

  four : take 4 (drop at b) ≡ get_or b at 0 ∷ (get_or b (at + 1) 0 ∷ (get_or b (at + 2) 0 ∷ (get_or b (at + 3) 0 ∷ [])))
  four =
      one_more at (at + 1) 3 (omega arith) refl
      ∙ ap (λ (l : List ℕ). get_or b at 0 ∷ l)
      (one_more (at + 1) (at + 2) 2 (omega arith) (omega arith)
      ∙ ap (λ (l : List ℕ). get_or b (at + 1) 0 ∷ l)
      (one_more (at + 2) (at + 3) 1 (omega arith) (omega arith)
      ∙ ap (λ (l : List ℕ). get_or b (at + 2) 0 ∷ l) (one_more (at + 3) (at + 4) 0 (omega arith) (omega arith))))

  pub mark_test : same (take 4 (drop at b)) PGT1
      ≡ (eqb (get_or b at 0) 80 && (eqb (get_or b (at + 1) 0) 71 && (eqb (get_or b (at + 2) 0) 84 && (eqb (get_or b (at + 3) 0) 49 && true))))
  mark_test = ap (λ (l : List ℕ). same l PGT1) four

-- refusal 1, test by test
module _ (b : List ℕ) where
  pub nodes_far : (to_nodes b ≡ 4 * N b + 8 * L b → ⊥) → well_formed b ≡ false
  unfolding well_formed
  nodes_far h = rw (ne_eqb _ _ h)

  pub links_far : (to_links b ≡ 8 * L b → ⊥) → well_formed b ≡ false
  unfolding well_formed
  links_far h = rw (ne_eqb _ _ h, and-false)

  pub long : (length b ≡ 4 * N b + 8 * L b + 12 → ⊥) → well_formed b ≡ false
  unfolding well_formed
  long h = rw (ne_eqb _ _ h, and-false)

  pub marked : to_nodes b ≡ 4 * N b + 8 * L b → to_links b ≡ 8 * L b → length b ≡ 4 * N b + 8 * L b + 12
      → well_formed b ≡ same (mark b) PGT1
  unfolding well_formed
  marked nodes links size = rw (eq-eqb _ _ nodes, eq-eqb _ _ links, eq-eqb _ _ size)

-- what a map that is well formed says of its length
formed-says : (b : List ℕ)
    → Says (well_formed b)
    ((((to_nodes b ≡ 4 * N b + 8 * L b) × (to_links b ≡ 8 * L b)) × (length b ≡ 4 * N b + 8 * L b + 12)) × T (same (mark b) PGT1))
unfolding well_formed
formed-says b =
    eq_says (to_nodes b) (4 * N b + 8 * L b) and eq_says (to_links b) (8 * L b)
    and eq_says (length b) (4 * N b + 8 * L b + 12)
    and itself (same (mark b) PGT1)

pub formed-size : (b : List ℕ) → well_formed b ≡ true → length b ≡ 4 * N b + 8 * L b + 12
formed-size b h = ((formed-says b).to (subst T (sym h) tt)).0.1

-- the trailer's counts are fields
module _ (b : List ℕ) (bytes : (i : ℕ) → Fits w8 (get_or b i 0)) where
  pub nodes-below : N b < 65536
  unfolding N
  nodes-below = word_below b bytes (trailer b + 2)

  pub links-below : L b < 65536
  unfolding L
  links-below = word_below b bytes (trailer b + 6)

-- refusal 2, limit by limit
module _ (b : List ℕ) (v : ℕ) where
  pub inputs-many : {x : ℕ} → x ≡ ins b v → 255 < x → few_ports b v ≡ false
  inputs-many e h = rw (lt-leb (ins b v) 255 (omega arith))

  pub outputs-many : {x : ℕ} → x ≡ outs b v → 255 < x → few_ports b v ≡ false
  outputs-many e h = rw (lt-leb (outs b v) 255 (omega arith), and-false)

  pub ports-few : {x y : ℕ} → x ≡ ins b v → y ≡ outs b v → x ≤ 255 → y ≤ 255 → few_ports b v ≡ true
  ports-few e f h g = rw (le-leb (ins b v) 255 (omega arith), le-leb (outs b v) 255 (omega arith))

module _ (b : List ℕ) where
  pub nodes-many : {n : ℕ} → n ≡ N b → 512 < n → within_limits b ≡ false
  unfolding within_limits
  nodes-many e h = rw (lt-leb (N b) 512 (omega arith))

  pub links-many : {l : ℕ} → l ≡ L b → 2048 < l → within_limits b ≡ false
  unfolding within_limits
  links-many e h = rw (lt-leb (L b) 2048 (omega arith), and-false)

  pub degree_large : {n : ℕ} → n ≡ N b → all (few_ports b) (upto n) ≡ false → within_limits b ≡ false
  unfolding within_limits
  degree_large e h = rw (← e, h, and-false)

  pub ports-many : {p : ℕ} → p ≡ P b → 4096 < p → within_limits b ≡ false
  unfolding within_limits
  ports-many e h = rw (lt-leb (P b) 4096 (omega arith), and-false)

  pub within : {n l p : ℕ} → n ≡ N b → l ≡ L b → p ≡ P b → n ≤ 512 → l ≤ 2048 → p ≤ 4096 → all (few_ports b) (upto n) ≡ true
      → within_limits b ≡ true
  unfolding within_limits
  within e f g hn hl hp h =
      rw (le-leb (N b) 512 (omega arith), le-leb (L b) 2048 (omega arith), le-leb (P b) 4096 (omega arith), ← e, h)

-- what the limits say
limits_says : (b : List ℕ)
    → Says (within_limits b) ((((N b ≤ 512) × (L b ≤ 2048)) × (P b ≤ 4096)) × T (all (few_ports b) (upto (N b))))
unfolding within_limits
limits_says b = le_says (N b) 512 and le_says (L b) 2048 and le_says (P b) 4096 and itself (all (few_ports b) (upto (N b)))

pub limits : (b : List ℕ) → within_limits b ≡ true → ((N b ≤ 512) × (L b ≤ 2048)) × (P b ≤ 4096)
limits b h = ((limits_says b).to (subst T (sym h) tt)).0

-- the answer
abbrev pub ruled : List ℕ → Answer Sizes
ruled b = answer (decide (rule1 b ∷ rule2 b ∷ [])) (sizes_of b)

module _ (b : List ℕ) where
  pub refused_1 : well_formed b ≡ false → refused 1 0 ≡ ruled b
  unfolding rule1 refuse decide answer
  refused_1 h = rw h

  pub refused_2 : well_formed b ≡ true → within_limits b ≡ false → refused 2 0 ≡ ruled b
  unfolding rule1 rule2 refuse decide answer
  refused_2 h g = rw (h, g)

  passes : well_formed b ≡ true → within_limits b ≡ true → decide (rule1 b ∷ rule2 b ∷ []) ≡ passed
  unfolding rule1 rule2 refuse decide
  passes h g = rw (h, g)

  pub sized : {n l p : ℕ} → n ≡ N b → l ≡ L b → p ≡ P b → well_formed b ≡ true → within_limits b ≡ true
      → answered (record { nodes = n; links = l; ports = p }) ≡ ruled b
  unfolding answer
  sized en el ep h g = rw (passes h g, en, el, ep)
