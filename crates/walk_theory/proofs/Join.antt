-- Joining, one node or many: who is there afterwards, in which order, and how many.
-- Rests on the definitions (Marked).
use Prim.Native.Nat.{ℕ, suc, ◌<◌}
use native.Mathlib.Omega.{arith}
use mathlib.Core.Path.{◌≡◌, refl, sym, ap, ◌∙◌}
use mathlib.Core.Bool.{Bool, true, false, cond, ◌||◌, or-true, or-false, or_assoc}
use mathlib.Core.List.{List, [], ◌∷◌, ◌++◌, append-nil, append_assoc}
use lib.ListN.{length, get_or, length-append}
use lib.Seq.{append_snoc, get_or-append_seam}
use lib.Dec.{eqb}
use borrow.Author.Tests.{eqb-true}
use Rattle.lists.specs.Lists.{member}
use Rattle.lists.specs.Bounds.{Extends}
use Rattle.walk_theory.specs.Marked.{join, join_all}

-- ---- one more at the end

pub length_snoc : (xs : List ℕ) (x : ℕ) → length (xs ++ (x ∷ [])) ≡ suc (length xs)
length_snoc xs x = omega (arith, length-append xs (x ∷ []))

pub member_snoc : (v : ℕ) (xs : List ℕ) (x : ℕ) → member v (xs ++ (x ∷ [])) ≡ (member v xs || eqb v x)
member_snoc v [] x = or-false (eqb v x)
member_snoc v (y ∷ ys) x = ap (λ (t : Bool). eqb v y || t) (member_snoc v ys x) ∙ sym (or_assoc (eqb v y) (member v ys) (eqb v x))

-- ---- one node

module _ (joined : List ℕ) (v : ℕ) where
  -- a node that has joined does not join again
  pub join_old : member v joined ≡ true → join joined v ≡ joined
  unfolding join
  join_old e = rw e

  pub join-new : member v joined ≡ false → join joined v ≡ joined ++ (v ∷ [])
  unfolding join
  join-new e = rw e

  pub length-join-new : member v joined ≡ false → length (join joined v) ≡ suc (length joined)
  length-join-new e = ap length (join-new e) ∙ length_snoc joined v

  -- the node has joined now, and nobody else has
  pub member-join : (u : ℕ) → member u (join joined v) ≡ (member u joined || eqb u v)
  unfolding join
  member-join u = go (member v joined) refl
    where
      same : member v joined ≡ true → (t : Bool) → eqb u v ≡ t → member u joined ≡ (member u joined || t)
      same e true q = ap (λ (w : ℕ). member w joined) (eqb-true u v q) ∙ e ∙ sym (or-true (member u joined))
      same e false q = sym (or-false (member u joined))

      go : (t : Bool) → member v joined ≡ t → member u (cond t joined (joined ++ (v ∷ []))) ≡ (member u joined || eqb u v)
      go true e = same e (eqb u v) refl
      go false e = member_snoc u joined v

-- ---- many nodes

pub join_all-append : (joined xs ys : List ℕ) → join_all joined (xs ++ ys) ≡ join_all (join_all joined xs) ys
unfolding join_all
join_all-append joined [] ys = refl
join_all-append joined (x ∷ xs) ys = join_all-append (join joined x) xs ys

pub join_all_snoc : (joined xs : List ℕ) (v : ℕ) → join_all joined (xs ++ (v ∷ [])) ≡ join (join_all joined xs) v
unfolding join_all
join_all_snoc joined xs v = join_all-append joined xs (v ∷ [])

-- nobody leaves
join_extends : (joined : List ℕ) (v : ℕ) → Extends joined (join joined v)
unfolding join
join_extends joined v = go (member v joined)
  where
    go : (t : Bool) → Extends joined (cond t joined (joined ++ (v ∷ [])))
    go true = record { rest = []; whole = sym (append-nil joined) }
    go false = record { rest = v ∷ []; whole = refl }

pub join_all_extends : (joined xs : List ℕ) → Extends joined (join_all joined xs)
unfolding join_all
join_all_extends joined [] = record { rest = []; whole = sym (append-nil joined) }
join_all_extends joined (x ∷ xs) =
    let one = join_extends joined x in
    let more = join_all_extends (join joined x) xs in
    record {
      rest = one.rest ++ more.rest;
      whole = more.whole ∙ ap (λ (l : List ℕ). l ++ more.rest) one.whole ∙ append_assoc joined one.rest more.rest;
    }

-- who joins next stands behind those who have joined
module _ (joined : List ℕ) (v : ℕ) (xs : List ℕ) where
  next-whole : (e : Extends (joined ++ (v ∷ [])) (join_all (joined ++ (v ∷ [])) xs))
      → join_all (joined ++ (v ∷ [])) xs ≡ joined ++ v ∷ e.rest
  next-whole e = e.whole ∙ append_snoc joined v e.rest

  pub next-there : length joined < length (join_all (joined ++ (v ∷ [])) xs)
  next-there =
      let e = join_all_extends (joined ++ (v ∷ [])) xs in
      omega (arith, ap length (next-whole e), length-append joined (v ∷ e.rest))

  pub next-is : get_or (join_all (joined ++ (v ∷ [])) xs) (length joined) 0 ≡ v
  next-is =
      let e = join_all_extends (joined ++ (v ∷ [])) xs in
      ap (λ (l : List ℕ). get_or l (length joined) 0) (next-whole e) ∙ get_or-append_seam joined v e.rest 0
