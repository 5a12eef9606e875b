-- Pushing line ends, the position of a node, and how many new lines it gets.
-- Rests on the definitions (paper.Lines) and on lists.Members.
use Prim.Native.Nat.{ℕ, suc, ◌+◌, ◌-◌, ◌≤◌, ◌<◌}
use native.Mathlib.Omega.{arith}
use mathlib.Core.Path.{◌≡◌, refl, ap}
use mathlib.Core.Logic.{◌⊎◌, inl, inr}
use mathlib.Core.Bool.{Bool, true, false, cond}
use mathlib.Core.List.Memᴰ
use mathlib.Core.List.{List, [], ◌∷◌, map, Memᴰ}
use lib.ListN.{length}
use lib.Dec.{eqb}
use borrow.Author.Tests.{eqb-true, eqb-false}
use Rattle.lists.specs.Lists.{count, times, greatest}
use Rattle.lists.proofs.Count.{count_map}
use Rattle.paper.specs.Lines.{End, push, position_above, new_lines}
use Rattle.lines_theory.specs.Lined.{made}

-- ---- the ends that are pushed

module _ (position : ℕ) where
  pub push-count : (f : End → Bool) (ps ls : List ℕ) (ends : List End)
      → count f (push position ps ls ends) ≡ count f (made position ps ls) + count f ends
  unfolding push
  push-count f [] ls ends = omega arith
  push-count f (p ∷ ps) [] ends = omega arith
  push-count f (p ∷ ps) (l ∷ ls) ends =
      omega (arith, push-count f ps ls (record { port = p; line = l; position = position } ∷ ends))

  pub push-times : (g : End → ℕ) (n : ℕ) (ps ls : List ℕ) (ends : List End)
      → times n (map g (push position ps ls ends)) ≡ times n (map g (made position ps ls)) + times n (map g ends)
  push-times g n ps ls ends =
      omega
      (arith, push-count (λ e. eqb n (g e)) ps ls ends, same (push position ps ls ends), same (made position ps ls), same ends)
    where
      same : (es : List End) → times n (map g es) ≡ count (λ e. eqb n (g e)) es
      same es = count_map (eqb n) g es

  pub push-there : {e : End} (ps ls : List ℕ) (ends : List End) → Memᴰ e (push position ps ls ends)
      → Memᴰ e (made position ps ls) ⊎ Memᴰ e ends
  unfolding push
  push-there [] ls ends m = inr m
  push-there (p ∷ ps) [] ends m = inr m
  push-there {e} (p ∷ ps) (l ∷ ls) ends m = go (push-there ps ls (new ∷ ends) m)
    where
      new : End
      new = record { port = p; line = l; position = position }

      split : (e ≡ new) ⊎ Memᴰ e ends → Memᴰ e (new ∷ made position ps ls) ⊎ Memᴰ e ends
      split (inl q) = inl (Memᴰ.head q)
      split (inr n) = inr n

      go : Memᴰ e (made position ps ls) ⊎ Memᴰ e (new ∷ ends) → Memᴰ e (new ∷ made position ps ls) ⊎ Memᴰ e ends
      go (inl n) = inl (Memᴰ.tail n)
      go (inr n) = split (Memᴰ.cases_cons n)

  -- with a line for every port, one end at each port
  pub made-ports : (ps ls : List ℕ) → length ps ≤ length ls → map (λ e. e.port) (made position ps ls) ≡ ps
  made-ports [] ls h = refl
  made-ports (p ∷ ps) [] h = absurd (omega arith)
  made-ports (p ∷ ps) (l ∷ ls) h = ap (λ (qs : List ℕ). p ∷ qs) (made-ports ps ls (omega arith))

  pub made-lines : (n : ℕ) (ps ls : List ℕ) → times n (map (λ e. e.line) (made position ps ls)) ≤ times n ls
  made-lines n [] ls = omega arith
  made-lines n (p ∷ ps) [] = omega arith
  made-lines n (p ∷ ps) (l ∷ ls) = omega (arith, made-lines n ps ls)

  pub made-position : {e : End} (ps ls : List ℕ) → Memᴰ e (made position ps ls) → e.position ≡ position
  made-position [] ls m = absurd (Memᴰ.not-nil m)
  made-position (p ∷ ps) [] m = absurd (Memᴰ.not-nil m)
  made-position {e} (p ∷ ps) (l ∷ ls) m = go (Memᴰ.cases_cons m) (made-position ps ls)
    where
      go : (e ≡ record { port = p; line = l; position = position }) ⊎ Memᴰ e (made position ps ls)
          → (Memᴰ e (made position ps ls) → e.position ≡ position) → e.position ≡ position
      go (inl q) ih = ap (λ (x : End). x.position) q
      go (inr n) ih = ih n

-- ---- a node's position

greatest-member : {e : End} {es : List End} → Memᴰ e es → e.position ≤ greatest (map (λ x. x.position) es)
greatest-member (Memᴰ.head {x = y} {xs = ys} q) = omega (arith, ap (λ (x : End). x.position) q)
greatest-member (Memᴰ.tail {x = y} {xs = ys} m) = omega (arith, greatest-member m)

-- it is above every position met
pub above-met : {e : End} (es : List End) → Memᴰ e es → e.position < position_above es
unfolding position_above
above-met [] m = absurd (Memᴰ.not-nil m)
above-met (x ∷ es) m = omega (arith, greatest-member m)

greatest-below : (n : ℕ) (es : List End) → 0 < n → ((e : End) → Memᴰ e es → e.position < n) → greatest (map (λ x. x.position) es) < n
greatest-below n [] pos h = pos
greatest-below n (e ∷ es) pos h = omega (arith, h e (Memᴰ.head refl), greatest-below n es pos (λ x m. h x (Memᴰ.tail m)))

-- .. and no higher than they allow
pub above-few : (n : ℕ) (es : List End) → ((e : End) → Memᴰ e es → e.position < n) → position_above es ≤ n
unfolding position_above
above-few n [] h = omega arith
above-few n (e ∷ es) h = greatest-below n (e ∷ es) (omega (arith, h e (Memᴰ.head refl))) h

-- ---- new lines

-- with those taken there is a line for every outgoing link, and one at least; new ones are no more than outgoing links and one
pub record Enough (taken outgoing new : ℕ) : Type 0 where
  pub each : outgoing ≤ taken + new
  pub some : 1 ≤ taken + new
  pub few : new ≤ suc outgoing

pub enough : (taken outgoing : ℕ) → Enough taken outgoing (new_lines taken outgoing)
unfolding new_lines
enough taken outgoing = go (eqb (taken + outgoing) 0) refl
  where
    go : (t : Bool) → eqb (taken + outgoing) 0 ≡ t → Enough taken outgoing (cond t 1 (outgoing - taken))
    go true e =
        let none = eqb-true (taken + outgoing) 0 e in
        record { each = omega arith; some = omega arith; few = omega arith }
    go false e =
        let any : taken + outgoing ≡ 0 → ⊥ = eqb-false (taken + outgoing) 0 e in
        record { each = omega arith; some = omega arith; few = omega arith }
