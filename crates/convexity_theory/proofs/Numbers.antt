-- "exactly the number of steps": there is only one such number, and steps outside a list of known steps leave room for it.
-- Rests on Memberships, Extremes and lists.Compare.
use Prim.Native.Nat.{ℕ, suc, ◌+◌, ◌≤◌, ◌<◌}
use native.Mathlib.Omega.{arith}
use mathlib.Core.Path.{◌≡◌, sym, ◌∙◌}
use mathlib.Core.List.{List, ◌++◌}
use lib.ListN.{length, length-append}
use lib.Dec.{eqb}
use Rattle.lists.specs.Lists.{times, greatest, In, Distinct}
use Rattle.lists.specs.Bounds.{Below}
use Rattle.lists.proofs.Upto.{count-append}
use Rattle.lists.proofs.Places.{times_in}
use Rattle.lists.proofs.Compare.{fits, same_length}
use Rattle.paper.specs.Plain.{Number}
use Rattle.walk_theory.proofs.Joined.{below_in}
use Rattle.convexity_theory.proofs.Memberships.{dec_in, times-out, times-distinct}
use Rattle.convexity_theory.proofs.Extremes.{greatest-most}

pub number_unique : {Is : ℕ → Type 0} {m n : ℕ} → Number Is m → Number Is n → m ≡ n
number_unique {Is} p q =
    sym p.size ∙ same_length (suc (greatest xs)) xs ys (below_in (suc (greatest xs)) xs (λ v i. omega (arith, greatest-most v xs i)))
    (below_in (suc (greatest xs)) ys (λ v i. omega (arith, greatest-most v xs ((p.exactly v).1 ((q.exactly v).0 i)))))
    (λ k l. as_often k (dec_in k xs))
    ∙ q.size
  where
    xs : List ℕ
    xs = p.steps

    ys : List ℕ
    ys = q.steps

    as_often : (k : ℕ) → Dec (In k xs) → times k xs ≡ times k ys
    as_often k (yes i) =
        omega
        (arith, times_in k xs i, times_in k ys ((q.exactly k).1 ((p.exactly k).0 i)), times-distinct xs p.once k, times-distinct ys q.once k)
    as_often k (no out) =
        omega (arith, times-out k xs out, times-out k ys (λ i. out ((p.exactly k).1 ((q.exactly k).0 i))))

pub number-room : {Is : ℕ → Type 0} {c : ℕ} (list : List ℕ) (n : ℕ) → Distinct list → ((v : ℕ) → In v list → v < n) → Number Is c
    → ((x : ℕ) → Is x → In x list → ⊥) → ((x : ℕ) → Is x → x < n) → c + length list ≤ n
number-room list n distinct known number outside below =
    omega (arith, fits n (steps ++ list) all-below all_once, length-append steps list, number.size)
  where
    steps : List ℕ
    steps = number.steps

    steps-below : Below n steps
    steps-below = below_in n steps (λ x i. below x ((number.exactly x).0 i))

    all-below : Below n (steps ++ list)
    all-below k h = omega (arith, count-append (eqb k) steps list, steps-below k h, below_in n list known k h)

    all_once : (k : ℕ) → times k (steps ++ list) ≤ 1
    all_once k = go (dec_in k steps)
      where
        go : Dec (In k steps) → times k (steps ++ list) ≤ 1
        go (yes i) =
            omega
            (arith, count-append (eqb k) steps list, times-distinct steps number.once k, times-out k list (outside k ((number.exactly k).0 i)))
        go (no out) = omega (arith, count-append (eqb k) steps list, times-out k steps out, times-distinct list distinct k)
