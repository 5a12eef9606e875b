-- Looking a node up among the nodes placed, where each stands once.
-- Rests on lists.Members.
use Prim.Native.Nat.{ℕ, ◌≤◌}
use native.Mathlib.Omega.{arith}
use mathlib.Core.Path.{◌≡◌, refl, sym, ap, ◌∙◌}
use mathlib.Core.Bool.{Bool, true, false, cond}
use mathlib.Core.List.{List, [], ◌∷◌, map, Memᴰ}
use lib.Dec.{eqb}
use borrow.Author.Tests.{eq-eqb, eqb-true}
use Rattle.lists.specs.Lists.{one, member, times}
use Rattle.lists.proofs.Count.{one_eq, eqb_sym}
use Rattle.paper.specs.Lines.{Placed, placed_as}
use Rattle.lines_theory.specs.Lined.{on, nodes_on}
use Rattle.lists.proofs.Members.{member-times, times-kept}

-- a node that is placed is found
pub found-placed : (v : ℕ) (xs : List Placed) → 1 ≤ times v (map (λ x. x.node) xs) → Memᴰ (placed_as v xs) xs
unfolding placed_as
found-placed v [] h = absurd (omega arith)
found-placed v (x ∷ xs) h = go (eqb x.node v) refl (found-placed v xs)
  where
    go : (t : Bool) → eqb x.node v ≡ t → (1 ≤ times v (map (λ y. y.node) xs) → Memᴰ (placed_as v xs) xs)
        → Memᴰ (cond t x (placed_as v xs)) (x ∷ xs)
    go true q ih = Memᴰ.head refl
    go false q ih = Memᴰ.tail (ih (omega (arith, ap one (eqb_sym v x.node), ap one q)))

-- .. as what it was placed as
pub placed-itself : {x : Placed} {xs : List Placed} → Memᴰ x xs → times x.node (map (λ y. y.node) xs) ≤ 1 → placed_as x.node xs ≡ x
unfolding placed_as
placed-itself {x} (Memᴰ.head {x = y} {xs = ys} e) once =
    ap (λ (t : Bool). cond t y (placed_as x.node ys)) (eq-eqb y.node x.node (ap (λ (z : Placed). z.node) (sym e))) ∙ sym e
placed-itself {x} (Memᴰ.tail {x = y} {xs = ys} m) once = go (eqb y.node x.node) refl (placed-itself m)
  where
    go : (t : Bool) → eqb y.node x.node ≡ t → (times x.node (map (λ z. z.node) ys) ≤ 1 → placed_as x.node ys ≡ x)
        → cond t y (placed_as x.node ys) ≡ x
    go true q ih =
        absurd (omega (arith, once, member-times (λ (z : Placed). z.node) m, one_eq x.node y.node (sym (eqb-true y.node x.node q))))
    go false q ih = ih (omega (arith, once))

-- a node is on a line exactly if it lists it
pub on_line : (v l : ℕ) (xs : List Placed) → times v (map (λ x. x.node) xs) ≡ 1 → times v (nodes_on l xs) ≡ one (member l (placed_as v xs).lines)
unfolding placed_as
on_line v l [] h = absurd (omega arith)
on_line v l (x ∷ xs) h = go (eqb x.node v) refl (member l x.lines) refl (on_line v l xs)
  where
    go : (t : Bool) → eqb x.node v ≡ t → (u : Bool) → member l x.lines ≡ u
        → (times v (map (λ y. y.node) xs) ≡ 1 → times v (nodes_on l xs) ≡ one (member l (placed_as v xs).lines))
        → times v (map (λ y. y.node) (cond u (x ∷ on l xs) (on l xs))) ≡ one (member l (cond t x (placed_as v xs)).lines)
    go true q true r ih =
        omega
        (arith, ap one r, ap one q, ap one (eqb_sym v x.node), times-kept (λ y. y.node) (λ y. member l y.lines) v xs)
    go true q false r ih =
        omega
        (arith, ap one r, ap one q, ap one (eqb_sym v x.node), times-kept (λ y. y.node) (λ y. member l y.lines) v xs)
    go false q true r ih = omega (arith, ap one q, ap one (eqb_sym v x.node), ih (omega (arith, ap one q, ap one (eqb_sym v x.node))))
    go false q false r ih = ih (omega (arith, ap one q, ap one (eqb_sym v x.node)))
