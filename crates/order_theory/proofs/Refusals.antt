-- What the rulings on links and on cycles say: no refusal 4 makes a map sound, and refusal 6 names the lowest node never ordered.
-- Rests on lists.First (what `first` finds) and Order (places).
use Prim.Native.Nat.{ℕ, ◌≤◌, ◌<◌}
use native.Mathlib.Omega.{arith}
use mathlib.Core.Path.{◌≡◌, refl, sym, ap, ◌∙◌, subst}
use mathlib.Core.Logic.{◌↔◌}
use mathlib.Core.Bool.{Bool, true, false, true≢false, not, ◌||◌, not-not}
use mathlib.Core.List.{List}
use lib.ListN.{length, get_or}
use lib.Dec.{eqb}
use borrow.Author.Tests.{eqb-true}
use Rattle.lists.specs.Lists.{times, In}
use Rattle.lists.specs.Found.{Found, absent, at, is_absent, first}
use Rattle.lists.proofs.Tests.{Says, ◌and◌, lt_says}
use Rattle.paper.specs.Map.{N, L, ins, outs, link_from, link_out, link_to, link_in, missing, second}
use Rattle.paper.specs.Order.{order, place_in, never_ordered}
use Rattle.paper.specs.Refusals.{passed, refusal, refuse, bad_link, refuse_link, rule45, rule6}
use Rattle.order_theory.specs.Sound.{Sound}
use Rattle.order_theory.specs.Cycle.{AllOrdered, Lowest}
use Rattle.lists.proofs.Places.{times_in_back, times-place}
use Rattle.lists.proofs.First.{FirstOf, first_absent, first_at, first-is, first-none}
use Rattle.order_theory.proofs.Order.{placed}

not_passed : {n p : ℕ} → refusal n p ≡ passed → ⊥
not_passed e = let z : ◌≡◌ {A = ℕ} 0 1 = cc in omega arith

-- ---- rulings 4 and 5

either_false : (s t : Bool) → (s || t) ≡ false → s ≡ false
either_false true t e = e
either_false false t e = refl

no_bad_link : (b : List ℕ) → rule45 b ≡ passed → bad_link b ≡ absent
unfolding rule45 refuse_link
no_bad_link b e = go (bad_link b) e
  where
    go : (f : Found) → refuse_link b f ≡ passed → f ≡ absent
    go absent e = refl
    go (at k) e = absurd (not_passed e)

none-missing : (b : List ℕ) → rule45 b ≡ passed → (k : ℕ) → k < L b → missing b k ≡ false
unfolding bad_link
none-missing b e k h =
    either_false (missing b k) (second b k) (first_absent (λ j. missing b j || second b j) (L b) (no_bad_link b e) k h)

-- a link that misses nothing, test by test
sound-link : (b : List ℕ) (k : ℕ)
    → Says (not (missing b k)) ((((link_from b k < N b) × (link_out b k < outs b (link_from b k))) × (link_to b k < N b)) × (link_in b k < ins b (link_to b k)))
unfolding missing
sound-link b k =
    rw not-not
    (lt_says (link_from b k) (N b) and lt_says (link_out b k) (outs b (link_from b k)) and lt_says (link_to b k) (N b)
    and lt_says (link_in b k) (ins b (link_to b k)))

pub sound : (b : List ℕ) → rule45 b ≡ passed → Sound b
sound b e =
    record {
      source = λ k h. (link k h).0.0.0;
      outlet = λ k h. (link k h).0.0.1;
      target = λ k h. (link k h).0.1;
      inlet = λ k h. (link k h).1;
    }
  where
    link : (k : ℕ) → k < L b → (((link_from b k < N b) × (link_out b k < outs b (link_from b k))) × (link_to b k < N b)) × (link_in b k < ins b (link_to b k))
    link k h = (sound-link b k).to (rw (none-missing b e k h) tt)

-- ---- ruling 6

pub placed_in : (v : ℕ) (xs : List ℕ) → is_absent (place_in xs v) ≡ false → In v xs
unfolding place_in
placed_in v xs e = go (place_in xs v) refl e
  where
    go : (f : Found) → place_in xs v ≡ f → is_absent f ≡ false → In v xs
    go absent q e = absurd (true≢false e)
    go (at i) q e =
        let r = first_at (λ j. eqb (get_or xs j 0) v) (length xs) i q in
        times_in_back v xs (subst (λ (u : ℕ). 1 ≤ times u xs) (eqb-true (get_or xs i 0) v r.passes) (times-place xs i r.known))

pub in_placed : (v : ℕ) (xs : List ℕ) → In v xs → is_absent (place_in xs v) ≡ false
in_placed v xs h = ap is_absent (placed v xs h).found

-- a node is never ordered exactly if it does not stand in the order
pub never_ordered_lem : (b : List ℕ) (v : ℕ) → (never_ordered b v ≡ true) ↔ (In v (order b) → ⊥)
unfolding never_ordered
never_ordered_lem b v = (
  λ e h. true≢false (sym e ∙ in_placed v (order b) h),
  λ out. go (is_absent (place_in (order b) v)) refl out,
)
  where
    go : (t : Bool) → is_absent (place_in (order b) v) ≡ t → (In v (order b) → ⊥) → is_absent (place_in (order b) v) ≡ true
    go true e out = e
    go false e out = absurd (out (placed_in v (order b) e))

-- the ruling passes exactly if all nodes are ordered
pub rule6_passes : (b : List ℕ) → (rule6 b ≡ passed) ↔ AllOrdered b
unfolding rule6 refuse never_ordered
rule6_passes b = (
  λ e v h. placed_in v (order b) (first_absent (never_ordered b) (N b) (nowhere (first (never_ordered b) (N b)) e) v h),
  λ all. ap (refuse 6) (first-none (never_ordered b) (N b) (λ v h. in_placed v (order b) (all v h))),
)
  where
    nowhere : (f : Found) → refuse 6 f ≡ passed → f ≡ absent
    nowhere absent e = refl
    nowhere (at p) e = absurd (not_passed e)

-- .. and refuses at v exactly if v is the lowest node never ordered
pub lowest : (b : List ℕ) (v : ℕ) → (rule6 b ≡ refusal 6 v) ↔ Lowest b v
unfolding rule6 refuse never_ordered
lowest b v = (
  λ e. name (first_at (never_ordered b) (N b) v (place (first (never_ordered b) (N b)) e)),
  λ r. ap (refuse 6) (first-is (never_ordered b) (N b) v (test r)),
)
  where
    place : (f : Found) → refuse 6 f ≡ refusal 6 v → f ≡ at v
    place absent e = absurd (not_passed (sym e))
    place (at p) e = cc

    name : FirstOf (never_ordered b) (N b) v → Lowest b v
    name r =
        record {
          known = r.known;
          out = (never_ordered_lem b v).0 r.passes;
          below = λ u h. placed_in u (order b) (r.fail u h);
        }

    test : Lowest b v → FirstOf (never_ordered b) (N b) v
    test r =
        record {
          known = r.known;
          passes = (never_ordered_lem b v).1 r.out;
          fail = λ u h. in_placed u (order b) (r.below u h);
        }
