-- 01's two sets and the marks go together: at a step for every place, the sets are the listed and the marked places not passed yet.
-- Rests on Rows, Listed and Passing.
use Prim.Native.Nat.{ℕ, zero, suc, ◌+◌, ◌≤◌, ◌<◌}
use native.Mathlib.Decide.{dec_lt}
use native.Mathlib.Omega.{arith}
use mathlib.Core.Path.{◌≡◌, refl, sym, ap, ap₂, ◌∙◌}
use mathlib.Core.Logic.{◌⊎◌, inl, inr}
use mathlib.Core.Bool.{Bool, true, false, not, ◌||◌, cond, or_comm, false≢true, true≢false}
use mathlib.Core.List.Memᴰ
use mathlib.Core.List.{List, [], ◌∷◌, ◌++◌, Memᴰ}
use lib.ListN.{length}
use lib.Dec.{eqb, leb}
use borrow.Author.Tests.{lt-ltb, le-ltb, leb-false, not-true}
use Rattle.lists.specs.Lists.{from, any, keep, member, greatest}
use Rattle.lists.proofs.Members.{keep_members, keep_nothing, keep-there}
use Rattle.accepted_theory.proofs.recorded.Among.{keep_at, keep_passes, member_at, member_in, none_at}
use Rattle.paper.specs.Map.{N}
use Rattle.paper.specs.Area.{W}
use Rattle.paper.specs.Accepted.{Accepted}
use Rattle.paper.specs.Intervals.{Yes}
use Rattle.paper.specs.OrderCheck.{
  places_of,
  neighbour_places,
  insert_all,
  Topo,
  pass_node,
  pass_other,
  step_topo,
  topo_after,
  reply_of as topo_reply,
  order_check,
}
use Rattle.order_theory.specs.Sound.{Sound}
use Rattle.convexity_theory.specs.places.Passed.{Passed, pass_place, passed_below, reply_of, passing}
use Rattle.convexity_theory.proofs.places.Later.{later}
use Rattle.convexity_theory.proofs.places.Rows.{from_at, row_low, row_with, row-without, insert-rows, any_append}
use Rattle.convexity_theory.proofs.places.Listed.{Ranged, ranged}
use Rattle.convexity_theory.proofs.places.Passing.{outsiders, pass_listed, pass_feeding, pass_marked, pass_other_lem}

module _ (b a places : List ℕ) where
  abbrev listed : ℕ → Bool
  listed j = member j places

  abbrev next : ℕ → List ℕ
  next i = neighbour_places b a places i

  -- ---- one step of the two sets

  step-node : (i : ℕ) (nodes others : List ℕ) → ((j : ℕ) → Memᴰ j others → i < j)
      → step_topo b a places (Topo.going (i ∷ nodes) others) ≡ pass_node b a places i nodes others
  unfolding step_topo
  step-node i nodes [] above = refl
  step-node i nodes (j ∷ others) above = rw (lt-ltb i j (above j (Memᴰ.head refl)))

  step_other : (j : ℕ) (nodes others : List ℕ) {x : ℕ} → Memᴰ x nodes → ((i : ℕ) → Memᴰ i nodes → j < i)
      → step_topo b a places (Topo.going nodes (j ∷ others)) ≡ pass_other b a places j nodes others
  unfolding step_topo
  step_other j [] others m above = absurd (Memᴰ.not-nil m)
  step_other j (i ∷ nodes) others m above = rw (le-ltb i j (omega (arith, above i (Memᴰ.head refl))))

  -- steps that change nothing
  stays : (w : Topo) → step_topo b a places w ≡ w → (t n : ℕ) → t ≤ n → topo_after b a places t ≡ w → topo_after b a places n ≡ w
  unfolding topo_after
  stays w same = later (topo_after b a places) (λ n e. ap (step_topo b a places) e ∙ same)

  -- ---- together

  -- after step t and after all places below i, of which k are left
  record Going (t i k : ℕ) (marked : List ℕ) : Type 0 where
    early : t ≤ i
    passed : passed_below b a places i ≡ Passed.going marked
    stepped : topo_after b a places t ≡ Topo.going (keep listed (from i k)) (keep (λ j. member j marked) (from i k))
    outside : (j : ℕ) → Memᴰ j marked → member j places ≡ false

  data Together (i k : ℕ) : Type 0 where
    both_go : (t : ℕ) (marked : List ℕ) → Going t i k marked → Together i k
    both_fed : (t : ℕ) → t ≤ i → passed_below b a places i ≡ Passed.fed_back → topo_after b a places t ≡ Topo.fed_back → Together i k

  module _ (r : Ranged b a places) where
    -- marks on places behind the one passed
    marks_more : (i k : ℕ) → i + suc k ≡ suc (greatest places) → (marked new : List ℕ) → ((j : ℕ) → Memᴰ j new → Memᴰ j (next i))
        → insert_all new (keep (λ j. member j marked) (from (suc i) k)) ≡ keep (λ j. member j (marked ++ new)) (from (suc i) k)
    marks_more i k end marked new here =
        insert-rows (λ j. member j marked) new (suc i) k (λ j m. ((r.later i (omega arith) j (here j m)).0, omega (arith, (r.later i (omega arith) j (here j m)).1)))
        ∙ keep_members (λ j. member j new || member j marked) (λ j. member j (marked ++ new)) (from (suc i) k)
        (λ j m. or_comm (member j new) (member j marked) ∙ sym (any_append (eqb j) marked new))

    module _ {t i k : ℕ} {marked : List ℕ} (end : i + suc k ≡ suc (greatest places)) (g : Going t i (suc k) marked) where
      abbrev nodes : List ℕ
      nodes = keep listed (from (suc i) k)

      abbrev others : List ℕ
      others = keep (λ j. member j marked) (from (suc i) k)

      -- the neighbours that are marked are outside the list
      outside_more : (new : List ℕ) → ((j : ℕ) → Memᴰ j new → listed j ≡ false) → (j : ℕ) → Memᴰ j (marked ++ new) → listed j ≡ false
      outside_more new h j m = go (Memᴰ.append_cases marked m)
        where
          go : Memᴰ j marked ⊎ Memᴰ j new → listed j ≡ false
          go (inl n) = g.outside j n
          go (inr n) = h j n

      at_listed : listed i ≡ true → Going (suc t) (suc i) k (marked ++ outsiders b a places i)
      unfolding topo_after passed_below pass_node
      at_listed e =
          record {
            early = omega (arith, g.early);
            passed = ap (pass_place b a places i) g.passed ∙ pass_listed b a places i marked e;
            stepped =
                ap (step_topo b a places) (g.stepped ∙ ap₂ Topo.going (row_with listed i k e) (row-without (λ j. member j marked) i k (off (member i marked) refl)))
                ∙ step-node i nodes others (λ j m. row_low (λ x. member x marked) (suc i) k m)
                ∙ ap (Topo.going nodes) (marks_more i k end marked (outsiders b a places i) (λ j m. keep-there (λ x. not (listed x)) (next i) m));
            outside = outside_more (outsiders b a places i) (λ j m. not-true (listed j) (keep_passes (λ x. not (listed x)) (next i) m));
          }
        where
          off : (on : Bool) → member i marked ≡ on → on ≡ false
          off true on = absurd (true≢false (sym e ∙ g.outside i (member_in i marked on)))
          off false on = refl

      -- a marked place comes before the listed ones that are left, of which there is one
      at_marked : listed i ≡ false → member i marked ≡ true
          → topo_after b a places (suc t) ≡ cond (any listed (next i)) Topo.fed_back (Topo.going nodes (insert_all (next i) others))
      unfolding topo_after pass_other
      at_marked out on =
          ap (step_topo b a places) (g.stepped ∙ ap₂ Topo.going (row-without listed i k out) (row_with (λ j. member j marked) i k on))
          ∙ step_other i nodes others (keep_at listed (from_at (greatest places) (suc i) k before (omega arith)) (member_at r.last))
          (λ j m. row_low listed (suc i) k m)
        where
          before : suc i ≤ greatest places
          before = go (dec_lt i (greatest places))
            where
              same : (j : ℕ) → i ≡ j → listed j ≡ false
              same j e = ap listed (sym e) ∙ out

              go : Dec (i < greatest places) → suc i ≤ greatest places
              go (yes l) = l
              go (no l) = absurd (false≢true (sym (same (greatest places) (omega arith)) ∙ member_at r.last))

      at_going : listed i ≡ false → member i marked ≡ true → any listed (next i) ≡ false → Going (suc t) (suc i) k (marked ++ next i)
      unfolding passed_below
      at_going out on none =
          record {
            early = omega (arith, g.early);
            passed = ap (pass_place b a places i) g.passed ∙ pass_marked b a places i marked out on none;
            stepped =
                at_marked out on ∙ ap (λ (t : Bool). cond t Topo.fed_back (Topo.going nodes (insert_all (next i) others))) none
                ∙ ap (Topo.going nodes) (marks_more i k end marked (next i) (λ j m. m));
            outside = outside_more (next i) (λ j m. none_at listed none m);
          }

      at_other : listed i ≡ false → member i marked ≡ false → Going t (suc i) k marked
      unfolding passed_below
      at_other out off =
          record {
            early = omega (arith, g.early);
            passed = ap (pass_place b a places i) g.passed ∙ pass_other_lem b a places i marked out off;
            stepped = g.stepped ∙ ap₂ Topo.going (row-without listed i k out) (row-without (λ j. member j marked) i k off);
            outside = g.outside;
          }

      next_place : (p m f : Bool) → listed i ≡ p → member i marked ≡ m → any listed (next i) ≡ f → Together (suc i) k
      unfolding passed_below
      next_place true m f p q e = both_go (suc t) (marked ++ outsiders b a places i) (at_listed p)
      next_place false true true p q e =
          both_fed (suc t) (omega (arith, g.early)) (ap (pass_place b a places i) g.passed ∙ pass_feeding b a places i marked p q e)
          (at_marked p q ∙ ap (λ (t : Bool). cond t Topo.fed_back (Topo.going nodes (insert_all (next i) others))) e)
      next_place false true false p q e = both_go (suc t) (marked ++ next i) (at_going p q e)
      next_place false false f p q e = both_go t marked (at_other p q)

    together : (i k : ℕ) → i + k ≡ suc (greatest places) → Together i k
    unfolding passed_below topo_after pass_place
    together zero k e =
        both_go 0 []
        (record {
          early = omega arith;
          passed = refl;
          stepped =
              ap₂ Topo.going (sym r.row ∙ ap (λ (n : ℕ). keep listed (from 0 n)) (sym whole))
              (sym (keep_nothing (λ j. member j []) (from 0 k) (λ x m. refl)));
          outside = λ j m. absurd (Memᴰ.not-nil m);
        })
      where
        whole : k ≡ suc (greatest places)
        whole = omega arith
    together (suc i) k e = go (together i (suc k) (omega arith))
      where
        go : Together i (suc k) → Together (suc i) k
        go (both_go t marked g) = next_place (omega arith) g (listed i) (member i marked) (any listed (next i)) refl refl refl
        go (both_fed t l p q) = both_fed t (omega arith) (ap (pass_place b a places i) p) q

    -- after the last listed place the two sets change no more
    same-reply : reply_of (passed_below b a places (suc (greatest places))) ≡ topo_reply (topo_after b a places (N b))
    unfolding reply_of topo_reply step_topo
    same-reply = go (together (suc (greatest places)) 0 (omega arith))
      where
        go : Together (suc (greatest places)) 0 → reply_of (passed_below b a places (suc (greatest places))) ≡ topo_reply (topo_after b a places (N b))
        go (both_go t marked g) =
            ap reply_of g.passed ∙ sym (ap topo_reply (stays (Topo.going [] []) refl t (N b) (omega (arith, g.early, r.ends)) g.stepped))
        go (both_fed t l p q) =
            ap reply_of p ∙ sym (ap topo_reply (stays Topo.fed_back refl t (N b) (omega (arith, r.ends)) q))

-- ---- the two answers

pub passing-is : {b a : List ℕ} → Accepted b a → Sound b → W b ≤ length a → (list : List ℕ) → passing b a list ≡ order_check b a list
unfolding passing order_check
passing-is {b} {a} acc s room list = go (leb (length places) 1) refl
  where
    places : List ℕ
    places = places_of b a list

    go : (t : Bool) → leb (length places) 1 ≡ t
        → cond t Yes (reply_of (passed_below b a places (suc (greatest places)))) ≡ cond t Yes (topo_reply (topo_after b a places (N b)))
    go true e = refl
    go false e = same-reply b a places (ranged acc s room list (omega (arith, leb-false (length places) 1 e)))
