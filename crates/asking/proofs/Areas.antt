-- The area from list to list: a call leaves one that stands for the prepared area as before, and the calls answer on it as there.
-- Rests on convexity_theory (a call keeps the words in use) and accepted_theory (they alone decide every call).
use Prim.Native.Nat.{ℕ}
use native.Mathlib.Omega.{arith}
use mathlib.Core.Path.{◌≡◌, sym, ap, ◌∙◌, subst}
use mathlib.Core.List.{List}
use lib.ListN.{length, replicate, length-replicate}
use lib.Seq.{length-sets}
use Rattle.paper.specs.Area.{W, written, prepared, cleared}
use Rattle.paper.specs.Intervals.{Reply}
use Rattle.paper.specs.Path.{Shown}
use Rattle.paper.specs.Refusals.{Ruling, passed, refusal, decide, on_refusal, Answer}
use Rattle.paper.specs.Calls.{Left, LeftWith, untouched, unprepared, prepare, call, call_into, area_after, is_node_convex, topo_is_node_convex, show_path}
use Rattle.accepted_theory.specs.SameOutcomes.{SameOutcomes}
use Rattle.accepted_theory.proofs.InUse.{back, onward}
use Rattle.accepted_theory.proofs.Calls.{same_outcomes}
use Rattle.convexity_theory.proofs.trust.Kept.{same_in_use, trust_kept}
use Rattle.asking.specs.Standing.{prepared_area, Standing}

-- the prepared area has W words, also where the map is refused
pub prepared-room : (b : List ℕ) → length (prepared_area b) ≡ W b
unfolding prepared_area prepare on_refusal prepared cleared
prepared-room b = go (decide (untouched b a)) (decide (unprepared b))
  where
    a : List ℕ
    a = replicate (W b) 0

    go : (u v : Ruling) → length (on_refusal u a (on_refusal v (cleared b a) (prepared b a))) ≡ W b
    go (refusal n p) v = length-replicate (W b) 0
    go passed (refusal n p) = length-sets a 0 (replicate (W b) 0) ∙ length-replicate (W b) 0
    go passed passed = length-sets a 0 (written b) ∙ length-replicate (W b) 0

module _ {b a : List ℕ} (standing : Standing b a) where
  as_prepared : SameOutcomes b a (prepared_area b)
  as_prepared = same_outcomes standing.same standing.trusted.room (omega (arith, prepared-room b))

  still_standing : Standing b (area_after b a)
  still_standing =
      record {
        trusted = trust_kept standing.trusted;
        same = onward (back (same_in_use standing.trusted)) standing.same;
      }

  -- what a call left, by the equation of its contract
  pub line_asked : (list : List ℕ) {m : List ℕ} {x : Answer (Reply × ℕ)} → record { answer = x; area = m } ≡ is_node_convex b a list
      → (x ≡ (is_node_convex b (prepared_area b) list).answer) × Standing b m
  unfolding is_node_convex call
  line_asked list e = (
    ap (λ (l : Left (Reply × ℕ)). l.answer) e ∙ as_prepared.line_check list,
    subst (Standing b) (sym (ap (λ (l : Left (Reply × ℕ)). l.area) e)) still_standing,
  )

  pub order_asked : (list : List ℕ) {m : List ℕ} {x : Answer Reply} → record { answer = x; area = m } ≡ topo_is_node_convex b a list
      → (x ≡ (topo_is_node_convex b (prepared_area b) list).answer) × Standing b m
  unfolding topo_is_node_convex call
  order_asked list e = (
    ap (λ (l : Left Reply). l.answer) e ∙ as_prepared.order_check list,
    subst (Standing b) (sym (ap (λ (l : Left Reply). l.area) e)) still_standing,
  )

  pub path_asked : (list buffer : List ℕ) {m words : List ℕ} {x : Answer Shown} → record { answer = x; area = m; buffer = words } ≡ show_path b a list buffer
      → (x ≡ (show_path b (prepared_area b) list buffer).answer) × ((words ≡ (show_path b (prepared_area b) list buffer).buffer) × Standing b m)
  unfolding show_path call_into
  path_asked list buffer e = (
    ap (λ (l : LeftWith Shown). l.answer) e ∙ (as_prepared.path_shown list buffer).0,
    (
      ap (λ (l : LeftWith Shown). l.buffer) e ∙ (as_prepared.path_shown list buffer).1,
      subst (Standing b) (sym (ap (λ (l : LeftWith Shown). l.area) e)) still_standing,
    ),
  )
