-- The check of the places marked: none is a yes, and else what passing the range of them says.
-- Rests on Following's contracts, convexity_theory (Passing, Ends) and the extent's cases.
use Prim.Native.Nat.{ℕ, suc, ◌≤◌}
use native.Mathlib.Nat.{max-zero}
use native.Mathlib.Omega.{arith}
use mathlib.Core.Path.{◌≡◌, refl, sym, ap, ◌∙◌, subst}
use mathlib.Core.Bool.{Bool, true, false, not, cond, ◌||◌}
use mathlib.Core.List.{List, [], ◌∷◌}
use lib.Dec.{leb}
use lib.ListN.{length}
use borrow.Author.Tests.{eq-eqb, leb-true}
use Rattle.std.specs.Prelude.{Some, None}
use Rattle.lists.specs.Lists.{greatest, least}
use Rattle.paper.specs.Intervals.{Yes, No}
use Rattle.convexity_theory.specs.places.Passed.{Passed, pass_place, passed_below, reply_of}
use Rattle.convexity_theory.proofs.places.Ends.{starts_at_first}
use Rattle.convexity_theory.proofs.places.Passing.{pass_listed}
use Rattle.tables.specs.declared.Layout.{Layout}
use Rattle.tables.proofs.Within.{within_none}
use Rattle.topo_checker.specs.Listing.{Spans, ExtentOf}
use Rattle.topo_checker.specs.Passing.{Unpassed, PlacesPassed, Fresh, MarkedBy, passing_over, MarkedChecked}
use Rattle.topo_checker.specs.declared.layout.OrderRoom.{OrderRoom}

turned_round : (fed : Bool) → cond (not fed) Yes No ≡ cond fed No Yes
turned_round true = refl
turned_round false = refl

-- one place alone feeds nothing back
alone : (b a places : List ℕ) → length places ≡ 1 → Yes ≡ reply_of (passed_below b a places (suc (greatest places)))
unfolding passed_below reply_of
alone b a [] e = absurd (omega arith)
alone b a (x ∷ []) e =
    sym
    (ap (λ (k : ℕ). reply_of (passed_below b a (x ∷ []) (suc k))) (max-zero x)
    ∙ ap (λ (s : Passed). reply_of (pass_place b a (x ∷ []) x s)) (starts_at_first b a (x ∷ []))
    ∙ ap reply_of (pass_listed b a (x ∷ []) x [] (ap (λ (t : Bool). t || false) (eq-eqb x x refl))))
alone b a (x ∷ (y ∷ ys)) e = absurd (omega arith)

module _ (b : List ℕ) {a : List ℕ} (at : Layout) (room : OrderRoom) where
  pub none_marked : ExtentOf a room.listed at.sizes.nodes None → MarkedChecked b a at room true a
  unfolding passing_over
  none_marked extent =
      record {
        kept = within_none;
        replies = λ places by.
            sym
            (ap (λ (xs : List ℕ). cond (leb (length xs) 1) Yes (reply_of (passed_below b a xs (suc (greatest xs)))))
            (sym by.whole ∙ extent.spans));
      }

  module _ {first last : ℕ} (extent : ExtentOf a room.listed at.sizes.nodes (Some (first, last))) where
    pub unpassed : Fresh a at room → Unpassed a at room first last
    unpassed fresh = record { blank = fresh.blank; rises = extent.under.0; known = extent.under.1 }

    ends : {places : List ℕ} → MarkedBy a at room places → (1 ≤ length places) × (least places ≡ first) × (greatest places ≡ last)
    ends by = subst (λ (xs : List ℕ). Spans xs (Some (first, last))) by.whole extent.spans

    pub range_marked : {fed : Bool} {m : List ℕ} → PlacesPassed b a at room first last fed m → MarkedChecked b a at room (not fed) m
    unfolding passing_over
    range_marked {fed} run =
        record {
          kept = run.kept;
          replies = λ places by.
              turned_round fed
              ∙ run.replies places (record { marked = by.marked; lowest = (ends by).1; highest = (ends by).2 })
              ∙ ap (λ (k : ℕ). reply_of (passed_below b a places (suc k))) (sym (ends by).2)
              ∙ untested places (ends by).0 (leb (length places) 1) refl;
        }
      where
        -- the test for one place at most changes nothing
        untested : (places : List ℕ) → 1 ≤ length places → (t : Bool) → leb (length places) 1 ≡ t
            → reply_of (passed_below b a places (suc (greatest places))) ≡ cond t Yes (reply_of (passed_below b a places (suc (greatest places))))
        untested places some true few = sym (alone b a places (omega (arith, leb-true (length places) 1 few)))
        untested places some false few = refl
