-- The records that stand for a list's small map: each is a touched line's, can be tested, and its test is `fills`.
-- Rests on accepted_theory's Collected and Intervals, and on on_line's Along.
use Prim.Native.Nat.{ℕ, zero, suc, ◌*◌, ◌≤◌, ◌<◌}
use native.Mathlib.Omega.{arith}
use mathlib.Core.Path.{◌≡◌, refl, sym, ap, ap₂, ◌∙◌, subst}
use mathlib.Core.Bool.{true}
use mathlib.Core.List.{List, [], ◌∷◌, map}
use lib.ListN.{length, get_or, length-map}
use Rattle.lists.specs.Lists.{all, upto, member, In}
use Rattle.lists.proofs.Count.{times_past}
use Rattle.lists.proofs.Places.{times-place, times_in_back}
use Rattle.lists.proofs.Upto.{table_of}
use Rattle.paper.specs.Area.{K, position, nodes_of}
use Rattle.paper.specs.Intervals.{Interval, touched, interval}
use Rattle.accepted_theory.specs.SameTables.{KnownNode, SameTables}
use Rattle.accepted_theory.proofs.Every.{map-every}
use Rattle.accepted_theory.specs.collecting.SmallMap.{Held, add_nodes, fills}
use Rattle.accepted_theory.specs.collecting.Collected.{Listing, held, fresh, count_on}
use Rattle.accepted_theory.proofs.collecting.Laws.{all_in, all_map, in_below}
use Rattle.accepted_theory.proofs.collecting.Sized.{count-nodes, count-most-nodes, count-place, place-line, sized-room}
use Rattle.accepted_theory.proofs.collecting.Collected.{collected, touched-known}
use Rattle.accepted_theory.proofs.collecting.Intervals.{lowest-on-line}
use Rattle.tables.specs.declared.Layout.{Layout}
use Rattle.tables.specs.Usable.{Usable, Scratched}
use Rattle.tables.proofs.Words.{count-few}
use Rattle.tables.proofs.Usable.{still_usable, tables_still}
use Rattle.on_line.specs.Along.{positions_along}
use Rattle.on_line.proofs.Along.{along-is, line_at}
use Rattle.intervals.specs.declared.layout.MapRoom.{MapRoom}
use Rattle.intervals.specs.Holds.{Holds, MapFits}
use Rattle.intervals.specs.Filling.{Tested, TestedAll, count_at, fills_along, fills_record}
use Rattle.intervals.proofs.Nodes.{none-counted}

get_or-made : {A : Type 0} (f : ℕ → A) (xs : List ℕ) (i : ℕ) (d : A) → i < length xs → get_or (map f xs) i d ≡ f (get_or xs i 0)
get_or-made f [] i d h = absurd (omega arith)
get_or-made f (x ∷ xs) zero d h = refl
get_or-made f (x ∷ xs) (suc i) d h = get_or-made f xs i d (omega arith)

-- ---- what is held, place by place

module _ {b c : List ℕ} {at : Layout} (usable : Usable b c at) (list : List ℕ) (listing : Listing b list) where
  module _ (i : ℕ) (h : i < length (add_nodes b c list [])) where
    abbrev place : Held
    place = get_or (add_nodes b c list []) i (fresh 0 0)

    touched-many : i < length (touched b c list)
    touched-many =
        omega (arith, ap length (collected usable.tables list listing), length-map (touched b c list) (held b c list))

    place-held : place ≡ held b c list (get_or (touched b c list) i 0)
    place-held =
        ap (λ (hs : List Held). get_or hs i (fresh 0 0)) (collected usable.tables list listing)
        ∙ get_or-made (held b c list) (touched b c list) i (fresh 0 0) touched-many

    line_of : get_or (touched b c list) i 0 ≡ place.interval.line
    unfolding held interval
    line_of = sym (ap (λ (x : Held). x.interval.line) place-held)

    place-touched : In place.interval.line (touched b c list)
    place-touched =
        subst (λ (x : ℕ). In x (touched b c list)) line_of
        (times_in_back (get_or (touched b c list) i 0) (touched b c list) (times-place (touched b c list) i touched-many))

    place_is : place ≡ held b c list place.interval.line
    place_is = place-held ∙ ap (held b c list) line_of

    line_known : place.interval.line < K b c
    line_known = touched-known usable.tables list listing.known place.interval.line place-touched

    place-lowest : member place.interval.lowest (map (position b c) (nodes_of b c place.interval.line)) ≡ true
    place-lowest =
        ap (λ (x : Held). member x.interval.lowest (map (position b c) (nodes_of b c place.interval.line))) place_is
        ∙ lowest-on-line usable.tables list listing place.interval.line place-touched

  few-counted : (x : ℕ) → count_on (add_nodes b c list []) x ≤ length list
  few-counted x =
      omega (arith, count-nodes b c list [] x, none-counted x, count-most-nodes usable.tables list listing.known x)

  -- ---- the words that stand for it

  module _ {m ws : List ℕ} {room : MapRoom} {made : ℕ} (fits : MapFits at room) (holds : Holds (add_nodes b c list []) room m ws made) (scratched : Scratched at c m) where
    same : SameTables b c m
    same = tables_still usable scratched

    -- the positions along a line, read from the area as it is now
    positions_still : (x : ℕ) → x < K b c → positions_along m at x ≡ map (position b c) (nodes_of b c x)
    positions_still x h =
        along-is (still_usable usable scratched) x (omega (arith, same.count)) ∙ ap (map (position b m)) (sym (same.nodes x h))
        ∙ sym (map-every (KnownNode b) (position b c) (position b m) same.positions (nodes_of b c x) (same.nodes_known x h))

    module _ (i : ℕ) (less : i < made) where
      inside : i < length (add_nodes b c list [])
      inside = omega (arith, holds.many)

      abbrev here : Held
      here = get_or (add_nodes b c list []) i (fresh 0 0)

      line-few : here.interval.line < room.lines
      line-few = omega (arith, line_known i inside, count-few usable, fits.lines)

      count-is : count_at m room here.interval.line ≡ here.count
      count-is =
          holds.counted here.interval.line line-few ∙ count-place (add_nodes b c list []) holds.sized.once i inside (fresh 0 0)

      here-tested : length list ≤ 512 → Tested m at here.interval.line here.interval.lowest (count_at m room here.interval.line)
      here-tested few =
          record {
            line = line_at (still_usable usable scratched) here.interval.line (omega (arith, line_known i inside, same.count));
            there =
                ap (member here.interval.lowest) (positions_still here.interval.line (line_known i inside)) ∙ place-lowest i inside;
            some =
                omega (
                  arith,
                  holds.counted here.interval.line line-few,
                  holds.sized.some here.interval.line,
                  place-line (add_nodes b c list []) i (fresh 0 0) inside,
                );
            small = omega (arith, holds.counted here.interval.line line-few, few-counted here.interval.line);
          }

      pub record_fills : fills_record m at room ws i ≡ fills b c here
      unfolding fills_record fills_along fills
      record_fills =
          ap (λ (r : Interval). fills_along (positions_along m at r.line) r.lowest r.highest (count_at m room r.line)) (holds.records i inside)
          ∙ ap₂ (λ (ps : List ℕ) (k : ℕ). fills_along ps here.interval.lowest here.interval.highest k)
          (positions_still here.interval.line (line_known i inside)) count-is

    pub can_test_all : length list ≤ 512 → 3 * room.lines ≤ length ws → TestedAll m at room ws made
    can_test_all few roomy i h =
        record {
          inside = omega (arith, fits.after_counts, usable.placed.after-scratch, usable.room, scratched.long);
          whole = omega (arith, holds.many, sized-room holds.sized);
          known = omega (arith, ap (λ (r : Interval). r.line) (holds.records i (inside i h)), line-few i h);
          tested = subst (λ (r : Interval). Tested m at r.line r.lowest (count_at m room r.line)) (sym (holds.records i (inside i h))) (here-tested i h few);
        }

    pub all_fill : all (fills_record m at room ws) (upto made) ≡ all (fills b c) (add_nodes b c list [])
    all_fill =
        all_in (fills_record m at room ws) (λ i. fills b c (get_or (add_nodes b c list []) i (fresh 0 0))) (upto made)
        (λ i h. record_fills i (in_below made (upto made) (λ k g. times_past k made g) i h))
        ∙ ap (λ (k : ℕ). all (λ i. fills b c (get_or (add_nodes b c list []) i (fresh 0 0))) (upto k)) (sym holds.many)
        ∙ sym (all_map (fills b c) (λ i. get_or (add_nodes b c list []) i (fresh 0 0)) (upto (length (add_nodes b c list []))))
        ∙ ap (all (fills b c)) (table_of (add_nodes b c list []) (fresh 0 0))
