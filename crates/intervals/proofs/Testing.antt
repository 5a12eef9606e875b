-- The test of a line and of a record, from what their parts answer.
-- Rests on lookup's Along and on on_line's Along (the positions handed on).
use Prim.Native.Nat.{ℕ, zero, suc, ◌+◌, ◌-◌, ◌*◌, ◌≤◌, ◌<◌}
use native.Mathlib.Numerals.{add-one}
use native.Mathlib.Omega.{arith}
use mathlib.Core.Path.{◌≡◌, refl, sym, ap, ap₂, ◌∙◌, subst, subst₂}
use mathlib.Core.Bool.{Bool, true, ◌&&◌}
use mathlib.Core.List.{List}
use lib.ListN.{length, get_or, take, drop}
use lib.Dec.{eqb, ltb}
use borrow.Author.Tests.{le-ltb, lt-ltb}
use Rattle.std.specs.List.{list_all, range_with_len}
use Rattle.lists.specs.Lists.{from, all, member}
use Rattle.lists.specs.Found.{at as stands_at}
use Rattle.paper.specs.Lookup.{lookup}
use Rattle.paper.specs.Records.{record_at}
use Rattle.lookup.specs.Line.{Line, positions_on}
use Rattle.lookup.proofs.Along.{length-along}
use Rattle.tables.specs.declared.Layout.{Layout}
use Rattle.tables.specs.Usable.{Spanned}
use Rattle.on_line.specs.Along.{nodes_along, positions_along}
use Rattle.on_line.proofs.Along.{handed}
use Rattle.intervals.specs.declared.layout.MapRoom.{MapRoom}
use Rattle.intervals.specs.Filling.{Tested, TestedRecord, count_at, fills_along, fills_record}

-- ---- a test of the numbers in a row, as the kit's search asks it

pub all-is : (f : ℕ → Bool) (n k : ℕ) → list_all f (range_with_len n k) ≡ all f (from n k)
all-is f n zero = refl
all-is f n (suc k) = ap (λ (t : Bool). f n && t) (ap (λ (m : ℕ). list_all f (range_with_len m k)) (add-one n) ∙ all-is f (suc n) k)

-- ---- a line, where the lookup found the lowest

module _ (nodes positions : List ℕ) (low high count : ℕ) {i : ℕ} (found : lookup (positions_on nodes positions) low ≡ stands_at i) where
  abbrev along : List ℕ
  along = positions_on nodes positions

  -- the line ends before the last one
  pub ends-before : length nodes ≤ i + count - 1 → ltb (i + count - 1) (length nodes) ≡ fills_along along low high count
  unfolding fills_along
  ends-before past =
      le-ltb (i + count - 1) (length nodes) past
      ∙ sym
      (rw found
      (ap (λ (t : Bool). t && eqb (get_or along (i + count - 1) 0) high)
      (le-ltb (i + count - 1) (length along) (omega (arith, length-along nodes positions)))))

  pub ends_there : i + count - 1 < length nodes → {w : ℕ} → w ≡ get_or along (i + count - 1) 0 → eqb w high ≡ fills_along along low high count
  unfolding fills_along
  ends_there inside word =
      sym
      (rw found
      (ap₂ (λ (t : Bool) (q : ℕ). t && eqb q high)
      (lt-ltb (i + count - 1) (length along) (omega (arith, length-along nodes positions)))
      (sym word)))

-- ---- a record, whose line's nodes are handed on

module _ {a : List ℕ} {at : Layout} {room : MapRoom} {words : List ℕ} {i x low : ℕ} (pre : TestedRecord a at room words i)
    (is_line : x ≡ get_or words (3 * i) 0) (is_low : low ≡ get_or words (3 * i + 1) 0) where
  line-is : x ≡ (record_at words i).line
  unfolding record_at
  line-is = is_line

  low-is : low ≡ (record_at words i).lowest
  unfolding record_at
  low-is = is_low

  pub count-inside : room.counts + x < length a
  count-inside = omega (arith, line-is, pre.known, pre.inside)

  module _ {count : ℕ} (is_count : count ≡ count_at a room x) where
    tested : Tested a at x low count
    tested =
        subst (λ (c : ℕ). Tested a at x low c) (sym is_count)
        (subst (λ (q : ℕ). Tested a at x q (count_at a room x)) (sym low-is)
        (subst (λ (y : ℕ). Tested a at y (record_at words i).lowest (count_at a room y)) (sym line-is) pre.tested))

    pub line-span : Spanned a at.starts at.along x
    line-span = tested.line.span

    module _ {nodes : List ℕ} (are : nodes ≡ nodes_along a at x) where
      -- the positions as they are handed on
      abbrev positions : List ℕ
      positions = take (at.positions + at.sizes.nodes - at.positions) (drop at.positions a)

      pub given : Line nodes positions × ((member low (positions_on nodes positions) ≡ true) × ((1 ≤ count) × (count < 65536)))
      unfolding positions_along
      given =
          subst₂ (λ (xs ps : List ℕ). Line xs ps × ((member low (positions_on xs ps) ≡ true) × ((1 ≤ count) × (count < 65536))))
          (sym are)
          (sym (handed a at.positions at.sizes.nodes))
          (tested.line.line, (tested.there, (tested.some, tested.small)))

      pub record_tested : {high : ℕ} {r : Bool} → high ≡ get_or words (3 * i + 2) 0 → r ≡ fills_along (positions_on nodes positions) low high count
          → r ≡ fills_record a at room words i
      unfolding fills_record record_at positions_along
      record_tested {high} is_high e =
          e ∙ ap₂ (λ (xs ps : List ℕ). fills_along (positions_on xs ps) low high count) are (handed a at.positions at.sizes.nodes)
          ∙ ap₂ (λ (h c : ℕ). fills_along (positions_along a at x) low h c) is_high is_count
          ∙ ap₂ (λ (y q : ℕ). fills_along (positions_along a at y) q (get_or words (3 * i + 2) 0) (count_at a room y)) is_line is_low
