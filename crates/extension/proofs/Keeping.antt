-- What one line changes leaves the other lines as they were: the records keep lines of their own, and marks and slots still tell them.
-- Rests on Room's definitions.
use Prim.Native.Nat.{ℕ, ◌+◌, ◌≤◌, ◌<◌}
use native.Mathlib.Decide.{dec_lt}
use native.Mathlib.Omega.{arith}
use mathlib.Core.Path.{◌≡◌, sym, ap, ◌∙◌, subst}
use mathlib.Core.Logic.{◌⊎◌, inl, inr}
use mathlib.Core.Bool.{true}
use mathlib.Core.List.{List}
use lib.ListN.{get_or}
use Rattle.paper.specs.Area.{K}
use Rattle.paper.specs.Intervals.{Interval}
use Rattle.paper.specs.Records.{record_at}
use Rattle.paper.specs.Refusals.{on_line}
use Rattle.tables.specs.Recorded.{Unmarked, Marked}
use Rattle.records.specs.declared.layout.LineSlots.{LineSlots}
use Rattle.extension.specs.Room.{OwnLines, Ahead, Changed}

module _ {room : List ℕ} {made x : ℕ} {after : List ℕ} {count : ℕ} (changed : Changed room made x after count) where
  -- the new record is the last
  new_line : (j : ℕ) → j < count → (j < made → ⊥) → (record_at after j).line ≡ x
  new_line j h ne =
      let last : j ≡ made = omega (arith, changed.most, ne) in
      ap (λ (k : ℕ). (record_at after k).line) last ∙ changed.new (omega arith)

  pub own_still : {b a : List ℕ} → OwnLines b a room made → x < K b a → OwnLines b a after count
  own_still {b} {a} own known =
      record { known = λ j h. knows j h (dec_lt j made); lone = λ i j o h e. alone i j o h (dec_lt j made) e }
    where
      knows : (j : ℕ) → j < count → Dec (j < made) → (record_at after j).line < K b a
      knows j h (yes g) = omega (arith, changed.lines j g, own.known j g)
      knows j h (no g) = omega (arith, new_line j h g)

      alone : (i j : ℕ) → i < j → j < count → Dec (j < made) → (record_at after i).line ≡ (record_at after j).line → ⊥
      alone i j o h (yes g) e = own.lone i j o g (sym (changed.lines i (omega arith)) ∙ e ∙ changed.lines j g)
      alone i j o h (no g) e =
          let early : i < made = omega (arith, changed.most) in
          changed.free (omega (arith, g)) i early (sym (changed.lines i early) ∙ e ∙ new_line j h g)

  pub ahead_still : {b a : List ℕ} {slots : LineSlots} {y : ℕ} → (y ≡ x → ⊥) → Ahead b a slots room made y → Ahead b a slots after count y
  ahead_still {b} {a} {slots} {y} ne ahead = record { slot = go ahead.slot; high = λ j h e. (ends j h e (dec_lt j made)).0; upright = λ j h e. (ends j h e (dec_lt j made)).1 }
    where
      none-there : Unmarked a room made slots.marks y → (j : ℕ) → j < count → Dec (j < made) → (record_at after j).line ≡ y → ⊥
      none-there free j h (yes g) e = free.none j g (sym (changed.lines j g) ∙ e)
      none-there free j h (no g) e = ne (sym e ∙ new_line j h g)

      go : Unmarked a room made slots.marks y ⊎ Marked a room made slots.numbers slots.marks y
          → Unmarked a after count slots.marks y ⊎ Marked a after count slots.numbers slots.marks y
      go (inl free) = inl (record { mark = free.mark; none = λ j h. none-there free j h (dec_lt j made) })
      go (inr has) =
          inr (
          record {
            mark = has.mark;
            known = omega (arith, has.known, changed.least);
            line = changed.lines (get_or a (slots.numbers + y) 0) has.known ∙ has.line;
          }
          )

      ends : (j : ℕ) → j < count → (record_at after j).line ≡ y → Dec (j < made)
          → (on_line b a y (record_at after j).highest ≡ true) × ((record_at after j).lowest ≤ (record_at after j).highest)
      ends j h e (yes g) =
          let there : (record_at room j).line ≡ y = sym (changed.lines j g) ∙ e in
          subst (λ (r : Interval). (on_line b a y r.highest ≡ true) × (r.lowest ≤ r.highest)) (sym (changed.others j g (λ o. ne (sym there ∙ o))))
          (ahead.high j g there, ahead.upright j g there)
      ends j h e (no g) = absurd (ne (sym e ∙ new_line j h g))
