-- A turn in the area, return by return: what is read of the node that is taken, and what each case leaves.
-- Rests on tables' Words and walk_theory.Joined.
use Prim.Native.Nat.{ℕ, ◌+◌, ◌≤◌, ◌<◌}
use native.Mathlib.Omega.{arith}
use native.Mathlib.Numerals.{add-one}
use mathlib.Core.Path.{◌≡◌, refl, sym, ap, ap₂, ◌∙◌, subst}
use mathlib.Core.Bool.{true, false}
use mathlib.Core.List.{List}
use lib.ListN.{length, get_or}
use borrow.Author.Tests.{lt-ltb, le-ltb}
use Rattle.std.specs.Prelude.{Some, None}
use Rattle.lists.proofs.Sections.{length_part, get_d_part}
use Rattle.paper.specs.Area.{K}
use Rattle.paper.specs.Map.{out_neighbours}
use Rattle.walk_theory.specs.Marked.{going}
use Rattle.walk_theory.proofs.Joined.{joined-known}
use Rattle.tables.specs.declared.Layout.{Layout}
use Rattle.tables.specs.Usable.{Usable, entries_of}
use Rattle.tables.proofs.Within.{within_none}
use Rattle.tables.proofs.Words.{lines_are, lines-span, line_known, count-few}
use Rattle.walk.specs.Queue.{Grown}
use Rattle.walk.specs.Lows.{below_lows, Asked}
use Rattle.walk.specs.Fitting.{Fits, Leading}
use Rattle.walk.specs.Turns.{visit_in, Turning, Turned}
use Rattle.walk.specs.declared.starts.Room.{Room}

-- a node's words stand in a usable area
pub asked : {b a : List ℕ} {at : Layout} {room : Room} → Usable b a at → Fits at room → {v : ℕ} → v < at.sizes.nodes → Asked a at room.lows v
asked {b} {a} {at} {room} usable fits {v} h =
    record {
      position = omega (arith, usable.placed, usable.room);
      span = lines-span usable v h;
      inside = λ i g. omega (arith, line i g, count-few usable, usable.placed, usable.room);
    }
  where
    line : (i : ℕ) → i < length (entries_of a at.begins at.lines v) → get_or (entries_of a at.begins at.lines v) i 0 < K b a
    line i g =
        subst (λ (xs : List ℕ). get_or xs i 0 < K b a) (lines_are usable v) (line_known usable v i h (omega (arith, ap length (lines_are usable v))))

module _ {b a : List ℕ} {at : Layout} {room : Room} {t joined counted : ℕ} (ready : Turning b a at room t joined counted) where
  pub leading : Leading b a at.sizes room.queue room.links
  leading = record { linked = ready.linked; apart = omega (arith, ready.fits) }

  pub taken-inside : room.queue + t < length a
  taken-inside = omega (arith, ready.taken, ready.queued.few, ready.queued.fits)

  -- the node that joined t-th is known
  module _ {v : ℕ} (read : v ≡ get_or a (room.queue + t) 0) where
    pub taken-known : v < at.sizes.nodes
    taken-known =
        omega (
          arith,
          read,
          get_d_part a room.queue joined t 0 ready.taken,
          joined-known ready.queued.nodes t
              (omega (arith, ready.taken, ready.queued.few, length_part a room.queue joined (omega (arith, ready.queued.few, ready.queued.fits)))),
        )

    pub position-inside : at.positions + v < length a
    position-inside = (asked ready.usable ready.fits taken-known).position

    module _ {top pos : ℕ} (position : pos ≡ get_or a (at.positions + v) 0) where
      -- skipped
      pub turn_skips : top < pos → Turned b a at room top t joined counted (Some (joined, counted)) a
      unfolding visit_in
      turn_skips high =
          record { said = rw (lt-ltb top _ above); on = (ready.queued, omega arith); kept = within_none }
        where
          above : top < get_or a (at.positions + get_or a (room.queue + t) 0) 0
          above = omega (arith, position, ap (λ (u : ℕ). get_or a (at.positions + u) 0) read)

      module _ (low : pos ≤ top) {below : _} (stands : below ≡ below_lows a at room.lows v) where
        not_above : get_or a (at.positions + get_or a (room.queue + t) 0) 0 ≤ top
        not_above = omega (arith, position, ap (λ (u : ℕ). get_or a (at.positions + u) 0) read)

        -- counted, and no
        pub turn-stops : below ≡ true → Turned b a at room top t joined counted None a
        unfolding visit_in
        turn-stops e =
            record {
              said = rw (le-ltb top _ not_above, ap (below_lows a at room.lows) (sym read) ∙ sym stands ∙ e) refl;
              on = tt;
              kept = within_none;
            }

        -- counted, and its neighbours join
        pub turn_goes : below ≡ false → {grown : ℕ} {m : List ℕ} → Grown a room.queue at.sizes.nodes joined (out_neighbours b v) grown m
            → Turned b a at room top t joined counted (Some (grown, counted + 1)) m
        unfolding visit_in
        turn_goes e g =
            record {
              said =
                  rw (le-ltb top _ not_above, ap (below_lows a at room.lows) (sym read) ∙ sym stands ∙ e, ← read)
                  (ap₂ going g.whole (add-one counted));
              on = (g.queued, omega arith);
              kept = g.kept;
            }
