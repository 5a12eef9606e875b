-- The room that is laid from the start of the scratch on fits: each part behind the one before it, and all in the scratch.
-- Rests on Room.
use native.Mathlib.Omega.{arith}
use Rattle.tables.specs.declared.Layout.{Layout}
use Rattle.line_tables.specs.Room.{Fits, room_of}

pub room_fits : (at : Layout) → Fits at (room_of at)
room_fits at =
    record {
      before-firsts = omega arith;
      after-firsts = omega arith;
      after-ports = omega arith;
      after-tops = omega arith;
      after-out_sorted = omega arith;
      after-outs = omega arith;
      after-in_starts = omega arith;
      after-in_sorted = omega arith;
      after-stack = omega arith;
    }
