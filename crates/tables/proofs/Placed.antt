-- Where `lay_out` puts the sections is where 01's list of sections puts them.
-- Rests on lines_theory.Written (where sections start).
use Prim.Native.Nat.{ℕ}
use native.Mathlib.Omega.{arith}
use mathlib.Core.Path.{◌≡◌}
use mathlib.Core.List.{List}
use Rattle.paper.specs.Area.{Section, start}
use Rattle.paper.proofs.Area.{W-sum}
use Rattle.lines_theory.proofs.Written.{start_is_lem}
use Rattle.stepmap.specs.Formed.{ReadWell}
use Rattle.stepmap.specs.declared.read.Sizes.{Sizes}
use Rattle.tables.specs.declared.Layout.{Layout}
use Rattle.tables.specs.Placed.{Few, LaidOut, Placed, place}

module _ {b : List ℕ} {s : Sizes} (read : ReadWell b s.nodes s.links s.ports) where
  pub few : Few s
  few = record { nodes = read.few-nodes; links = read.few-links; ports = read.few-ports }

module _ {b : List ℕ} {at : Layout} (read : ReadWell b at.sizes.nodes at.sizes.links at.sizes.ports) (laid : LaidOut at.sizes at) where
  standing : (s : Section) → start b s ≡ place at s
  standing Section.line_count = start_is_lem b Section.line_count
  standing Section.order = omega (arith, start_is_lem b Section.order, read, laid)
  standing Section.positions = omega (arith, start_is_lem b Section.positions, read, laid)
  standing Section.node_starts = omega (arith, start_is_lem b Section.node_starts, read, laid)
  standing Section.lines_of_nodes = omega (arith, start_is_lem b Section.lines_of_nodes, read, laid)
  standing Section.line_starts = omega (arith, start_is_lem b Section.line_starts, read, laid)
  standing Section.nodes_of_lines = omega (arith, start_is_lem b Section.nodes_of_lines, read, laid)
  standing Section.scratch = omega (arith, start_is_lem b Section.scratch, read, laid)

  pub places : Placed b at
  places =
      record {
        before-order = omega arith;
        after-order = omega arith;
        after-positions = omega arith;
        after-begins = omega arith;
        after-lines = omega arith;
        after-starts = omega arith;
        after-along = omega arith;
        after-scratch = omega arith;
        whole = omega (arith, W-sum b);
        stands = standing;
      }
