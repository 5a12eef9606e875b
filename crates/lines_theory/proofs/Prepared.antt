-- What preparing writes, read back: every table of 01 as it was made.
-- Rests on Good (the sizes) and Written.
use Prim.Native.Nat.{ℕ, ◌+◌, ◌≤◌, ◌<◌}
use mathlib.Core.Path.{◌≡◌}
use mathlib.Core.List.{List, [], flatten}
use lib.ListN.{length, get_or}
use Rattle.paper.specs.Map.{N, L}
use Rattle.paper.specs.Order.{order}
use Rattle.paper.specs.Lines.{tables_of, tables}
use Rattle.paper.specs.Area.{Section, W, word_of, K, order_of, position, lines_of, nodes_of, starts, written, prepared}
use Rattle.paper.specs.Refusals.{passed, rule45, rule6}
use Rattle.lines_theory.specs.Sized.{Sized, laid}
use Rattle.lines_theory.proofs.Written.{prepared-holds, laid-long, count_held, order-held, position-held, node-starts-held, line-starts-held, line-entries-held, node-entries-held, lines-held, nodes-held}
use Rattle.lines_theory.proofs.Good.{tables-good}

module _ (b : List ℕ) (links : rule45 b ≡ passed) (cycle : rule6 b ≡ passed) where
  pub tables-sized : Sized b (tables b)
  tables-sized = (tables-good b links cycle).sized

  -- what is written is as long as the area
  pub written-long : length (written b) ≡ W b
  unfolding written laid
  written-long = laid-long tables-sized

  module _ (a : List ℕ) (fits : W b ≤ length a) where
    pub prepared-count : K b (prepared b a) ≡ (tables b).count
    prepared-count = rw (prepared-holds b a) (count_held tables-sized a fits)

    pub prepared-order : order_of b (prepared b a) ≡ order b
    unfolding tables tables_of
    prepared-order = rw (prepared-holds b a) (order-held tables-sized a fits)

    pub prepared-position : (v : ℕ) → v < N b → position b (prepared b a) v ≡ get_or (tables b).positions v 0
    prepared-position v h = rw (prepared-holds b a) (position-held tables-sized a fits v h)

    pub prepared-node-starts : (v : ℕ) → v ≤ N b → word_of b (prepared b a) Section.node_starts v ≡ get_or (starts 0 (tables b).lines_of_nodes) v 0
    prepared-node-starts v h = rw (prepared-holds b a) (node-starts-held tables-sized a fits v h)

    pub prepared-line-starts : (l : ℕ) → l ≤ (tables b).count → word_of b (prepared b a) Section.line_starts l ≡ get_or (starts 0 (tables b).nodes_of_lines) l 0
    prepared-line-starts l h = rw (prepared-holds b a) (line-starts-held tables-sized a fits l h)

    pub prepared-line-entries : (i : ℕ) → i < L b + (tables b).count → word_of b (prepared b a) Section.lines_of_nodes i ≡ get_or (flatten (tables b).lines_of_nodes) i 0
    prepared-line-entries i h = rw (prepared-holds b a) (line-entries-held tables-sized a fits i h)

    pub prepared-node-entries : (i : ℕ) → i < L b + (tables b).count → word_of b (prepared b a) Section.nodes_of_lines i ≡ get_or (flatten (tables b).nodes_of_lines) i 0
    prepared-node-entries i h = rw (prepared-holds b a) (node-entries-held tables-sized a fits i h)

    pub prepared-lines : (v : ℕ) → v < N b → lines_of b (prepared b a) v ≡ get_or (tables b).lines_of_nodes v []
    prepared-lines v h = rw (prepared-holds b a) (lines-held tables-sized a fits v h)

    pub prepared-nodes : (l : ℕ) → l < (tables b).count → nodes_of b (prepared b a) l ≡ get_or (tables b).nodes_of_lines l []
    prepared-nodes l h = rw (prepared-holds b a) (nodes-held tables-sized a fits l h)
