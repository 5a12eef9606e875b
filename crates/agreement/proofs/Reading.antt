-- The definitions' tables are those that the code reads at their places, and where a line's nodes stand.
-- Rests on tables' Placed and accepted_theory.Starts.
use Prim.Native.Nat.{ℕ, suc, ◌+◌, ◌-◌, ◌≤◌, ◌<◌}
use native.Mathlib.Omega.{arith}
use mathlib.Core.Path.{◌≡◌, ap, ap₂, ◌∙◌}
use mathlib.Core.List.{List}
use lib.ListN.{length, get_or}
use lib.Seq.{slice, length-slice}
use Rattle.lists.proofs.Sections.{part}
use Rattle.paper.specs.Map.{N}
use Rattle.paper.specs.Area.{Section, size, start, word_of, section, part as part_of, K, order_of, position, lines_of, nodes_of}
use Rattle.accepted_theory.proofs.Starts.{start-most}
use Rattle.tables.specs.Placed.{Placed, place}
use Rattle.tables.specs.declared.Layout.{Layout}
use Rattle.agreement.specs.Tables.{entry_count, node_start, line_start, lines_in, nodes_on, Tables}

-- ---- where the sections stand

module _ {b : List ℕ} {at : Layout} (placed : Placed b at) (a : List ℕ) where
  pub word-is : (s : Section) (i : ℕ) → word_of b a s i ≡ get_or a (place at s + i) 0
  unfolding word_of
  word-is s i = ap (λ (o : ℕ). get_or a (o + i) 0) (placed.stands s)

  pub count-is : K b a ≡ get_or a 0 0
  unfolding K
  count-is = word-is Section.line_count 0

  pub order_is : N b ≡ at.sizes.nodes → order_of b a ≡ part a at.order at.sizes.nodes
  unfolding order_of section size
  order_is nodes = ap₂ (λ (i m : ℕ). part a i m) (placed.stands Section.order) nodes

  pub position-is : (v : ℕ) → position b a v ≡ get_or a (at.positions + v) 0
  unfolding position
  position-is v = word-is Section.positions v

  pub lines_are : (v : ℕ) → lines_of b a v ≡ lines_in a at v
  unfolding lines_of part_of
  lines_are v =
      ap₂ (λ (f t : ℕ). slice (start b Section.lines_of_nodes + f) (start b Section.lines_of_nodes + t) a) (word-is Section.node_starts v)
      (word-is Section.node_starts (suc v))
      ∙ ap (λ (o : ℕ). slice (o + node_start a at v) (o + node_start a at (suc v)) a) (placed.stands Section.lines_of_nodes)

  pub nodes_are : (x : ℕ) → nodes_of b a x ≡ nodes_on a at x
  unfolding nodes_of part_of
  nodes_are x =
      ap₂ (λ (f t : ℕ). slice (start b Section.nodes_of_lines + f) (start b Section.nodes_of_lines + t) a) (word-is Section.line_starts x)
      (word-is Section.line_starts (suc x))
      ∙ ap (λ (o : ℕ). slice (o + line_start a at x) (o + line_start a at (suc x)) a) (placed.stands Section.nodes_of_lines)

-- ---- a line's nodes

module _ {a : List ℕ} {at : Layout} {k : ℕ} (t : Tables a at k) {x : ℕ} (h : x < k) where
  pub line-rises : line_start a at x < line_start a at (suc x)
  line-rises = t.known.line_starts.rises x h

  pub line-end : line_start a at (suc x) ≤ entry_count at k
  line-end = omega (arith, start-most t.known.line_starts (suc x) h)

  pub line-inside : at.along + line_start a at (suc x) ≤ length a
  line-inside = omega (arith, line-end, t.sized.along-fit)

  pub line-long : length (nodes_on a at x) ≡ line_start a at (suc x) - line_start a at x
  line-long =
      length-slice (at.along + line_start a at x) (at.along + line_start a at (suc x)) a line-inside
      ∙ over at.along (line_start a at x) (line_start a at (suc x))
    where
      over : (o m n : ℕ) → o + n - (o + m) ≡ n - m
      over o m n = omega arith
