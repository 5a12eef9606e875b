-- The two ends of a link, one by direction, and the links that stand at some of a node's ports of one direction.
-- Rests on paper's Map and stepmap's ReadWell.
use Rattle.std.specs.Prelude.{ℕ, ◌<◌, ◌≡◌, Bool, ◌&&◌, cond, List, eqb, leb, ltb}
use Rattle.lists.specs.Lists.{upto, count}
use Rattle.paper.specs.Map.{L, link_from, link_out, link_to, link_in}
use Rattle.paper.specs.Refusals.{passed, rule45}
use Rattle.stepmap.specs.Formed.{ReadWell}
use Rattle.stepmap.specs.declared.read.Sizes.{Sizes}

-- a port of a map that passes 1, 2, 4 and 5
pub record KnownPort (b : List ℕ) (sizes : Sizes) (port : ℕ) : Type 0 where
  pub read : ReadWell b sizes.nodes sizes.links sizes.ports
  pub links : rule45 b ≡ passed
  pub known : port < sizes.ports

-- the node at which a link leaves, or at which it arrives
abbrev pub end_node : List ℕ → Bool → ℕ → ℕ
end_node b out k = cond out (link_from b k) (link_to b k)

-- .. and the offset there, among the node's outputs or its inputs
abbrev pub end_offset : List ℕ → Bool → ℕ → ℕ
end_offset b out k = cond out (link_out b k) (link_in b k)

-- link k stands at node v, at an offset from low on and below high
abbrev pub is_among : List ℕ → Bool → ℕ → ℕ → ℕ → ℕ → Bool
is_among b out v low high k = eqb (end_node b out k) v && (leb low (end_offset b out k) && ltb (end_offset b out k) high)

-- how many do
unfoldable pub links_among : List ℕ → Bool → ℕ → ℕ → ℕ → ℕ
links_among b out v low high = count (is_among b out v low high) (upto (L b))
