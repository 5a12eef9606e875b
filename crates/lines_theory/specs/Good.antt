-- Tables as "Accepted tables" asks for, before they are laid into the area.
-- Rests on Sized and on paper.Accepted.
use Rattle.std.specs.Prelude.{ℕ, ◌≤◌, ◌<◌, ◌≡◌, List, [], map, length, get_or}
use Rattle.lists.specs.Lists.{upto, one, count, member, times, Rising}
use Rattle.lists.specs.Bounds.{Below}
use Rattle.paper.specs.Map.{N, L, link_from, link_to}
use Rattle.paper.specs.Order.{place_in}
use Rattle.paper.specs.Lines.{Tables}
use Rattle.paper.specs.Accepted.{links_between, right_after, GoesBefore}
use Rattle.lines_theory.specs.Sized.{Sized}

-- the entries of the tables, by node and by line
abbrev pub position_in : Tables → ℕ → ℕ
position_in t v = get_or t.positions v 0

abbrev pub lines_in : Tables → ℕ → List ℕ
lines_in t v = get_or t.lines_of_nodes v []

abbrev pub nodes_in : Tables → ℕ → List ℕ
nodes_in t l = get_or t.nodes_of_lines l []

pub record Good (b : List ℕ) (t : Tables) : Type 0 where
  -- K ≤ L + N, N nodes, K lines, L + K entries in each list
  pub sized : Sized b t
  -- "The order holds each node once", and "every link goes forward" in it
  pub each_once : (v : ℕ) → v < N b → times v t.order ≡ 1
  pub forward : (k : ℕ) → k < L b → GoesBefore (place_in t.order (link_from b k)) (place_in t.order (link_to b k))
  -- no list is empty, and entries are below K and N
  pub lines_some : (v : ℕ) → v < N b → 1 ≤ length (lines_in t v)
  pub nodes_some : (l : ℕ) → l < t.count → 1 ≤ length (nodes_in t l)
  pub lines_known : (v : ℕ) → v < N b → Below t.count (lines_in t v)
  pub nodes_known : (l : ℕ) → l < t.count → Below (N b) (nodes_in t l)
  -- positions are below N, and "strictly rise along a line"
  pub shallow : (v : ℕ) → v < N b → position_in t v < N b
  pub rises : (l : ℕ) → l < t.count → Rising (map (position_in t) (nodes_in t l))
  -- "A node lists a line once exactly if the line lists it."
  pub listed : (v : ℕ) → v < N b → (l : ℕ) → l < t.count → times l (lines_in t v) ≡ one (member v (nodes_in t l))
  -- "as many links run from a to b as there are lines on which b comes right after a"
  pub adjacent : (u : ℕ) → u < N b → (v : ℕ) → v < N b → links_between b u v ≡ count (λ l. right_after u v (nodes_in t l)) (upto t.count)
