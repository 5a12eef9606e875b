-- The node at a place of the order that an area holds, and the place of a node there.
-- Rests on paper's Area and Order.
use Rattle.std.specs.Prelude.{ℕ, List, get_or}
use Rattle.lists.specs.Found.{number}
use Rattle.paper.specs.Order.{place_in}
use Rattle.paper.specs.Area.{order_of}

abbrev pub node_at : List ℕ → List ℕ → ℕ → ℕ
node_at b a i = get_or (order_of b a) i 0

abbrev pub place_of : List ℕ → List ℕ → ℕ → ℕ
place_of b a v = number (place_in (order_of b a) v)
