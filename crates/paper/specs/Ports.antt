-- 01, "The questions": lines at a port, and the first-link rule of the checks with ports.
-- Rests on Map and Area.
use Rattle.std.specs.Prelude.{ℕ, ◌+◌, ◌-◌, Bool, cond, List, map, length, take, drop, eqb}
use Rattle.lists.specs.Lists.{from, any, sum}
use Rattle.lists.specs.Found.{Found, is_at, front}
use Rattle.paper.specs.Map.{input, output, port_node, is_output, source_port, target_port, port_links}
use Rattle.paper.specs.Area.{Section, start, word_of, lines_of}

-- "earlier ports of the same direction"
unfoldable pub earlier_ports : List ℕ → ℕ → List ℕ
earlier_ports b p =
    let v = port_node b p in
    let side = cond (is_output b p) (output b v 0) (input b v 0) in
    from side (p - side)

-- "in its node's list, skip one line for each link on earlier ports of the same direction": the first one's place in that list
unfoldable pub first_line : List ℕ → ℕ → ℕ
first_line b p = sum (map (λ q. length (port_links b q)) (earlier_ports b p))

-- "then take one for each link of the port"
unfoldable pub line_count_at : List ℕ → ℕ → ℕ
line_count_at b p = length (port_links b p)

unfoldable pub lines_at : List ℕ → List ℕ → ℕ → List ℕ
lines_at b a p = take (line_count_at b p) (drop (first_line b p) (lines_of b a (port_node b p)))

-- "the lines themselves as a part of the lent area": the word of the area that the part starts at
unfoldable pub view_start : List ℕ → List ℕ → ℕ → ℕ
view_start b a p = start b Section.lines_of_nodes + (word_of b a Section.node_starts (port_node b p) + first_line b p)

-- the other end of a port's link
unfoldable pub other_end : List ℕ → ℕ → ℕ → ℕ
other_end b p k = cond (eqb (source_port b k) p) (target_port b k) (source_port b k)

-- "the other end of the FIRST link"
unfoldable pub first_other_end : List ℕ → ℕ → Found
first_other_end b p = front (map (other_end b p) (port_links b p))

-- "any listed input is the other end of the FIRST link of a listed output"
unfoldable pub conflict : List ℕ → List ℕ → List ℕ → Bool
conflict b inputs outputs = any (λ p. any (λ q. is_at p (first_other_end b q)) outputs) inputs
