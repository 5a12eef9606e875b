-- 01, "The step map": its fields by accessors over the bytes, its ports, the links of a port, neighbours, and what a sound map is.
-- Rests on lists.
use Rattle.std.specs.Prelude.{ℕ, zero, suc, ◌+◌, ◌*◌, ◌-◌, Bool, ◌&&◌, ◌||◌, not, length, get_or, take, drop, eqb, leb, ltb}
use mathlib.Core.List.{List, map, flat_map}
use Rattle.lists.specs.Lists.{from, upto, all, any, keep, same}
use Rattle.lists.specs.Ascii.{ascii}
use Rattle.lists.specs.Found.{first, number}

-- "Little-endian 16-bit fields."
unfoldable pub word : List ℕ → ℕ → ℕ
word b at = get_or b at 0 + 256 * get_or b (at + 1) 0

-- ---- "Node records (inputs, outputs; 4 bytes), link records (from node, output offset, to node, input offset; 8 bytes),
-- then a 12-byte trailer: bytes back from the trailer to the first node record, node count N, bytes back to the first link
-- record, link count L, and the four ASCII bytes `PGT1`."

abbrev pub node_bytes : ℕ
node_bytes = 4

abbrev pub link_bytes : ℕ
link_bytes = 8

abbrev pub trailer_bytes : ℕ
trailer_bytes = 12

unfoldable pub trailer : List ℕ → ℕ
trailer b = length b - trailer_bytes

unfoldable pub to_nodes : List ℕ → ℕ
to_nodes b = word b (trailer b)

unfoldable pub N : List ℕ → ℕ
N b = word b (trailer b + 2)

unfoldable pub to_links : List ℕ → ℕ
to_links b = word b (trailer b + 4)

unfoldable pub L : List ℕ → ℕ
L b = word b (trailer b + 6)

unfoldable pub mark : List ℕ → List ℕ
mark b = take 4 (drop (trailer b + 8) b)

abbrev pub PGT1 : List ℕ
PGT1 = ascii "PGT1"

unfoldable pub ins : List ℕ → ℕ → ℕ
ins b v = word b (node_bytes * v)

unfoldable pub outs : List ℕ → ℕ → ℕ
outs b v = word b (node_bytes * v + 2)

unfoldable pub link_at : List ℕ → ℕ → ℕ
link_at b k = node_bytes * N b + link_bytes * k

unfoldable pub link_from : List ℕ → ℕ → ℕ
link_from b k = word b (link_at b k)

unfoldable pub link_out : List ℕ → ℕ → ℕ
link_out b k = word b (link_at b k + 2)

unfoldable pub link_to : List ℕ → ℕ → ℕ
link_to b k = word b (link_at b k + 4)

unfoldable pub link_in : List ℕ → ℕ → ℕ
link_in b k = word b (link_at b k + 6)

-- "The distances are 4N+8L and 8L and the length is 4N+8L+12."
unfoldable pub well_formed : List ℕ → Bool
well_formed b =
    eqb (to_nodes b) (node_bytes * N b + link_bytes * L b) && eqb (to_links b) (link_bytes * L b)
    && eqb (length b) (node_bytes * N b + link_bytes * L b + trailer_bytes)
    && same (mark b) PGT1

-- ---- "Ports are numbered node by node, inputs before outputs; P is their total."

unfoldable pub first_port : List ℕ → ℕ → ℕ
first_port b zero = 0
first_port b (suc v) = first_port b v + (ins b v + outs b v)

unfoldable pub P : List ℕ → ℕ
P b = first_port b (N b)

unfoldable pub input : List ℕ → ℕ → ℕ → ℕ
input b v i = first_port b v + i

unfoldable pub output : List ℕ → ℕ → ℕ → ℕ
output b v o = first_port b v + ins b v + o

unfoldable pub inputs : List ℕ → ℕ → List ℕ
inputs b v = from (input b v 0) (ins b v)

unfoldable pub outputs : List ℕ → ℕ → List ℕ
outputs b v = from (output b v 0) (outs b v)

-- the node of a port
unfoldable pub port_node : List ℕ → ℕ → ℕ
port_node b p = number (first (λ v. ltb p (first_port b (suc v))) (N b))

unfoldable pub is_output : List ℕ → ℕ → Bool
is_output b p = leb (output b (port_node b p) 0) p

-- ---- "An output port may have many links, in listing order."

unfoldable pub source_port : List ℕ → ℕ → ℕ
source_port b k = output b (link_from b k) (link_out b k)

unfoldable pub target_port : List ℕ → ℕ → ℕ
target_port b k = input b (link_to b k) (link_in b k)

unfoldable pub port_links : List ℕ → ℕ → List ℕ
port_links b p = keep (λ k. eqb (source_port b k) p || eqb (target_port b k) p) (upto (L b))

unfoldable pub in_links : List ℕ → ℕ → List ℕ
in_links b v = flat_map (port_links b) (inputs b v)

unfoldable pub out_links : List ℕ → ℕ → List ℕ
out_links b v = flat_map (port_links b) (outputs b v)

-- "Output neighbours go by port, then link, repeats kept."
unfoldable pub out_neighbours : List ℕ → ℕ → List ℕ
out_neighbours b v = map (link_to b) (out_links b v)

-- ---- "N ≤ 512, L ≤ 2048, P ≤ 4096, at most 255 inputs and 255 outputs on a node. N = 0 is accepted."

unfoldable pub within_limits : List ℕ → Bool
within_limits b =
    leb (N b) 512 && leb (L b) 2048 && leb (P b) 4096 && all (λ v. leb (ins b v) 255 && leb (outs b v) 255) (upto (N b))

-- ---- the links' own faults

-- "link to a missing node or port"
unfoldable pub missing : List ℕ → ℕ → Bool
missing b k =
    not
    (ltb (link_from b k) (N b) && ltb (link_out b k) (outs b (link_from b k))
    && ltb (link_to b k) (N b) && ltb (link_in b k) (ins b (link_to b k)))

-- "second link on an input"
unfoldable pub second : List ℕ → ℕ → Bool
second b k = any (λ j. eqb (link_to b j) (link_to b k) && eqb (link_in b j) (link_in b k)) (upto k)
