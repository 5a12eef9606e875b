-- The links by output port, or by input port, as they stand in the area, and, apart from any area, what is read from them.
-- Rests on paper's Map, stepmap's ReadWell, the counting sort's definitions, tables' Within and Tabled.
use Rattle.std.specs.Prelude.{ℕ, ◌+◌, ◌≤◌, ◌≡◌, List, map, length, get_or, take, drop}
use Rattle.std.proofs.lemmas.List.Edits.{sets}
use Rattle.lists.specs.Lists.{upto}
use Rattle.paper.specs.Map.{L, P, first_port, link_from, link_to, source_port, target_port}
use Rattle.paper.specs.Refusals.{passed, rule45}
use Rattle.stepmap.specs.Formed.{ReadWell}
use Rattle.stepmap.specs.declared.read.Sizes.{Sizes}
use Rattle.counting_sort.specs.Sorted.{starts_by, sorted_by}
use Rattle.tables.specs.Within.{Within}
use Rattle.neighbours.specs.declared.Listing.{Listing}
use Rattle.neighbours.specs.Tabled.{by_port}

-- ---- the links by output port: where those of node v start, and the node that the i-th leads to

unfoldable pub out_start : List ℕ → ℕ → ℕ
out_start b v = get_or (starts_by (map (source_port b) (upto (L b))) (P b)) (first_port b v) 0

unfoldable pub out_target : List ℕ → ℕ → ℕ
out_target b i = link_to b (get_or (sorted_by (map (source_port b) (upto (L b))) (P b)) i 0)

-- ---- the links by input port: where those of node v start, and the node that the i-th comes from

unfoldable pub in_start : List ℕ → ℕ → ℕ
in_start b v = get_or (starts_by (map (target_port b) (upto (L b))) (P b)) (first_port b v) 0

unfoldable pub in_source : List ℕ → ℕ → ℕ
in_source b i = link_from b (get_or (sorted_by (map (target_port b) (upto (L b))) (P b)) i 0)

-- ---- in the area

-- the links by one port of each stand in the area, each section after the other
pub record Linked (b a : List ℕ) (s : Sizes) (port : ℕ → ℕ) (at : Listing) : Type 0 where
  pub read : ReadWell b s.nodes s.links s.ports
  pub links : rule45 b ≡ passed
  pub after-firsts : at.firsts + (s.nodes + 1) ≤ at.keys
  pub after-keys : at.keys + s.links ≤ at.starts
  pub after-starts : at.starts + (s.ports + 1) ≤ at.sorted
  pub after_sorted : at.sorted + s.links ≤ at.end
  pub room : at.end ≤ length a
  pub firsts_stand : take (s.nodes + 1) (drop at.firsts a) ≡ map (first_port b) (upto (s.nodes + 1))
  pub starts_stand : take (s.ports + 1) (drop at.starts a) ≡ starts_by (map port (upto (L b))) (P b)
  pub sorted_stand : take s.links (drop at.sorted a) ≡ sorted_by (map port (upto (L b))) (P b)

-- by the port that each starts at, and by the port that each ends at
abbrev pub Outgoing : List ℕ → List ℕ → Sizes → Listing → Type 0
Outgoing b a s at = Linked b a s (source_port b) at

abbrev pub Incoming : List ℕ → List ℕ → Sizes → Listing → Type 0
Incoming b a s at = Linked b a s (target_port b) at

-- ---- laying them

-- how many words the first ports, the keys, the starts and the links take, and the starts and links of the other side
abbrev pub outgoing_size : Sizes → ℕ
outgoing_size s = (s.nodes + 1) + s.links + (s.ports + 1) + s.links

abbrev pub incoming_size : Sizes → ℕ
incoming_size s = (s.ports + 1) + s.links

-- a map of these sizes that passes 1, 2, 4 and 5, and room for `size` words from `from` on
pub record Free (b a : List ℕ) (s : Sizes) (from size : ℕ) : Type 0 where
  pub read : ReadWell b s.nodes s.links s.ports
  pub links : rule45 b ≡ passed
  pub room : from + size ≤ length a

-- the area with the first ports, and behind them the links by output port
unfoldable pub with_outgoing : List ℕ → List ℕ → Sizes → Listing → List ℕ
with_outgoing b a s at =
    by_port (sets a at.firsts (map (first_port b) (upto (s.nodes + 1)))) s at
    (map (source_port b) (upto s.links))

-- they are laid from `from` on, and no other word was written
pub record OutgoingLaid (b a : List ℕ) (s : Sizes) (from : ℕ) (at : Listing) (m : List ℕ) : Type 0 where
  pub linked : Outgoing b m s at
  pub first : at.firsts ≡ from
  pub last : at.end ≡ from + outgoing_size s
  pub kept : Within from (outgoing_size s) a m
  pub whole : m ≡ with_outgoing b a s at

-- the links by input port are laid behind those by output port, which stand still; the keys are written again, and no other word
pub record IncomingLaid (b a : List ℕ) (s : Sizes) (out back : Listing) (m : List ℕ) : Type 0 where
  pub outgoing : Outgoing b m s out
  pub incoming : Incoming b m s back
  pub first : back.firsts ≡ out.firsts
  pub last : back.end ≡ out.end + incoming_size s
  pub kept : (from size : ℕ) → from ≤ out.keys → back.end ≤ from + size → Within from size a m
