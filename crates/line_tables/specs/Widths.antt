-- Where each node's links start, and how many lines it has, as read from the words of the area.
-- Rests on paper.Lines (how many new lines a node gets).
use Rattle.std.specs.Prelude.{ℕ, zero, suc, ◌+◌, ◌-◌, ◌≤◌, ◌<◌, List, length, get_or}
use Rattle.paper.specs.Lines.{new_lines}
use Rattle.neighbours.specs.declared.Listing.{Listing}
use Rattle.neighbours.specs.Tabled.{Spanned}

-- where the links of node v start: at its first port
abbrev pub links_from : List ℕ → Listing → ℕ → ℕ
links_from a links v = get_or a (links.starts + get_or a (links.firsts + v) 0) 0

-- n nodes' starts go to `into`, after the sections that they are read from
pub record Starting (a : List ℕ) (n : ℕ) (links : Listing) (into : ℕ) : Type 0 where
  pub spanned : (v : ℕ) → v ≤ n → Spanned a links v
  pub small : (v : ℕ) → v ≤ n → links_from a links v < 65536
  pub before : (v : ℕ) → v ≤ n → (links.firsts + v < into) × (links.starts + get_or a (links.firsts + v) 0 < into)
  pub room : into + (n + 1) ≤ length a

-- how many lines node v has: those taken at its linked inputs, and the new ones
unfoldable pub width_at : List ℕ → Listing → ℕ → ℕ → ℕ
width_at a links outs v =
    let taken = links_from a links (v + 1) - links_from a links v in
    taken + new_lines taken (get_or a (outs + (v + 1)) 0 - get_or a (outs + v) 0)

unfoldable pub widths_before : List ℕ → Listing → ℕ → ℕ → ℕ
widths_before a links outs zero = 0
widths_before a links outs (suc v) = widths_before a links outs v + width_at a links outs v

-- what is read for node v
pub record Spaced (a : List ℕ) (links : Listing) (outs v : ℕ) : Type 0 where
  pub from : Spanned a links v
  pub to : Spanned a links (v + 1)
  pub rises : links_from a links v ≤ links_from a links (v + 1)
  pub inside : outs + (v + 1) < length a
  pub rises-out : get_or a (outs + v) 0 ≤ get_or a (outs + (v + 1)) 0
  pub few : links_from a links (v + 1) + get_or a (outs + (v + 1)) 0 < 65536

-- the nodes' starts go to `into`, before the sections that they are read from
pub record Widths (a : List ℕ) (n : ℕ) (links : Listing) (outs into : ℕ) : Type 0 where
  pub spaced : (v : ℕ) → v < n → Spaced a links outs v
  pub after : (into + (n + 1) ≤ links.firsts) × (into + (n + 1) ≤ links.starts) × (into + (n + 1) ≤ outs)
  pub room : into + (n + 1) ≤ length a
  pub small : (v : ℕ) → v ≤ n → widths_before a links outs v < 65536
