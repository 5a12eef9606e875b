-- What a node's turn reads: the node, where its list starts, where its incoming and its outgoing links start and end.
-- Rests on Spread and Links.
use Prim.Native.Nat.{ℕ, suc, ◌+◌, ◌-◌, ◌≤◌, ◌<◌}
use native.Mathlib.Omega.{arith}
use mathlib.Core.Path.{◌≡◌, sym, ap, ◌∙◌}
use mathlib.Core.List.{List}
use lib.ListN.{length, get_or}
use Rattle.paper.specs.Map.{first_port, in_links, out_links}
use Rattle.order_theory.proofs.Ports.{ports-below}
use Rattle.counting_sort.specs.Sorted.{below}
use Rattle.neighbours.specs.Tabled.{Spanned}
use Rattle.tables.specs.declared.Layout.{Layout}
use Rattle.line_tables.specs.declared.room.Room.{Room}
use Rattle.line_tables.specs.Room.{inputs_of}
use Rattle.line_tables.specs.Layout.{out_keys, in_keys, start_of, entries}
use Rattle.line_tables.specs.Spread.{Spread}
use Rattle.line_tables.specs.Frontier.{node_at, ListStart}
use Rattle.line_tables.proofs.Links.{is-sound, in_count, out-count, entries_fit}
use Rattle.line_tables.proofs.Holding.{passing}
use Rattle.line_tables.proofs.Rows.{node-known, row_inside}
use Rattle.line_tables.proofs.Taking.{turn-known, node-low}

module _ {b a : List ℕ} {at : Layout} {room : Room} {t : ℕ} (spread : Spread b a at room) (here : t < at.sizes.nodes) where
  pub node-read : {v : ℕ} → v ≡ get_or a (at.order + t) 0 → v ≡ node_at b t
  node-read e = e ∙ spread.node-is t here

  low : node_at b t < at.sizes.nodes
  low = node-low spread here

  start_is : get_or a (at.begins + get_or a (at.order + t) 0) 0 ≡ start_of b (node_at b t)
  start_is =
      ap (λ (v : ℕ). get_or a (at.begins + v) 0) (spread.node-is t here) ∙ spread.list-start (node_at b t) (omega (arith, low))

  list-low : start_of b (node_at b t) ≤ entries b
  list-low = omega (arith, row_inside (passing spread) (node_at b t) (node-known (passing spread) t (turn-known spread here)))

  pub listing : ListStart a at t
  listing =
      record {
        node-inside = omega (arith, spread.ready.long);
        start-inside = omega (arith, spread.node-is t here, low, spread.ready.long);
        list_inside = omega (arith, start_is, list-low, entries_fit spread, spread.ready.long);
      }

  pub list_read : {x : ℕ} → x ≡ at.lines + get_or a (at.begins + get_or a (at.order + t) 0) 0 → x ≡ at.lines + start_of b (node_at b t)
  list_read e = e ∙ ap (λ (k : ℕ). at.lines + k) start_is

  -- ---- links by input port

  first-low : (v : ℕ) → v ≤ at.sizes.nodes → first_port b v ≤ at.sizes.ports
  first-low v h = omega (arith, ports-below b v (omega (arith, spread.ready.read.nodes)), spread.ready.read.ports)

  spans : (v : ℕ) → v ≤ at.sizes.nodes → Spanned a (inputs_of room) v
  spans v h =
      record {
        first-inside = omega (arith, spread.ready.long);
        start-inside = omega (arith, spread.first-is v h, first-low v h, spread.ready.long);
      }

  start-read : (v : ℕ) → v ≤ at.sizes.nodes → get_or a (room.in_starts + get_or a (room.firsts + v) 0) 0 ≡ below (in_keys b) (first_port b v)
  start-read v h =
      ap (λ (q : ℕ). get_or a (room.in_starts + q) 0) (spread.first-is v h) ∙ spread.in_start (first_port b v) (first-low v h)

  module _ {v : ℕ} (is-node : v ≡ node_at b t) where
    pub spanned : Spanned a (inputs_of room) v
    spanned = spans v (omega (arith, is-node, low))

    pub spanned-next : Spanned a (inputs_of room) (v + 1)
    spanned-next = spans (v + 1) (omega (arith, is-node, low))

    pub next_small : v + 1 ≤ at.sizes.nodes
    next_small = omega (arith, is-node, low)

    module _ {x : ℕ} (first : x ≡ get_or a (room.in_starts + get_or a (room.firsts + v) 0) 0) where
      pub first_in : x ≡ below (in_keys b) (first_port b (node_at b t))
      first_in = first ∙ start-read v (omega (arith, is-node, low)) ∙ ap (λ (u : ℕ). below (in_keys b) (first_port b u)) is-node

      module _ {y : ℕ} (last : y ≡ get_or a (room.in_starts + get_or a (room.firsts + (v + 1)) 0) 0) where
        last_in : x + length (in_links b (node_at b t)) ≡ y
        last_in =
            ap (λ (k : ℕ). k + length (in_links b (node_at b t))) first_in ∙ in_count spread.ready.read (is-sound spread) (node_at b t) low
            ∙ ap (λ (u : ℕ). below (in_keys b) (first_port b u)) (over v is-node) ∙ sym (start-read (v + 1) next_small) ∙ sym last
          where
            over : (v : ℕ) → v ≡ node_at b t → suc (node_at b t) ≡ v + 1
            over v e = omega (arith, e)

        pub first-last : x ≤ y
        first-last = omega (arith, last_in)

        pub incoming-is : y - x ≡ length (in_links b (node_at b t))
        incoming-is = omega (arith, last_in)

    -- ---- links by output port

    pub out-inside : room.outs + (v + 1) < length a
    out-inside = omega (arith, is-node, low, spread.ready.long)

    module _ {x : ℕ} (first : x ≡ get_or a (room.outs + v) 0) where
      pub first_out : x ≡ below (out_keys b) (first_port b (node_at b t))
      first_out = first ∙ spread.out-start v (omega (arith, is-node, low)) ∙ ap (λ (u : ℕ). below (out_keys b) (first_port b u)) is-node

      module _ {y : ℕ} (last : y ≡ get_or a (room.outs + (v + 1)) 0) where
        last_out : x + length (out_links b (node_at b t)) ≡ y
        last_out =
            ap (λ (k : ℕ). k + length (out_links b (node_at b t))) first_out ∙ out-count spread.ready.read (is-sound spread) (node_at b t) low
            ∙ ap (λ (u : ℕ). below (out_keys b) (first_port b u)) (over v is-node) ∙ sym (spread.out-start (v + 1) next_small) ∙ sym last
          where
            over : (v : ℕ) → v ≡ node_at b t → suc (node_at b t) ≡ v + 1
            over v e = omega (arith, e)

        pub first-last-out : x ≤ y
        first-last-out = omega (arith, last_out)

        pub outgoing-is : y - x ≡ length (out_links b (node_at b t))
        outgoing-is = omega (arith, last_out)
