-- What placed nodes hold stands when words elsewhere are changed: past the lists, or in the list of the node that comes next.
-- Rests on Rows.
use Prim.Native.Nat.{ℕ, ◌+◌, ◌≤◌, ◌<◌}
use native.Mathlib.Omega.{arith}
use mathlib.Core.Path.{◌≡◌, ap, ◌∙◌}
use mathlib.Core.Logic.{◌⊎◌, inl, inr}
use mathlib.Core.List.{List, Memᴰ}
use lib.ListN.{length, get_or, set}
use lib.Seq.{get_or-set_other}
use Rattle.lists.proofs.Sections.{Apart}
use Rattle.paper.specs.Map.{N}
use Rattle.paper.specs.Lines.{Placed}
use Rattle.tables.specs.declared.Layout.{Layout}
use Rattle.line_tables.specs.declared.room.Room.{Room}
use Rattle.line_tables.specs.Layout.{start_of, entries}
use Rattle.line_tables.specs.Spread.{Spread}
use Rattle.line_tables.specs.Frontier.{Held, node_at, frontier_at}
use Rattle.line_tables.proofs.Links.{entries_fit}
use Rattle.line_tables.proofs.Rows.{Passing, row, node-known, row_inside, rows_apart, seat-known, seat-row, seat_other}

module _ {b a₀ : List ℕ} {at : Layout} {room : Room} (spread : Spread b a₀ at room) where
  pub passing : Passing b
  passing = record { links = spread.ready.links; cycle = spread.cycle }

  module _ {a : List ℕ} {u : ℕ} (h : u ≤ at.sizes.nodes) (held : Held b a at (frontier_at b u).placed) where
    known : u ≤ N b
    known = omega (arith, spread.ready.read.nodes)

    node-low : (x : Placed) → Memᴰ x (frontier_at b u).placed → x.node < at.sizes.nodes
    node-low x m = omega (arith, seat-known passing u known m, spread.ready.read.nodes)

    list-low : (x : Placed) → Memᴰ x (frontier_at b u).placed → start_of b x.node + length x.lines ≤ entries b
    list-low x m =
        omega (arith, row_inside passing x.node (seat-known passing u known m), ap length (seat-row passing u known m))

    pub held_far : (j x : ℕ) → room.tops ≤ j → Held b (set a j x) at (frontier_at b u).placed
    held_far j x far =
        record {
          positions =
              λ y m. get_or-set_other a j (at.positions + y.node) x 0 (λ e. omega (arith, e, node-low y m)) ∙ held.positions y m;
          lists =
              λ y m i g. get_or-set_other a j (at.lines + (start_of b y.node + i)) x 0 (λ e. omega (arith, e, list-low y m, entries_fit spread)) ∙ held.lists y m i g;
        }

    -- the list of the node that comes next
    pub held-row : u < at.sizes.nodes → {m : List ℕ}
        → ((i : ℕ) → Apart i (at.lines + start_of b (node_at b u)) (length (row b (node_at b u))) → get_or m i 0 ≡ get_or a i 0)
        → Held b m at (frontier_at b u).placed
    held-row more same =
        record {
          positions = λ y m. same (at.positions + y.node) (inl (omega (arith, node-low y m))) ∙ held.positions y m;
          lists =
              λ y m k g. same (at.lines + (start_of b y.node + k)) (beside y m k g (rows_apart passing y.node (node_at b u) (seat-known passing u known m) (node-known passing u lt) (seat_other passing u known m lt)))
              ∙ held.lists y m k g;
        }
      where
        lt : u < N b
        lt = omega (arith, spread.ready.read.nodes)

        beside : (y : Placed) → Memᴰ y (frontier_at b u).placed → (k : ℕ) → k < length y.lines
            → (start_of b y.node + length (row b y.node) ≤ start_of b (node_at b u)) ⊎ (start_of b (node_at b u) + length (row b (node_at b u)) ≤ start_of b y.node)
            → Apart (at.lines + (start_of b y.node + k)) (at.lines + start_of b (node_at b u)) (length (row b (node_at b u)))
        beside y m k g (inl under) = inl (omega (arith, ap length (seat-row passing u known m)))
        beside y m k g (inr over) = inr (omega arith)

    -- .. and its position
    pub held-position : u < at.sizes.nodes → (x : ℕ) → Held b (set a (at.positions + node_at b u) x) at (frontier_at b u).placed
    held-position more x =
        record {
          positions =
              λ y m. get_or-set_other a (at.positions + node_at b u) (at.positions + y.node) x 0
              (λ e. seat_other passing u known m lt (omega (arith, e)))
              ∙ held.positions y m;
          lists =
              λ y m k g. get_or-set_other a (at.positions + node_at b u) (at.lines + (start_of b y.node + k)) x 0
              (λ e. omega (arith, e, node-known passing u lt, spread.ready.read.nodes))
              ∙ held.lists y m k g;
        }
      where
        lt : u < N b
        lt = omega (arith, spread.ready.read.nodes)
