-- What laying the lines leaves as it is: an area over another keeps all that is read meanwhile.
-- Rests on Spread.
use Prim.Native.Nat.{ℕ, ◌+◌, ◌*◌, ◌≤◌}
use native.Mathlib.Omega.{arith}
use mathlib.Core.Path.{◌≡◌, refl, ◌∙◌}
use mathlib.Core.List.{List}
use lib.ListN.{length, get_or, set, length-set}
use lib.Seq.{get_or-set_other}
use Rattle.paper.specs.Map.{first_port}
use Rattle.counting_sort.specs.Sorted.{below}
use Rattle.tables.specs.declared.Layout.{Layout}
use Rattle.line_tables.specs.declared.room.Room.{Room}
use Rattle.line_tables.specs.Layout.{Ready, out_keys, in_keys, entries}
use Rattle.line_tables.specs.Spread.{Spread, Kept, in_front, in_starts, in_tables, in_links_lem, behind, Changed, position, list, top, stack, Over}
use Rattle.line_tables.proofs.Links.{out-span, in_span, entries_fit}

kept-apart : {b a : List ℕ} {at : Layout} {room : Room} {used i j : ℕ} → Ready b a at room → at.lines + used ≤ room.tops → Kept used at room i → Changed used at room j → i ≡ j → ⊥
kept-apart ready fits (in_front h) (position f t) e = omega (arith, ready.placed, ready.fits, e)
kept-apart ready fits (in_front h) (list f t) e = omega (arith, ready.placed, ready.fits, e)
kept-apart ready fits (in_front h) (top f t) e = omega (arith, ready.placed, ready.fits, e)
kept-apart ready fits (in_front h) (stack f t) e = omega (arith, ready.placed, ready.fits, e)
kept-apart ready fits (in_starts g h) (position f t) e = omega (arith, ready.placed, ready.fits, e)
kept-apart ready fits (in_starts g h) (list f t) e = omega (arith, ready.placed, ready.fits, e)
kept-apart ready fits (in_starts g h) (top f t) e = omega (arith, ready.placed, ready.fits, e)
kept-apart ready fits (in_starts g h) (stack f t) e = omega (arith, ready.placed, ready.fits, e)
kept-apart ready fits (in_tables g h) (position f t) e = omega (arith, ready.placed, ready.fits, e)
kept-apart ready fits (in_tables g h) (list f t) e = omega (arith, ready.placed, ready.fits, e)
kept-apart ready fits (in_tables g h) (top f t) e = omega (arith, ready.placed, ready.fits, e)
kept-apart ready fits (in_tables g h) (stack f t) e = omega (arith, ready.placed, ready.fits, e)
kept-apart ready fits (in_links_lem g h) (position f t) e = omega (arith, ready.placed, ready.fits, e)
kept-apart ready fits (in_links_lem g h) (list f t) e = omega (arith, ready.placed, ready.fits, e)
kept-apart ready fits (in_links_lem g h) (top f t) e = omega (arith, ready.placed, ready.fits, e)
kept-apart ready fits (in_links_lem g h) (stack f t) e = omega (arith, ready.placed, ready.fits, e)
kept-apart ready fits (behind h) (position f t) e = omega (arith, ready.placed, ready.fits, e)
kept-apart ready fits (behind h) (list f t) e = omega (arith, ready.placed, ready.fits, e)
kept-apart ready fits (behind h) (top f t) e = omega (arith, ready.placed, ready.fits, e)
kept-apart ready fits (behind h) (stack f t) e = omega (arith, ready.placed, ready.fits, e)

pub over_itself : {b a : List ℕ} {at : Layout} {room : Room} → Over b at room a a
over_itself = record { long = refl; same = λ i k. refl }

pub over_over : {b a m r : List ℕ} {at : Layout} {room : Room} → Over b at room a m → Over b at room m r → Over b at room a r
over_over first next = record { long = next.long ∙ first.long; same = λ i k. next.same i k ∙ first.same i k }

-- words changed elsewhere
pub over_same : {b a m r : List ℕ} {at : Layout} {room : Room} → Over b at room a m → length r ≡ length m
    → ((i : ℕ) → Kept (entries b) at room i → get_or r i 0 ≡ get_or m i 0) → Over b at room a r
over_same over long same = record { long = long ∙ over.long; same = λ i k. same i k ∙ over.same i k }

-- one word changed
pub over_set : {b a m : List ℕ} {at : Layout} {room : Room} → Spread b a at room → Over b at room a m → (j x : ℕ) → Changed (entries b) at room j → Over b at room a (set m j x)
over_set {m = m} spread over j x changed =
    record {
      long = length-set m j x ∙ over.long;
      same =
          λ i k. get_or-set_other m j i x 0 (kept-apart spread.ready (omega (arith, entries_fit spread)) k changed) ∙ over.same i k;
    }

module _ {b a m : List ℕ} {at : Layout} {room : Room} (spread : Spread b a at room) (over : Over b at room a m) where
  fit : entries b ≤ at.sizes.nodes + 2 * at.sizes.links
  fit = omega (arith, entries_fit spread)

  pub spread_over : Spread b m at room
  spread_over =
      record {
        ready = record { read = spread.ready.read; links = spread.ready.links; placed = spread.ready.placed; fits = spread.ready.fits; long = omega (arith, over.long, spread.ready.long) };
        cycle = spread.cycle;
        node-is = λ t h. over.same (at.order + t) (in_front (omega arith)) ∙ spread.node-is t h;
        list-start = λ v h. over.same (at.begins + v) (in_starts (omega arith) (omega arith)) ∙ spread.list-start v h;
        first-is = λ v h. over.same (room.firsts + v) (in_tables (omega (arith, fit)) (omega arith)) ∙ spread.first-is v h;
        port-is = λ k h. over.same (room.ports + k) (in_tables (omega (arith, fit)) (omega arith)) ∙ spread.port-is k h;
        out-link =
            λ v h i g. over.same (room.out_sorted + (below (out_keys b) (first_port b v) + i))
            (in_links_lem (omega arith) (omega (arith, out-span spread v h))) ∙ spread.out-link v h i g;
        out-start = λ v h. over.same (room.outs + v) (in_links_lem (omega arith) (omega arith)) ∙ spread.out-start v h;
        in_start = λ q h. over.same (room.in_starts + q) (in_links_lem (omega arith) (omega arith)) ∙ spread.in_start q h;
        in_link =
            λ v h i g. over.same (room.in_sorted + (below (in_keys b) (first_port b v) + i))
            (in_links_lem (omega arith) (omega (arith, in_span spread v h))) ∙ spread.in_link v h i g;
      }
