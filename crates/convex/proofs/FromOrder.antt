-- What ordering leaves is what the lines are laid from, and preparing writes over all of it.
-- Rests on toposort's laws of what it laid, lists.Sections and lines_theory.
use Prim.Native.Nat.{ℕ, ◌+◌, ◌≤◌, ◌<◌}
use native.Mathlib.Nat.{zero-add}
use native.Mathlib.Omega.{arith}
use mathlib.Core.Path.{◌≡◌, sym, ap, ap₂, ◌∙◌, subst}
use mathlib.Core.List.{List, map}
use lib.ListN.{length, get_or, replicate, length-replicate}
use lib.Seq.{length-sets}
use Rattle.lists.specs.Lists.{upto}
use Rattle.lists.proofs.Sections.{part, get_or-sets_in, sets-sets}
use Rattle.lists.proofs.Upto.{get_or-zeros}
use Rattle.paper.specs.Map.{first_port, source_port}
use Rattle.paper.specs.Order.{order}
use Rattle.paper.specs.Lines.{tables, tables_of}
use Rattle.paper.specs.Area.{W, cleared, written, prepared}
use Rattle.paper.specs.Refusals.{passed, rule6}
use Rattle.lines_theory.proofs.Prepared.{tables-sized, written-long}
use Rattle.counting_sort.specs.Sorted.{starts_by, sorted_by}
use Rattle.tables.specs.declared.Layout.{Layout}
use Rattle.neighbours.specs.declared.Listing.{Listing}
use Rattle.toposort.specs.Laid.{OrderLaid}
use Rattle.toposort.proofs.Refusing.{written_over}
use Rattle.line_tables.specs.Laying.{Laying}
use Rattle.line_tables.specs.Room.{room_of}
use Rattle.line_tables.proofs.Fitting.{room_fits}

module _ (a : List ℕ) {b m : List ℕ} {at : Layout} {links : Listing} (done : OrderLaid b (cleared b a) at links m) (cycle : rule6 b ≡ passed) where
  abbrev n : ℕ
  n = at.sizes.nodes

  abbrev l : ℕ
  l = at.sizes.links

  abbrev p : ℕ
  p = at.sizes.ports

  -- ---- the places that ordering laid are the room's

  firsts_at : links.firsts ≡ (room_of at).firsts
  firsts_at = done.first

  starts_at : links.starts ≡ (room_of at).tops
  starts_at = omega (arith, done.first, done.last, done.index.linked)

  sorted_at : links.sorted ≡ (room_of at).out_sorted
  sorted_at = omega (arith, done.first, done.last, done.index.linked)

  -- ---- what stands there

  -- with no cycle the order has all n nodes
  ordered-all : length (order b) ≡ n
  unfolding tables tables_of
  ordered-all = (tables-sized b done.ready.links cycle).ordered ∙ done.ready.read.nodes

  long : length (cleared b a) ≡ length a
  unfolding cleared
  long = length-sets a 0 (replicate (W b) 0)

  room : W b ≤ length a
  room = omega (arith, long, done.inside.long, done.ready.room, done.ready.placed.whole)

  many : length {A = ℕ} (replicate (W b) 0) ≡ W b
  many = length-replicate (W b) 0

  word_zero : (i : ℕ) → i < at.scratch → get_or (cleared b a) i 0 ≡ 0
  unfolding cleared
  word_zero i h =
      ap (λ (k : ℕ). get_or (cleared b a) k 0) (sym (zero-add i))
      ∙ get_or-sets_in a 0 (replicate (W b) 0) i 0 (omega (arith, many, done.ready.placed)) (omega (arith, many, room))
      ∙ get_or-zeros (W b) i

  pub laying : Laying b m at (room_of at)
  laying =
      record {
        ready =
            record {
              read = done.ready.read;
              links = done.ready.links;
              placed = done.ready.placed;
              fits = room_fits at;
              long = done.ready.room;
            };
        cycle = cycle;
        order-stands = ap (part m at.order) (sym ordered-all) ∙ done.ordered;
        firsts_stand = subst (λ (o : ℕ). part m o (n + 1) ≡ map (first_port b) (upto (n + 1))) firsts_at done.index.linked.firsts_stand;
        starts_stand =
            subst (λ (o : ℕ). part m o (p + 1) ≡ starts_by (map (source_port b) (upto l)) p) starts_at
            (done.index.linked.starts_stand ∙ ap₂ (λ (x y : ℕ). starts_by (map (source_port b) (upto x)) y) done.ready.read.links done.ready.read.ports);
        sorted_stand =
            subst (λ (o : ℕ). part m o l ≡ sorted_by (map (source_port b) (upto l)) p) sorted_at
            (done.index.linked.sorted_stand ∙ ap₂ (λ (x y : ℕ). sorted_by (map (source_port b) (upto x)) y) done.ready.read.links done.ready.read.ports);
        clear = λ i apart low. done.same i apart low ∙ word_zero i low;
      }

  -- the first W words are written in full, so that nothing of the ordering is left
  pub prepared_over : {r : List ℕ} → r ≡ prepared b m → r ≡ prepared b a
  unfolding prepared cleared
  prepared_over f =
      f ∙ written_over done.inside (omega (arith, long, room, done.ready.placed.whole)) (written b) (full ∙ done.ready.placed.whole)
      ∙ sets-sets a 0 (replicate (W b) 0) (written b) (omega (arith, many, full))
    where
      full : length (written b) ≡ W b
      full = written-long b done.ready.links cycle
