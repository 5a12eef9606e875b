-- The start of the queue, record by record, and the whole walk.
-- Rests on Joining, Laying, on_line's Along, and on accepted_theory (writing to the scratch changes no table).
use Prim.Native.Nat.{ℕ, ◌+◌, ◌*◌, ◌≤◌, ◌<◌}
use native.Mathlib.Numerals.{add-one}
use native.Mathlib.Omega.{arith}
use mathlib.Core.Path.{◌≡◌, sym, ap, ap₂, ◌∙◌, subst}
use mathlib.Core.Logic.{inr}
use mathlib.Core.Bool.{true}
use mathlib.Core.List.{List, [], ◌∷◌, ◌++◌, map, flat_map, append-nil}
use lib.ListN.{get_or}
use Rattle.lists.specs.Lists.{member}
use Rattle.lists.specs.Found.{Found, absent, at as found, listed}
use Rattle.lists.proofs.Upto.{at_the_end, flat_map-append}
use Rattle.paper.specs.Area.{K, position, nodes_of}
use Rattle.paper.specs.Records.{record_at, records_in}
use Rattle.paper.specs.Refusals.{on_line}
use Rattle.paper.specs.Walk.{next_on, start_nodes}
use Rattle.order_theory.proofs.Refusals.{sound}
use Rattle.walk_theory.specs.Marked.{join_all}
use Rattle.accepted_theory.specs.Every.{Every}
use Rattle.accepted_theory.specs.SameTables.{KnownNode, SameTables}
use Rattle.accepted_theory.proofs.Walk.{next_on-same, next_on-known, start_nodes-same, walk_same}
use Rattle.on_line.specs.Along.{positions_along, next_along}
use Rattle.on_line.proofs.Along.{line_at, along-is, next-is}
use Rattle.answers.specs.declared.Verdict.{Verdict}
use Rattle.tables.specs.declared.Layout.{Layout}
use Rattle.tables.specs.Usable.{Usable, Scratched}
use Rattle.tables.specs.Recorded.{Recorded}
use Rattle.tables.proofs.Within.{within_none, within_both}
use Rattle.tables.proofs.Usable.{tables_still, still_usable}
use Rattle.walk.specs.Queue.{Queued, Grown}
use Rattle.neighbours.proofs.Keeping.{linked-kept}
use Rattle.walk.specs.Fitting.{Queueing}
use Rattle.walk.specs.Walks.{Laid, Ended, Walks}
use Rattle.walk.specs.Starts.{Starting, LaidOut, Begun}
use Rattle.walk.specs.declared.starts.Room.{Room}
use Rattle.walk.proofs.Joining.{grown-none, grown_both}
use Rattle.walk.proofs.Lowest.{records-next}
use Rattle.walk.proofs.Good.{line_known, highest-stands, records-known}
use Rattle.walk.proofs.Neighbours.{grown_as}
use Rattle.walk.proofs.Laying.{recorded_still}
use Rattle.walk.proofs.Running.{queue_scratched}

-- ---- the node after a position

module _ {a : List ℕ} {at : Layout} {queue line highest joined : ℕ} (ready : Starting a at queue line highest joined) where
  pub nobody_next : next_along a at line highest ≡ absent → Grown a queue at.sizes.nodes joined (listed (next_along a at line highest)) joined a
  nobody_next e = grown_as (sym (ap listed e)) (grown-none ready.queued)

  pub next-joins : {v : ℕ} → next_along a at line highest ≡ found v → {grown : ℕ} {m : List ℕ} → Grown a queue at.sizes.nodes joined (v ∷ []) grown m
      → Grown a queue at.sizes.nodes joined (listed (next_along a at line highest)) grown m
  next-joins e g = grown_as (sym (ap listed e)) g

-- ---- record by record

module _ {b a words : List ℕ} {count : ℕ} {at : Layout} {room : Room} (laid : Laid b a words count at room) where
  pub starts_none : Queued a room.queue at.sizes.nodes 0
      → Grown a room.queue at.sizes.nodes 0 (start_nodes b a (records_in words 0)) 0 a
  unfolding start_nodes records_in flat_map
  starts_none q = grown-none q

  module _ {m : List ℕ} (kept : Queueing at room a m) where
    scratched : Scratched at a m
    scratched = queue_scratched laid.fits kept

    usable : Usable b m at
    usable = still_usable laid.usable scratched

    recorded : Recorded b m words count
    recorded = recorded_still laid.usable scratched laid.recorded

    tables : SameTables b a m
    tables = tables_still laid.usable scratched

    laid_still : Laid b m words count at room
    laid_still =
        record {
          usable = usable;
          fits = laid.fits;
          linked = linked-kept laid.linked kept (omega (arith, laid.fits));
          recorded = recorded;
          lows = λ x h. kept.same (room.lows + x) (inr (omega (arith, laid.fits))) ∙ laid.lows x (omega (arith, tables.count));
        }

    module _ (i : ℕ) (h : i < count) {line highest : ℕ} (read : line ≡ get_or words (3 * i) 0) (read-high : highest ≡ get_or words (3 * i + 2) 0) where
      known : line < K b m
      unfolding record_at
      known = omega (arith, read, line_known b m words i (recorded.good i h))

      stands : member highest (positions_along m at line) ≡ true
      unfolding record_at on_line
      stands =
          ap (member highest) (along-is usable line known)
          ∙ ap₂ (λ (q x : ℕ). member q (map (position b m) (nodes_of b m x))) read-high read ∙ highest-stands b m words i (recorded.good i h)

      next_known : (v : ℕ) → next_along m at line highest ≡ found v → v < at.sizes.nodes
      next_known v e =
          let every =
          subst (λ (f : Found). Every (KnownNode b) (listed f)) (sym (next-is usable line known highest) ∙ e)
          (next_on-known (tables_still usable within_none) line highest known)
          in omega (arith, every.0, usable.read.nodes)

      pub starting : {joined : ℕ} → Queued m room.queue at.sizes.nodes joined → Starting m at room.queue line highest joined
      starting q = record { along = line_at usable line known; stands = stands; known = next_known; queued = q }

      one_more : start_nodes b a (records_in words (i + 1)) ≡ start_nodes b a (records_in words i) ++ listed (next_along m at line highest)
      unfolding start_nodes flat_map record_at
      one_more =
          ap (start_nodes b a) (ap (records_in words) (add-one i) ∙ records-next words i)
          ∙ flat_map-append (λ r. listed (next_on b a r.line r.highest)) (records_in words i) (record_at words i ∷ [])
          ∙ ap (λ (vs : List ℕ). start_nodes b a (records_in words i) ++ vs)
          (append-nil _ ∙ ap listed (ap₂ (next_on b a) (sym read) (sym read-high) ∙ same))
        where
          same : next_on b a line highest ≡ next_along m at line highest
          same = next_on-same tables line highest (omega (arith, known, tables.count)) ∙ sym (next-is usable line known highest)

      pub starts-next : {joined more : ℕ} {o : List ℕ}
          → Grown a room.queue at.sizes.nodes 0 (start_nodes b a (records_in words i)) joined m
          → Grown m room.queue at.sizes.nodes joined (listed (next_along m at line highest)) more o
          → Grown a room.queue at.sizes.nodes 0 (start_nodes b a (records_in words (i + 1))) more o
      starts-next g then = grown_as (sym one_more) (grown_both g then)

  -- all records have started
  pub begun : {joined i : ℕ} {m : List ℕ} → i ≤ count → count ≤ i
      → Grown a room.queue at.sizes.nodes 0 (start_nodes b a (records_in words i)) joined m → Begun b a words count at room joined m
  begun low high g =
      record {
        started =
            record {
              laid = laid_still g.kept;
              queued = g.queued;
              starts =
                  g.whole ∙ ap (λ (i : ℕ). join_all [] (start_nodes b a (records_in words i))) (at_the_end (λ (i : ℕ). i) low high)
                  ∙ ap (join_all []) (start_nodes-same (tables g.kept) (records_in words count) (records-known laid.recorded));
            };
        kept = g.kept;
      }

-- ---- the whole walk

module _ {b a words : List ℕ} {count : ℕ} {at : Layout} (usable : Usable b a at) (recorded : Recorded b a words count) where
  pub walks : {m o q : List ℕ} {room : Room} {joined : ℕ} {r : Verdict} → LaidOut b a words count at room m → Begun b m words count at room joined o
      → Ended b o words count at room r q → Walks b a words count at r q
  walks {o = o} out begin end =
      let fits = out.laid.fits in
      let until : Scratched at a o = within_both out.kept (queue_scratched fits begin.kept) in
      record {
        said =
            end.said
            ∙ sym (walk_same (tables_still usable until) (sound b usable.links) (records_in words count) (records-known recorded));
        kept = within_both until (queue_scratched fits end.kept);
      }
