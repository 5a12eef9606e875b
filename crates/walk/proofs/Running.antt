-- The turns one after the other: the area's words say what the walk with marks says, and its answer is 01's.
-- Rests on Below, Good, walk_theory.Answers, and on accepted_theory (writing to the scratch changes no table).
use Prim.Native.Nat.{ℕ, suc, ◌+◌, ◌≤◌, ◌<◌}
use native.Mathlib.Omega.{arith}
use native.Mathlib.Numerals.{add-one}
use mathlib.Core.Path.{◌≡◌, sym, ap, ap₂, ◌∙◌}
use mathlib.Core.Logic.{inr}
use mathlib.Core.Bool.{Bool, cond}
use mathlib.Core.List.{List}
use lib.ListN.{length, get_or}
use lib.Dec.{ltb}
use borrow.Author.Tests.{lt-ltb}
use Rattle.std.specs.Prelude.{Option, Some, None}
use Rattle.lists.specs.Lists.{any}
use Rattle.lists.proofs.Sections.{part, length_part, get_d_part}
use Rattle.paper.specs.Map.{N, out_neighbours}
use Rattle.paper.specs.Area.{K, position, lines_of}
use Rattle.paper.specs.Intervals.{Interval}
use Rattle.paper.specs.Records.{records_in}
use Rattle.paper.specs.Walk.{M, stands_below}
use Rattle.order_theory.proofs.Refusals.{sound}
use Rattle.walk_theory.specs.Marked.{join_all, going, stopped, visit_marked, turn_marked, marked_after}
use Rattle.walk_theory.proofs.Joined.{joined-known}
use Rattle.walk_theory.proofs.Answers.{stopped_no, ended_yes}
use Rattle.accepted_theory.specs.SameTables.{KnownLine, SameTables}
use Rattle.accepted_theory.proofs.Every.{any-every}
use Rattle.answers.specs.declared.Verdict.TheVariants.{Yes, No}
use Rattle.tables.specs.declared.Layout.{Layout}
use Rattle.tables.specs.Placed.{scratch_size}
use Rattle.tables.specs.Usable.{Usable, Scratched}
use Rattle.tables.proofs.Within.{within_both, within_wider}
use Rattle.tables.proofs.Words.{position-is, lines_are}
use Rattle.tables.proofs.Usable.{tables_still, still_usable}
use Rattle.walk.specs.Queue.{Queued}
use Rattle.walk.specs.Lows.{low_on, below_lows}
use Rattle.walk.specs.Fitting.{Fits, Queueing}
use Rattle.walk.specs.Turns.{turn_said, visit_in, Turning, Turned}
use Rattle.walk.specs.Walks.{Started, Ended}
use Rattle.walk.specs.declared.starts.Room.{Room}
use Rattle.walk.proofs.Below.{lows_say}
use Rattle.walk.proofs.Good.{line_unused}
use Rattle.neighbours.proofs.Keeping.{linked-kept}

-- the queue and its marks stand in the scratch
pub queue_scratched : {at : Layout} {room : Room} → Fits at room → {a m : List ℕ} → Queueing at room a m → Scratched at a m
queue_scratched {at} fits kept = within_wider kept at.scratch (scratch_size at.sizes) (omega arith) (omega arith)

module _ {b a words : List ℕ} {count : ℕ} {at : Layout} {room : Room} {joined : ℕ} (st : Started b a words count at room joined) where
  abbrev rs : List Interval
  rs = records_in words count

  module _ {m : List ℕ} (kept : Queueing at room a m) where
    scratched : Scratched at a m
    scratched = queue_scratched st.laid.fits kept

    usable : Usable b m at
    usable = still_usable st.laid.usable scratched

    tables : SameTables b a m
    tables = tables_still st.laid.usable scratched

    -- the lowest position on a known line
    low-is : (x : ℕ) → x < K b a → get_or m (room.lows + x) 0 ≡ low_on words count x
    low-is x h = kept.same (room.lows + x) (inr (omega (arith, st.laid.fits))) ∙ st.laid.lows x h

    module _ (v : ℕ) (known : v < at.sizes.nodes) where
      known_b : v < N b
      known_b = omega (arith, st.laid.usable.read.nodes)

      place : get_or m (at.positions + v) 0 ≡ position b a v
      place = sym (position-is usable v) ∙ sym (tables.positions v known_b)

      below-is : below_lows m at room.lows v ≡ stands_below b a rs v
      unfolding below_lows stands_below
      below-is =
          ap₂ (λ (q : ℕ) (xs : List ℕ). any (λ x. ltb q (get_or m (room.lows + x) 0)) xs) place
          (sym (lines_are usable v) ∙ sym (tables.lines v known_b))
          ∙ any-every (KnownLine b a) (λ x. ltb (position b a v) (get_or m (room.lows + x) 0)) (λ x. ltb (position b a v) (low_on words count x))
          (λ x h. ap (ltb (position b a v)) (low-is x h)) (lines_of b a v) (tables.lines_known v known_b)
          ∙ lows_say words (position b a v) (lines_of b a v) count (λ i h. line_unused b a words i (st.laid.recorded.good i h))

      -- the words say what the walk with marks says
      visit-is : {top : ℕ} → top ≡ M rs → (xs : List ℕ) (counted : ℕ) → visit_in b m at room.lows top v xs counted ≡ visit_marked b a rs v xs counted
      unfolding visit_in visit_marked
      visit-is largest xs counted =
          ap₂ (λ (skips below : Bool).
          cond skips (going xs counted) (cond below (stopped (suc counted)) (going (join_all xs (out_neighbours b v)) (suc counted))))
          (ap₂ ltb largest place) below-is

  -- ---- before the first turn

  pub state-starts : marked_after b a rs 0 ≡ going (part a room.queue joined) 0
  unfolding marked_after
  state-starts = ap (λ (xs : List ℕ). going xs 0) (sym st.starts)

  -- ---- a turn

  module _ {m : List ℕ} (t : ℕ) {grown counted : ℕ} (kept : Queueing at room a m) (queued : Queued m room.queue at.sizes.nodes grown)
      (now : marked_after b a rs t ≡ going (part m room.queue grown) counted) where
    long : length (part m room.queue grown) ≡ grown
    long = length_part m room.queue grown (omega (arith, queued.fits, queued.few))

    -- all who joined were taken
    pub ended : grown ≤ t → Ended b a words count at room (Yes counted) m
    ended h =
        record {
          said = sym (ended_yes (sound b st.laid.usable.links) a rs t (part m room.queue grown) counted now (omega (arith, long)));
          kept = kept;
        }

    module _ (taken : t < grown) where
      pub turning : counted ≤ t → Turning b m at room t grown counted
      turning few =
          record { usable = usable kept; fits = st.laid.fits; linked = linked-kept st.laid.linked kept (omega (arith, st.laid.fits)); queued = queued; taken = taken; few = few }

      module _ {top : ℕ} (largest : top ≡ M rs) (few : counted ≤ t) {r : Option (ℕ × ℕ)} {o : List ℕ} (turned : Turned b m at room top t grown counted r o) where
        front : ℕ
        front = get_or (part m room.queue grown) t 0

        front-is : get_or m (room.queue + t) 0 ≡ front
        unfolding front
        front-is = sym (get_d_part m room.queue grown t 0 taken)

        kept_on : Queueing at room a o
        kept_on = within_both kept turned.kept

        state-next : marked_after b a rs (t + 1) ≡ turn_said o room.queue counted r
        unfolding marked_after turn_marked front
        state-next =
            ap (marked_after b a rs) (add-one t) ∙ ap (turn_marked b a rs t) now
            ∙ rw (lt-ltb t (length (part m room.queue grown)) (omega (arith, long)))
            (sym
            (turned.said ∙ ap (λ (v : ℕ). visit_in b m at room.lows top v (part m room.queue grown) counted) front-is
            ∙ visit-is kept front known largest (part m room.queue grown) counted))
          where
            known : front < at.sizes.nodes
            known = joined-known queued.nodes t (omega (arith, long))

      -- the answer is no
      pub ended_no : {top : ℕ} → top ≡ M rs → counted ≤ t → {o : List ℕ} → Turned b m at room top t grown counted None o
          → Ended b a words count at room (No (counted + 1)) o
      ended_no largest few turned =
          record {
            said =
                sym
                (stopped_no (sound b st.laid.usable.links) a rs (t + 1) (counted + 1)
                (state-next largest few turned ∙ ap stopped (sym (add-one counted))));
            kept = kept_on largest few turned;
          }

      -- the walk goes on
      pub went_on : {top : ℕ} → top ≡ M rs → counted ≤ t → {o : List ℕ} {more passed : ℕ} → Turned b m at room top t grown counted (Some (more, passed)) o
          → (passed ≤ t + 1) × Queued o room.queue at.sizes.nodes more × Queueing at room a o
          × (marked_after b a rs (t + 1) ≡ going (part o room.queue more) passed)
      went_on largest few turned = (omega (arith, turned.on.1), turned.on.0, kept_on largest few turned, state-next largest few turned)
