-- A list that was taken in, step by step: the links laid behind it, its marks, the way back's closing, and what each return answers.
-- Rests on Answers, Told, and on neighbours and distances.
use Prim.Native.Nat.{ℕ, suc, ◌+◌, ◌*◌, ◌≤◌, ◌<◌}
use native.Mathlib.Numerals.{add-one}
use native.Mathlib.Omega.{arith}
use mathlib.Core.Path.{◌≡◌, sym, ap, ◌∙◌, subst}
use mathlib.Core.Logic.{inl}
use mathlib.Core.List.{List, [], ◌∷◌, ◌++◌}
use lib.ListN.{length, get_or}
use lib.Seq.{sets}
use Rattle.std.specs.Prelude.{Option, Some, None}
use Rattle.lists.specs.Lists.{least}
use Rattle.lists.specs.Bounds.{Below}
use Rattle.lists.proofs.Sections.{part, part_same, length_part, get_d_part}
use Rattle.lists.proofs.Members.{member_below}
use Rattle.paper.specs.Path.{ends_at, path_to, path, back_path, steps_of, Shown, steps, no_steps, shown_of}
use Rattle.paper.specs.Refusals.{Ruling, rule11, Answer, answered, refused}
use Rattle.paper.specs.Calls.{line_rules}
use Rattle.order_theory.specs.Sound.{Sound}
use Rattle.order_theory.proofs.Refusals.{sound}
use Rattle.convexity_theory.proofs.Memberships.{in_mem, times-distinct}
use Rattle.path_theory.proofs.levels.Levels.{SmallestEnd}
use Rattle.path_theory.proofs.levels.Bounds.{closes_at, path-length}
use Rattle.walk_theory.specs.Joined.{Joined}
use Rattle.tables.specs.declared.Layout.{Layout}
use Rattle.tables.specs.Placed.{scratch_size}
use Rattle.tables.specs.Answered.{AnsweredInto}
use Rattle.tables.specs.Usable.{Usable, Scratched}
use Rattle.tables.proofs.Within.{within_both, within_wider}
use Rattle.take_in.proofs.Answers.{AllNodes}
use Rattle.take_in.proofs.Passing.{known-below}
use Rattle.take_in.specs.Listed.{Listed, list_in}
use Rattle.take_in.proofs.Into.{into_answered}
use Rattle.take_in.proofs.ListTaken.{list_into}
use Rattle.neighbours.specs.declared.Listing.{Listing}
use Rattle.neighbours.specs.Linked.{Free, OutgoingLaid, IncomingLaid, outgoing_size, incoming_size}
use Rattle.neighbours.proofs.Keeping.{linked-kept}
use Rattle.distances.specs.declared.queue.Queue.{Queue}
use Rattle.distances.specs.Met.{ListMarked, Listed as ToMark, met_size}
use Rattle.distances.specs.Reached.{Standing}
use Rattle.distances.specs.Closed.{Closes, ClosesAt, Closed}
use Rattle.distances.proofs.Passing.{standing-kept}
use Rattle.back_path.specs.Ways.{Sourced, way_told, HasWay}
use Rattle.back_path.specs.Searched.{Searched}
use Rattle.back_path.specs.declared.showing.Room.{Room}
use Rattle.back_path.proofs.Told.{fed_way, way_told_lem}
use Rattle.back_path.proofs.Answers.{path-none, path-some, none_into, long_into, fit_into}

-- the path of a list is said, and stands in the buffer, after some rules and 11
abbrev Shows : List ℕ → List ℕ → Layout → List ℕ → List ℕ → List Ruling → Answer Shown → List ℕ → List ℕ → Type 0
Shows b list at a m rules said buffer after =
    AnsweredInto at a m said (rules ++ (rule11 (length buffer) (length (steps_of (back_path b list))) ∷ [])) (shown_of (back_path b list)) buffer after
    (steps_of (back_path b list))

-- ---- the links

-- where the nodes that are met stand
abbrev queue_at : Layout → Queue
queue_at at = record { start = at.scratch; nodes = at.sizes.nodes }

-- where they are laid
abbrev links_at : Layout → ℕ
links_at at = at.scratch + 3 * at.sizes.nodes

module _ {b a : List ℕ} {at : Layout} (usable : Usable b a at) where
  pub free : Free b a at.sizes (links_at at) (outgoing_size at.sizes)
  free = record { read = usable.read; links = usable.links; room = omega (arith, usable.placed, usable.room) }

  module _ {targets : Listing} {a₁ : List ℕ} (out : OutgoingLaid b a at.sizes (links_at at) targets a₁) where
    pub room-behind : targets.end + incoming_size at.sizes ≤ length a₁
    room-behind = omega (arith, out.last, out.kept.long, usable.placed, usable.room)

    pub searched : {sources : Listing} {a₂ : List ℕ} → IncomingLaid b a₁ at.sizes targets sources a₂
        → Searched b a at (record { targets = targets; sources = sources }) a₂
    searched back =
        record {
          standing = record { linked = back.outgoing; apart = omega (arith, out.first) };
          incoming = back.incoming;
          apart = omega (arith, out.first, back.first);
          kept =
              within_both
              (within_wider out.kept (at.scratch + met_size at.sizes.nodes) (outgoing_size at.sizes + incoming_size at.sizes) (omega arith) (omega arith))
              (back.kept (at.scratch + met_size at.sizes.nodes) (outgoing_size at.sizes + incoming_size at.sizes)
              (omega (arith, out.first, out.linked.after-firsts)) (omega (arith, out.last, back.last)));
        }

-- ---- the list

module _ {b a : List ℕ} {at : Layout} {count : ℕ} (usable : Usable b a at) (listed : Listed a at count) where
  abbrev list : List ℕ
  list = list_in a at count

  fits : at.scratch + count ≤ length a
  fits = omega (arith, usable.placed, usable.room, listed.few)

  entry_known : (i : ℕ) → i < length list → get_or list i 0 < at.sizes.nodes
  entry_known i h =
      let inside : i < count = omega (arith, length_part a at.scratch count fits) in
      omega (arith, listed.known i inside, get_d_part a at.scratch count i 0 inside)

  list-known : Below at.sizes.nodes list
  list-known = known-below {list = list} (record { entry = entry_known })

  module _ {room : Room} {a₁ : List ℕ} (laid : Searched b a at room a₁) where
    list₁ : part a₁ at.scratch count ≡ list
    list₁ =
        part_same a₁ a at.scratch count 0 laid.kept.long fits
        (λ i h. laid.kept.same (at.scratch + i) (inl (omega (arith, listed.few))))

    pub to-mark : ToMark a₁ (queue_at at) count
    to-mark =
        record {
          fits = omega (arith, usable.placed, usable.room, laid.kept.long);
          small = usable.read.few-nodes;
          few = listed.few;
          nodes = subst (Joined at.sizes.nodes) (sym list₁) (record { once = times-distinct list listed.once; known = list-known });
        }

    module _ {a₂ : List ℕ} (marked : ListMarked a₁ (queue_at at) count a₂) where
      pub standing : Standing b a₂ (record { sizes = at.sizes; start = at.scratch; links = room.targets })
      standing = standing-kept laid.standing marked.kept

      module _ {r : Option (ℕ × ℕ)} {a₃ : List ℕ} (closed : Closed b a₂ (queue_at at) count r a₃) where
        scratched : Scratched at a a₃
        scratched =
            within_both (within_wider laid.kept at.scratch (scratch_size at.sizes) (omega arith) (omega arith))
            (within_wider (within_both marked.kept closed.kept) at.scratch (scratch_size at.sizes) (omega arith) (omega arith))

        pub sourced :
            Sourced b a₃ (record {
              queue = queue_at at;
              firsts = room.sources.firsts;
              starts = room.sources.starts;
              sorted = room.sources.sorted;
            })
        sourced =
            record {
              links = at.sizes.links;
              ports = at.sizes.ports;
              keys = room.sources.keys;
              end = room.sources.end;
              linked = linked-kept laid.incoming (within_both marked.kept closed.kept) laid.apart;
              room = omega (arith, usable.placed, usable.room, scratched.long);
            }

        closes : Closes b list a₃ (queue_at at) r
        closes = subst (λ (xs : List ℕ). Closes b xs a₃ (queue_at at) r) (marked.list ∙ list₁) closed.closes

      pub shows_none : {a₃ : List ℕ} → Closed b a₂ (queue_at at) count None a₃ → (buffer : List ℕ) → Shows b list at a a₃ [] (answered no_steps) buffer buffer
      shows_none closed buffer = into_answered (scratched closed) (none_into buffer (path-none b list (closes closed)))

      module _ {d end : ℕ} {a₃ : List ℕ} (closed : Closed b a₂ (queue_at at) count (Some (d, end)) a₃) where
        closes_so : ClosesAt b list a₃ (queue_at at) d end
        closes_so = closes closed

        smallest : SmallestEnd b list d end
        smallest =
            subst (SmallestEnd b list d) (sym closes_so.smallest)
            (subst (λ (k : ℕ). SmallestEnd b list k (least (ends_at b list k))) (sym closes_so.distance) (closes_at b list closes_so.first).end)

        is : back_path b list ≡ path (path_to b list (suc d) end)
        is =
            path-some b list closes_so.first
            ∙ ap (λ (k : ℕ). path (path_to b list (suc k) (least (ends_at b list k)))) (sym closes_so.distance)
            ∙ ap (λ (v : ℕ). path (path_to b list (suc d) v)) (sym closes_so.smallest)

        long : length (path_to b list (suc d) end) ≡ d + 2
        long = path-length b list (suc d) end ∙ omega arith

        pub near : d ≤ 512
        near = omega (arith, closes_so.distance, (closes_at b list closes_so.first).below, usable.read.nodes, usable.read.few-nodes)

        pub shows_long : (buffer : List ℕ) → length buffer < d + 2 → Shows b list at a a₃ [] (refused 11 (d + 2)) buffer buffer
        shows_long buffer h = into_answered (scratched closed) (long_into buffer is long h)

        is-sound : Sound b
        is-sound = sound b usable.links

        pub end_known : end < at.sizes.nodes
        end_known = member_below list-known (in_mem list smallest.listed)

        pub end_way : HasWay b a₃ (queue_at at) (d + 1) end
        end_way =
            subst (λ (k : ℕ). HasWay b a₃ (queue_at at) k end) (sym (add-one d))
            (fed_way is-sound usable.read.nodes closes_so.told d (omega arith) end smallest.fed)

        pub shows_path : (buffer : List ℕ) → d + 2 ≤ length buffer → {after : List ℕ}
            → after ≡ sets buffer 0 (way_told b a₃ (queue_at at) (d + 1) end) → Shows b list at a a₃ [] (answered (steps (d + 2))) buffer after
        shows_path buffer h written =
            into_answered (scratched closed)
            (fit_into buffer is long h
            (written
            ∙ ap (sets buffer 0)
            (ap (λ (k : ℕ). way_told b a₃ (queue_at at) k end) (add-one d)
            ∙ way_told_lem is-sound usable.read.nodes closes_so.told (suc d) (omega arith) end)))

-- ---- from the list itself

pub list_shows : {b a : List ℕ} {at : Layout} → Usable b a at → {list : List ℕ} {count : ℕ} {m : List ℕ}
    → AllNodes at.sizes.nodes list at.scratch count m → Scratched at a m → {o : List ℕ} {said : Answer Shown} {buffer after : List ℕ}
    → Shows b (list_in m at count) at m o [] said buffer after → Shows b list at a o (line_rules b list) said buffer after
list_shows {b} {at = at} usable {m = m} nodes kept {o} {said} {buffer} {after} got =
    list_into usable nodes kept (subst (λ (xs : List ℕ). Shows b xs at m o [] said buffer after) nodes.stands got)
