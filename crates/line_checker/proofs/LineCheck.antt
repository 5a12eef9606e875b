-- The line check put together: the intervals of the nodes in the scratch, and the walk on the area after them, answer as on the area with
-- the list; and that answers as the area that the question began with, however the list came.
-- Rests on Records, FromList, accepted_theory (intervals pass 12) and accepted_theory (two areas with the same tables).
use Prim.Native.Nat.{ℕ, ◌*◌, ◌≤◌, ◌<◌}
use native.Mathlib.Omega.{arith}
use mathlib.Core.Path.{◌≡◌, sym, ap, ◌∙◌, subst}
use mathlib.Core.List.{List}
use lib.ListN.{length, take}
use Rattle.lists.specs.Bounds.{Below}
use Rattle.lists.proofs.Sections.{length_part, get_d_part}
use Rattle.paper.specs.Map.{N}
use Rattle.paper.specs.Intervals.{No, Records, intervals}
use Rattle.paper.specs.Walk.{walk, walk_on, line_check}
use Rattle.paper.specs.Records.{records_in, words_of_records}
use Rattle.paper.specs.Refusals.{passed, rule12}
use Rattle.paper.specs.Calls.{words_of}
use Rattle.order_theory.proofs.Refusals.{sound}
use Rattle.accepted_theory.specs.Every.{Every}
use Rattle.accepted_theory.specs.SameTables.{KnownNode, KnownRecord, KnownRecords}
use Rattle.accepted_theory.proofs.Every.{every-below}
use Rattle.accepted_theory.proofs.Intervals.{intervals-same, intervals-known}
use Rattle.accepted_theory.proofs.Walk.{walk_same, line_check-same}
use Rattle.accepted_theory.proofs.recorded.Passing.{intervals_pass_12}
use Rattle.accepted_theory.proofs.recorded.Reading.{length_words}
use Rattle.tables.specs.declared.Layout.{Layout}
use Rattle.tables.specs.Usable.{Usable, Scratched}
use Rattle.tables.specs.Recorded.{Recorded}
use Rattle.tables.proofs.Within.{within_both}
use Rattle.tables.proofs.Usable.{roomy, tables_still}
use Rattle.take_in.specs.Taking.{Known}
use Rattle.take_in.specs.Listed.{Listed, list_in}
use Rattle.take_in.specs.Said.{TakenIn}
use Rattle.take_in.proofs.ListTaken.{nodes-below}
use Rattle.intervals.specs.Answer.{Collected}
use Rattle.answers.specs.Said.{verdict_said}
use Rattle.answers.specs.declared.Verdict.{Verdict}
use Rattle.walk.specs.Walks.{Walks}
use Rattle.std.specs.Prelude.{Some, None, Ok}
use Rattle.line_checker.proofs.FromList.{nodes, list-kept}
use Rattle.line_checker.proofs.Records.{Wrote, wrote_some, wrote_none, read_first, begun_long, whole_room, good_still}

-- ---- the nodes in the scratch

module _ {b a : List ℕ} {at : Layout} (usable : Usable b a at) {c : ℕ} (there : Listed a at c) where
  known : Known at.sizes.nodes (list_in a at c)
  known =
      record {
        entry = λ i h.
            let inside : i < c = omega (arith, length_part a at.scratch c (omega (arith, there.few, usable.room))) in
            subst (λ (x : ℕ). x < at.sizes.nodes) (sym (get_d_part a at.scratch c i 0 inside)) (there.known i inside);
      }

  below : Below (N b) (list_in a at c)
  below = nodes-below usable known

  module _ {rs words o : List ℕ} where
    -- "no with count 0 when not contiguous"
    pub gap_said : Collected b a at c rs None words o → (No, 0) ≡ line_check b a (list_in a at c)
    unfolding line_check walk_on
    gap_said got = ap (walk_on b a) (sym (wrote_none (intervals b a (list_in a at c)) got.says))

    module _ {made : ℕ} (got : Collected b a at c rs (Some made) words o) where
      held : Wrote (intervals b a (list_in a at c)) made
      held = wrote_some (intervals b a (list_in a at c)) made got.says

      known-records : Every (KnownRecord b a) held.list
      known-records =
          subst (KnownRecords b a) held.is
          (intervals-known (tables_still usable got.kept) (list_in a at c) (every-below (N b) (list_in a at c) below))

      -- the words begin with the records
      begins : take (length (words_of_records held.list)) words ≡ words_of_records held.list
      unfolding words_of
      begins = subst (λ (found : Records). take (length (words_of found)) words ≡ words_of found) held.is got.written

      fits : 3 * made ≤ length words
      fits = omega (arith, begun_long words (words_of_records held.list) begins, length_words held.list, held.many)

      reads : records_in words made ≡ held.list
      reads = ap (records_in words) held.many ∙ read_first words held.list (omega (arith, whole_room words made fits, held.many)) begins

      pass_12 : rule12 b a words made ≡ passed
      pass_12 =
          ap (rule12 b a words) held.many
          ∙ intervals_pass_12 usable.tables (roomy usable) (list_in a at c) below held.is words (ap (records_in words) (sym held.many) ∙ reads)
          (omega (arith, whole_room words made fits, held.many))

      pub recorded : Recorded b o words made
      recorded = good_still (tables_still usable got.kept) words made fits pass_12

      module _ {q : List ℕ} {w : Verdict} (walked : Walks b o words made at w q) where
        pub walk_said : verdict_said w ≡ line_check b a (list_in a at c)
        unfolding line_check walk_on
        walk_said =
            walked.said ∙ ap (walk b o) reads
            ∙ sym (walk_same (tables_still usable got.kept) (sound b usable.links) held.list known-records)
            ∙ ap (walk_on b a) (sym held.is)

        pub walk_kept : Scratched at a q
        walk_kept = within_both got.kept walked.kept

-- ---- a list that was taken in

module _ {b a : List ℕ} {at : Layout} (usable : Usable b a at) {list : List ℕ} {count : ℕ} {m : List ℕ}
    (took : TakenIn at.sizes.nodes list a at.scratch (Ok count) m) where
  every : Every (KnownNode b) list
  every = every-below (N b) list (nodes-below usable (nodes usable took).known)

  -- the intervals on the area with the list, and the check, are those on the area before
  pub intervals-before : intervals b m (list_in m at count) ≡ intervals b a list
  intervals-before =
      ap (intervals b m) (nodes usable took).stands ∙ sym (intervals-same (tables_still usable (list-kept usable took)) list every)

  pub check_before : line_check b m (list_in m at count) ≡ line_check b a list
  check_before =
      ap (line_check b m) (nodes usable took).stands
      ∙ sym (line_check-same (tables_still usable (list-kept usable took)) (sound b usable.links) list every)
