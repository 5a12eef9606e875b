-- Collecting as a whole: the counts are set to 0, the list's nodes are added, and the records are tested.
-- Rests on Cleared, Nodes, Records and Words, and on accepted_theory (the small map is 01's; intervals by the words in use).
use Prim.Native.Nat.{ℕ, ◌+◌, ◌*◌, ◌≤◌}
use native.Mathlib.Omega.{arith}
use mathlib.Core.Path.{◌≡◌, refl, sym, ap, ◌∙◌, subst}
use mathlib.Core.Logic.{inl, inr}
use mathlib.Core.Bool.{Bool, true, false, cond}
use mathlib.Core.List.{List, [], ◌∷◌, map}
use lib.ListN.{length, get_or, take, replicate, length-map, get_or-map}
use lib.Seq.{sets}
use Rattle.lists.specs.Lists.{all, upto, In}
use Rattle.paper.specs.Intervals.{Records, records, apart, intervals}
use Rattle.paper.specs.Calls.{wrote, said, words_of}
use Rattle.accepted_theory.specs.Every.{Every}
use Rattle.accepted_theory.specs.SameTables.{KnownNode}
use Rattle.accepted_theory.proofs.Intervals.{intervals-same}
use Rattle.accepted_theory.specs.collecting.SmallMap.{Held, add_nodes, fills}
use Rattle.accepted_theory.specs.collecting.Collected.{fresh}
use Rattle.accepted_theory.proofs.collecting.Sized.{sized-room}
use Rattle.accepted_theory.proofs.collecting.Intervals.{intervals_by_map}
use Rattle.tables.specs.declared.Layout.{Layout}
use Rattle.tables.specs.Placed.{scratch_size}
use Rattle.tables.specs.Usable.{Usable, Scratched}
use Rattle.tables.proofs.Within.{within_both, within_wider}
use Rattle.tables.proofs.Usable.{tables_still}
use Rattle.take_in.specs.Listed.{Listed, list_in}
use Rattle.take_in.proofs.Listed.{long-list, listing}
use Rattle.intervals.specs.declared.layout.MapRoom.{MapRoom}
use Rattle.std.specs.Prelude.{Option, Some, None}
use Rattle.intervals.specs.Holds.{Became, Holds, MapFits, add_words}
use Rattle.intervals.specs.Filling.{TestedAll, fills_record}
use Rattle.intervals.specs.Answer.{Collected, intervals_said}
use Rattle.intervals.proofs.Nodes.{words_are}
use Rattle.intervals.proofs.Words.{words_are as record-words}
use Rattle.intervals.proofs.Cleared.{cleared-kept, cleared, same-list, can_add-nodes}
use Rattle.intervals.proofs.Records.{can_test_all, all_fill}

every_in : (P : ℕ → Type 0) (xs : List ℕ) → ((x : ℕ) → In x xs → P x) → Every P xs
every_in P [] h = tt
every_in P (x ∷ xs) h = (h x (inl refl), every_in P xs (λ y i. h y (inr i)))

-- an interval of a small map, by its place
get_or-interval : (hs : List Held) (i : ℕ) → get_or (map (λ h. h.interval) hs) i (fresh 0 0).interval ≡ (get_or hs i (fresh 0 0)).interval
get_or-interval hs i = get_or-map (λ h. h.interval) hs i (fresh 0 0)

module _ {b a : List ℕ} {at : Layout} {count : ℕ} (usable : Usable b a at) (listed : Listed a at count) {room : MapRoom} (fits : MapFits at room)
    {c : List ℕ} (is : c ≡ sets a room.counts (replicate room.lines 0)) {rs : List ℕ} {m ws : List ℕ} {made : ℕ}
    (became : Became (add_words c at (list_in c at count)) room c rs 0 m ws made) (roomy : 3 * (at.sizes.nodes + at.sizes.links) ≤ length rs) where
  abbrev list : List ℕ
  list = list_in a at count

  abbrev held : List Held
  held = add_nodes b c list []

  holds : Holds held room m ws made
  holds =
      subst (λ (hs : List Held). Holds hs room m ws made)
      (ap (λ (vs : List ℕ). add_words c at vs []) (same-list usable listed fits is) ∙ words_are (cleared usable listed fits is) list [])
      (became.holds [] (can_add-nodes usable listed fits is rs roomy).empty)

  scratched : Scratched at c m
  scratched = within_wider became.kept at.scratch (scratch_size at.sizes) (omega (arith, fits)) (omega (arith, fits))

  few : length list ≤ 512
  few = omega (arith, long-list usable listed, listed.few, usable.read.few-nodes)

  pub can_test : TestedAll m at room ws made
  can_test =
      can_test_all (cleared usable listed fits is) list (listing usable listed) fits holds scratched few (omega (arith, became.long, fits.lines))

  by_map : intervals b a list ≡ cond (all (fills b c) held) (records (map (λ h. h.interval) held)) apart
  by_map =
      intervals-same (tables_still usable (cleared-kept usable listed fits is)) list (every_in (KnownNode b) list (listing usable listed).known)
      ∙ intervals_by_map (cleared usable listed fits is).tables list (listing usable listed)

  -- what the test of the records says
  tested : {r : Bool} → r ≡ all (fills_record m at room ws) (upto made) → intervals b a list ≡ cond r (records (map (λ h. h.interval) held)) apart
  tested e =
      by_map
      ∙ ap (λ (t : Bool). cond t (records (map (λ h. h.interval) held)) apart)
      (sym (e ∙ all_fill (cleared usable listed fits is) list (listing usable listed) fits holds scratched))

  answer : (found : Records) → intervals b a list ≡ found → (r : Option ℕ) → intervals_said r ≡ said found
      → take (length (words_of found)) ws ≡ words_of found → Collected b a at count rs r ws m
  answer found e r says written =
      record {
        says = says ∙ ap said (sym e);
        written = subst (λ (f : Records). take (length (words_of f)) ws ≡ words_of f) (sym e) written;
        long = became.long;
        kept = within_both (cleared-kept usable listed fits is) scratched;
      }

  pub not_contiguous : {r : Bool} → r ≡ all (fills_record m at room ws) (upto made) → r ≡ false → Collected b a at count rs None ws m
  unfolding said words_of
  not_contiguous {r} e fails =
      answer apart (tested e ∙ ap (λ (t : Bool). cond t (records (map (λ h. h.interval) held)) apart) fails) None refl refl

  pub contiguous : {r : Bool} → r ≡ all (fills_record m at room ws) (upto made) → r ≡ true → Collected b a at count rs (Some made) ws m
  unfolding said words_of
  contiguous {r} e passes =
      answer (records (map (λ h. h.interval) held))
      (tested e ∙ ap (λ (t : Bool). cond t (records (map (λ h. h.interval) held)) apart) passes)
      (Some made)
      (ap wrote (sym (length-map held (λ h. h.interval) ∙ holds.many)))
      (record-words (map (λ h. h.interval) held) ws (fresh 0 0).interval
      (omega (arith, length-map held (λ h. h.interval), sized-room holds.sized, became.long, fits.lines))
      (λ i h. holds.records i (omega (arith, length-map held (λ h. h.interval))) ∙ sym (get_or-interval held i)))
