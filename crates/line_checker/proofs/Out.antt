-- A result that stands in a room goes out to a lent buffer, of words or of bytes: 11 where it does not fit, and else its words alone.
-- Rests on take_in's Into and words's Buffers.
use Prim.Native.Nat.{ℕ, ◌*◌, ◌/◌, ◌≤◌, ◌<◌}
use native.Mathlib.Omega.{arith}
use mathlib.Core.Path.{◌≡◌, refl, sym, ap, ◌∙◌, subst}
use mathlib.Core.List.{List, [], ◌∷◌, ◌++◌}
use lib.ListN.{length, take, length-take}
use lib.Seq.{sets}
use Rattle.std.specs.Prelude.{Option, Some, None, Ok}
use Rattle.answers.specs.Said.{written_said}
use Rattle.paper.specs.Calls.{Written, wrote, found_apart, said, words_of, needed}
use Rattle.paper.specs.Intervals.{Records, records, apart}
use Rattle.paper.specs.Refusals.{Ruling, passed, refusal, Answer, answer, answered, refused, decide, on_refusal, rule11, whole_records}
use Rattle.paper.specs.Words.{words_from, put_words}
use Rattle.accepted_theory.proofs.recorded.Reading.{length_words}
use Rattle.refusals.proofs.Rulings.{no_refusal, first_decides, then_decides}
use Rattle.tables.specs.declared.Layout.{Layout}
use Rattle.tables.specs.Answered.{AnsweredInto, AnsweredBytes}
use Rattle.tables.specs.Usable.{Scratched}
use Rattle.take_in.proofs.Into.{Into, into_refused, into_passed, into_answered, too_long, short_enough}
use Rattle.words.proofs.RoundTrip.{Below, read_and_put}
use Rattle.words.proofs.Turns.{length-words_from}
use Rattle.words.proofs.Buffers.{put_result}
use Rattle.line_checker.specs.InRoom.{InRoom, itself}
use Rattle.line_checker.proofs.Records.{Wrote, wrote_some, begun_long}

-- ---- rules that pass before others

module _ {A : Type 0} (us : List Ruling) (e : passed ≡ decide us) (rules : List Ruling) (x : A) where
  pub said-after : {y : Answer A} → y ≡ answer (decide rules) x → y ≡ answer (decide (us ++ rules)) x
  said-after f = f ∙ ap (λ (u : Ruling). answer u x) (sym (then_decides us rules e))

  into_after : {y : Answer A} {buffer after result : List ℕ} → Into y rules x buffer after result → Into y (us ++ rules) x buffer after result
  into_after {y} {buffer} {after} {result} got =
      record {
        says = said-after got.says;
        written = got.written ∙ ap (λ (u : Ruling). on_refusal u buffer (sets buffer 0 result)) (sym (then_decides us rules e));
      }

-- an answer tells that no rule refused, and what is said
module _ {A : Type 0} where
  no_answer : {i v : ℕ} {x : A} → answered x ≡ refused i v → ⊥
  no_answer e = let z : ◌≡◌ {A = ℕ} 0 1 = cc in omega arith

  -- .. and a refusal is none
  pub never_answered : {i v : ℕ} (x : A) → refused i v ≡ answered x → ⊥
  never_answered x e = no_answer (sym e)

  pub answer-told : (u : Ruling) {x y : A} → answered x ≡ answer u y → (passed ≡ u) × (x ≡ y)
  unfolding answer
  answer-told passed e = (refl, cc)
  answer-told (refusal i v) e = absurd (no_answer e)

-- a refusal leaves nothing in the room
pub refused_in : {A R : Type 0} {told : R → A} {words : R → List ℕ} {at : Layout} {a m : List ℕ} → Scratched at a m → {rules : List Ruling} {i v : ℕ}
    → refusal i v ≡ decide rules → (found : R) (room : List ℕ) → InRoom told words at a m (refused i v) rules found room
unfolding answer
refused_in {told = told} kept e found room =
    record { says = ap (λ (u : Ruling). answer u (told found)) e; kept = kept; written = λ fine. absurd (no_refusal (fine ∙ sym e)) }

-- ---- 11, and the buffer

module _ {A R : Type 0} {told : R → A} {words : R → List ℕ} {at : Layout} {a m : List ℕ} {x : Answer A} {rules : List Ruling} {found : R} {room : List ℕ}
    (got : InRoom told words at a m x rules found room) (whole many : ℕ) (buffer : List ℕ) where
  -- what is no result leaves the buffer as it stands
  pub none_out : (passed ≡ decide rules → (words found ≡ []) × (many ≡ 0))
      → AnsweredInto at a m x (rules ++ (rule11 whole many ∷ [])) (told found) buffer buffer (words found)
  unfolding answer
  none_out none = into_answered got.kept (go (decide rules) refl)
    where
      so : {u : Ruling} → decide rules ≡ u → answer u (told found) ≡ x
      so e = sym (got.says ∙ ap (λ (u : Ruling). answer u (told found)) e)

      go : (u : Ruling) → decide rules ≡ u → Into x (rules ++ (rule11 whole many ∷ [])) (told found) buffer buffer (words found)
      go passed e =
          into_after rules (sym e) (rule11 whole many ∷ []) (told found)
          (subst (λ (y : Answer A). Into y (rule11 whole many ∷ []) (told found) buffer buffer (words found)) (so e)
          (into_passed (rule11 whole many ∷ []) (told found) buffer (words found) (short_enough whole many (omega (arith, (none (sym e)).1)))
          (sym (ap (sets buffer 0) (none (sym e)).0))))
      go (refusal i v) e =
          subst (λ (y : Answer A). Into y (rules ++ (rule11 whole many ∷ [])) (told found) buffer buffer (words found)) (so e)
          (into_refused (rules ++ (rule11 whole many ∷ [])) (told found) buffer (words found)
          (sym (first_decides rules (rule11 whole many ∷ []) (λ f. no_refusal (sym f ∙ e)) ∙ e)))

  module _ (fine : passed ≡ decide rules) where
    pub long-out : whole < many → AnsweredInto at a m (refused 11 many) (rules ++ (rule11 whole many ∷ [])) (told found) buffer buffer (words found)
    long-out h =
        into_answered got.kept (
        into_after rules fine (rule11 whole many ∷ []) (told found)
        (into_refused (rule11 whole many ∷ []) (told found) buffer (words found) (too_long whole many h))
        )

    pub fit-out : many ≤ whole → {after : List ℕ} → after ≡ sets buffer 0 (take (length (words found)) room)
        → AnsweredInto at a m x (rules ++ (rule11 whole many ∷ [])) (told found) buffer after (words found)
    unfolding answer
    fit-out h {after} e =
        into_answered got.kept (
        into_after rules fine (rule11 whole many ∷ []) (told found)
        (subst (λ (y : Answer A). Into y (rule11 whole many ∷ []) (told found) buffer after (words found))
        (sym (got.says ∙ ap (λ (u : Ruling). answer u (told found)) (sym fine)))
        (into_passed (rule11 whole many ∷ []) (told found) buffer (words found) (short_enough whole many h) (e ∙ ap (sets buffer 0) (got.written fine))))
        )

-- ---- records

-- what tells how many records there are, and what tells of none
pub tells_many : {r : Option ℕ} {made : ℕ} → r ≡ Some made → written_said (Ok r) ≡ answered (wrote made)
tells_many e = ap (λ (r : Option ℕ). written_said (Ok r)) e

pub tells_none : {at : Layout} {a m : List ℕ} {rules : List Ruling} {found : Records} {room : List ℕ} {r : Option ℕ} → r ≡ None
    → InRoom said words_of at a m (written_said (Ok r)) rules found room → InRoom said words_of at a m (answered found_apart) rules found room
tells_none e got = record { says = ap (λ (r : Option ℕ). written_said (Ok r)) (sym e) ∙ got.says; kept = got.kept; written = got.written }

-- .. not of any
pub never_wrote : (k : ℕ) → answered found_apart ≡ answered (wrote k) → ⊥
never_wrote k e = let z : ◌≡◌ {A = ℕ} 0 1 = cc in omega arith

module _ {at : Layout} {a m : List ℕ} {x : Answer Written} {rules : List Ruling} {found : Records} {room : List ℕ}
    (got : InRoom said words_of at a m x rules found room) (buffer : List ℕ) where
  -- "11 is not given for "not contiguous" or "not extendable"."
  pub no_records : ((k : ℕ) → x ≡ answered (wrote k) → ⊥)
      → AnsweredInto at a m x (rules ++ (rule11 (whole_records buffer) (needed found) ∷ [])) (said found) buffer buffer (words_of found)
  unfolding answer said words_of needed
  no_records none =
      none_out got (whole_records buffer) (needed found) buffer (λ fine. go found (got.says ∙ ap (λ (u : Ruling). answer u (said found)) (sym fine)))
    where
      go : (f : Records) → x ≡ answered (said f) → (words_of f ≡ []) × (needed f ≡ 0)
      go (records rs) e = absurd (none _ e)
      go apart e = (refl, refl)

  module _ {made : ℕ} (e : x ≡ answered (wrote made)) where
    so : (passed ≡ decide rules) × (wrote made ≡ said found)
    so = answer-told (decide rules) (sym e ∙ got.says)

    held : Wrote found made
    held = wrote_some found made so.1

    many : made ≡ needed found
    unfolding needed
    many = held.many ∙ ap needed (sym held.is)

    long : 3 * made ≡ length (words_of found)
    unfolding words_of
    long = ap (λ (k : ℕ). 3 * k) held.many ∙ sym (length_words held.list) ∙ ap (λ (f : Records). length (words_of f)) (sym held.is)

    pub records-inside : 3 * made ≤ length room
    records-inside = omega (arith, long, begun_long room (words_of found) (got.written so.0))

    pub records-long : length buffer / 3 < made
        → AnsweredInto at a m (refused 11 made) (rules ++ (rule11 (whole_records buffer) (needed found) ∷ [])) (said found) buffer buffer (words_of found)
    unfolding whole_records
    records-long h =
        subst (λ (k : ℕ). AnsweredInto at a m (refused 11 k) (rules ++ (rule11 (whole_records buffer) (needed found) ∷ [])) (said found) buffer buffer (words_of found))
        (sym many)
        (long-out got (whole_records buffer) (needed found) buffer so.0 (omega (arith, many)))

    pub records-fit : made ≤ length buffer / 3 → {after : List ℕ} → after ≡ sets buffer 0 (take (3 * made) room)
        → AnsweredInto at a m (answered (wrote made)) (rules ++ (rule11 (whole_records buffer) (needed found) ∷ [])) (said found) buffer after (words_of found)
    unfolding whole_records
    records-fit h {after} f =
        subst (λ (y : Answer Written). AnsweredInto at a m y (rules ++ (rule11 (whole_records buffer) (needed found) ∷ [])) (said found) buffer after (words_of found)) e
        (fit-out got (whole_records buffer) (needed found) buffer so.0 (omega (arith, many)) (f ∙ ap (λ (k : ℕ). sets buffer 0 (take k room)) long))

-- ---- nodes

module _ {at : Layout} {a m : List ℕ} {x : Answer ℕ} {rules : List Ruling} {found room : List ℕ} (got : InRoom length itself at a m x rules found room)
    (buffer : List ℕ) where
  pub no_nodes : ((k : ℕ) → x ≡ answered k → ⊥)
      → AnsweredInto at a m x (rules ++ (rule11 (length buffer) (length found) ∷ [])) (length found) buffer buffer found
  unfolding answer
  no_nodes none =
      none_out got (length buffer) (length found) buffer
      (λ fine. absurd (none (length found) (got.says ∙ ap (λ (u : Ruling). answer u (length found)) (sym fine))))

  module _ {made : ℕ} (e : x ≡ answered made) where
    all : (passed ≡ decide rules) × (made ≡ length found)
    all = answer-told (decide rules) (sym e ∙ got.says)

    pub nodes-inside : made ≤ length room
    nodes-inside = omega (arith, all.1, begun_long room found (got.written all.0))

    pub nodes-long : length buffer < made
        → AnsweredInto at a m (refused 11 made) (rules ++ (rule11 (length buffer) (length found) ∷ [])) (length found) buffer buffer found
    nodes-long h =
        subst (λ (k : ℕ). AnsweredInto at a m (refused 11 k) (rules ++ (rule11 (length buffer) (length found) ∷ [])) (length found) buffer buffer found)
        (sym all.1)
        (long-out got (length buffer) (length found) buffer all.0 (omega (arith, all.1)))

    pub nodes-fit : made ≤ length buffer → {after : List ℕ} → after ≡ sets buffer 0 (take made room)
        → AnsweredInto at a m (answered made) (rules ++ (rule11 (length buffer) (length found) ∷ [])) (length found) buffer after found
    nodes-fit h {after} f =
        subst (λ (y : Answer ℕ). AnsweredInto at a m y (rules ++ (rule11 (length buffer) (length found) ∷ [])) (length found) buffer after found) e
        (fit-out got (length buffer) (length found) buffer all.0 (omega (arith, all.1)) (f ∙ ap (λ (k : ℕ). sets buffer 0 (take k room)) all.1))

-- ---- bytes

module _ {A : Type 0} {at : Layout} {a m : List ℕ} {x : Answer A} {rules : List Ruling} {y : A} {bytes : List ℕ} (small : Below 256 bytes)
    {result : List ℕ} where
  -- words that stand as they stood leave the bytes so
  pub bytes-kept : AnsweredInto at a m x rules y (words_from bytes) (words_from bytes) result → AnsweredBytes at a m x rules y bytes bytes result
  bytes-kept got = record { says = got.says; kept = got.kept; written = sym (read_and_put bytes small) ∙ ap (put_words bytes) got.written }

  -- words written over the first ones are put over the first bytes
  pub bytes-put : (words : List ℕ) → AnsweredInto at a m x rules y (words_from bytes) (sets (words_from bytes) 0 words) result → 2 * length words ≤ length bytes
      → {after : List ℕ} → after ≡ put_words bytes words → AnsweredBytes at a m x rules y bytes after result
  bytes-put words got fits e =
      record {
        says = got.says;
        kept = got.kept;
        written = e ∙ sym (put_result bytes words small fits) ∙ ap (put_words bytes) got.written;
      }

-- the first k words of a room fit into so many bytes
pub cut_fits : (bytes room : List ℕ) (k : ℕ) → 2 * k ≤ length bytes → 2 * length (take k room) ≤ length bytes
cut_fits bytes room k h = omega (arith, length-take k room)

module _ {at : Layout} {a m : List ℕ} {x : Answer Written} {rules : List Ruling} {found : Records} {room : List ℕ}
    (got : InRoom said words_of at a m x rules found room) (bytes : List ℕ) (small : Below 256 bytes) {made : ℕ} (e : x ≡ answered (wrote made)) where
  pub records-long-bytes : length bytes / 2 / 3 < made
      → AnsweredBytes at a m (refused 11 made) (rules ++ (rule11 (whole_records (words_from bytes)) (needed found) ∷ [])) (said found) bytes bytes (words_of found)
  records-long-bytes h = bytes-kept small (records-long got (words_from bytes) e (omega (arith, length-words_from bytes)))

  pub records-put : made ≤ length bytes / 2 / 3 → {after : List ℕ} → after ≡ put_words bytes (take (3 * made) room)
      → AnsweredBytes at a m (answered (wrote made)) (rules ++ (rule11 (whole_records (words_from bytes)) (needed found) ∷ [])) (said found) bytes after (words_of found)
  records-put h f =
      bytes-put small (take (3 * made) room) (records-fit got (words_from bytes) e (omega (arith, length-words_from bytes)) refl)
      (cut_fits bytes room (3 * made) (omega arith)) f

module _ {at : Layout} {a m : List ℕ} {x : Answer ℕ} {rules : List Ruling} {found room : List ℕ} (got : InRoom length itself at a m x rules found room)
    (bytes : List ℕ) (small : Below 256 bytes) {made : ℕ} (e : x ≡ answered made) where
  pub nodes-long-bytes : length bytes / 2 < made
      → AnsweredBytes at a m (refused 11 made) (rules ++ (rule11 (length (words_from bytes)) (length found) ∷ [])) (length found) bytes bytes found
  nodes-long-bytes h = bytes-kept small (nodes-long got (words_from bytes) e (omega (arith, length-words_from bytes)))

  pub nodes-put : made ≤ length bytes / 2 → {after : List ℕ} → after ≡ put_words bytes (take made room)
      → AnsweredBytes at a m (answered made) (rules ++ (rule11 (length (words_from bytes)) (length found) ∷ [])) (length found) bytes after found
  nodes-put h f =
      bytes-put small (take made room) (nodes-fit got (words_from bytes) e (omega (arith, length-words_from bytes)) refl)
      (cut_fits bytes room made (omega arith)) f
