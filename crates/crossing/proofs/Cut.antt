-- An area crosses cut to its first 31,751 words, which is all that any call can use: every call says of them what it says of the whole area, and
-- the words after them stand as they stood.
-- Rests on accepted_theory (the words in use decide), lines_theory (what preparing writes has W words) and stepmap (the limits).
use Prim.Native.Nat.{ℕ, suc, ◌+◌, ◌≤◌, ◌<◌}
use native.Mathlib.Decide.{dec_lt}
use native.Mathlib.Omega.{arith}
use mathlib.Core.Path.{◌≡◌, refl, sym, ap, ◌∙◌, subst}
use mathlib.Core.Bool.{Bool, true, false, not}
use mathlib.Core.List.{List, [], ◌∷◌, ◌++◌}
use lib.Dec.{ltb}
use lib.ListN.{length, get_or, take, drop, replicate, set, length-set, length-take, length-replicate, take-append-drop}
use lib.Seq.{sets, set-append_left, get_or-take, take_all}
use borrow.Author.Tests.{lt-ltb, le-ltb}
use Rattle.lists.specs.Found.{placed}
use Rattle.paper.specs.Map.{N, L, within_limits}
use Rattle.paper.specs.Accepted.{accepted}
use Rattle.paper.specs.Area.{Section, size, start, W, word_of, K, cleared, prepared, scratch_cleared, written}
use Rattle.paper.specs.Lines.{tables}
use Rattle.paper.specs.Refusals.{
  Ruling,
  passed,
  refusal,
  refuse,
  answer,
  on_refusal,
  decide,
  rule1,
  rule2,
  rule3,
  rule45,
  rule6,
  rule7,
}
use Rattle.paper.specs.Calls.{untouched, unprepared, opening, area_after, prepare}
use Rattle.paper.proofs.Area.{W-most}
use Rattle.lines_theory.proofs.Prepared.{written-long}
use Rattle.lines_theory.proofs.Written.{section-room}
use Rattle.accepted_theory.specs.InUse.{SameInUse}
use Rattle.accepted_theory.specs.SameOutcomes.{SameAnswer, SameOutcomes}
use Rattle.accepted_theory.proofs.Alike.{Alike, in_the_end, next}
use Rattle.accepted_theory.proofs.InUse.{same-below}
use Rattle.accepted_theory.proofs.Calls.{same_outcomes}
use Rattle.accepted_theory.proofs.Refusals.{not_passed, tables-passed}
use Rattle.refusals.proofs.Rulings.{head_passed, roomy}
use Rattle.stepmap.proofs.Reading.{limits}
use Rattle.crossing.proofs.Refused.{Shut, refused_alike}

-- the words that cross, and those that stay behind
abbrev pub cut : List ℕ → List ℕ
cut a = take 31751 a

abbrev pub rest : List ℕ → List ℕ
rest a = drop 31751 a

-- ---- stores into the front of a list

module _ {A : Type 0} where
  sets-front : (l m : List A) (at : ℕ) (vs : List A) → at + length vs ≤ length l → sets (l ++ m) at vs ≡ sets l at vs ++ m
  sets-front l m at [] h = refl
  sets-front l m at (v ∷ vs) h =
      ap (λ (k : List A). sets k (suc at) vs) (set-append_left l m at v (omega arith))
      ∙ sets-front (set l at v) m (suc at) vs (rw length-set (omega arith))

sets-cut : (a : List ℕ) (at : ℕ) (vs : List ℕ) → at + length vs ≤ length (cut a) → sets a at vs ≡ sets (cut a) at vs ++ rest a
sets-cut a at vs h =
    ap (λ (l : List ℕ). sets l at vs) (sym (take-append-drop 31751 a)) ∙ sets-front (cut a) (rest a) at vs h

-- ---- the rules

-- 2 passed: W is at most 31,751
few_words : (b : List ℕ) → rule2 b ≡ passed → W b ≤ 31751
unfolding rule2 refuse
few_words b e = go (within_limits b) refl e
  where
    go : (t : Bool) → within_limits b ≡ t → refuse 2 (placed (not t) 0) ≡ passed → W b ≤ 31751
    go true q e = let few = limits b q in W-most b few.0.0 few.0.1 few.1
    go false q e = absurd (not_passed e)

-- tables of too many lines are not accepted
too_many : (b a : List ℕ) → L b + N b < K b a → rule7 b a ≡ refusal 7 0
unfolding rule7 refuse
too_many b a h = go (accepted b a) refl
  where
    go : (t : Bool) → accepted b a ≡ t → refuse 7 (placed (not t) 0) ≡ refusal 7 0
    go true e = absurd (few (tables-passed b a (ap (λ (t : Bool). refuse 7 (placed (not t) 0)) e)).few)
      where
        few : K b a ≤ L b + N b → ⊥
        few g = omega arith
    go false e = refl

-- what preparing writes
all-written : (b : List ℕ) → decide (unprepared b) ≡ passed → length (written b) ≡ W b
unfolding unprepared
all-written b e =
    let both = head_passed (rule45 b) (rule6 b ∷ []) (sym e) in
    written-long b (sym both.0) (sym (head_passed (rule6 b) [] both.1).0)

-- an area and itself
itself : (b a : List ℕ) → SameOutcomes b a a
itself b a =
    record {
      preparing = refl;
      line_check = λ list. refl;
      order_check = λ list. refl;
      line_check_with_ports = λ list inputs outputs. refl;
      order_check_with_ports = λ list inputs outputs. refl;
      intervals = λ list buffer. (refl, refl);
      check_by_records = λ words n. refl;
      extending = λ words n v. (refl, refl);
      nodes_in_records = λ words n buffer. (refl, refl);
      path_shown = λ list buffer. (refl, refl);
      lines_at_one = λ p. refl;
      view_place = λ p. refl;
      view = λ p. refl;
    }

module _ (b a : List ℕ) where
  -- an area has W words, or its first 31,751 words have
  rule3-cut : rule2 b ≡ passed → rule3 b a ≡ rule3 b (cut a)
  unfolding rule3
  rule3-cut e = ap (λ (short : Bool). refuse 3 (placed short 0)) (go (dec_lt (length a) (W b)))
    where
      go : Dec (length a < W b) → ltb (length a) (W b) ≡ ltb (length (cut a)) (W b)
      go (yes h) = lt-ltb (length a) (W b) h ∙ sym (lt-ltb (length (cut a)) (W b) (omega (arith, length-take 31751 a)))
      go (no h) =
          le-ltb (length a) (W b) (omega arith)
          ∙ sym (le-ltb (length (cut a)) (W b) (omega (arith, few_words b e, length-take 31751 a)))

  untouched-cut : decide (untouched b a) ≡ decide (untouched b (cut a))
  unfolding untouched
  untouched-cut = alike.rulings
    where
      alike : Alike {A = ℕ} (untouched b a) (untouched b (cut a)) 0 0
      alike = next refl (λ e1. next refl (λ e2. next (rule3-cut e2) (λ e3. in_the_end refl)))

  -- 1, 2 and 3 passed: the words that cross are enough
  enough : passed ≡ decide (untouched b a) → (W b ≤ 31751) × (W b ≤ length (cut a))
  unfolding untouched
  enough e =
      let later = (head_passed (rule1 b) (rule2 b ∷ rule3 b a ∷ []) e).1 in
      let both = head_passed (rule2 b) (rule3 b a ∷ []) later in
      let few = few_words b (sym both.0) in (
        few,
        omega (arith, roomy b a (head_passed (rule3 b a) [] both.1).0, length-take 31751 a),
      )

  -- ---- what is said

  -- the words in use cross
  module _ (few : W b ≤ 31751) where
    same_read : (i : ℕ) → i < W b → get_or (cut a) i 0 ≡ get_or a i 0
    same_read i h = get_or-take 31751 a i 0 (omega arith)

    in_use_cut : K b a ≤ L b + N b → SameInUse b a (cut a)
    in_use_cut lines = same-below b a (cut a) lines (λ i h. same_read i (omega (arith, section-room b Section.scratch)))

    count_cut : K b (cut a) ≡ K b a
    unfolding K word_of size
    count_cut = same_read (start b Section.line_count + 0) (omega (arith, section-room b Section.line_count))

    -- 7 refuses both
    shut_lines : L b + N b < K b a → rule7 b a ≡ rule7 b (cut a)
    shut_lines many = too_many b a many ∙ sym (too_many b (cut a) (omega (arith, count_cut)))

  -- the rules of the opening, one by one, where 2 refuses or the tables have too many lines
  shut_cut : (rule2 b ≡ passed → L b + N b < K b a) → Shut b a (cut a)
  unfolding opening untouched
  shut_cut many = record { same = alike.rulings; out = λ e. never (alike.results e) }
    where
      never : ◌≡◌ {A = ℕ} 0 1 → ⊥
      never e = omega arith

      alike : Alike {A = ℕ} (opening b a) (opening b (cut a)) 0 1
      alike =
          next refl (λ e1. next refl (λ e2. next (rule3-cut e2) (λ e3. next refl (λ e45.
          next (shut_lines (few_words b e2) (many e2)) (λ e7. absurd (not_passed (sym (too_many b a (many e2)) ∙ e7)))))))

  -- preparing reads no word
  preparing-cut : SameAnswer (prepare b a) (prepare b (cut a))
  unfolding prepare untouched
  preparing-cut = ap (λ (u : Ruling). answer u (tables b).count) alike.rulings
    where
      alike : Alike {A = ℕ} (untouched b a ++ unprepared b) (untouched b (cut a) ++ unprepared b) 0 0
      alike = next refl (λ e1. next refl (λ e2. next (rule3-cut e2) (λ e3. record { rulings = refl; results = λ e. refl })))

  pub outcomes_cut : SameOutcomes b a (cut a)
  outcomes_cut = go (rule2 b) refl (dec_lt (L b + N b) (K b a)) (dec_lt 31751 (length a))
    where
      go : (u : Ruling) → rule2 b ≡ u → Dec (L b + N b < K b a) → Dec (31751 < length a) → SameOutcomes b a (cut a)
      go (refusal n p) e many long = refused_alike (shut_cut (λ f. absurd (not_passed (sym e ∙ f)))) preparing-cut
      go passed e (yes many) long = refused_alike (shut_cut (λ f. many)) preparing-cut
      go passed e (no few) (yes long) =
          same_outcomes (in_use_cut (few_words b e) (omega arith)) (omega (arith, few_words b e)) (omega (arith, few_words b e, length-take 31751 a))
      go passed e (no few) (no short) = subst (SameOutcomes b a) (sym (take_all 31751 a (omega arith))) (itself b a)

  -- ---- what is left

  kept : (u : Ruling) (x y : List ℕ) → (passed ≡ u → x ≡ y ++ rest a) → on_refusal u a x ≡ on_refusal u (cut a) y ++ rest a
  unfolding on_refusal
  kept passed x y same = same refl
  kept (refusal n p) x y same = sym (take-append-drop 31751 a)

  left_cut : (x y : List ℕ) → (passed ≡ decide (untouched b a) → x ≡ y ++ rest a)
      → on_refusal (decide (untouched b a)) a x ≡ on_refusal (decide (untouched b (cut a))) (cut a) y ++ rest a
  left_cut x y same =
      kept (decide (untouched b a)) x y same ∙ ap (λ (u : Ruling). on_refusal u (cut a) y ++ rest a) untouched-cut

  pub after-cut : area_after b a ≡ area_after b (cut a) ++ rest a
  unfolding area_after scratch_cleared
  after-cut =
      left_cut (scratch_cleared b a) (scratch_cleared b (cut a))
      (λ e. sets-cut a (start b Section.scratch) (replicate (size b Section.scratch) 0)
      (omega (arith, section-room b Section.scratch, (enough e).1, length-replicate {A = ℕ} (size b Section.scratch) 0)))

  pub prepared-cut : (prepare b a).area ≡ (prepare b (cut a)).area ++ rest a
  unfolding prepare cleared prepared on_refusal
  prepared-cut = left_cut _ _ (λ e. go (decide (unprepared b)) refl (enough e).1)
    where
      go : (u : Ruling) → decide (unprepared b) ≡ u → W b ≤ length (cut a)
          → on_refusal u (cleared b a) (prepared b a) ≡ on_refusal u (cleared b (cut a)) (prepared b (cut a)) ++ rest a
      go passed e room = sets-cut a 0 (written b) (omega (arith, all-written b e))
      go (refusal n p) e room = sets-cut a 0 (replicate (W b) 0) (omega (arith, length-replicate {A = ℕ} (W b) 0))
