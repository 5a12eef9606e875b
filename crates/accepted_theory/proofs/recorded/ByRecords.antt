-- "Check by records: the same walk on given records": on the intervals of a list it leaves what the line check of the list leaves.
-- Rests on Passing (12 and 13 pass) and Reading.
use Prim.Native.Nat.{ℕ, ◌≤◌, ◌<◌}
use native.Mathlib.Omega.{arith}
use borrow.Author.Tests.{lt-leb, ne_eqb, ltb-false}
use mathlib.Core.Path.{◌≡◌, refl, sym, ap, ap₂, ◌∙◌}
use mathlib.Core.Bool.{Bool, true, false, not}
use mathlib.Core.List.{List, [], ◌∷◌, ◌++◌, map, Memᴰ}
use lib.ListN.{length, get_or, take}
use lib.Seq.{sets}
use lib.Dec.{ltb, leb}
use Rattle.lists.specs.Lists.{member, Distinct}
use Rattle.lists.specs.Bounds.{Below}
use Rattle.lists.specs.Found.{placed}
use Rattle.lists.proofs.First.{first-none}
use Rattle.lists.proofs.Members.{member_no, member_below}
use Rattle.lists.proofs.Places.{place-known, place-new}
use Rattle.lists.proofs.Tests.{granted}
use Rattle.paper.specs.Map.{N}
use Rattle.paper.specs.Area.{W}
use Rattle.paper.specs.Accepted.{Accepted, accepted}
use Rattle.paper.specs.Intervals.{Reply, Interval, records, touched, interval, intervals}
use Rattle.paper.specs.Walk.{walk, walk_on, line_check}
use Rattle.paper.specs.Records.{records_in, words_of_records}
use Rattle.paper.specs.Refusals.{
  Ruling,
  passed,
  refusal,
  refuse,
  earliest,
  rule3,
  rule7,
  rule8,
  rule9,
  rule10,
  rule12,
  rule13,
  whole_records,
  decide,
  answer,
}
use Rattle.paper.specs.Calls.{untouched, area_after, opening, call, line_rules, is_node_convex, is_convex_by_intervals}
use Rattle.paper.proofs.Accepted.{accepted-says}
use Rattle.accepted_theory.proofs.recorded.Among.{distinct-few}
use Rattle.accepted_theory.proofs.recorded.Tables.{some-line}
use Rattle.accepted_theory.proofs.recorded.Listed.{touched_at, intervals_are}
use Rattle.accepted_theory.proofs.recorded.Passing.{intervals_pass_12, intervals_pass_13}
use Rattle.accepted_theory.proofs.recorded.Reading.{read_back, whole-kept}

-- ---- rules one after the other

-- rules that come after others count only where those pass
decide-after : (us vs ws : List Ruling) → (decide us ≡ passed → decide vs ≡ decide ws) → decide (us ++ vs) ≡ decide (us ++ ws)
unfolding decide
decide-after [] vs ws h = h refl
decide-after (passed ∷ us) vs ws h = decide-after us vs ws h
decide-after (refusal n p ∷ us) vs ws h = refl

-- where all pass each one does
each_passes : {u : Ruling} {us : List Ruling} → decide us ≡ passed → Memᴰ u us → u ≡ passed
unfolding decide
each_passes e (mathlib.Core.List.Memᴰ.head {x = v} {xs = us} q) = q ∙ first v e
  where
    first : (v : Ruling) → decide (v ∷ us) ≡ passed → v ≡ passed
    first passed e = refl
    first (refusal n p) e = e
each_passes e (mathlib.Core.List.Memᴰ.tail {x = v} {xs = us} m) = each_passes (rest v e) m
  where
    rest : (v : Ruling) → decide (v ∷ us) ≡ passed → decide us ≡ passed
    rest passed e = e
    rest (refusal n p) e = cc

refuse_not : (k : ℕ) (t : Bool) → refuse k (placed t 0) ≡ passed → t ≡ false
unfolding refuse
refuse_not k true e = cc
refuse_not k false e = refl

-- what the opening tells of the tables
record Opened (b a : List ℕ) : Type 0 where
  acc : Accepted b a
  room : W b ≤ length a

opened : (b a : List ℕ) → decide (opening b a) ≡ passed → Opened b a
unfolding opening untouched rule3 rule7
opened b a e =
    let third : rule3 b a ≡ passed = each_passes e (mathlib.Core.List.Memᴰ.tail (mathlib.Core.List.Memᴰ.tail (mathlib.Core.List.Memᴰ.head refl))) in
    let last : rule7 b a ≡ passed =
    each_passes e (mathlib.Core.List.Memᴰ.tail (mathlib.Core.List.Memᴰ.tail (mathlib.Core.List.Memᴰ.tail (mathlib.Core.List.Memᴰ.tail (mathlib.Core.List.Memᴰ.head refl)))))
    in
    record {
      acc = granted (accepted-says b a) (refuse_not 7 (not (accepted b a)) last);
      room = ltb-false (length a) (W b) (refuse_not 3 (ltb (length a) (W b)) third);
    }

-- ---- the rules of the two checks

rule8_passes : (n : ℕ) → 0 < n → rule8 n ≡ passed
unfolding rule8 refuse
rule8_passes n h = rw (ne_eqb n 0 (λ e. omega arith))

rule9_passes : (b list : List ℕ) → Below (N b) list → rule9 b list ≡ passed
unfolding rule9 earliest refuse
rule9_passes b list known =
    ap (refuse 9)
    (first-none (λ i. leb (N b) (get_or list i 0)) (length list) (λ i h. lt-leb (N b) (get_or list i 0) (place-known (N b) list i known h)))

rule10_passes : (list : List ℕ) → Distinct list → rule10 list ≡ passed
unfolding rule10 refuse
rule10_passes list distinct =
    ap (refuse 10)
    (first-none (λ i. member (get_or list i 0) (take i list)) (length list)
    (λ i h. member_no (get_or list i 0) (take i list) (place-new list i h (distinct-few (get_or list i 0) list distinct))))

three_pass : {u v w : Ruling} → u ≡ passed → v ≡ passed → w ≡ passed → decide (u ∷ v ∷ w ∷ []) ≡ passed
unfolding decide
three_pass p q r = rw (p, q, r)

-- what has a member is not empty
not_empty_lem : {A : Type 0} {x : A} {xs : List A} → Memᴰ x xs → 0 < length xs
not_empty_lem (mathlib.Core.List.Memᴰ.head {xs = xs} e) = omega arith
not_empty_lem (mathlib.Core.List.Memᴰ.tail {xs = xs} m) = omega arith

-- ---- the two checks

module _ (b a list : List ℕ) {rs : List Interval} (some-listed : 0 < length list) (distinct : Distinct list)
    (known : Below (N b) list) (found : intervals b a list ≡ records rs) where
  -- each node has a line, so a list with a node has a record
  some_record : Opened b a → 0 < length rs
  some_record o = go list some-listed known (intervals_are b a list found).each
    where
      go : (xs : List ℕ) → 0 < length xs → Below (N b) xs → rs ≡ map (interval b a xs) (touched b a xs) → 0 < length rs
      go [] h below e = absurd (omega arith)
      go (v ∷ vs) h below e =
          let there : Memᴰ v (v ∷ vs) = mathlib.Core.List.Memᴰ.head refl in
          let line = some-line o.acc o.room v (member_below below there) in
          omega (arith, ap length e, not_empty_lem (mathlib.Core.List.Memᴰ.map (interval b a (v ∷ vs)) (touched_at b a (v ∷ vs) there line.there)))

  module _ (words : List ℕ) (reads : records_in words (length rs) ≡ rs) (fits : length rs ≤ whole_records words) where
    same-ruling : decide (opening b a ++ (rule8 (length rs) ∷ rule12 b a words (length rs) ∷ rule13 b a (records_in words (length rs)) ∷ []))
        ≡ decide (opening b a ++ line_rules b list)
    unfolding line_rules
    same-ruling =
        decide-after (opening b a) (rule8 (length rs) ∷ rule12 b a words (length rs) ∷ rule13 b a (records_in words (length rs)) ∷ []) (line_rules b list)
        (λ e. let o = opened b a e in
        three_pass (rule8_passes (length rs) (some_record o)) (intervals_pass_12 o.acc o.room list known found words reads fits)
        (ap (rule13 b a) reads ∙ intervals_pass_13 o.acc o.room list known found)
        ∙ sym (three_pass (rule8_passes (length list) some-listed) (rule9_passes b list known) (rule10_passes list distinct)))

    same-walk : walk b a (records_in words (length rs)) ≡ line_check b a list
    unfolding line_check walk_on
    same-walk = ap (walk b a) reads ∙ sym (ap (walk_on b a) found)

    -- on words that hold the intervals of a list, check by records leaves what the line check leaves, refusals of the opening too
    pub by_records_lem : is_convex_by_intervals b a words (length rs) ≡ is_node_convex b a list
    unfolding is_convex_by_intervals is_node_convex call
    by_records_lem =
        ap₂ (λ (u : Ruling) (x : Reply × ℕ). record { answer = answer u x; area = area_after b a }) same-ruling same-walk

  -- .. as on a buffer into which they were written
  pub by_written-records : (buffer : List ℕ) → length rs ≤ whole_records buffer
      → is_convex_by_intervals b a (sets buffer 0 (words_of_records rs)) (length rs) ≡ is_node_convex b a list
  by_written-records buffer fits =
      by_records_lem (sets buffer 0 (words_of_records rs)) (read_back buffer rs fits) (rw whole-kept fits)
