-- Records pass 12 and 13 exactly if they are allowed.
-- Rests on Within, Among and lists.First.
use Prim.Native.Nat.{ℕ, zero, suc, ◌+◌, ◌-◌, ◌≤◌, ◌<◌}
use native.Mathlib.Decide.{dec_lt}
use native.Mathlib.Omega.{arith}
use borrow.Author.Tests.{eqb-true, leb-false, lt-leb, ltb-false, le-ltb, not-false}
use mathlib.Core.Path.{◌≡◌, refl, sym, ap, ap₂, ◌∙◌, subst}
use mathlib.Core.Bool.{Bool, true, false, not, ◌&&◌, ◌||◌, cond, true≢false}
use mathlib.Core.List.Memᴰ
use mathlib.Core.List.{List, map, Memᴰ}
use lib.Dec.{eqb, leb, ltb}
use Rattle.lists.specs.Lists.{from, upto, one, count, times, member}
use Rattle.lists.specs.Found.{Found, absent, at, first}
use Rattle.lists.proofs.Count.{one_eq, count_map}
use Rattle.lists.proofs.First.{first_absent, first-none}
use Rattle.lists.proofs.Members.{member_yes, member_no}
use Rattle.lists.proofs.Tests.{or_false_both}
use Rattle.lists.proofs.Upto.{from-add, upto-suc, count-append}
use Rattle.paper.specs.Map.{N}
use Rattle.paper.specs.Area.{K, position, nodes_of}
use Rattle.paper.specs.Intervals.{Interval}
use Rattle.paper.specs.Records.{record_at, records_in}
use Rattle.paper.specs.Refusals.{passed, refusal, refuse, on_line, used_before, bad_record, whole_records, rule12, straddles, rule13}
use Rattle.accepted_theory.specs.recorded.Allowed.{Stands, lines, Allowed}
use Rattle.accepted_theory.proofs.recorded.Among.{and_both, member_at, member_in, upto_at, upto-below}
use Rattle.accepted_theory.proofs.recorded.Within.{whole_passes, inside-all}

-- ---- a count over numbers in a row, number by number

count-before : (f : ℕ → Bool) (i n : ℕ) → i < n → count f (upto i) + one (f i) ≤ count f (upto n)
count-before f i n h =
    omega (
      arith,
      ap (λ (m : ℕ). count f (upto m)) (apart n i h) ∙ ap (count f) (from-add 0 i (suc (n - suc i))),
      count-append f (upto i) (from (0 + i) (suc (n - suc i))),
      ap (λ (m : ℕ). one (f m)) (plain i),
    )
  where
    apart : (n i : ℕ) → i < n → n ≡ i + suc (n - suc i)
    apart n i h = omega arith

    plain : (i : ℕ) → 0 + i ≡ i
    plain i = omega arith

-- where one that passes has none before it, there is one at most
count-few : (f : ℕ → Bool) (n : ℕ) → ((i : ℕ) → i < n → f i ≡ true → count f (upto i) ≡ 0) → count f (upto n) ≤ 1
count-few f zero h = omega arith
count-few f (suc n) h = go (f n) refl (count-few f n (λ i l. h i (omega arith)))
  where
    longer : count f (upto (suc n)) ≡ count f (upto n) + one (f n)
    longer = omega (arith, ap (count f) (upto-suc n), count-append f (upto n) (from n 1))

    go : (t : Bool) → f n ≡ t → count f (upto n) ≤ 1 → count f (upto (suc n)) ≤ 1
    go true e ih = omega (arith, longer, ap one e, h n (omega arith) e)
    go false e ih = omega (arith, longer, ap one e)

-- ---- one record

or_both : {s t : Bool} → s ≡ false → t ≡ false → (s || t) ≡ false
or_both p q = ap₂ (λ (x y : Bool). x || y) p q

-- what 12 asks of record i
record Good (b a words : List ℕ) (i : ℕ) : Type 0 where
  known : (record_at words i).line < K b a
  fresh : used_before words i (record_at words i).line ≡ false
  lowest_on : Stands b a (record_at words i).line (record_at words i).lowest
  highest_on : Stands b a (record_at words i).line (record_at words i).highest
  upward : (record_at words i).lowest ≤ (record_at words i).highest

module _ (b a words : List ℕ) (i : ℕ) where
  good : bad_record b a words i ≡ false → Good b a words i
  unfolding bad_record on_line
  good e =
      let r = record_at words i in
      let low_on : Bool = on_line b a r.line r.lowest in
      let high_on : Bool = on_line b a r.line r.highest in
      let unknown : Bool = leb (K b a) r.line in
      let used : Bool = used_before words i r.line in
      let last = or_false_both (unknown || used || not (low_on && high_on)) (ltb r.highest r.lowest) e in
      let third = or_false_both (unknown || used) (not (low_on && high_on)) last.0 in
      let second = or_false_both unknown used third.0 in
      let ends = and_both low_on high_on (not-false (low_on && high_on) third.1) in
      record {
        known = leb-false (K b a) r.line second.0;
        fresh = second.1;
        lowest_on = member_in r.lowest (map (position b a) (nodes_of b a r.line)) ends.0;
        highest_on = member_in r.highest (map (position b a) (nodes_of b a r.line)) ends.1;
        upward = ltb-false r.highest r.lowest last.1;
      }

  not_bad : Good b a words i → bad_record b a words i ≡ false
  unfolding bad_record on_line
  not_bad g =
      let r = record_at words i in
      or_both
      (or_both (or_both (lt-leb (K b a) r.line g.known) g.fresh)
      (ap₂ (λ (s t : Bool). not (s && t)) (member_at g.lowest_on) (member_at g.highest_on)))
      (le-ltb r.highest r.lowest g.upward)

-- ---- lines used before

member-none : (n : ℕ) (xs : List ℕ) → member n xs ≡ false → times n xs ≡ 0
member-none n xs e = go (dec_lt 0 (times n xs))
  where
    go : Dec (0 < times n xs) → times n xs ≡ 0
    go (yes h) = absurd (true≢false (sym (member_yes n xs h) ∙ e))
    go (no h) = omega arith

-- record i has that line
has_line : List ℕ → ℕ → ℕ → Bool
has_line words l i = eqb l (record_at words i).line

times-lines : (words : List ℕ) (l n : ℕ) → times l (lines (records_in words n)) ≡ count (has_line words l) (upto n)
unfolding records_in has_line
times-lines words l n = count_map (eqb l) (λ r. r.line) (map (record_at words) (upto n)) ∙ count_map (λ r. eqb l r.line) (record_at words) (upto n)

-- ---- 12 and 13

refuse_absent : (k : ℕ) (f : Found) → refuse k f ≡ passed → f ≡ absent
unfolding refuse
refuse_absent k absent e = refl
refuse_absent k (at i) e = cc

module _ (b a words : List ℕ) (n : ℕ) where
  none_bad : rule12 b a words n ≡ passed → (i : ℕ) → i < n → Good b a words i
  unfolding rule12
  none_bad e i h = good b a words i (first_absent (bad_record b a words) n (go (ltb (whole_records words) n) e) i h)
    where
      go : (t : Bool) → cond t (refusal 12 (whole_records words)) (refuse 12 (first (bad_record b a words) n)) ≡ passed
          → first (bad_record b a words) n ≡ absent
      go true e = cc
      go false e = refuse_absent 12 (first (bad_record b a words) n) e

  -- what holds of each record in the words holds of each in the list
  each : (P : Interval → Type 0) → ((i : ℕ) → i < n → P (record_at words i)) → (r : Interval) → Memᴰ r (records_in words n) → P r
  unfolding records_in
  each P h r m =
      let w = Memᴰ.of_map (record_at words) (upto n) m in
      subst P w.2 (h w.0 (upto-below w.0 n w.1))

  none_before : rule12 b a words n ≡ passed → (l i : ℕ) → i < n → has_line words l i ≡ true → count (has_line words l) (upto i) ≡ 0
  unfolding used_before has_line
  none_before p l i h e =
      sym (times-lines words l i)
      ∙ member-none l (lines (records_in words i))
      (ap (λ (k : ℕ). used_before words i k) (eqb-true l (record_at words i).line e) ∙ (none_bad p i h).fresh)

  pub allowed : rule12 b a words n ≡ passed → rule13 b a (records_in words n) ≡ passed → Allowed b a (records_in words n)
  unfolding rule13
  allowed p q =
      record {
        known = each (λ r. r.line < K b a) (λ i h. (none_bad p i h).known);
        once = λ l. omega (arith, times-lines words l n, count-few (has_line words l) n (none_before p l));
        lowest_on = each (λ r. Stands b a r.line r.lowest) (λ i h. (none_bad p i h).lowest_on);
        highest_on = each (λ r. Stands b a r.line r.highest) (λ i h. (none_bad p i h).highest_on);
        upward = each (λ r. r.lowest ≤ r.highest) (λ i h. (none_bad p i h).upward);
        whole = λ v h. inside-all b a (records_in words n) v
            (first_absent (straddles b a (records_in words n)) (N b) (refuse_absent 13 (first (straddles b a (records_in words n)) (N b)) q) v h);
      }

  there : (i : ℕ) → i < n → Memᴰ (record_at words i) (records_in words n)
  unfolding records_in
  there i h = Memᴰ.map (record_at words) (upto_at i n h)

  new_line : Allowed b a (records_in words n) → (i : ℕ) → i < n → used_before words i (record_at words i).line ≡ false
  unfolding used_before has_line
  new_line ok i h =
      let l = (record_at words i).line in
      member_no l (lines (records_in words i))
      (omega
      (arith, times-lines words l i, times-lines words l n, ok.once l, count-before (has_line words l) i n h, one_eq l l refl))

  stands : Allowed b a (records_in words n) → (i : ℕ) → i < n → Good b a words i
  stands ok i h =
      record {
        known = ok.known (record_at words i) (there i h);
        fresh = new_line ok i h;
        lowest_on = ok.lowest_on (record_at words i) (there i h);
        highest_on = ok.highest_on (record_at words i) (there i h);
        upward = ok.upward (record_at words i) (there i h);
      }

  pub passes_12 : Allowed b a (records_in words n) → n ≤ whole_records words → rule12 b a words n ≡ passed
  unfolding rule12 refuse
  passes_12 ok fits = rw (le-ltb (whole_records words) n fits, first-none (bad_record b a words) n (λ i h. not_bad b a words i (stands ok i h)))

pub passes_13 : {b a : List ℕ} {rs : List Interval} → Allowed b a rs → rule13 b a rs ≡ passed
unfolding rule13 refuse
passes_13 {b} {a} {rs} ok = ap (refuse 13) (first-none (straddles b a rs) (N b) (λ v h. whole_passes b a rs v (ok.whole v h)))
