-- Records that are the same up to order: as many, with the same nodes inside, and allowed together.
-- Rests on Within and lists.Compare.
use Prim.Native.Nat.{ℕ, suc, ◌+◌, ◌≤◌, ◌<◌}
use native.Mathlib.Decide.{dec_lt}
use native.Mathlib.Omega.{arith}
use mathlib.Core.Path.{◌≡◌, ap, sym, ◌∙◌}
use mathlib.Core.Bool.{true}
use mathlib.Core.List.{List}
use lib.ListN.{length, length-map}
use Rattle.lists.specs.Lists.{times, greatest}
use Rattle.lists.specs.Bounds.{Below}
use Rattle.lists.proofs.Compare.{same_length}
use Rattle.lists.proofs.Members.{member_for, member-times}
use Rattle.paper.specs.Area.{lines_of}
use Rattle.paper.specs.Intervals.{Interval}
use Rattle.paper.specs.Records.{inside_on, inside}
use Rattle.accepted_theory.specs.recorded.Allowed.{lines, Allowed}
use Rattle.accepted_theory.specs.recorded.Same.{SameRecords}
use Rattle.accepted_theory.proofs.recorded.Among.{any_by, times-there}
use Rattle.accepted_theory.proofs.recorded.Chosen.{greatest-above}
use Rattle.accepted_theory.proofs.recorded.Within.{covered, covering, inside_at}

turned : {rs qs : List Interval} → SameRecords rs qs → SameRecords qs rs
turned s = record { there = s.back; back = s.there; once = s.once_back; once_back = s.once }

-- ---- as many

below-greatest : (n : ℕ) (xs : List ℕ) → greatest xs < n → Below n xs
below-greatest n xs h k l = go (dec_lt 0 (times k xs))
  where
    go : Dec (0 < times k xs) → times k xs ≡ 0
    go (yes some) = absurd (omega (arith, greatest-above (times-there k xs some)))
    go (no none) = omega arith

-- a line with a record in one list has one in the other
line-there : {rs qs : List Interval} → SameRecords rs qs → (l : ℕ) → times l (lines rs) ≤ times l (lines qs)
line-there {rs} {qs} s l = go (dec_lt 0 (times l (lines rs)))
  where
    go : Dec (0 < times l (lines rs)) → times l (lines rs) ≤ times l (lines qs)
    go (yes some) =
        let r = member_for (λ q. q.line) l rs some in
        omega (arith, s.once l, member-times (λ q. q.line) (s.there r.which r.there), ap (λ (k : ℕ). times k (lines qs)) r.has)
    go (no none) = omega arith

pub same-many : {rs qs : List Interval} → SameRecords rs qs → length rs ≡ length qs
same-many {rs} {qs} s =
    let n = suc (greatest (lines rs) + greatest (lines qs)) in
    sym (length-map rs (λ r. r.line))
    ∙ same_length n (lines rs) (lines qs) (below-greatest n (lines rs) (omega arith)) (below-greatest n (lines qs) (omega arith))
    (λ l h. omega (arith, line-there s l, line-there (turned s) l))
    ∙ length-map qs (λ r. r.line)

-- ---- the same nodes inside

module _ (b a : List ℕ) {rs qs : List Interval} (s : SameRecords rs qs) where
  inside-on-there : (v l : ℕ) → inside_on b a rs v l ≡ true → inside_on b a qs v l ≡ true
  inside-on-there v l e =
      let c = covered b a rs v l e in
      covering b a qs v l (record { which = c.which; there = s.there c.which c.there; line = c.line; covers = c.covers })

  inside-there : (v : ℕ) → inside b a rs v ≡ true → inside b a qs v ≡ true
  unfolding inside
  inside-there v e =
      let w = any_by (inside_on b a rs v) (lines_of b a v) e in
      inside_at b a qs v w.there (inside-on-there v w.which w.passes)

-- ---- allowed together

pub same_allowed : {b a : List ℕ} {rs qs : List Interval} → SameRecords rs qs → Allowed b a qs → Allowed b a rs
same_allowed {b} {a} s ok =
    record {
      known = λ r m. ok.known r (s.there r m);
      once = s.once;
      lowest_on = λ r m. ok.lowest_on r (s.there r m);
      highest_on = λ r m. ok.highest_on r (s.there r m);
      upward = λ r m. ok.upward r (s.there r m);
      whole = λ v h e l m. inside-on-there b a (turned s) v l (ok.whole v h (inside-there b a s v e) l m);
    }
