-- What passes 12 and 13 is, up to order, the intervals of the nodes inside.
-- Rests on Ruled (what passes is allowed), Listed and Sorted.
use Prim.Native.Nat.{ℕ, ◌≤◌}
use native.Mathlib.Omega.{arith}
use mathlib.Core.Path.{◌≡◌, refl, sym, ap, ap₂, ◌∙◌, subst}
use mathlib.Core.Logic.{◌⊎◌, inl, inr}
use mathlib.Core.Bool.{Bool, true, false, not, ◌||◌, or-true}
use mathlib.Core.List.Memᴰ
use mathlib.Core.List.{List, [], ◌∷◌, map, Memᴰ}
use lib.ListN.{length}
use Rattle.lists.specs.Lists.{member, times}
use Rattle.lists.specs.Bounds.{Below}
use Rattle.lists.proofs.Count.{one_eq}
use Rattle.lists.proofs.Members.{member-times}
use Rattle.paper.specs.Map.{N}
use Rattle.paper.specs.Area.{W, position, lines_of, nodes_of}
use Rattle.paper.specs.Accepted.{Accepted}
use Rattle.paper.specs.Intervals.{Interval, records, touched, listed_positions, interval, within, contiguous, intervals}
use Rattle.paper.specs.Records.{nodes_in, records_in}
use Rattle.paper.specs.Refusals.{passed, whole_records, rule12, rule13}
use Rattle.accepted_theory.specs.recorded.Allowed.{Stands, Allowed}
use Rattle.accepted_theory.specs.recorded.Same.{NodesInside, UpToOrder}
use Rattle.accepted_theory.proofs.recorded.Among.{all_members, member_at, PartOf}
use Rattle.accepted_theory.proofs.recorded.Chosen.{least-is, greatest-is}
use Rattle.accepted_theory.proofs.recorded.Tables.{node-known, has-line}
use Rattle.accepted_theory.proofs.recorded.Within.{within_at, within_by, Covering, covered, covering, inside_at}
use Rattle.accepted_theory.proofs.recorded.Listed.{touched_at, touched_by, listed_at, listed_by}
use Rattle.accepted_theory.proofs.recorded.Passing.{lines-once, intervals_allowed}
use Rattle.accepted_theory.proofs.recorded.Same.{same_allowed}
use Rattle.accepted_theory.proofs.recorded.Ruled.{allowed, passes_12, passes_13}
use Rattle.accepted_theory.proofs.recorded.Sorted.{nodes-inside}

-- where each number stands at most once, two members with the same number are one
only : {A : Type 0} (g : A → ℕ) (xs : List A) → ((k : ℕ) → times k (map g xs) ≤ 1) → (x y : A)
    → Memᴰ x xs → Memᴰ y xs → g x ≡ g y → x ≡ y
only g [] few x y m n e = absurd (Memᴰ.not-nil m)
only {A} g (z ∷ zs) few x y m n e = go (Memᴰ.cases_cons m) (Memᴰ.cases_cons n) (only g zs (λ k. omega (arith, few k)) x y)
  where
    -- the first one's number does not come again
    again : (u w : A) → u ≡ z → Memᴰ w zs → g u ≡ g w → ⊥
    again u w q m e = omega (arith, few (g z), one_eq (g z) (g z) refl, ap (λ (k : ℕ). times k (map g zs)) (sym e ∙ ap g q), member-times g m)

    go : (x ≡ z) ⊎ Memᴰ x zs → (y ≡ z) ⊎ Memᴰ y zs → (Memᴰ x zs → Memᴰ y zs → g x ≡ g y → x ≡ y) → x ≡ y
    go (inl p) (inl q) ih = p ∙ sym q
    go (inl p) (inr q) ih = absurd (again x y p q e)
    go (inr p) (inl q) ih = absurd (again y x q p (sym e))
    go (inr p) (inr q) ih = ih p q e

module _ {b a : List ℕ} (acc : Accepted b a) (room : W b ≤ length a) (rs : List Interval) (ok : Allowed b a rs)
    (list : List ℕ) (nodes : NodesInside b a rs list) where
  -- ---- on a record's line the nodes inside are those within the record

  module _ {r : Interval} (m : Memᴰ r rs) where
    in_record_listed : {v : ℕ} → Memᴰ v (nodes_of b a r.line) → within r (position b a v) ≡ true → Memᴰ v list
    in_record_listed {v} on e =
        let l = ok.known r m in
        nodes.listed v (node-known acc room l on)
        (inside_at b a rs v (has-line acc room l on) (covering b a rs v r.line (record { which = r; there = m; line = refl; covers = e })))

    listed_in_record : {v : ℕ} → Memᴰ v (nodes_of b a r.line) → Memᴰ v list → within r (position b a v) ≡ true
    listed_in_record {v} on n =
        let c = covered b a rs v r.line (ok.whole v (nodes.known v n) (nodes.is_inside v n) r.line (has-line acc room (ok.known r m) on)) in
        ap (λ (q : Interval). within q (position b a v)) (only (λ q. q.line) rs ok.once r c.which m c.there (sym c.line)) ∙ c.covers

    -- a position within the record, of a node on its line, is one of a listed node
    end-listed : (p : ℕ) → Stands b a r.line p → r.lowest ≤ p → p ≤ r.highest → Memᴰ p (listed_positions b a list r.line)
    end-listed p s low high =
        let w = Memᴰ.of_map (position b a) (nodes_of b a r.line) s in
        let e = w.2 in
        Memᴰ.cast (sym e)
        (listed_at b a list r.line (in_record_listed w.1 (within_at r (position b a w.0) (omega arith) (omega arith))) w.1)

    bounds : (p : ℕ) → Memᴰ p (listed_positions b a list r.line) → (r.lowest ≤ p) × (p ≤ r.highest)
    bounds p n =
        let w = listed_by b a list n in
        subst (λ (q : ℕ). (r.lowest ≤ q) × (q ≤ r.highest)) w.stands (within_by r (position b a w.node) (listed_in_record w.on w.listed))

    interval-is : interval b a list r.line ≡ r
    unfolding interval
    interval-is =
        ap₂ (λ (p q : ℕ). record { line = r.line; lowest = p; highest = q })
        (least-is (end-listed r.lowest (ok.lowest_on r m) (omega arith) (ok.upward r m)) (λ p n. (bounds p n).0))
        (greatest-is (end-listed r.highest (ok.highest_on r m) (ok.upward r m) (omega arith)) (λ p n. (bounds p n).1))

  -- ---- the lines touched are those with a record

  line_covered : {l : ℕ} → (t : PartOf (lines_of b a) l list) → Covering b a rs t.which l
  line_covered {l} t =
      covered b a rs t.which l (ok.whole t.which (nodes.known t.which t.there) (nodes.is_inside t.which t.there) l t.holds)

  record_touched : {r : Interval} → Memᴰ r rs → Memᴰ r.line (touched b a list)
  record_touched {r} m =
      let w = listed_by b a list (end-listed m r.lowest (ok.lowest_on r m) (omega arith) (ok.upward r m)) in
      touched_at b a list w.listed (has-line acc room (ok.known r m) w.on)

  record_contiguous : {r : Interval} → Memᴰ r rs → contiguous b a list r.line ≡ true
  unfolding contiguous
  record_contiguous {r} m =
      rw (interval-is m)
      (all_members (λ v. member v list || not (within r (position b a v))) (nodes_of b a r.line)
      (λ v on. go v on (within r (position b a v)) refl))
    where
      go : (v : ℕ) → Memᴰ v (nodes_of b a r.line) → (t : Bool) → within r (position b a v) ≡ t → (member v list || not t) ≡ true
      go v on true e = ap (λ (s : Bool). s || false) (member_at (in_record_listed m on e))
      go v on false e = or-true (member v list)

  -- ---- so the intervals of the nodes inside are the records

  list-intervals : intervals b a list ≡ records (map (interval b a list) (touched b a list))
  unfolding intervals
  list-intervals = rw (all_members (contiguous b a list) (touched b a list) whole)
    where
      whole : (l : ℕ) → Memᴰ l (touched b a list) → contiguous b a list l ≡ true
      whole l n =
          let c = line_covered (touched_by b a list n) in
          rw (← c.line) (record_contiguous c.there)

  -- allowed records are, up to order, the intervals of the nodes inside, in whatever order those are listed
  pub allowed_are_intervals : UpToOrder b a list rs
  allowed_are_intervals =
      record {
        qs = map (interval b a list) (touched b a list);
        found = list-intervals;
        same = record {
          there = λ r m. Memᴰ.cast (sym (interval-is m)) (Memᴰ.map (interval b a list) (record_touched m));
          back = λ r m. back r (Memᴰ.of_map (interval b a list) (touched b a list) m);
          once = ok.once;
          once_back = lines-once b a list;
        };
      }
    where
      back : (r : Interval) → (l : ℕ) × Memᴰ l (touched b a list) × (interval b a list l ≡ r) → Memᴰ r rs
      back r w =
          let c = line_covered (touched_by b a list w.1) in
          Memᴰ.cast (sym w.2 ∙ ap (interval b a list) (sym c.line) ∙ interval-is c.there) c.there

-- ---- 12 and 13

module _ {b a : List ℕ} (acc : Accepted b a) (room : W b ≤ length a) (words : List ℕ) (n : ℕ) where
  -- what passes 12 and 13 is, up to order, the intervals of the nodes inside
  pub passed_are_intervals : rule12 b a words n ≡ passed → rule13 b a (records_in words n) ≡ passed
      → UpToOrder b a (nodes_in b a (records_in words n)) (records_in words n)
  passed_are_intervals p q =
      allowed_are_intervals acc room (records_in words n) (allowed b a words n p q) (nodes_in b a (records_in words n)) (nodes-inside b a (records_in words n))

  -- .. and what is, up to order, the intervals of known nodes passes
  pub intervals_pass : n ≤ whole_records words → (list : List ℕ) → Below (N b) list → UpToOrder b a list (records_in words n)
      → (rule12 b a words n ≡ passed) × (rule13 b a (records_in words n) ≡ passed)
  intervals_pass fits list known o =
      let ok = same_allowed o.same (intervals_allowed acc room list known o.found) in
      (passes_12 b a words n ok fits, passes_13 ok)
