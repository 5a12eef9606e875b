-- The intervals of a list: a node is inside exactly if it is listed, and the nodes inside are the list, sorted.
-- Rests on Within, Tables and Chosen.
use Prim.Native.Nat.{ℕ, ◌≤◌, ◌<◌}
use native.Mathlib.Omega.{arith}
use mathlib.Core.Path.{◌≡◌, refl, sym, ap, ◌∙◌, subst}
use mathlib.Core.Bool.{Bool, true, false, not, ◌||◌, cond}
use mathlib.Core.List.Memᴰ
use mathlib.Core.List.{List, map, Memᴰ}
use lib.ListN.{length}
use Rattle.lists.specs.Lists.{upto, all, keep, member, sort_by}
use Rattle.lists.proofs.Count.{keep-upto}
use Rattle.lists.proofs.Members.{keep-there}
use Rattle.paper.specs.Map.{N}
use Rattle.paper.specs.Area.{W, position, lines_of, nodes_of}
use Rattle.paper.specs.Accepted.{Accepted}
use Rattle.paper.specs.Intervals.{Interval, records, apart, touched, listed_positions, interval, within, contiguous, intervals}
use Rattle.paper.specs.Records.{inside_on, inside, nodes_in}
use Rattle.accepted_theory.proofs.recorded.Among.{
  same_truth,
  any_alike,
  all_at,
  keep_at,
  keep_passes,
  member_at,
  member_in,
  PartOf,
  flat_map_at,
  flat_map_by,
  once_at,
  once_by,
}
use Rattle.accepted_theory.proofs.recorded.Chosen.{least-below, greatest-above}
use Rattle.accepted_theory.proofs.recorded.Tables.{some-line, on_line}
use Rattle.accepted_theory.proofs.recorded.Within.{within_at, Covering, covered, covering}

-- ---- the lines touched and the positions of listed nodes

module _ (b a list : List ℕ) where
  pub touched_at : {v l : ℕ} → Memᴰ v list → Memᴰ l (lines_of b a v) → Memᴰ l (touched b a list)
  unfolding touched
  touched_at {v} {l} m n = once_at l _ (flat_map_at (lines_of b a) m n)

  pub touched_by : {l : ℕ} → Memᴰ l (touched b a list) → PartOf (lines_of b a) l list
  unfolding touched
  touched_by {l} m = flat_map_by (lines_of b a) l list (once_by l _ m)

  pub listed_at : {v : ℕ} (l : ℕ) → Memᴰ v list → Memᴰ v (nodes_of b a l) → Memᴰ (position b a v) (listed_positions b a list l)
  unfolding listed_positions
  listed_at {v} l m n = Memᴰ.map (position b a) (keep_at (λ u. member u list) n (member_at m))

  listed-within : {v : ℕ} (l : ℕ) → Memᴰ v list → Memᴰ v (nodes_of b a l) → within (interval b a list l) (position b a v) ≡ true
  unfolding interval
  listed-within {v} l m n =
      within_at (interval b a list l) (position b a v) (least-below (listed_at l m n)) (greatest-above (listed_at l m n))

  -- a listed node on a line, by its position
  pub record ListedOn (l p : ℕ) : Type 0 where
    pub node : ℕ
    pub listed : Memᴰ node list
    pub on : Memᴰ node (nodes_of b a l)
    pub stands : position b a node ≡ p

  pub listed_by : {l p : ℕ} → Memᴰ p (listed_positions b a list l) → ListedOn l p
  unfolding listed_positions
  listed_by {l} {p} m =
      let w = Memᴰ.of_map (position b a) (keep (λ u. member u list) (nodes_of b a l)) m in
      record {
        node = w.0;
        listed = member_in w.0 list (keep_passes (λ u. member u list) (nodes_of b a l) w.1);
        on = keep-there (λ u. member u list) (nodes_of b a l) w.1;
        stands = w.2;
      }

-- ---- what the records of a list are

pub record IntervalsOf (b a list : List ℕ) (rs : List Interval) : Type 0 where
  pub each : rs ≡ map (interval b a list) (touched b a list)
  pub whole : all (contiguous b a list) (touched b a list) ≡ true

pub intervals_are : (b a list : List ℕ) {rs : List Interval} → intervals b a list ≡ records rs → IntervalsOf b a list rs
unfolding intervals
intervals_are b a list {rs} e = go (all (contiguous b a list) (touched b a list)) refl e
  where
    go : (t : Bool) → all (contiguous b a list) (touched b a list) ≡ t
        → cond t (records (map (interval b a list) (touched b a list))) apart ≡ records rs
        → IntervalsOf b a list rs
    go true p e = record { each = cc; whole = p }
    go false p e = absurd (let z : ◌≡◌ {A = ℕ} 0 1 = cc in omega arith)

module _ {b a list : List ℕ} {rs : List Interval} (held : IntervalsOf b a list rs) where
  -- each line touched has its interval among the records, and each record is one
  interval-there : {l : ℕ} → Memᴰ l (touched b a list) → Memᴰ (interval b a list l) rs
  interval-there {l} m = rw held.each (Memᴰ.map (interval b a list) m)

  pub record_of : {r : Interval} → Memᴰ r rs → (l : ℕ) × Memᴰ l (touched b a list) × (interval b a list l ≡ r)
  record_of {r} m =
      Memᴰ.of_map (interval b a list) (touched b a list) (subst (λ (xs : List Interval). Memᴰ r xs) held.each m)

-- one or not the other, and the other
unless : (s t : Bool) → (s || not t) ≡ true → t ≡ true → s ≡ true
unless true t e p = refl
unless false t e p = sym (ap not p) ∙ e

-- ---- inside exactly if listed

module _ {b a : List ℕ} (acc : Accepted b a) (room : W b ≤ length a) (list : List ℕ) {rs : List Interval} (found : intervals b a list ≡ records rs) where
  held : IntervalsOf b a list rs
  held = intervals_are b a list found

  -- a node within a record of the list: the line has no unlisted node between
  covered_listed : {v l : ℕ} → Memᴰ v (nodes_of b a l) → Covering b a rs v l → member v list ≡ true
  unfolding interval contiguous
  covered_listed {v} {l} on c =
      let w = record_of held c.there in
      let here : w.0 ≡ l = ap (λ (r : Interval). r.line) w.2 ∙ c.line in
      unless (member v list) (within (interval b a list w.0) (position b a v))
      (all_at (λ u. member u list || not (within (interval b a list w.0) (position b a u))) (all_at (contiguous b a list) held.whole w.1)
      (subst (λ (k : ℕ). Memᴰ v (nodes_of b a k)) (sym here) on))
      (ap (λ (r : Interval). within r (position b a v)) w.2 ∙ c.covers)

  -- a record of the list on each line of a listed node
  listed_covered : {v l : ℕ} → Memᴰ v list → Memᴰ l (lines_of b a v) → Memᴰ v (nodes_of b a l) → Covering b a rs v l
  unfolding interval
  listed_covered {v} {l} m n on =
      record {
        which = interval b a list l;
        there = interval-there held (touched_at b a list m n);
        line = refl;
        covers = listed-within b a list l m on;
      }

  -- on each of its lines a node is inside exactly if it is listed
  pub inside_on_lem : (v : ℕ) → v < N b → (l : ℕ) → Memᴰ l (lines_of b a v) → inside_on b a rs v l ≡ member v list
  inside_on_lem v h l n =
      same_truth (inside_on b a rs v l) (member v list) (λ e. covered_listed (on_line acc room h n) (covered b a rs v l e))
      (λ e. covering b a rs v l (listed_covered (member_in v list e) n (on_line acc room h n)))

  -- so a node is inside exactly if it is listed
  pub inside-listed : (v : ℕ) → v < N b → inside b a rs v ≡ member v list
  unfolding inside
  inside-listed v h = any_alike (inside_on b a rs v) (member v list) (some-line acc room v h).there (inside_on_lem v h)

  -- "Nodes in records": of the records of a list, the list by position, then number
  pub nodes_of_intervals : nodes_in b a rs ≡ sort_by (position b a) (keep (λ v. member v list) (upto (N b)))
  unfolding nodes_in
  nodes_of_intervals = ap (sort_by (position b a)) (keep-upto (inside b a rs) (λ v. member v list) (N b) inside-listed)
