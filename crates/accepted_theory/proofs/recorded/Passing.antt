-- The intervals of a list are allowed, so words that hold them pass 12 and 13.
-- Rests on Listed (inside exactly if listed) and Ruled (what 12 and 13 say).
use Prim.Native.Nat.{ℕ, ◌≤◌, ◌<◌}
use native.Mathlib.Omega.{arith}
use mathlib.Core.Path.{◌≡◌, sym, ◌∙◌, subst}
use mathlib.Core.List.Memᴰ
use mathlib.Core.List.{List, map, flat_map, map-map, map-id, Memᴰ}
use lib.ListN.{length}
use Rattle.lists.specs.Lists.{times}
use Rattle.lists.specs.Bounds.{Below}
use Rattle.lists.proofs.Members.{member_below}
use Rattle.paper.specs.Map.{N}
use Rattle.paper.specs.Area.{W, K, position, lines_of}
use Rattle.paper.specs.Accepted.{Accepted}
use Rattle.paper.specs.Intervals.{Interval, records, touched, listed_positions, interval, intervals}
use Rattle.paper.specs.Records.{records_in}
use Rattle.paper.specs.Refusals.{passed, whole_records, rule12, rule13}
use Rattle.accepted_theory.specs.recorded.Allowed.{Stands, lines, Allowed}
use Rattle.accepted_theory.proofs.recorded.Among.{PartOf, times-once}
use Rattle.accepted_theory.proofs.recorded.Chosen.{least_in, least-below, greatest_in, greatest-above}
use Rattle.accepted_theory.proofs.recorded.Tables.{line_known, on_line}
use Rattle.accepted_theory.proofs.recorded.Listed.{touched_by, listed_at, listed_by, intervals_are, record_of, inside_on_lem, inside-listed}
use Rattle.accepted_theory.proofs.recorded.Ruled.{passes_12, passes_13}

module _ (b a list : List ℕ) where
  -- the intervals have the lines touched, each once
  pub lines-once : (l : ℕ) → times l (lines (map (interval b a list) (touched b a list))) ≤ 1
  unfolding interval touched
  lines-once l =
      rw (map-map (λ r. r.line) (interval b a list) (touched b a list) ∙ map-id (touched b a list)) (times-once l (flat_map (lines_of b a) list))

  listed-stands : (l : ℕ) {p : ℕ} → Memᴰ p (listed_positions b a list l) → Stands b a l p
  listed-stands l m =
      let w = listed_by b a list m in
      Memᴰ.cast (sym w.stands) (Memᴰ.map (position b a) w.on)

module _ {b a : List ℕ} (acc : Accepted b a) (room : W b ≤ length a) (list : List ℕ) (known : Below (N b) list) where
  -- a position of a listed node on a line touched
  some-position : {l : ℕ} → (t : PartOf (lines_of b a) l list) → Memᴰ (position b a t.which) (listed_positions b a list l)
  some-position {l} t = listed_at b a list l t.there (on_line acc room (member_below known t.there) t.holds)

  module _ {rs : List Interval} (found : intervals b a list ≡ records rs) where
    -- what holds of the interval of each line touched holds of each record
    each : (P : Interval → Type 0) → ((l : ℕ) → PartOf (lines_of b a) l list → P (interval b a list l)) → (r : Interval) → Memᴰ r rs → P r
    each P h r m =
        let w = record_of (intervals_are b a list found) m in
        subst P w.2 (h w.0 (touched_by b a list w.1))

    pub intervals_allowed : Allowed b a rs
    unfolding interval
    intervals_allowed =
        record {
          known = each (λ r. r.line < K b a) (λ l t. line_known acc room (member_below known t.there) t.holds);
          once = λ l. subst (λ (xs : List Interval). times l (lines xs) ≤ 1) (sym (intervals_are b a list found).each) (lines-once b a list l);
          lowest_on = each (λ r. Stands b a r.line r.lowest) (λ l t. listed-stands b a list l (least_in (some-position t)));
          highest_on = each (λ r. Stands b a r.line r.highest) (λ l t. listed-stands b a list l (greatest_in (some-position t)));
          upward = each (λ r. r.lowest ≤ r.highest) (λ l t. omega (arith, least-below (some-position t), greatest-above (some-position t)));
          whole = λ v h e l m. inside_on_lem acc room list found v h l m ∙ sym (inside-listed acc room list found v h) ∙ e;
        }

    -- words that hold the records of a list pass 12
    pub intervals_pass_12 : (words : List ℕ) → records_in words (length rs) ≡ rs → length rs ≤ whole_records words
        → rule12 b a words (length rs) ≡ passed
    intervals_pass_12 words reads fits = passes_12 b a words (length rs) (subst (Allowed b a) (sym reads) intervals_allowed) fits

    -- .. and the records pass 13
    pub intervals_pass_13 : rule13 b a rs ≡ passed
    intervals_pass_13 = passes_13 intervals_allowed
