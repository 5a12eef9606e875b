-- The intervals of a list of known nodes are the same for two areas whose tables read the same.
-- Rests on Every.
use Prim.Native.Nat.{ℕ, ◌<◌}
use mathlib.Core.Path.{◌≡◌, ap, ap₂, ◌∙◌}
use mathlib.Core.Bool.{Bool, true, false, not, ◌||◌, cond}
use mathlib.Core.List.{List, map, flat_map}
use Rattle.lists.specs.Lists.{all, keep, member, least, greatest, once}
use Rattle.paper.specs.Area.{K, position, lines_of, nodes_of}
use Rattle.paper.specs.Intervals.{Interval, records, apart, touched, listed_positions, interval, within, contiguous, intervals}
use Rattle.accepted_theory.specs.Every.{Every}
use Rattle.accepted_theory.specs.SameTables.{KnownNode, KnownLine, KnownRecord, KnownRecords, SameTables}
use Rattle.accepted_theory.proofs.Every.{every-keep, every-once, every_map, every-flat_map, map-every, flat_map-every, all-every}

module _ {b a c : List ℕ} (t : SameTables b a c) (list : List ℕ) where
  pub touched-same : Every (KnownNode b) list → touched b a list ≡ touched b c list
  unfolding touched
  touched-same known = ap once (flat_map-every (KnownNode b) (lines_of b a) (lines_of b c) t.lines list known)

  pub touched-known : Every (KnownNode b) list → Every (KnownLine b a) (touched b a list)
  unfolding touched
  touched-known known =
      every-once (KnownLine b a) (flat_map (lines_of b a) list) (every-flat_map (KnownNode b) (KnownLine b a) (lines_of b a) t.lines_known list known)

  pub listed_positions-same : (l : ℕ) → l < K b a → listed_positions b a list l ≡ listed_positions b c list l
  unfolding listed_positions
  listed_positions-same l h =
      map-every (KnownNode b) (position b a) (position b c) t.positions (keep (λ v. member v list) (nodes_of b a l))
      (every-keep (KnownNode b) (λ v. member v list) (nodes_of b a l) (t.nodes_known l h))
      ∙ ap (λ (vs : List ℕ). map (position b c) (keep (λ v. member v list) vs)) (t.nodes l h)

  pub interval-same : (l : ℕ) → l < K b a → interval b a list l ≡ interval b c list l
  unfolding interval
  interval-same l h =
      ap (λ (ps : List ℕ). record { line = l; lowest = least ps; highest = greatest ps }) (listed_positions-same l h)

  pub contiguous-same : (l : ℕ) → l < K b a → contiguous b a list l ≡ contiguous b c list l
  unfolding contiguous
  contiguous-same l h =
      all-every (KnownNode b) (λ v. member v list || not (within (interval b a list l) (position b a v)))
      (λ v. member v list || not (within (interval b c list l) (position b c v)))
      (λ v g. ap₂ (λ (r : Interval) (p : ℕ). member v list || not (within r p)) (interval-same l h) (t.positions v g))
      (nodes_of b a l)
      (t.nodes_known l h)
      ∙ ap (all (λ v. member v list || not (within (interval b c list l) (position b c v)))) (t.nodes l h)

  pub intervals-same : Every (KnownNode b) list → intervals b a list ≡ intervals b c list
  unfolding intervals
  intervals-same known =
      ap₂ (λ (ok : Bool) (rs : List Interval). cond ok (records rs) apart)
      (all-every (KnownLine b a) (contiguous b a list) (contiguous b c list) contiguous-same (touched b a list) (touched-known known)
      ∙ ap (all (contiguous b c list)) (touched-same known))
      (map-every (KnownLine b a) (interval b a list) (interval b c list) interval-same (touched b a list) (touched-known known)
      ∙ ap (map (interval b c list)) (touched-same known))

  -- the records stand on known lines
  pub intervals-known : Every (KnownNode b) list → KnownRecords b a (intervals b a list)
  unfolding intervals interval
  intervals-known known = go (all (contiguous b a list) (touched b a list))
    where
      go : (ok : Bool) → KnownRecords b a (cond ok (records (map (interval b a list) (touched b a list))) apart)
      go true = every_map (KnownLine b a) (KnownRecord b a) (interval b a list) (λ l h. h) (touched b a list) (touched-known known)
      go false = tt
