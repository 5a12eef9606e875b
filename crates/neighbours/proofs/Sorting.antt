-- What a sort of the links by port leaves in the area: its two sections, and every other as it stood.
-- Rests on lists.Sections and the counting sort's laws.
use Prim.Native.Nat.{ℕ, suc, ◌+◌, ◌-◌, ◌≤◌, ◌<◌}
use native.Mathlib.Omega.{arith}
use mathlib.Core.Path.{◌≡◌, sym, ap, ◌∙◌, subst}
use mathlib.Core.Logic.{inl, inr}
use mathlib.Core.List.{List, map}
use lib.ListN.{length}
use lib.Seq.{sets, length-sets}
use Rattle.lists.specs.Lists.{upto}
use Rattle.lists.proofs.Sections.{Disjoint, part, part-sets_in, part-sets-out}
use Rattle.lists.proofs.Upto.{length-table, get_or-table}
use Rattle.counting_sort.specs.Sorted.{below, starts_by, sorted_by}
use Rattle.counting_sort.proofs.Counting.{below_all}
use Rattle.counting_sort.proofs.Parts.{before_key}
use Rattle.stepmap.specs.declared.read.Sizes.{Sizes}
use Rattle.neighbours.specs.declared.Listing.{Listing}
use Rattle.neighbours.specs.Tabled.{Roomy, by_port}
use Rattle.tables.specs.Within.{Within}
use Rattle.tables.proofs.Within.{within_none, within-sets}

module _ {b a : List ℕ} {s : Sizes} {at : Listing} (roomy : Roomy b a s at) (f : ℕ → ℕ)
    (ports : (k : ℕ) → k < s.links → f k < s.ports) where
  abbrev ks : List ℕ
  ks = map f (upto s.links)

  long-keys : length ks ≡ s.links
  long-keys = length-table f s.links

  long-starts : length (starts_by ks s.ports) ≡ s.ports + 1
  unfolding starts_by
  long-starts = length-table (below ks) (suc s.ports) ∙ omega arith

  long_sorted : length (sorted_by ks s.ports) ≡ s.links
  unfolding sorted_by
  long_sorted =
      before_key ks s.ports
      ∙ below_all ks s.ports (λ k h. omega (arith, get_or-table f s.links k 0 (omega (arith, long-keys)), ports k (omega (arith, long-keys))))
      ∙ long-keys

  keyed : List ℕ
  keyed = sets a at.keys ks

  started : List ℕ
  started = sets keyed at.starts (starts_by ks s.ports)

  long-keyed : length keyed ≡ length a
  unfolding keyed
  long-keyed = length-sets a at.keys ks

  long-started : length started ≡ length a
  unfolding started
  long-started = length-sets keyed at.starts (starts_by ks s.ports) ∙ long-keyed

  module _ {m : List ℕ} (e : m ≡ by_port a s at ks) where
    whole : m ≡ sets started at.sorted (sorted_by ks s.ports)
    unfolding by_port keyed started
    whole = e

    pub starts_stand : part m at.starts (s.ports + 1) ≡ starts_by ks s.ports
    unfolding started
    starts_stand =
        ap (λ (o : List ℕ). part o at.starts (s.ports + 1)) whole
        ∙ part-sets-out started at.sorted (sorted_by ks s.ports) at.starts (s.ports + 1) 0 (inl roomy.after-starts) (omega (arith, long-started, roomy.after-starts, roomy.room))
        ∙ ap (part started at.starts) (sym long-starts)
        ∙ part-sets_in keyed at.starts (starts_by ks s.ports) 0 (omega (arith, long-starts, long-keyed, roomy.after-starts, roomy.room))

    pub sorted_stand : part m at.sorted s.links ≡ sorted_by ks s.ports
    sorted_stand =
        ap (λ (o : List ℕ). part o at.sorted s.links) whole
        ∙ ap (part (sets started at.sorted (sorted_by ks s.ports)) at.sorted) (sym long_sorted)
        ∙ part-sets_in started at.sorted (sorted_by ks s.ports) 0 (omega (arith, long_sorted, long-started, roomy.room))

    -- a section that is apart from the three
    pub others_stand : (place many : ℕ) → Disjoint place many at.keys s.links → Disjoint place many at.starts (at.sorted + s.links - at.starts) → place + many ≤ length a
        → part m place many ≡ part a place many
    unfolding keyed started
    others_stand place many off away fits =
        ap (λ (o : List ℕ). part o place many) whole
        ∙ part-sets-out started at.sorted (sorted_by ks s.ports) place many 0 (end away) (omega (arith, long-started))
        ∙ part-sets-out keyed at.starts (starts_by ks s.ports) place many 0 (start away) (omega (arith, long-keyed))
        ∙ part-sets-out a at.keys ks place many 0 (key off) fits
      where
        key : Disjoint place many at.keys s.links → Disjoint place many at.keys (length ks)
        key (inl h) = inl h
        key (inr h) = inr (omega (arith, long-keys))

        start : Disjoint place many at.starts (at.sorted + s.links - at.starts) → Disjoint place many at.starts (length (starts_by ks s.ports))
        start (inl h) = inl h
        start (inr h) = inr (omega (arith, long-starts, roomy.after-starts))

        end : Disjoint place many at.starts (at.sorted + s.links - at.starts) → Disjoint place many at.sorted (length (sorted_by ks s.ports))
        end (inl h) = inl (omega (arith, roomy.after-starts))
        end (inr h) = inr (omega (arith, long_sorted, roomy.after-starts))

    pub only_here : (from size : ℕ) → from ≤ at.keys → at.sorted + s.links ≤ from + size → Within from size a m
    unfolding keyed started
    only_here from size low high =
        subst (Within from size a) (sym whole)
        (within-sets
        (within-sets (within-sets within_none at.keys ks low (omega (arith, long-keys, roomy.after-keys, roomy.after-starts)))
        at.starts (starts_by ks s.ports) (omega (arith, roomy.after-keys)) (omega (arith, long-starts, roomy.after-starts)))
        at.sorted (sorted_by ks s.ports) (omega (arith, roomy.after-keys, roomy.after-starts)) (omega (arith, long_sorted)))
