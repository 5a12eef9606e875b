-- The links stand as long as only words before them, behind them or in the keys' place are written.
-- Rests on lists.Sections.
use Prim.Native.Nat.{ℕ, ◌+◌, ◌-◌, ◌≤◌, ◌<◌}
use native.Mathlib.Omega.{arith}
use mathlib.Core.Path.{◌≡◌, ◌∙◌}
use mathlib.Core.Logic.{inl, inr}
use mathlib.Core.List.{List}
use Rattle.lists.proofs.Sections.{Apart, Disjoint, part, part_same}
use Rattle.stepmap.specs.declared.read.Sizes.{Sizes}
use Rattle.tables.specs.Within.{Within}
use Rattle.neighbours.specs.declared.Listing.{Listing}
use Rattle.neighbours.specs.Linked.{Linked}

module _ {b a m : List ℕ} {s : Sizes} {port : ℕ → ℕ} {at : Listing} {from size : ℕ} (linked : Linked b a s port at) (kept : Within from size a m) where
  stands : (place many : ℕ) → Disjoint place many from size → place + many ≤ at.end → part m place many ≡ part a place many
  stands place many off high =
      part_same m a place many 0 kept.long (omega (arith, linked.room)) (λ i h. kept.same (place + i) (apart off i h))
    where
      apart : Disjoint place many from size → (i : ℕ) → i < many → Apart (place + i) from size
      apart (inl h) i g = inl (omega arith)
      apart (inr h) i g = inr (omega arith)

  -- what is written is apart from the first ports, and from the starts and the links
  pub linked-apart : Disjoint at.firsts (s.nodes + 1) from size → Disjoint at.starts (at.end - at.starts) from size → Linked b m s port at
  linked-apart first rest =
      record {
        read = linked.read;
        links = linked.links;
        after-firsts = linked.after-firsts;
        after-keys = linked.after-keys;
        after-starts = linked.after-starts;
        after_sorted = linked.after_sorted;
        room = omega (arith, linked.room, kept.long);
        firsts_stand = stands at.firsts (s.nodes + 1) first (omega (arith, linked)) ∙ linked.firsts_stand;
        starts_stand = stands at.starts (s.ports + 1) (inside at.starts (s.ports + 1) (omega arith) (omega (arith, linked)) rest) (omega (arith, linked)) ∙ linked.starts_stand;
        sorted_stand = stands at.sorted s.links (inside at.sorted s.links (omega (arith, linked)) (omega (arith, linked)) rest) (omega (arith, linked)) ∙ linked.sorted_stand;
      }
    where
      inside : (place many : ℕ) → at.starts ≤ place → place + many ≤ at.end → Disjoint at.starts (at.end - at.starts) from size → Disjoint place many from size
      inside place many low high (inl h) = inl (omega (arith, linked))
      inside place many low high (inr h) = inr (omega arith)

  pub linked-kept : from + size ≤ at.firsts → Linked b m s port at
  linked-kept before = linked-apart (inr before) (inr (omega (arith, linked)))

  pub linked-behind : at.end ≤ from → Linked b m s port at
  linked-behind behind = linked-apart (inl (omega (arith, linked))) (inl (omega (arith, linked)))
