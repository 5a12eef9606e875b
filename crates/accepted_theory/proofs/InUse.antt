-- "accepting doesn't read them": tables are accepted or not by the words in use alone.
-- Rests on Tables (the same is read of both areas) and paper.Accepted (what the test says).
use Prim.Native.Nat.{ℕ, suc, ◌+◌, ◌≤◌, ◌<◌}
use native.Mathlib.Omega.{arith}
use mathlib.Core.Path.{◌≡◌, refl, sym, ap, ◌∙◌, subst}
use mathlib.Core.Logic.{inl}
use mathlib.Core.List.{List, map}
use lib.ListN.{length, get_or, replicate}
use Rattle.lists.specs.Lists.{upto, one, count, member, times, Rising}
use Rattle.lists.proofs.Sections.{get_or-sets-out}
use Rattle.lists.proofs.Weight.{count-upto-same}
use Rattle.lists.proofs.Tests.{reworded, same-says}
use Rattle.paper.specs.Map.{N, L, link_from, link_to}
use Rattle.paper.specs.Order.{place_in}
use Rattle.paper.specs.Area.{Section, size, start, W, word_of, K, position, nodes_of, scratch_cleared}
use Rattle.paper.specs.Accepted.{lines_between, right_after, GoesBefore, Starts, Accepted, accepted}
use Rattle.paper.proofs.Accepted.{accepted-says}
use Rattle.accepted_theory.specs.InUse.{SameInUse}
use Rattle.accepted_theory.specs.SameTables.{KnownNode, SameTables}
use Rattle.accepted_theory.proofs.Every.{map-every}
use Rattle.accepted_theory.proofs.Tables.{same_tables}

-- ---- which areas have the same words in use

pub back : {b a c : List ℕ} → SameInUse b a c → SameInUse b c a
back same =
    record {
      count = sym same.count;
      order = λ i h. sym (same.order i h);
      positions = λ v h. sym (same.positions v h);
      node_starts = λ i h. sym (same.node_starts i h);
      line_starts = λ i h. sym (same.line_starts i (omega (arith, same.count)));
      lines = λ i h. sym (same.lines i (omega (arith, same.count)));
      nodes = λ i h. sym (same.nodes i (omega (arith, same.count)));
    }

pub onward : {b a c d : List ℕ} → SameInUse b a c → SameInUse b c d → SameInUse b a d
onward first next =
    record {
      count = first.count ∙ next.count;
      order = λ i h. first.order i h ∙ next.order i h;
      positions = λ v h. first.positions v h ∙ next.positions v h;
      node_starts = λ i h. first.node_starts i h ∙ next.node_starts i h;
      line_starts = λ i h. first.line_starts i h ∙ next.line_starts i (omega (arith, first.count));
      lines = λ i h. first.lines i h ∙ next.lines i (omega (arith, first.count));
      nodes = λ i h. first.nodes i h ∙ next.nodes i (omega (arith, first.count));
    }

-- a change of the scratch alone, and of what stands past it
pub same-below : (b a c : List ℕ) → K b a ≤ L b + N b → ((i : ℕ) → i < start b Section.scratch → get_or c i 0 ≡ get_or a i 0) → SameInUse b a c
unfolding start size word_of K position
same-below b a c few below =
    record {
      count = sym (below _ (omega arith));
      order = λ i h. sym (below _ (omega arith));
      positions = λ v h. sym (below _ (omega arith));
      node_starts = λ i h. sym (below _ (omega arith));
      line_starts = λ i h. sym (below _ (omega (arith, few)));
      lines = λ i h. sym (below _ (omega (arith, few)));
      nodes = λ i h. sym (below _ (omega (arith, few)));
    }

-- .. as every call leaves it
pub scratch-cleared : (b a : List ℕ) → K b a ≤ L b + N b → SameInUse b a (scratch_cleared b a)
unfolding scratch_cleared
scratch-cleared b a few =
    same-below b a (scratch_cleared b a) few (λ i h. get_or-sets-out a (start b Section.scratch) (replicate (size b Section.scratch) 0) i 0 (inl h))

-- ---- the test

-- start lists that agree up to their end
starts-same : {s r : ℕ → ℕ} {m n d e : ℕ} → ((i : ℕ) → i ≤ m → s i ≡ r i) → m ≡ n → d ≡ e → Starts s m d → Starts r n e
starts-same {s} {r} {m} {n} same em ed starts =
    record {
      begins = sym (same 0 (omega arith)) ∙ starts.begins;
      rises = λ i h. omega (arith, same i (omega arith), same (suc i) (omega arith), starts.rises i (omega arith));
      ends = ap r (sym em) ∙ sym (same m (omega arith)) ∙ starts.ends ∙ ed;
    }

module _ {b a c : List ℕ} (same : SameInUse b a c) (room-a : W b ≤ length a) (room-c : W b ≤ length c) (acc : Accepted b a) where
  read : SameTables b a c
  read = same_tables same room-a room-c acc

  between : (u w : ℕ) → lines_between b a u w ≡ lines_between b c u w
  unfolding lines_between
  between u w =
      count-upto-same (λ x. right_after u w (nodes_of b a x)) (λ x. right_after u w (nodes_of b c x)) (K b a) (λ x h. ap (right_after u w) (read.nodes x h))
      ∙ ap (λ (k : ℕ). count (λ x. right_after u w (nodes_of b c x)) (upto k)) same.count

  pub in_use : Accepted b c
  in_use =
      record {
        few = omega (arith, acc.few, same.count);
        each_once = λ v h. ap (times v) (sym read.order) ∙ acc.each_once v h;
        node_starts = starts-same same.node_starts refl (ap (λ (k : ℕ). L b + k) same.count) acc.node_starts;
        line_starts = starts-same same.line_starts same.count (ap (λ (k : ℕ). L b + k) same.count) acc.line_starts;
        lines_known = λ i h. let l : i < L b + K b a = omega (arith, same.count) in omega (arith, same.lines i l, same.count, acc.lines_known i l);
        nodes_known = λ i h. let l : i < L b + K b a = omega (arith, same.count) in omega (arith, same.nodes i l, acc.nodes_known i l);
        rises = λ x h. let l : x < K b a = omega (arith, same.count) in
            subst Rising
            (map-every (KnownNode b) (position b a) (position b c) read.positions (nodes_of b a x) (read.nodes_known x l)
            ∙ ap (map (position b c)) (read.nodes x l))
            (acc.rises x l);
        listed = λ v h x g. let l : x < K b a = omega (arith, same.count) in
            ap (times x) (sym (read.lines v h)) ∙ acc.listed v h x l ∙ ap (λ (xs : List ℕ). one (member v xs)) (read.nodes x l);
        adjacent = λ u h w g. acc.adjacent u h w g ∙ between u w;
        forward = λ k h. subst (λ (xs : List ℕ). GoesBefore (place_in xs (link_from b k)) (place_in xs (link_to b k))) read.order (acc.forward k h);
      }

-- two areas with the same words in use: both are accepted, or neither
pub accepted_in_use : {b a c : List ℕ} → SameInUse b a c → W b ≤ length a → W b ≤ length c → accepted b a ≡ accepted b c
accepted_in_use {b} {a} {c} same room-a room-c =
    same-says (reworded (in_use same room-a room-c) (in_use (back same) room-c room-a) (accepted-says b a)) (accepted-says b c)
