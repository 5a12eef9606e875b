-- What preparing writes is accepted.
-- Rests on Good (the tables) and Written (they are read back as they were laid).
use Prim.Native.Nat.{ℕ, suc, ◌+◌, ◌≤◌, ◌<◌}
use native.Mathlib.Omega.{arith}
use mathlib.Core.Path.{◌≡◌, sym, ap, ◌∙◌, subst}
use mathlib.Core.List.{List, [], map, flatten}
use lib.ListN.{length, get_or}
use Rattle.lists.specs.Lists.{upto, sum, one, count, member, times, Rising}
use Rattle.lists.proofs.Places.{place-known}
use Rattle.paper.specs.Map.{N, L}
use Rattle.paper.specs.Lines.{Tables}
use Rattle.paper.specs.Area.{Section, W, word_of, K, position, nodes_of, starts, prepared}
use Rattle.paper.specs.Accepted.{right_after, lines_between, Starts, Accepted}
use Rattle.paper.specs.Refusals.{passed, rule45, rule6}
use Rattle.lines_theory.specs.Sized.{holding}
use Rattle.lines_theory.specs.Good.{Good, position_in, nodes_in}
use Rattle.lists.proofs.Laid.{length_flatten, below_flatten}
use Rattle.lines_theory.proofs.Starts.{starts_first, starts-next, starts-last}
use Rattle.lists.proofs.Weight.{count-upto-same}
use Rattle.lists.proofs.Members.{map_below}
use Rattle.lines_theory.proofs.Written.{prepared-holds, count_held, order-held, position-held, node-starts-held, line-starts-held, line-entries-held, node-entries-held, lines-held, nodes-held}
use Rattle.lines_theory.proofs.Good.{tables-good}

-- a start list that reads as the starts of lists, none of them empty
starts_hold : (start : ℕ → ℕ) (ls : List (List ℕ)) (n end : ℕ) → length ls ≡ n → sum (map length ls) ≡ end
    → ((i : ℕ) → i ≤ n → start i ≡ get_or (starts 0 ls) i 0) → ((i : ℕ) → i < n → 1 ≤ length (get_or ls i [])) → Starts start n end
starts_hold start ls n end long whole same some =
    record {
      begins = same 0 (omega arith) ∙ starts_first 0 ls;
      rises =
          λ i h. omega
          (arith, same i (omega arith), same (suc i) (omega arith), starts-next 0 ls i (omega arith), some i h);
      ends = omega (arith, same n (omega arith), ap (λ (k : ℕ). get_or (starts 0 ls) k 0) (sym long), starts-last 0 ls);
    }

module _ {b : List ℕ} {t : Tables} (g : Good b t) (a : List ℕ) (fits : W b ≤ length a) where
  k_held : K b (holding b t a) ≡ t.count
  k_held = count_held g.sized a fits

  low : {l : ℕ} → l < K b (holding b t a) → l < t.count
  low h = omega (arith, k_held)

  lines-between : (u v : ℕ) → lines_between b (holding b t a) u v ≡ count (λ l. right_after u v (nodes_in t l)) (upto t.count)
  unfolding lines_between
  lines-between u v =
      ap (λ (n : ℕ). count (λ l. right_after u v (nodes_of b (holding b t a) l)) (upto n)) k_held
      ∙ count-upto-same _ _ t.count (λ l h. ap (right_after u v) (nodes-held g.sized a fits l h))

  line-rises : (l : ℕ) → l < t.count → Rising (map (position b (holding b t a)) (nodes_of b (holding b t a) l))
  line-rises l h =
      subst Rising
      (sym (ap (map (position b (holding b t a))) (nodes-held g.sized a fits l h)
      ∙ map_below (position b (holding b t a)) (position_in t) (N b) (nodes_in t l) (g.nodes_known l h) (position-held g.sized a fits)))
      (g.rises l h)

  line_known : (i : ℕ) → i < L b + t.count → word_of b (holding b t a) Section.lines_of_nodes i < t.count
  line_known i h =
      let below = below_flatten t.count t.lines_of_nodes (λ v l. g.lines_known v (omega (arith, g.sized.nodes))) in
      let inside : i < length (flatten t.lines_of_nodes) = omega (arith, length_flatten t.lines_of_nodes, g.sized.line_entries) in
      rw (line-entries-held g.sized a fits i h) (place-known t.count (flatten t.lines_of_nodes) i below inside)

  node-known : (i : ℕ) → i < L b + t.count → word_of b (holding b t a) Section.nodes_of_lines i < N b
  node-known i h =
      let below = below_flatten (N b) t.nodes_of_lines (λ l m. g.nodes_known l (omega (arith, g.sized.lines))) in
      let inside : i < length (flatten t.nodes_of_lines) = omega (arith, length_flatten t.nodes_of_lines, g.sized.node_entries) in
      rw (node-entries-held g.sized a fits i h) (place-known (N b) (flatten t.nodes_of_lines) i below inside)

  -- an area that holds good tables is accepted
  pub holding-accepted : Accepted b (holding b t a)
  holding-accepted =
      record {
        few = omega (arith, k_held, g.sized.few);
        each_once = λ v h. ap (times v) (order-held g.sized a fits) ∙ g.each_once v h;
        node_starts =
            starts_hold (word_of b (holding b t a) Section.node_starts) t.lines_of_nodes (N b) (L b + K b (holding b t a)) g.sized.nodes
            (omega (arith, k_held, g.sized.line_entries))
            (node-starts-held g.sized a fits)
            g.lines_some;
        line_starts =
            starts_hold (word_of b (holding b t a) Section.line_starts) t.nodes_of_lines (K b (holding b t a)) (L b + K b (holding b t a))
            (g.sized.lines ∙ sym k_held)
            (omega (arith, k_held, g.sized.node_entries))
            (λ l h. line-starts-held g.sized a fits l (omega (arith, k_held)))
            (λ l h. g.nodes_some l (low h));
        lines_known = λ i h. rw k_held (line_known i (omega (arith, k_held)));
        nodes_known = λ i h. node-known i (omega (arith, k_held));
        rises = λ l h. line-rises l (low h);
        listed =
            λ v h l m. ap (times l) (lines-held g.sized a fits v h) ∙ g.listed v h l (low m)
            ∙ ap (λ (ns : List ℕ). one (member v ns)) (sym (nodes-held g.sized a fits l (low m)));
        adjacent = λ u h v m. g.adjacent u h v m ∙ sym (lines-between u v);
        forward = λ k h. rw (order-held g.sized a fits) (g.forward k h);
      }

-- "What preparing writes is accepted"
pub prepared-accepted : (b a : List ℕ) → rule45 b ≡ passed → rule6 b ≡ passed → W b ≤ length a → Accepted b (prepared b a)
prepared-accepted b a links cycle fits = rw (prepared-holds b a) (holding-accepted (tables-good b links cycle) a fits)
