-- In accepted tables a node lists known lines, each at most once, and a line lists a node at most once.
-- Rests on accepted_theory's Starts and on Laws.
use Prim.Native.Nat.{ℕ, suc, ◌+◌, ◌≤◌, ◌<◌}
use native.Mathlib.Decide.{dec_lt}
use native.Mathlib.Omega.{arith}
use mathlib.Core.Path.{◌≡◌, ap}
use mathlib.Core.List.{List}
use lib.ListN.{length, get_or, take, length-take, length-drop}
use lib.Seq.{slice, get_or-take, get_or-drop}
use Rattle.lists.specs.Lists.{member, times}
use Rattle.lists.specs.Bounds.{Below}
use Rattle.lists.proofs.Count.{one-small}
use Rattle.lists.proofs.Rising.{rising-once}
use Rattle.paper.specs.Map.{N}
use Rattle.paper.specs.Area.{Section, start, word_of, part, K, position, lines_of, nodes_of}
use Rattle.paper.specs.Accepted.{Accepted}
use Rattle.accepted_theory.proofs.Starts.{start-most}
use Rattle.accepted_theory.proofs.collecting.Laws.{below_places}

-- words that are below a bound up to t are so in a part that ends at t
slice_below : (n o f t : ℕ) (a : List ℕ) → ((i : ℕ) → i < t → get_or a (o + i) 0 < n) → Below n (slice (o + f) (o + t) a)
slice_below n o f t a h = below_places n (slice (o + f) (o + t) a) word
  where
    word : (i : ℕ) → i < length (slice (o + f) (o + t) a) → get_or (slice (o + f) (o + t) a) i 0 < n
    word i l =
        let inside : f + i < t = omega (arith, length-drop (o + f) (take (o + t) a), length-take (o + t) a) in
        let there : o + f + i ≡ o + (f + i) = omega arith in
        omega (
          arith,
          get_or-drop (o + f) (take (o + t) a) i 0,
          get_or-take (o + t) a (o + f + i) 0 (omega arith),
          ap (λ (j : ℕ). get_or a j 0) there,
          h (f + i) inside,
        )

module _ {b a : List ℕ} (acc : Accepted b a) where
  pub lines-known : (v : ℕ) → v < N b → Below (K b a) (lines_of b a v)
  unfolding lines_of part word_of
  lines-known v h =
      slice_below (K b a) (start b Section.lines_of_nodes) (word_of b a Section.node_starts v) (word_of b a Section.node_starts (suc v)) a
      (λ i l. acc.lines_known i (omega (arith, start-most acc.node_starts (suc v) h)))

  pub nodes-once : (l : ℕ) → l < K b a → (v : ℕ) → times v (nodes_of b a l) ≤ 1
  nodes-once l h = rising-once (position b a) (nodes_of b a l) (acc.rises l h)

  pub lines-once : (v : ℕ) → v < N b → (l : ℕ) → times l (lines_of b a v) ≤ 1
  lines-once v h l = go (dec_lt l (K b a))
    where
      go : Dec (l < K b a) → times l (lines_of b a v) ≤ 1
      go (yes k) = omega (arith, acc.listed v h l k, one-small (member v (nodes_of b a l)))
      go (no k) = omega (arith, lines-known v h l (omega arith))
