-- What accepted tables say of nodes and lines by membership: entries are known, node and line list each other, a node has a line.
-- Rests on the definition, accepted_theory.Starts and Among.
use Prim.Native.Nat.{ℕ, suc, ◌+◌, ◌≤◌, ◌<◌}
use native.Mathlib.Omega.{arith}
use mathlib.Core.Path.{◌≡◌, refl, ap, ◌∙◌}
use mathlib.Core.List.{List, Memᴰ}
use lib.ListN.{length, get_or, take}
use lib.Seq.{slice, slice-cons, length-slice, get_or-take, get_or-drop}
use Rattle.lists.specs.Lists.{one, member}
use Rattle.lists.proofs.Count.{one-is, one-small}
use Rattle.paper.specs.Map.{N, L}
use Rattle.paper.specs.Area.{Section, size, start, W, word_of, part, K, lines_of, nodes_of}
use Rattle.paper.specs.Accepted.{Accepted}
use Rattle.accepted_theory.proofs.Starts.{start-most}
use Rattle.accepted_theory.proofs.recorded.Among.{there-times, member_at, member_in, times-there}

-- a bound on every place bounds every member
places_below : (n : ℕ) {x : ℕ} {xs : List ℕ} → ((i : ℕ) → i < length xs → get_or xs i 0 < n) → Memᴰ x xs → x < n
places_below n h (Memᴰ.head {x = y} {xs = ys} e) = omega (arith, h 0 (omega arith))
places_below n h (Memᴰ.tail {x = y} {xs = ys} m) = places_below n (λ i l. h (suc i) (omega arith)) m

-- an entry of a part, where the words from o on are below n up to e
slice_below : (a : List ℕ) (n o f t e : ℕ) {x : ℕ} → t ≤ e → o + t ≤ length a → ((i : ℕ) → i < e → get_or a (o + i) 0 < n)
    → Memᴰ x (slice (o + f) (o + t) a) → x < n
slice_below a n o f t e high room h m = places_below n place m
  where
    inside : (i : ℕ) → i < length (slice (o + f) (o + t) a) → f + i < t
    inside i l = omega (arith, length-slice (o + f) (o + t) a room)

    assoc : (o f i : ℕ) → o + f + i ≡ o + (f + i)
    assoc o f i = omega arith

    place : (i : ℕ) → i < length (slice (o + f) (o + t) a) → get_or (slice (o + f) (o + t) a) i 0 < n
    place i l =
        let word = get_or-drop (o + f) (take (o + t) a) i 0 ∙ get_or-take (o + t) a (o + f + i) 0 (omega (arith, inside i l)) in
        omega (arith, word ∙ ap (λ (j : ℕ). get_or a j 0) (assoc o f i), h (f + i) (omega (arith, inside i l)))

-- a line of a node
pub record SomeLine (b a : List ℕ) (v : ℕ) : Type 0 where
  pub line : ℕ
  pub there : Memᴰ line (lines_of b a v)

module _ {b a : List ℕ} (acc : Accepted b a) (room : W b ≤ length a) where
  lines-room : start b Section.lines_of_nodes + (L b + K b a) ≤ length a
  unfolding start W size
  lines-room = omega (arith, acc.few)

  nodes-room : start b Section.nodes_of_lines + (L b + K b a) ≤ length a
  unfolding start W size
  nodes-room = omega (arith, acc.few)

  -- "Entries are below K and N."
  pub line_known : {v l : ℕ} → v < N b → Memᴰ l (lines_of b a v) → l < K b a
  unfolding lines_of part word_of
  line_known {v} h m =
      let end = start-most acc.node_starts (suc v) h in
      slice_below a (K b a) (start b Section.lines_of_nodes) (word_of b a Section.node_starts v) (word_of b a Section.node_starts (suc v)) (L b + K b a)
      (omega (arith, end)) (omega (arith, end, lines-room)) acc.lines_known m

  pub node-known : {v l : ℕ} → l < K b a → Memᴰ v (nodes_of b a l) → v < N b
  unfolding nodes_of part word_of
  node-known {v} {l} h m =
      let end = start-most acc.line_starts (suc l) h in
      slice_below a (N b) (start b Section.nodes_of_lines) (word_of b a Section.line_starts l) (word_of b a Section.line_starts (suc l)) (L b + K b a)
      (omega (arith, end)) (omega (arith, end, nodes-room)) acc.nodes_known m

  -- "Both start lists .. strictly rise": each node has a line
  pub some-line : (v : ℕ) → v < N b → SomeLine b a v
  unfolding lines_of part
  some-line v h =
      let end = start-most acc.node_starts (suc v) h in
      let o = start b Section.lines_of_nodes in
      let f = word_of b a Section.node_starts v in
      let t = word_of b a Section.node_starts (suc v) in
      record {
        line = get_or a (o + f) 0;
        there = rw (slice-cons (o + f) (o + t) a 0 (omega (arith, acc.node_starts.rises v h)) (omega (arith, end, lines-room))) (Memᴰ.head refl);
      }

  -- "A node lists a line once exactly if the line lists it."
  pub on_line : {v l : ℕ} → v < N b → Memᴰ l (lines_of b a v) → Memᴰ v (nodes_of b a l)
  on_line {v} {l} h m =
      member_in v (nodes_of b a l)
      (one-is (member v (nodes_of b a l))
      (omega (arith, there-times m, acc.listed v h l (line_known h m), one-small (member v (nodes_of b a l)))))

  pub has-line : {v l : ℕ} → l < K b a → Memᴰ v (nodes_of b a l) → Memᴰ l (lines_of b a v)
  has-line {v} {l} h m =
      times-there l (lines_of b a v) (omega (arith, acc.listed v (node-known h m) l h, ap one (member_at m)))
