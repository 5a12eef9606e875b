-- What is read of accepted tables: known lines and nodes only, and the same from two areas with the same words in use.
-- Rests on Starts (the starts end in the words in use) and Every.
use Prim.Native.Nat.{ℕ, suc, ◌+◌, ◌*◌, ◌≤◌, ◌<◌}
use native.Mathlib.Omega.{arith}
use mathlib.Core.Path.{◌≡◌, sym, ap, ap₂, ◌∙◌, subst}
use mathlib.Core.List.{List}
use lib.ListN.{length, get_or, take}
use lib.Seq.{slice, length-slice, ext_get_or, get_or-take, get_or-drop}
use Rattle.lists.proofs.Sections.{part, length_part, get_d_part}
use Rattle.paper.specs.Map.{N, L}
use Rattle.paper.specs.Area.{Section, size, start, W, word_of, section, part as part_of, K, order_of, lines_of, nodes_of}
use Rattle.paper.specs.Accepted.{Accepted}
use Rattle.accepted_theory.specs.Every.{Every}
use Rattle.accepted_theory.specs.InUse.{SameInUse}
use Rattle.accepted_theory.specs.SameTables.{KnownNode, KnownLine, SameTables}
use Rattle.accepted_theory.proofs.Every.{every-place}
use Rattle.accepted_theory.proofs.Starts.{start-most}

-- ---- parts of a list

-- a word of a part
pub slice_word : (a : List ℕ) (o f t i : ℕ) → f + i < t → get_or (slice (o + f) (o + t) a) i 0 ≡ get_or a (o + (f + i)) 0
slice_word a o f t i l =
    get_or-drop (o + f) (take (o + t) a) i 0 ∙ get_or-take (o + t) a (o + f + i) 0 (omega arith) ∙ ap (λ (j : ℕ). get_or a j 0) (assoc o f i)
  where
    assoc : (o f i : ℕ) → o + f + i ≡ o + (f + i)
    assoc o f i = omega arith

-- two parts that agree word by word
slice_same : (a c : List ℕ) (o f t : ℕ) → o + t ≤ length a → o + t ≤ length c → ((i : ℕ) → i < t → get_or a (o + i) 0 ≡ get_or c (o + i) 0)
    → slice (o + f) (o + t) a ≡ slice (o + f) (o + t) c
slice_same a c o f t fits-a fits-c same =
    ext_get_or 0 (slice (o + f) (o + t) a) (slice (o + f) (o + t) c)
    (length-slice (o + f) (o + t) a fits-a ∙ sym (length-slice (o + f) (o + t) c fits-c))
    (λ i h. let l : f + i < t = omega (arith, length-slice (o + f) (o + t) a fits-a) in
    slice_word a o f t i l ∙ same (f + i) l ∙ sym (slice_word c o f t i l))

-- what holds of the words holds in the part
slice_every : (P : ℕ → Type 0) (a : List ℕ) (o f t : ℕ) → o + t ≤ length a → ((i : ℕ) → i < t → P (get_or a (o + i) 0)) → Every P (slice (o + f) (o + t) a)
slice_every P a o f t fits h =
    every-place P 0 (slice (o + f) (o + t) a)
    (λ i l. let m : f + i < t = omega (arith, length-slice (o + f) (o + t) a fits) in subst P (sym (slice_word a o f t i m)) (h (f + i) m))

-- ---- where the sections end

module _ (b : List ℕ) where
  order-room : start b Section.order + N b ≤ W b
  unfolding start W size
  order-room = omega arith

  pub lines-room : start b Section.lines_of_nodes + (2 * L b + N b) ≤ W b
  unfolding start W size
  lines-room = omega arith

  nodes-room : start b Section.nodes_of_lines + (2 * L b + N b) ≤ W b
  unfolding start W size
  nodes-room = omega arith

-- ---- known lines and nodes

module _ {b a : List ℕ} (acc : Accepted b a) where
  -- a node's and a line's entries end in the words in use
  pub lines_end : (v : ℕ) → v < N b → word_of b a Section.node_starts (suc v) ≤ L b + K b a
  lines_end v h = omega (arith, start-most acc.node_starts (suc v) h)

  nodes-end : (l : ℕ) → l < K b a → word_of b a Section.line_starts (suc l) ≤ L b + K b a
  nodes-end l h = omega (arith, start-most acc.line_starts (suc l) h)

  module _ (room : W b ≤ length a) where
    pub lines-known : (v : ℕ) → v < N b → Every (KnownLine b a) (lines_of b a v)
    unfolding lines_of part_of word_of
    lines-known v h =
        slice_every (KnownLine b a) a (start b Section.lines_of_nodes) (word_of b a Section.node_starts v) (word_of b a Section.node_starts (suc v))
        (omega (arith, lines-room b, lines_end v h, acc.few))
        (λ i l. acc.lines_known i (omega (arith, lines_end v h)))

    pub nodes-known : (l : ℕ) → l < K b a → Every (KnownNode b) (nodes_of b a l)
    unfolding nodes_of part_of word_of
    nodes-known l h =
        slice_every (KnownNode b) a (start b Section.nodes_of_lines) (word_of b a Section.line_starts l) (word_of b a Section.line_starts (suc l))
        (omega (arith, nodes-room b, nodes-end l h, acc.few))
        (λ i m. acc.nodes_known i (omega (arith, nodes-end l h)))

-- ---- two areas

module _ {b a c : List ℕ} (same : SameInUse b a c) (room-a : W b ≤ length a) (room-c : W b ≤ length c) where
  pub order_same : order_of b a ≡ order_of b c
  unfolding order_of section size word_of
  order_same =
      ext_get_or 0 (part a (start b Section.order) (N b)) (part c (start b Section.order) (N b))
      (long a room-a ∙ sym (long c room-c))
      (λ i h. let l : i < N b = omega (arith, long a room-a) in
      get_d_part a (start b Section.order) (N b) i 0 l ∙ same.order i l ∙ sym (get_d_part c (start b Section.order) (N b) i 0 l))
    where
      long : (m : List ℕ) → W b ≤ length m → length (part m (start b Section.order) (N b)) ≡ N b
      long m room = length_part m (start b Section.order) (N b) (omega (arith, order-room b))

  module _ (acc : Accepted b a) where
    lines_same : (v : ℕ) → v < N b → lines_of b a v ≡ lines_of b c v
    unfolding lines_of part_of word_of
    lines_same v h =
        slice_same a c (start b Section.lines_of_nodes) (word_of b a Section.node_starts v) (word_of b a Section.node_starts (suc v))
        (omega (arith, lines-room b, lines_end acc v h, acc.few)) (omega (arith, lines-room b, lines_end acc v h, acc.few))
        (λ i l. same.lines i (omega (arith, lines_end acc v h)))
        ∙ ap₂ (λ (f t : ℕ). slice (start b Section.lines_of_nodes + f) (start b Section.lines_of_nodes + t) c) (same.node_starts v (omega arith)) (same.node_starts (suc v) h)

    nodes-same : (l : ℕ) → l < K b a → nodes_of b a l ≡ nodes_of b c l
    unfolding nodes_of part_of word_of
    nodes-same l h =
        slice_same a c (start b Section.nodes_of_lines) (word_of b a Section.line_starts l) (word_of b a Section.line_starts (suc l))
        (omega (arith, nodes-room b, nodes-end acc l h, acc.few)) (omega (arith, nodes-room b, nodes-end acc l h, acc.few))
        (λ i m. same.nodes i (omega (arith, nodes-end acc l h)))
        ∙ ap₂ (λ (f t : ℕ). slice (start b Section.nodes_of_lines + f) (start b Section.nodes_of_lines + t) c) (same.line_starts l (omega arith)) (same.line_starts (suc l) h)

    pub same_tables : SameTables b a c
    same_tables =
        record {
          count = same.count;
          order = order_same;
          positions = same.positions;
          lines = lines_same;
          nodes = nodes-same;
          lines_known = lines-known acc room-a;
          nodes_known = nodes-known acc room-a;
        }
