-- The tables' words by their places in the area: positions, lists of lines and of nodes as parts, each entry, and what is known of it.
-- Rests on Placed (where sections stand) and accepted_theory (starts).
use Prim.Native.Nat.{ℕ, zero, suc, ◌+◌, ◌-◌, ◌≤◌, ◌<◌}
use native.Mathlib.Numerals.{add-one}
use native.Mathlib.Omega.{arith}
use mathlib.Core.Path.{◌≡◌, refl, sym, ap, ap₂, ◌∙◌}
use mathlib.Core.List.{List, [], ◌∷◌}
use lib.ListN.{length, get_or, take, drop}
use lib.Seq.{slice, length-slice, get_or-take, get_or-drop}
use Rattle.paper.specs.Area.{Section, start, word_of, part, K, position, lines_of, nodes_of}
use Rattle.accepted_theory.proofs.Starts.{start-most}
use Rattle.tables.specs.declared.Layout.{Layout}
use Rattle.tables.specs.Placed.{place}
use Rattle.tables.specs.Usable.{Usable, Spanned, entries_of}

-- a part by its start and its length is the part between its two ends
pub between : (n f t : ℕ) (l : List ℕ) → n ≡ t - f → take n (drop f l) ≡ slice f t l
between n zero t l e = ap (λ (k : ℕ). take k l) (whole n e)
  where
    whole : (n : ℕ) → n ≡ t - 0 → n ≡ t
    whole n e = omega arith
between n (suc f) zero l e = ap (λ (k : ℕ). take k (drop (suc f) l)) (gone n e)
  where
    gone : (n : ℕ) → n ≡ 0 - suc f → n ≡ 0
    gone n e = omega arith
between zero (suc f) (suc t) [] e = refl
between (suc n) (suc f) (suc t) [] e = refl
between n (suc f) (suc t) (x ∷ xs) e = between n f t xs (omega arith)

-- one entry of a list of entries
pub entry-word : (a : List ℕ) (starts at x i : ℕ) → get_or a (starts + x) 0 + i < get_or a (starts + (x + 1)) 0
    → get_or (entries_of a starts at x) i 0 ≡ get_or a (at + (get_or a (starts + x) 0 + i)) 0
unfolding entries_of
entry-word a starts at x i h = inside (get_or a (starts + x) 0) (get_or a (starts + (x + 1)) 0) h
  where
    inside : (f t : ℕ) → f + i < t → get_or (slice (at + f) (at + t) a) i 0 ≡ get_or a (at + (f + i)) 0
    inside f t g =
        get_or-drop (at + f) (take (at + t) a) i 0 ∙ get_or-take (at + t) a (at + f + i) 0 (omega arith)
        ∙ ap (λ (j : ℕ). get_or a j 0) (assoc f)
      where
        assoc : (f : ℕ) → at + f + i ≡ at + (f + i)
        assoc f = omega arith

pub entries-long : {a : List ℕ} {starts at x : ℕ} → Spanned a starts at x
    → get_or a (starts + x) 0 + length (entries_of a starts at x) ≡ get_or a (starts + (x + 1)) 0
unfolding entries_of
entries-long {a} {starts} {at} {x} span =
    omega (arith, length-slice (at + get_or a (starts + x) 0) (at + get_or a (starts + (x + 1)) 0) a span.ends-inside, span.rises)

module _ {b a : List ℕ} {at : Layout} (usable : Usable b a at) where
  pub section_at : (s : Section) → start b s ≡ place at s
  section_at s = usable.placed.stands s

  pub word_at : (s : Section) (i : ℕ) → word_of b a s i ≡ get_or a (place at s + i) 0
  unfolding word_of
  word_at s i = ap (λ (o : ℕ). get_or a (o + i) 0) (section_at s)

  pub count-is : K b a ≡ get_or a 0 0
  unfolding K
  count-is = word_at Section.line_count 0

  -- "K ≤ L+N."
  pub count-few : K b a ≤ at.sizes.links + at.sizes.nodes
  count-few = omega (arith, usable.tables.few, usable.read.nodes, usable.read.links)

  pub position-is : (v : ℕ) → position b a v ≡ get_or a (at.positions + v) 0
  unfolding position
  position-is v = word_at Section.positions v

  -- ---- the lists as parts of the area

  pub lines_are : (v : ℕ) → lines_of b a v ≡ entries_of a at.begins at.lines v
  unfolding lines_of part entries_of
  lines_are v =
      ap₂ (λ (f t : ℕ). slice (start b Section.lines_of_nodes + f) (start b Section.lines_of_nodes + t) a) (word_at Section.node_starts v)
      (word_at Section.node_starts (suc v) ∙ ap (λ (j : ℕ). get_or a (at.begins + j) 0) (sym (add-one v)))
      ∙ ap (λ (o : ℕ). slice (o + get_or a (at.begins + v) 0) (o + get_or a (at.begins + (v + 1)) 0) a) (section_at Section.lines_of_nodes)

  pub nodes_are : (x : ℕ) → nodes_of b a x ≡ entries_of a at.starts at.along x
  unfolding nodes_of part entries_of
  nodes_are x =
      ap₂ (λ (f t : ℕ). slice (start b Section.nodes_of_lines + f) (start b Section.nodes_of_lines + t) a) (word_at Section.line_starts x)
      (word_at Section.line_starts (suc x) ∙ ap (λ (j : ℕ). get_or a (at.starts + j) 0) (sym (add-one x)))
      ∙ ap (λ (o : ℕ). slice (o + get_or a (at.starts + x) 0) (o + get_or a (at.starts + (x + 1)) 0) a) (section_at Section.nodes_of_lines)

  -- ---- a start list strictly rises and ends at L+K

  node-start : (v : ℕ) → word_of b a Section.node_starts (suc v) ≡ get_or a (at.begins + (v + 1)) 0
  node-start v = word_at Section.node_starts (suc v) ∙ ap (λ (j : ℕ). get_or a (at.begins + j) 0) (sym (add-one v))

  line-start : (x : ℕ) → word_of b a Section.line_starts (suc x) ≡ get_or a (at.starts + (x + 1)) 0
  line-start x = word_at Section.line_starts (suc x) ∙ ap (λ (j : ℕ). get_or a (at.starts + j) 0) (sym (add-one x))

  pub lines_end : (v : ℕ) → v < at.sizes.nodes → get_or a (at.begins + (v + 1)) 0 ≤ at.sizes.links + K b a
  lines_end v h =
      omega (arith, node-start v, start-most usable.tables.node_starts (suc v) (omega (arith, usable.read.nodes)), usable.read.links)

  pub nodes-end : (x : ℕ) → x < K b a → get_or a (at.starts + (x + 1)) 0 ≤ at.sizes.links + K b a
  nodes-end x h = omega (arith, line-start x, start-most usable.tables.line_starts (suc x) h, usable.read.links)

  -- a node has at least one line
  pub lines_rise : (v : ℕ) → v < at.sizes.nodes → get_or a (at.begins + v) 0 < get_or a (at.begins + (v + 1)) 0
  lines_rise v h = omega (
    arith,
    node-start v,
    word_at Section.node_starts v,
    usable.tables.node_starts.rises v (omega (arith, usable.read.nodes)),
  )

  -- a line has at least one node
  pub nodes_rise : (x : ℕ) → x < K b a → get_or a (at.starts + x) 0 < get_or a (at.starts + (x + 1)) 0
  nodes_rise x h = omega (arith, line-start x, word_at Section.line_starts x, usable.tables.line_starts.rises x h)

  pub lines-span : (v : ℕ) → v < at.sizes.nodes → Spanned a at.begins at.lines v
  lines-span v h =
      record {
        starts-inside = omega (arith, usable.placed, usable.room);
        rises = omega (arith, lines_rise v h);
        ends-inside = omega (arith, lines_end v h, count-few, usable.placed, usable.room);
      }

  pub nodes-span : (x : ℕ) → x < K b a → Spanned a at.starts at.along x
  nodes-span x h =
      record {
        starts-inside = omega (arith, count-few, usable.placed, usable.room);
        rises = omega (arith, nodes_rise x h);
        ends-inside = omega (arith, nodes-end x h, count-few, usable.placed, usable.room);
      }

  -- ---- how long a list is, and its entries

  pub lines_long : (v : ℕ) → v < at.sizes.nodes → get_or a (at.begins + v) 0 + length (lines_of b a v) ≡ get_or a (at.begins + (v + 1)) 0
  lines_long v h = ap (λ (xs : List ℕ). get_or a (at.begins + v) 0 + length xs) (lines_are v) ∙ entries-long (lines-span v h)

  pub nodes-long : (x : ℕ) → x < K b a → get_or a (at.starts + x) 0 + length (nodes_of b a x) ≡ get_or a (at.starts + (x + 1)) 0
  nodes-long x h = ap (λ (xs : List ℕ). get_or a (at.starts + x) 0 + length xs) (nodes_are x) ∙ entries-long (nodes-span x h)

  pub line_word : (v i : ℕ) → v < at.sizes.nodes → i < length (lines_of b a v) → get_or (lines_of b a v) i 0 ≡ get_or a (at.lines + (get_or a (at.begins + v) 0 + i)) 0
  line_word v i h g =
      ap (λ (xs : List ℕ). get_or xs i 0) (lines_are v) ∙ entry-word a at.begins at.lines v i (omega (arith, lines_long v h))

  pub node-word : (x i : ℕ) → x < K b a → i < length (nodes_of b a x) → get_or (nodes_of b a x) i 0 ≡ get_or a (at.along + (get_or a (at.starts + x) 0 + i)) 0
  node-word x i h g =
      ap (λ (xs : List ℕ). get_or xs i 0) (nodes_are x) ∙ entry-word a at.starts at.along x i (omega (arith, nodes-long x h))

  -- "Entries are below K and N."
  pub line_known : (v i : ℕ) → v < at.sizes.nodes → i < length (lines_of b a v) → get_or (lines_of b a v) i 0 < K b a
  line_known v i h g =
      let j : ℕ = get_or a (at.begins + v) 0 + i in
      omega (
        arith,
        line_word v i h g,
        word_at Section.lines_of_nodes j,
        usable.tables.lines_known j (omega (arith, lines_long v h, lines_end v h, usable.read.links)),
      )

  pub node-known : (x i : ℕ) → x < K b a → i < length (nodes_of b a x) → get_or (nodes_of b a x) i 0 < at.sizes.nodes
  node-known x i h g =
      let j : ℕ = get_or a (at.starts + x) 0 + i in
      omega (
        arith,
        node-word x i h g,
        word_at Section.nodes_of_lines j,
        usable.read.nodes,
        usable.tables.nodes_known j (omega (arith, nodes-long x h, nodes-end x h, usable.read.links)),
      )
