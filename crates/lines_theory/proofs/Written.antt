-- Reading what is written: every section of an area that holds tables has the tables' contents.
-- Rests on lists.Laid (lists laid one after the other) and on the sizes of the tables.
use Prim.Native.Nat.{ℕ, suc, ◌+◌, ◌-◌, ◌*◌, ◌≤◌, ◌<◌}
use native.Mathlib.Nat.{zero-add}
use native.Mathlib.Decide.{dec_lt}
use native.Mathlib.Omega.{arith}
use mathlib.Core.Path.{◌≡◌, refl, sym, ap, ◌∙◌}
use mathlib.Core.Logic.{inr}
use mathlib.Core.List.{List, [], map, flatten}
use lib.ListN.{length, get_or, take}
use lib.Seq.{sets, length-sets, ext_get_or}
use Rattle.lists.specs.Lists.{sum, pad}
use Rattle.lists.proofs.Sections.{get_or-sets_in, get_or-sets-out, length_part, get_d_part}
use Rattle.paper.specs.Map.{N, L}
use Rattle.paper.proofs.Area.{W-sum}
use Rattle.paper.specs.Lines.{Tables, tables}
use Rattle.paper.specs.Area.{Section, line_count, sections, size, before, start, W, word_of, section, part, K, order_of, position, lines_of, nodes_of, starts, contents, prepared, written}
use Rattle.lines_theory.specs.Sized.{Sized, laid, holding}
use Rattle.lists.proofs.Laid.{length-pad, get_or-pad, length-laid, get_or-laid, laid-room, length_flatten, slice_is}
use Rattle.lines_theory.proofs.Starts.{length-starts, starts-next, starts-room, get_or_flatten}

-- preparing lays the tables into the area
pub prepared-holds : (b a : List ℕ) → prepared b a ≡ holding b (tables b) a
unfolding prepared written holding laid
prepared-holds b a = refl

-- a section stands in the list of sections behind those before it
abbrev place_of : Section → ℕ
place_of s = length (before s sections)

record Stands (s : Section) : Type 0 where
  inside : place_of s < length sections
  there : get_or sections (place_of s) line_count ≡ s
  behind : before s sections ≡ take (place_of s) sections

stands : (s : Section) → Stands s
stands Section.line_count = record { inside = omega arith; there = refl; behind = refl }
stands Section.order = record { inside = omega arith; there = refl; behind = refl }
stands Section.positions = record { inside = omega arith; there = refl; behind = refl }
stands Section.node_starts = record { inside = omega arith; there = refl; behind = refl }
stands Section.lines_of_nodes = record { inside = omega arith; there = refl; behind = refl }
stands Section.line_starts = record { inside = omega arith; there = refl; behind = refl }
stands Section.nodes_of_lines = record { inside = omega arith; there = refl; behind = refl }
stands Section.scratch = record { inside = omega arith; there = refl; behind = refl }

-- .. and ends within the area
pub section-room : (b : List ℕ) (s : Section) → start b s + size b s ≤ W b
unfolding start W
section-room b s =
    omega (
      arith,
      laid-room (size b) sections (place_of s) line_count (stands s).inside,
      ap (λ (rs : List Section). sum (map (size b) rs)) (stands s).behind,
      ap (size b) (stands s).there,
    )

-- every word of the area is a word of one section
pub record InSection (b : List ℕ) (x : ℕ) : Type 0 where
  pub section : Section
  pub offset : ℕ
  pub inside : offset < size b section
  pub place : x ≡ start b section + offset

-- where each section starts, in numbers
abbrev pub start_is : ℕ → ℕ → Section → ℕ
start_is n l Section.line_count = 0
start_is n l Section.order = 1
start_is n l Section.positions = 1 + n
start_is n l Section.node_starts = 1 + 2 * n
start_is n l Section.lines_of_nodes = 2 + 3 * n
start_is n l Section.line_starts = 2 + 4 * n + 2 * l
start_is n l Section.nodes_of_lines = 3 + 5 * n + 3 * l
start_is n l Section.scratch = 3 + 6 * n + 5 * l

pub start_is_lem : (b : List ℕ) (s : Section) → start b s ≡ start_is (N b) (L b) s
unfolding start size
start_is_lem b Section.line_count = omega arith
start_is_lem b Section.order = omega arith
start_is_lem b Section.positions = omega arith
start_is_lem b Section.node_starts = omega arith
start_is_lem b Section.lines_of_nodes = omega arith
start_is_lem b Section.line_starts = omega arith
start_is_lem b Section.nodes_of_lines = omega arith
start_is_lem b Section.scratch = omega arith

in_section : (b : List ℕ) (x : ℕ) → x < W b → InSection b x
unfolding size
in_section b x h =
    pick (dec_lt x 1) (dec_lt x (1 + N b)) (dec_lt x (1 + 2 * N b)) (dec_lt x (2 + 3 * N b)) (dec_lt x (2 + 4 * N b + 2 * L b))
    (dec_lt x (3 + 5 * N b + 3 * L b))
    (dec_lt x (3 + 6 * N b + 5 * L b))
  where
    at : (s : Section) → start b s ≤ x → x < start b s + size b s → InSection b x
    at s low high = record { section = s; offset = x - start b s; inside = omega arith; place = omega arith }

    pick : Dec (x < 1) → Dec (x < 1 + N b) → Dec (x < 1 + 2 * N b) → Dec (x < 2 + 3 * N b) → Dec (x < 2 + 4 * N b + 2 * L b)
        → Dec (x < 3 + 5 * N b + 3 * L b) → Dec (x < 3 + 6 * N b + 5 * L b) → InSection b x
    pick (yes l) d e f g j k = at Section.line_count (omega (arith, start_is_lem b Section.line_count)) (omega (arith, start_is_lem b Section.line_count))
    pick (no c) (yes l) e f g j k = at Section.order (omega (arith, start_is_lem b Section.order)) (omega (arith, start_is_lem b Section.order))
    pick (no c) (no d) (yes l) f g j k = at Section.positions (omega (arith, start_is_lem b Section.positions)) (omega (arith, start_is_lem b Section.positions))
    pick (no c) (no d) (no e) (yes l) g j k = at Section.node_starts (omega (arith, start_is_lem b Section.node_starts)) (omega (arith, start_is_lem b Section.node_starts))
    pick (no c) (no d) (no e) (no f) (yes l) j k = at Section.lines_of_nodes (omega (arith, start_is_lem b Section.lines_of_nodes)) (omega (arith, start_is_lem b Section.lines_of_nodes))
    pick (no c) (no d) (no e) (no f) (no g) (yes l) k = at Section.line_starts (omega (arith, start_is_lem b Section.line_starts)) (omega (arith, start_is_lem b Section.line_starts))
    pick (no c) (no d) (no e) (no f) (no g) (no j) (yes l) = at Section.nodes_of_lines (omega (arith, start_is_lem b Section.nodes_of_lines)) (omega (arith, start_is_lem b Section.nodes_of_lines))
    pick (no c) (no d) (no e) (no f) (no g) (no j) (no k) = at Section.scratch (omega (arith, start_is_lem b Section.scratch)) (omega (arith, start_is_lem b Section.scratch, W-sum b))

module _ {b : List ℕ} {t : Tables} (sized : Sized b t) where
  -- every section has room for its contents
  pub room : (s : Section) → length (contents t s) ≤ size b s
  unfolding size contents
  room Section.line_count = omega arith
  room Section.order = omega (arith, sized.ordered)
  room Section.positions = omega (arith, sized.placed)
  room Section.node_starts = omega (arith, sized.nodes, length-starts 0 t.lines_of_nodes)
  room Section.lines_of_nodes = omega (arith, sized.few, sized.line_entries, length_flatten t.lines_of_nodes)
  room Section.line_starts = omega (arith, sized.few, sized.lines, length-starts 0 t.nodes_of_lines)
  room Section.nodes_of_lines = omega (arith, sized.few, sized.node_entries, length_flatten t.nodes_of_lines)
  room Section.scratch = omega arith

  full : (s : Section) → length (pad (size b s) (contents t s)) ≡ size b s
  full s = length-pad (size b s) (contents t s) (room s)

  pub laid-long : length (laid b t) ≡ W b
  unfolding laid W
  laid-long = length-laid (λ s. pad (size b s) (contents t s)) (size b) full sections

  laid_at : (s : Section) (i : ℕ) → i < size b s → get_or (laid b t) (start b s + i) 0 ≡ get_or (contents t s) i 0
  unfolding laid start
  laid_at s i h =
      ap (λ (rs : List Section). get_or (laid b t) (sum (map (size b) rs) + i) 0) (stands s).behind
      ∙ get_or-laid filled (size b) full sections (place_of s) line_count i (stands s).inside (rw (stands s).there h)
      ∙ ap (λ (r : Section). get_or (filled r) i 0) (stands s).there
      ∙ get_or-pad (size b s) (contents t s) i
    where
      filled : Section → List ℕ
      filled r = pad (size b r) (contents t r)

  module _ (a : List ℕ) (fits : W b ≤ length a) where
    -- word i of a section is word i of its contents
    pub word_held : (s : Section) (i : ℕ) → i < size b s → word_of b (holding b t a) s i ≡ get_or (contents t s) i 0
    unfolding word_of holding
    word_held s i h =
        ap (λ (k : ℕ). get_or (sets a 0 (laid b t)) k 0) (sym (zero-add (start b s + i)))
        ∙ get_or-sets_in a 0 (laid b t) (start b s + i) 0 (omega (arith, section-room b s, laid-long)) (omega (arith, laid-long))
        ∙ laid_at s i h

    long : length (holding b t a) ≡ length a
    unfolding holding
    long = length-sets a 0 (laid b t)

    past : (x : ℕ) → W b ≤ x → get_or (holding b t a) x 0 ≡ get_or a x 0
    unfolding holding
    past x h = get_or-sets-out a 0 (laid b t) x 0 (inr (omega (arith, laid-long)))

    -- .. and an area with these words, and a's words past the map's, holds the tables
    pub holding-is : {m : List ℕ} → length m ≡ length a → ((s : Section) (i : ℕ) → i < size b s → word_of b m s i ≡ get_or (contents t s) i 0)
        → ((x : ℕ) → W b ≤ x → get_or m x 0 ≡ get_or a x 0) → m ≡ holding b t a
    unfolding word_of
    holding-is {m} same_length words beyond = ext_get_or 0 m (holding b t a) (same_length ∙ sym long) (λ x h. go x (dec_lt x (W b)))
      where
        within : (x : ℕ) → InSection b x → get_or m x 0 ≡ get_or (holding b t a) x 0
        within x at =
            rw at.place (words at.section at.offset at.inside ∙ sym (word_held at.section at.offset at.inside))

        go : (x : ℕ) → Dec (x < W b) → get_or m x 0 ≡ get_or (holding b t a) x 0
        go x (yes lt) = within x (in_section b x lt)
        go x (no ge) = beyond x (omega arith) ∙ sym (past x (omega arith))

    -- ---- the tables, one by one

    pub count_held : K b (holding b t a) ≡ t.count
    unfolding K contents size
    count_held = word_held Section.line_count 0 (omega arith)

    pub order-held : order_of b (holding b t a) ≡ t.order
    unfolding order_of section word_of contents size
    order-held =
        ext_get_or 0 (section b (holding b t a) Section.order) t.order (whole ∙ sym sized.ordered)
        (λ i l. get_d_part (holding b t a) (start b Section.order) (N b) i 0 (omega (arith, whole)) ∙ word_held Section.order i (omega (arith, whole)))
      where
        whole : length (section b (holding b t a) Section.order) ≡ N b
        whole = length_part (holding b t a) (start b Section.order) (N b) (omega (arith, long, section-room b Section.order))

    pub position-held : (v : ℕ) → v < N b → position b (holding b t a) v ≡ get_or t.positions v 0
    unfolding position contents size
    position-held v h = word_held Section.positions v h

    pub node-starts-held : (v : ℕ) → v ≤ N b → word_of b (holding b t a) Section.node_starts v ≡ get_or (starts 0 t.lines_of_nodes) v 0
    unfolding contents size
    node-starts-held v h = word_held Section.node_starts v (omega arith)

    pub line-starts-held : (l : ℕ) → l ≤ t.count → word_of b (holding b t a) Section.line_starts l ≡ get_or (starts 0 t.nodes_of_lines) l 0
    unfolding contents size
    line-starts-held l h = word_held Section.line_starts l (omega (arith, sized.few))

    pub line-entries-held : (i : ℕ) → i < L b + t.count → word_of b (holding b t a) Section.lines_of_nodes i ≡ get_or (flatten t.lines_of_nodes) i 0
    unfolding contents size
    line-entries-held i h = word_held Section.lines_of_nodes i (omega (arith, sized.few))

    pub node-entries-held : (i : ℕ) → i < L b + t.count → word_of b (holding b t a) Section.nodes_of_lines i ≡ get_or (flatten t.nodes_of_lines) i 0
    unfolding contents size
    node-entries-held i h = word_held Section.nodes_of_lines i (omega (arith, sized.few))

    -- a list in its section, between two starts
    list_held : (s : Section) (ls : List (List ℕ)) (i f e : ℕ) → i < length ls → sum (map length ls) ≤ size b s
        → ((j : ℕ) → j < sum (map length ls) → word_of b (holding b t a) s j ≡ get_or (flatten ls) j 0)
        → f ≡ get_or (starts 0 ls) i 0 → e ≡ get_or (starts 0 ls) (suc i) 0 → part b (holding b t a) s f e ≡ get_or ls i []
    unfolding part word_of
    list_held s ls i f e h few same first last =
        slice_is (holding b t a) (get_or ls i []) (start b s + f) (start b s + e) (omega (arith, starts-next 0 ls i h))
        (omega (arith, long, section-room b s, starts-next 0 ls i h, starts-room 0 ls i h))
        (λ j l. ap (λ (k : ℕ). get_or (holding b t a) k 0) (over j) ∙ same (f + j) (omega (arith, starts-room 0 ls i h))
        ∙ ap (λ (k : ℕ). get_or (flatten ls) (k + j) 0) first ∙ get_or_flatten ls i j h l)
      where
        over : (j : ℕ) → start b s + f + j ≡ start b s + (f + j)
        over j = omega arith

    pub lines-held : (v : ℕ) → v < N b → lines_of b (holding b t a) v ≡ get_or t.lines_of_nodes v []
    unfolding lines_of size
    lines-held v h =
        list_held Section.lines_of_nodes t.lines_of_nodes v _ _ (omega (arith, sized.nodes)) (omega (arith, sized.few, sized.line_entries))
        (λ j l. line-entries-held j (omega (arith, sized.line_entries))) (node-starts-held v (omega arith))
        (node-starts-held (suc v) (omega arith))

    pub nodes-held : (l : ℕ) → l < t.count → nodes_of b (holding b t a) l ≡ get_or t.nodes_of_lines l []
    unfolding nodes_of size
    nodes-held l h =
        list_held Section.nodes_of_lines t.nodes_of_lines l _ _ (omega (arith, sized.lines)) (omega (arith, sized.few, sized.node_entries))
        (λ j m. node-entries-held j (omega (arith, sized.node_entries))) (line-starts-held l (omega arith))
        (line-starts-held (suc l) (omega arith))
