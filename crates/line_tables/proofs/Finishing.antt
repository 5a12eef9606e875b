-- The tables are whole: what stands after all nodes are placed, the nodes of the lines listed, the scratch cleared and K written.
-- Rests on Rows, line_lists and lines_theory.Written.
use Prim.Native.Nat.{ℕ, ◌+◌, ◌-◌, ◌*◌, ◌≤◌, ◌<◌}
use native.Mathlib.Decide.{dec_lt}
use native.Mathlib.Omega.{arith}
use mathlib.Core.Path.{◌≡◌, refl, sym, ap, ap₂, ◌∙◌, subst}
use mathlib.Core.Logic.{inl, inr}
use mathlib.Core.Bool.{Bool, true, false, cond}
use mathlib.Core.List.{List, [], ◌∷◌, map, flatten, Memᴰ}
use lib.ListN.{length, get_or, set, replicate, take, length-set, length-replicate, get_or-eq_default}
use lib.Seq.{sets, length-sets, take-length, ext_get_or, get_or-set_same, get_or-set_other}
use lib.Dec.{eqb}
use borrow.Author.Tests.{eqb-true}
use Rattle.lists.specs.Lists.{upto, keep, member, times}
use Rattle.lists.specs.Bounds.{Below}
use Rattle.lists.proofs.Sections.{Apart, part, length_part, get_d_part, get_or-sets_in, get_or-sets-out}
use Rattle.lists.proofs.Laid.{length_flatten}
use Rattle.lists.proofs.Upto.{get_or-zeros, table_same}
use Rattle.lists.proofs.Places.{times_in_back}
use Rattle.paper.specs.Map.{N, L}
use Rattle.paper.specs.Order.{order}
use Rattle.paper.specs.Lines.{Placed, Frontier, placed_as, frontier_after, tables, tables_of}
use Rattle.paper.specs.Area.{Section, size, W, word_of, starts, contents, prepared}
use Rattle.paper.proofs.Area.{W-sum}
use Rattle.order_theory.proofs.Order.{ordered-known}
use Rattle.lines_theory.specs.Sized.{Sized}
use Rattle.lines_theory.specs.Good.{Good}
use Rattle.lines_theory.proofs.PlacedAs.{found-placed}
use Rattle.lines_theory.proofs.Prepared.{tables-sized}
use Rattle.lines_theory.proofs.Good.{tables-good}
use Rattle.lines_theory.proofs.Starts.{length-starts, get_or_flatten, Located, located}
use Rattle.lines_theory.proofs.Written.{prepared-holds, holding-is}
use Rattle.line_lists.specs.Columns.{columns, columns_in, Transposing}
use Rattle.line_lists.proofs.Reading.{columns-read}
use Rattle.tables.specs.declared.Layout.{Layout}
use Rattle.tables.specs.Placed.{place}
use Rattle.line_tables.specs.declared.room.Room.{Room}
use Rattle.line_tables.specs.Layout.{start_of, entries}
use Rattle.line_tables.specs.Spread.{Spread, in_tables, behind, Over}
use Rattle.line_tables.specs.Frontier.{frontier_at, Turned}
use Rattle.line_tables.specs.Spreading.{Spreads}
use Rattle.line_tables.proofs.Holding.{passing}
use Rattle.line_tables.proofs.Links.{is-sound, entries_fit}
use Rattle.line_tables.proofs.Rows.{Passing, rows, row, all-ordered, at_turn, rows_long, seat-row, seat-position}

-- ---- looking up

-- a node that is looked up is itself
itself : (v : ℕ) (xs : List Placed) → (placed_as v xs).node ≡ v
unfolding placed_as
itself v [] = refl
itself v (x ∷ xs) = go (eqb x.node v) refl (itself v xs)
  where
    go : (t : Bool) → eqb x.node v ≡ t → (placed_as v xs).node ≡ v → (cond t x (placed_as v xs)).node ≡ v
    go true e ih = eqb-true x.node v e
    go false e ih = ih

-- the nodes of those placed that list a line are those nodes whose row has it
kept-nodes : (xs : List Placed) (f : ℕ → Bool) (g : Placed → Bool) → ((x : Placed) → Memᴰ x xs → f x.node ≡ g x)
    → keep f (map (λ x. x.node) xs) ≡ map (λ x. x.node) (keep g xs)
kept-nodes [] f g h = refl
kept-nodes (x ∷ xs) f g h =
    rw (h x (Memᴰ.head refl)) (go (g x) (kept-nodes xs f g (λ y m. h y (Memᴰ.tail m))))
  where
    go : (t : Bool) → keep f (map (λ y. y.node) xs) ≡ map (λ y. y.node) (keep g xs)
        → cond t (x.node ∷ keep f (map (λ y. y.node) xs)) (keep f (map (λ y. y.node) xs)) ≡ map (λ y. y.node) (cond t (x ∷ keep g xs) (keep g xs))
    go true e = ap (λ (ns : List ℕ). x.node ∷ ns) e
    go false e = e

module _ {b a : List ℕ} {at : Layout} {room : Room} (turned : Turned b a at room at.sizes.nodes) where
  spread : Spread b a at room
  spread = turned.spread

  ok : Passing b
  ok = passing spread

  nodes : N b ≡ at.sizes.nodes
  nodes = spread.ready.read.nodes

  links : L b ≡ at.sizes.links
  links = spread.ready.read.links

  sized : Sized b (tables b)
  sized = tables-sized b ok.links ok.cycle

  good : Good b (tables b)
  good = tables-good b ok.links ok.cycle

  last : frontier_at b at.sizes.nodes ≡ frontier_after b (order b) (length (order b))
  last = ap (frontier_after b (order b)) (sym (all-ordered ok ∙ nodes))

  table-order : (tables b).order ≡ order b
  unfolding tables tables_of
  table-order = refl

  pub count-is : (frontier_at b at.sizes.nodes).count ≡ (tables b).count
  unfolding tables tables_of
  count-is = ap (λ f. f.count) last

  placed-nodes : map (λ x. x.node) (frontier_at b at.sizes.nodes).placed ≡ order b
  placed-nodes =
      (at_turn ok at.sizes.nodes (omega (arith, nodes))).nodes
      ∙ ap (λ (k : ℕ). take k (order b)) (sym (all-ordered ok ∙ nodes)) ∙ take-length (order b)

  found : (v : ℕ) → v < at.sizes.nodes → Memᴰ (placed_as v (frontier_at b at.sizes.nodes).placed) (frontier_at b at.sizes.nodes).placed
  found v h =
      found-placed v (frontier_at b at.sizes.nodes).placed
      (omega (arith, ap (times v) placed-nodes, good.each_once v (omega (arith, nodes)), order_is))
    where
      order_is : times v (tables b).order ≡ times v (order b)
      order_is = ap (times v) table-order

  row_is : (v : ℕ) → v < at.sizes.nodes → (placed_as v (frontier_at b at.sizes.nodes).placed).lines ≡ row b v
  row_is v h =
      sym (seat-row ok at.sizes.nodes (omega (arith, nodes)) (found v h)) ∙ ap (row b) (itself v (frontier_at b at.sizes.nodes).placed)

  position-is : (v : ℕ) → v < at.sizes.nodes → (placed_as v (frontier_at b at.sizes.nodes).placed).position ≡ get_or (tables b).positions v 0
  position-is v h =
      sym (seat-position ok at.sizes.nodes (omega (arith, nodes)) (found v h)) ∙ ap (λ (u : ℕ). get_or (tables b).positions u 0) (itself v (frontier_at b at.sizes.nodes).placed)

  -- ---- the words of the tables

  position-word : (v : ℕ) → v < at.sizes.nodes → get_or a (at.positions + v) 0 ≡ get_or (tables b).positions v 0
  position-word v h =
      ap (λ (u : ℕ). get_or a (at.positions + u) 0) (sym (itself v (frontier_at b at.sizes.nodes).placed))
      ∙ turned.held.positions (placed_as v (frontier_at b at.sizes.nodes).placed) (found v h)
      ∙ position-is v h

  list-word : (v i : ℕ) → v < at.sizes.nodes → i < length (row b v) → get_or a (at.lines + (start_of b v + i)) 0 ≡ get_or (row b v) i 0
  list-word v i h g =
      ap (λ (u : ℕ). get_or a (at.lines + (start_of b u + i)) 0) (sym (itself v (frontier_at b at.sizes.nodes).placed))
      ∙ turned.held.lists (placed_as v (frontier_at b at.sizes.nodes).placed) (found v h) i (omega (arith, ap length (row_is v h)))
      ∙ ap (λ (ls : List ℕ). get_or ls i 0) (row_is v h)

  all-entries : length (flatten (rows b)) ≡ entries b
  all-entries = length_flatten (rows b) ∙ sized.line_entries

  entry-word : (x : ℕ) → x < entries b → get_or a (at.lines + x) 0 ≡ get_or (flatten (rows b)) x 0
  entry-word x h = read (located 0 (rows b) x (omega (arith, sized.line_entries)))
    where
      read : Located 0 (rows b) x → get_or a (at.lines + x) 0 ≡ get_or (flatten (rows b)) x 0
      read r =
          ap (λ (k : ℕ). get_or a (at.lines + k) 0) place
          ∙ list-word r.which r.offset (omega (arith, r.known, rows_long ok, nodes)) r.inside
          ∙ sym (get_or_flatten (rows b) r.which r.offset r.known r.inside)
          ∙ ap (λ (k : ℕ). get_or (flatten (rows b)) k 0) (sym place)
        where
          place : x ≡ get_or (starts 0 (rows b)) r.which 0 + r.offset
          place = omega (arith, r.place)

  -- ---- the lists of the lines

  end_inside : at.lines + entries b ≤ at.starts
  end_inside = omega (arith, entries_fit spread)

  starts_stand : part a at.begins (at.sizes.nodes + 1) ≡ starts 0 (rows b)
  starts_stand =
      ext_get_or 0 (part a at.begins (at.sizes.nodes + 1)) (starts 0 (rows b)) (long ∙ omega (arith, length-starts 0 (rows b), rows_long ok, nodes))
      (λ v h. get_d_part a at.begins (at.sizes.nodes + 1) v 0 (omega (arith, long)) ∙ spread.list-start v (omega (arith, long)))
    where
      long : length (part a at.begins (at.sizes.nodes + 1)) ≡ at.sizes.nodes + 1
      long = length_part a at.begins (at.sizes.nodes + 1) (omega (arith, spread.ready.long))

  lines_stand : part a at.lines (entries b) ≡ flatten (rows b)
  lines_stand =
      ext_get_or 0 (part a at.lines (entries b)) (flatten (rows b)) (long ∙ sym all-entries)
      (λ x h. get_d_part a at.lines (entries b) x 0 (omega (arith, long)) ∙ entry-word x (omega (arith, long)))
    where
      long : length (part a at.lines (entries b)) ≡ entries b
      long = length_part a at.lines (entries b) (omega (arith, end_inside, spread.ready.long))

  order-stands : part a at.order at.sizes.nodes ≡ order b
  order-stands =
      ext_get_or 0 (part a at.order at.sizes.nodes) (order b) (long ∙ sym (all-ordered ok ∙ nodes))
      (λ t h. get_d_part a at.order at.sizes.nodes t 0 (omega (arith, long)) ∙ spread.node-is t (omega (arith, long)))
    where
      long : length (part a at.order at.sizes.nodes) ≡ at.sizes.nodes
      long = length_part a at.order at.sizes.nodes (omega (arith, spread.ready.long))

  none_past : (k : ℕ) → N b ≤ k → times k (order b) ≡ 0
  none_past k h = go (dec_lt 0 (times k (order b)))
    where
      go : Dec (0 < times k (order b)) → times k (order b) ≡ 0
      go (yes some) = absurd (omega (arith, ordered-known (is-sound spread) k (times_in_back k (order b) some)))
      go (no none) = omega arith

  module _ {count : ℕ} (is-count : count ≡ (frontier_at b at.sizes.nodes).count) where
    pub counted : count ≡ (tables b).count
    counted = is-count ∙ count-is

    pub count-few : at.sizes.links + count ≤ 8192
    count-few =
        omega (arith, counted, sized.few, nodes, links, spread.ready.read.few-nodes, spread.ready.read.few-links)

    many : at.sizes.links + count ≡ entries b
    many = omega (arith, counted, links)

    pub transposing : Transposing a at.sizes.nodes count (at.sizes.links + count) at.order at.begins at.lines at.starts at.along
    transposing =
        record {
          rows = rows b;
          after-order = omega arith;
          after-starts = omega arith;
          after-lines = omega (arith, many, end_inside);
          after-line-starts = omega (arith, counted, sized.few, nodes, links);
          room = omega (arith, many, entries_fit spread, spread.ready.long);
          small = omega (arith, many, entries_fit spread, spread.ready.read.few-nodes, spread.ready.read.few-links);
          few = omega (arith, spread.ready.read.few-nodes);
          count = rows_long ok ∙ nodes;
          total = many ∙ sym sized.line_entries;
          starts_stand = starts_stand;
          lines_stand = ap (part a at.lines) many ∙ lines_stand;
          known = λ v h. subst (λ (k : ℕ). Below k (row b v)) (sym counted) (good.lines_known v (omega (arith, nodes)));
          once = λ v k h. omega (arith, ap (times k) (row_is v h), ((at_turn ok at.sizes.nodes (omega (arith, nodes))).listed (placed_as v (frontier_at b at.sizes.nodes).placed) (found v h)).once k);
          nodes-known = rw order-stands (λ k h. none_past k (omega (arith, nodes)));
          nodes-once = λ v h. ap (times v) (order-stands ∙ sym table-order) ∙ good.each_once v (omega (arith, nodes));
        }

    -- the columns are the tables' lists
    pub columns_are : columns_in a at.sizes.nodes count at.order at.begins at.lines ≡ (tables b).nodes_of_lines
    unfolding columns tables tables_of transposing
    columns_are =
        columns-read transposing order-stands
        ∙ table_same _ (λ k. map (λ x. x.node) (keep (λ x. member k x.lines) (frontier_at b at.sizes.nodes).placed)) count column
        ∙ ap₂ (λ (f : Frontier) (k : ℕ). map (λ i. map (λ x. x.node) (keep (λ x. member i x.lines) f.placed)) (upto k)) last counted
      where
        column : (k : ℕ) → k < count → keep (λ v. member k (row b v)) (order b) ≡ map (λ x. x.node) (keep (λ x. member k x.lines) (frontier_at b at.sizes.nodes).placed)
        column k h =
            ap (keep (λ v. member k (row b v))) (sym placed-nodes)
            ∙ kept-nodes (frontier_at b at.sizes.nodes).placed (λ v. member k (row b v)) (λ x. member k x.lines)
            (λ x m. ap (member k) (seat-row ok at.sizes.nodes (omega (arith, nodes)) m))

-- ---- every word at the end

module _ {b a₀ a₁ a₂ a₃ a₄ a₅ : List ℕ} {at : Layout} {room : Room} {count : ℕ} (sp : Spreads b a₀ a₁ at room) (over : Over b at room a₁ a₂) (turned : Turned b a₂ at room at.sizes.nodes)
    (is-count : count ≡ (frontier_at b at.sizes.nodes).count)
    (e₃ : a₃ ≡ sets (sets a₂ at.starts (starts 0 (columns_in a₂ at.sizes.nodes count at.order at.begins at.lines))) at.along (flatten (columns_in a₂ at.sizes.nodes count at.order at.begins at.lines)))
    (e₄ : a₄ ≡ sets a₃ at.scratch (replicate (at.end - at.scratch) 0)) (e₅ : a₅ ≡ set a₄ 0 count) where
  cols : List (List ℕ)
  cols = (tables b).nodes_of_lines

  of_sizes : Sized b (tables b)
  of_sizes = sized turned

  a_nodes : N b ≡ at.sizes.nodes
  a_nodes = nodes turned

  a_links : L b ≡ at.sizes.links
  a_links = links turned

  listed₃ : a₃ ≡ sets (sets a₂ at.starts (starts 0 cols)) at.along (flatten cols)
  unfolding cols
  listed₃ =
      e₃ ∙ ap (λ (ls : List (List ℕ)). sets (sets a₂ at.starts (starts 0 ls)) at.along (flatten ls)) (columns_are turned is-count)

  long-starts : length (starts 0 cols) ≡ (tables b).count + 1
  unfolding cols
  long-starts = omega (arith, length-starts 0 (tables b).nodes_of_lines, of_sizes.lines)

  long-lists : length (flatten cols) ≡ entries b
  unfolding cols
  long-lists = length_flatten (tables b).nodes_of_lines ∙ of_sizes.node_entries

  few : entries b ≤ at.sizes.nodes + 2 * at.sizes.links
  few = entries_fit (spread turned)

  few-lines : (tables b).count ≤ at.sizes.links + at.sizes.nodes
  few-lines = omega (arith, of_sizes.few, a_nodes, a_links)

  room₀ : at.end ≤ length a₀
  room₀ = omega (arith, (spread turned).ready.long, over.long, sp.long)

  starts-laid : List ℕ
  starts-laid = sets a₂ at.starts (starts 0 cols)

  long₂ : length a₂ ≡ length a₀
  long₂ = over.long ∙ sp.long

  long-laid : length starts-laid ≡ length a₀
  unfolding starts-laid
  long-laid = length-sets a₂ at.starts (starts 0 cols) ∙ long₂

  is-laid : a₃ ≡ sets starts-laid at.along (flatten cols)
  unfolding starts-laid
  is-laid = listed₃

  long₃ : length a₃ ≡ length a₀
  long₃ = ap length is-laid ∙ length-sets starts-laid at.along (flatten cols) ∙ long-laid

  long₄ : length a₄ ≡ length a₀
  long₄ = ap length e₄ ∙ length-sets a₃ at.scratch (replicate (at.end - at.scratch) 0) ∙ long₃

  long₅ : length a₅ ≡ length a₀
  long₅ = ap length e₅ ∙ length-set a₄ 0 count ∙ long₄

  -- ---- back through the steps

  after_first : (i : ℕ) → 1 ≤ i → get_or a₅ i 0 ≡ get_or a₄ i 0
  after_first i h = ap (λ (x : List ℕ). get_or x i 0) e₅ ∙ get_or-set_other a₄ 0 i count 0 (λ e. omega (arith, e))

  off_scratch : (i : ℕ) → Apart i at.scratch (at.end - at.scratch) → get_or a₄ i 0 ≡ get_or a₃ i 0
  off_scratch i away =
      ap (λ (x : List ℕ). get_or x i 0) e₄
      ∙ get_or-sets-out a₃ at.scratch (replicate (at.end - at.scratch) 0) i 0
      (subst (Apart i at.scratch) (sym (length-replicate (at.end - at.scratch) 0)) away)

  off_nodes : (i : ℕ) → Apart i at.along (entries b) → get_or a₃ i 0 ≡ get_or starts-laid i 0
  off_nodes i away =
      ap (λ (x : List ℕ). get_or x i 0) is-laid
      ∙ get_or-sets-out starts-laid at.along (flatten cols) i 0 (subst (Apart i at.along) (sym long-lists) away)

  off_starts : (i : ℕ) → Apart i at.starts ((tables b).count + 1) → get_or starts-laid i 0 ≡ get_or a₂ i 0
  unfolding starts-laid
  off_starts i away =
      get_or-sets-out a₂ at.starts (starts 0 cols) i 0 (subst (Apart i at.starts) (sym long-starts) away)

  in_front₅ : (i : ℕ) → 1 ≤ i → i < at.starts → get_or a₅ i 0 ≡ get_or a₂ i 0
  in_front₅ i h low =
      after_first i h ∙ off_scratch i (inl (omega arith)) ∙ off_nodes i (inl (omega arith)) ∙ off_starts i (inl low)

  -- a word of the tables that nothing was written to
  unused : (i : ℕ) → at.lines + entries b ≤ i → i < at.scratch → get_or a₂ i 0 ≡ 0
  unused i h low = over.same i (in_tables h (omega arith)) ∙ sp.clear i (inr (inr (omega arith))) low

  -- ---- section by section

  count_word : (i : ℕ) → i < 1 → get_or a₅ (0 + i) 0 ≡ get_or ((tables b).count ∷ []) i 0
  count_word i h =
      ap₂ (λ (x : List ℕ) (k : ℕ). get_or x k 0) e₅ only
      ∙ get_or-set_same a₄ 0 count 0 (omega (arith, long₄, room₀))
      ∙ counted turned is-count
      ∙ ap (λ (k : ℕ). get_or ((tables b).count ∷ []) k 0) (first i h)
    where
      first : (i : ℕ) → i < 1 → 0 ≡ i
      first i h = omega arith

      only : 0 + i ≡ 0
      only = omega arith

  order-word : (i : ℕ) → i < at.sizes.nodes → get_or a₅ (at.order + i) 0 ≡ get_or (tables b).order i 0
  order-word i h =
      in_front₅ (at.order + i) (omega arith) (omega arith) ∙ (spread turned).node-is i h
      ∙ ap (λ (us : List ℕ). get_or us i 0) (sym (table-order turned))

  starts-word : (i : ℕ) → i < at.sizes.nodes + 1 → get_or a₅ (at.begins + i) 0 ≡ get_or (starts 0 (tables b).lines_of_nodes) i 0
  starts-word i h =
      in_front₅ (at.begins + i) (omega arith) (omega arith) ∙ (spread turned).list-start i (omega arith)

  lines-word : (i : ℕ) → i < 2 * at.sizes.links + at.sizes.nodes → get_or a₅ (at.lines + i) 0 ≡ get_or (flatten (tables b).lines_of_nodes) i 0
  lines-word i h = in_front₅ (at.lines + i) (omega arith) (omega arith) ∙ go (dec_lt i (entries b))
    where
      go : Dec (i < entries b) → get_or a₂ (at.lines + i) 0 ≡ get_or (flatten (tables b).lines_of_nodes) i 0
      go (yes lt) = entry-word turned i lt
      go (no ge) =
          unused (at.lines + i) (omega arith) (omega arith)
          ∙ sym (get_or-eq_default (flatten (tables b).lines_of_nodes) 0 (omega (arith, all-entries turned, ge)))

  line-starts-word : (i : ℕ) → i < at.sizes.links + at.sizes.nodes + 1 → get_or a₅ (at.starts + i) 0 ≡ get_or (starts 0 (tables b).nodes_of_lines) i 0
  unfolding starts-laid cols
  line-starts-word i h =
      after_first (at.starts + i) (omega arith) ∙ off_scratch (at.starts + i) (inl (omega arith))
      ∙ off_nodes (at.starts + i) (inl (omega arith)) ∙ go (dec_lt i ((tables b).count + 1))
    where
      go : Dec (i < (tables b).count + 1) → get_or starts-laid (at.starts + i) 0 ≡ get_or (starts 0 (tables b).nodes_of_lines) i 0
      go (yes lt) =
          get_or-sets_in a₂ at.starts (starts 0 (tables b).nodes_of_lines) i 0 (omega (arith, long-starts)) (omega (arith, long-starts, few-lines, long₂, room₀))
      go (no ge) =
          off_starts (at.starts + i) (inr (omega arith)) ∙ unused (at.starts + i) (omega (arith, few)) (omega arith)
          ∙ sym (get_or-eq_default (starts 0 (tables b).nodes_of_lines) 0 (omega (arith, long-starts, ge)))

  nodes-word : (i : ℕ) → i < 2 * at.sizes.links + at.sizes.nodes → get_or a₅ (at.along + i) 0 ≡ get_or (flatten (tables b).nodes_of_lines) i 0
  unfolding cols
  nodes-word i h =
      after_first (at.along + i) (omega arith) ∙ off_scratch (at.along + i) (inl (omega arith)) ∙ go (dec_lt i (entries b))
    where
      go : Dec (i < entries b) → get_or a₃ (at.along + i) 0 ≡ get_or (flatten (tables b).nodes_of_lines) i 0
      go (yes lt) =
          ap (λ (x : List ℕ). get_or x (at.along + i) 0) is-laid
          ∙ get_or-sets_in starts-laid at.along (flatten (tables b).nodes_of_lines) i 0 (omega (arith, long-lists)) (omega (arith, long-lists, few, long-laid, room₀))
      go (no ge) =
          off_nodes (at.along + i) (inr (omega arith)) ∙ off_starts (at.along + i) (inr (omega (arith, few-lines)))
          ∙ unused (at.along + i) (omega (arith, few)) (omega arith)
          ∙ sym (get_or-eq_default (flatten (tables b).nodes_of_lines) 0 (omega (arith, long-lists, ge)))

  scratch-word : (i : ℕ) → i < at.end - at.scratch → get_or a₅ (at.scratch + i) 0 ≡ 0
  scratch-word i h =
      after_first (at.scratch + i) (omega arith)
      ∙ ap (λ (x : List ℕ). get_or x (at.scratch + i) 0) e₄
      ∙ get_or-sets_in a₃ at.scratch (replicate (at.end - at.scratch) 0) i 0 (omega (arith, zeros)) (omega (arith, zeros, long₃, room₀))
      ∙ get_or-zeros (at.end - at.scratch) i
    where
      zeros : length (replicate {A = ℕ} (at.end - at.scratch) 0) ≡ at.end - at.scratch
      zeros = length-replicate (at.end - at.scratch) 0

  beyond-word : (x : ℕ) → W b ≤ x → get_or a₅ x 0 ≡ get_or a₀ x 0
  beyond-word x h =
      after_first x (omega (arith, wide)) ∙ off_scratch x (inr (omega (arith, wide))) ∙ off_nodes x (inr (omega (arith, wide, few)))
      ∙ off_starts x (inr (omega (arith, wide, few-lines))) ∙ over.same x (behind (omega (arith, wide))) ∙ sp.beyond x (omega (arith, wide))
    where
      wide : W b ≡ at.end
      wide = (spread turned).ready.placed.whole

  all_words : (s : Section) (i : ℕ) → i < size b s → get_or a₅ (place at s + i) 0 ≡ get_or (contents (tables b) s) i 0
  unfolding size contents
  all_words Section.line_count i h = count_word i h
  all_words Section.order i h = order-word i (omega (arith, a_nodes))
  all_words Section.positions i h =
      in_front₅ (at.positions + i) (omega arith) (omega (arith, a_nodes)) ∙ position-word turned i (omega (arith, a_nodes))
  all_words Section.node_starts i h = starts-word i (omega (arith, a_nodes))
  all_words Section.lines_of_nodes i h = lines-word i (omega (arith, a_nodes, a_links))
  all_words Section.line_starts i h = line-starts-word i (omega (arith, a_nodes, a_links))
  all_words Section.nodes_of_lines i h = nodes-word i (omega (arith, a_nodes, a_links))
  all_words Section.scratch i h = scratch-word i (omega (arith, a_nodes, a_links, (spread turned).ready.read.ports))

  pub all_laid : a₅ ≡ prepared b a₀
  unfolding word_of
  all_laid =
      holding-is of_sizes a₀ (omega (arith, W-sum b, a_nodes, a_links, (spread turned).ready.read.ports, room₀)) long₅
      (λ s i h. ap (λ (k : ℕ). get_or a₅ (k + i) 0) ((spread turned).ready.placed.stands s) ∙ all_words s i h)
      beyond-word
      ∙ sym (prepared-holds b a₀)
