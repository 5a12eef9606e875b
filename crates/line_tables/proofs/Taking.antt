-- A node takes its lines: after j linked inputs the stacks stand as paper's ends do, and the lines taken are the first j of its list.
-- Rests on Stacks, Rows and Keeping; every take succeeds by lines_theory.Taken.
use Prim.Native.Nat.{ℕ, zero, suc, ◌+◌, ◌-◌, ◌≤◌, ◌<◌, max}
use native.Mathlib.Decide.{dec_lt}
use native.Mathlib.Omega.{arith}
use mathlib.Core.Path.{◌≡◌, refl, sym, ap, ap₂, ◌∙◌, subst}
use mathlib.Core.Logic.{inl, inr}
use mathlib.Core.List.Memᴰ
use mathlib.Core.List.{List, [], ◌∷◌, ◌++◌, map, map-append, Memᴰ}
use lib.ListN.{length, get_or, set, take, length-set, length-map, length-take}
use lib.Seq.{length-take-le, take-suc, take-length, get_or-set_same, get_or-set_other}
use Rattle.lists.specs.Lists.{greatest}
use Rattle.lists.proofs.Sections.{Apart}
use Rattle.lists.proofs.Places.{place-known}
use Rattle.paper.specs.Map.{N, L, first_port, link_from, source_port, port_node, in_links}
use Rattle.paper.specs.Order.{order}
use Rattle.paper.specs.Lines.{End, Taking, without, take_from, take_all, position_above}
use Rattle.order_theory.proofs.Links.{in_known}
use Rattle.lines_theory.specs.Lined.{Lined, Next, Standing, sources, taking}
use Rattle.lists.proofs.Members.{keep-there}
use Rattle.lines_theory.proofs.Taking.{left_there}
use Rattle.lines_theory.proofs.Taken.{port-stands, taken_so_far}
use Rattle.lines_theory.proofs.Weighed.{owner-is}
use Rattle.neighbours.proofs.Writing.{has-link, source-below}
use Rattle.counting_sort.specs.Sorted.{below}
use Rattle.tables.specs.declared.Layout.{Layout}
use Rattle.line_tables.specs.declared.room.Room.{Room}
use Rattle.line_tables.specs.Layout.{in_keys, start_of}
use Rattle.line_tables.specs.Spread.{Spread, Over, Changed, top}
use Rattle.line_tables.specs.Frontier.{height, Stacks, Held, node_at, frontier_at, Turned, taking_to, TakenTo}
use Rattle.line_tables.specs.Steps.{link_in, port_of, top_of, TakingLine, TakingLines, line_taken, taken_after, position_met, position_after}
use Rattle.line_tables.proofs.Ends.{Popped, popped, take-all-next}
use Rattle.line_tables.proofs.Stacks.{stacks-same, top_some, top_few, top_line, stacks_pop}
use Rattle.line_tables.proofs.Keeping.{over_itself, over_set, spread_over}
use Rattle.line_tables.proofs.Links.{is-sound, in_span, entries_fit}
use Rattle.line_tables.proofs.Holding.{passing, held_far, held-row}
use Rattle.line_tables.proofs.Rows.{Passing, node-known, at_turn, comes_next, row, new_width, row_inside}

-- one entry of a list of numbers made from another
pub entry-map : (f : ℕ → ℕ) (xs : List ℕ) (j : ℕ) → j < length xs → get_or (map f xs) j 0 ≡ f (get_or xs j 0)
entry-map f [] j h = absurd (omega arith)
entry-map f (x ∷ xs) zero h = refl
entry-map f (x ∷ xs) (suc j) h = entry-map f xs j (omega arith)

-- one entry more at the end
pub entry-before : (xs : List ℕ) (x i : ℕ) → i < length xs → get_or (xs ++ (x ∷ [])) i 0 ≡ get_or xs i 0
entry-before [] x i h = absurd (omega arith)
entry-before (y ∷ ys) x zero h = refl
entry-before (y ∷ ys) x (suc i) h = entry-before ys x i (omega arith)

pub entry-last : (xs : List ℕ) (x : ℕ) → get_or (xs ++ (x ∷ [])) (length xs) 0 ≡ x
entry-last [] x = refl
entry-last (y ∷ ys) x = entry-last ys x

-- the position above one end more
greatest-one_more : (xs : List ℕ) (x : ℕ) → greatest (xs ++ (x ∷ [])) ≡ max (greatest xs) x
greatest-one_more [] x = omega arith
greatest-one_more (y ∷ ys) x = omega (arith, greatest-one_more ys x)

above-one_more : (es : List End) (e : End) → position_above (es ++ (e ∷ [])) ≡ max (position_above es) (suc e.position)
unfolding position_above
above-one_more [] e = omega arith
above-one_more (x ∷ es) e =
    omega (
      arith,
      ap greatest (map-append (λ y. y.position) (x ∷ es) (e ∷ [])),
      greatest-one_more (map (λ y. y.position) (x ∷ es)) e.position,
    )

-- ---- a node's turn

module _ {b a₀ : List ℕ} {at : Layout} {room : Room} {t : ℕ} (spread : Spread b a₀ at room) (here : t < at.sizes.nodes) where
  ok : Passing b
  ok = passing spread

  pub turn-known : t < N b
  turn-known = omega (arith, spread.ready.read.nodes)

  pub node-low : node_at b t < at.sizes.nodes
  node-low = omega (arith, node-known ok t turn-known, spread.ready.read.nodes)

  before : Lined b (take t (order b)) (frontier_at b t)
  before = at_turn ok t (omega (arith, turn-known))

  next : Next b (take t (order b)) (node_at b t)
  next = comes_next ok t turn-known

  taken-count : {j : ℕ} → j ≤ length (sources b (node_at b t)) → length (taking_to b t j).taken ≡ j
  taken-count {j} h =
      sym (length-map (taking_to b t j).taken (λ e. e.port)) ∙ ap length (taken_so_far (is-sound spread) before next j) ∙ length-take-le j (sources b (node_at b t)) h

  -- ---- one linked input

  module _ (j : ℕ) (more : j < length (in_links b (node_at b t))) where
    link : ℕ
    link = get_or (in_links b (node_at b t)) j 0

    port : ℕ
    port = source_port b link

    link-known : link < L b
    unfolding link
    link-known = place-known (L b) (in_links b (node_at b t)) j (in_known b (node_at b t)) more

    is-source : get_or (sources b (node_at b t)) j 0 ≡ port
    unfolding port link
    is-source = entry-map (source_port b) (in_links b (node_at b t)) j more

    many : j < length (sources b (node_at b t))
    many = omega (arith, length-map (in_links b (node_at b t)) (source_port b))

    end-taken : Popped port (taking_to b t j).ends
    end-taken =
        popped port (taking_to b t j).ends
        (subst (λ (q : ℕ). 1 ≤ height q (taking_to b t j).ends) is-source (port-stands (is-sound spread) before next j many))

    one_more : taking_to b t (suc j) ≡ take_from port (taking_to b t j)
    one_more =
        ap (λ (ps : List ℕ). take_all ps (record { taken = []; ends = (frontier_at b t).ends })) (take-suc (sources b (node_at b t)) j 0 many)
        ∙ take-all-next (take j (sources b (node_at b t))) (get_or (sources b (node_at b t)) j 0) (record { taken = []; ends = (frontier_at b t).ends })
        ∙ ap (λ (q : ℕ). take_from q (taking_to b t j)) is-source

    ends_next : (taking_to b t (suc j)).ends ≡ without port (taking_to b t j).ends
    unfolding take_from
    ends_next = ap (λ (x : Taking). x.ends) one_more

    taken_next : (taking_to b t (suc j)).taken ≡ (taking_to b t j).taken ++ (end-taken.end ∷ [])
    unfolding take_from
    taken_next = ap (λ (x : Taking). x.taken) one_more ∙ ap (λ (es : List End). (taking_to b t j).taken ++ es) end-taken.last

    stood : Standing b (frontier_at b t) end-taken.end
    stood =
        before.standing end-taken.end
        (left_there (take j (sources b (node_at b t))) (record { taken = []; ends = (frontier_at b t).ends }) end-taken.stood)

    -- the end that is taken stands at the position of the node that the link comes from
    end-position : {a : List ℕ} → Held b a at (frontier_at b t).placed → get_or a (at.positions + link_from b link) 0 ≡ end-taken.end.position
    unfolding port
    end-position {a} held =
        ap (λ (v : ℕ). get_or a (at.positions + v) 0) (sym owner) ∙ held.positions stood.last last-placed ∙ stood.height
      where
        last-placed : Memᴰ stood.last (frontier_at b t).placed
        last-placed =
            keep-there _ (frontier_at b t).placed
            (subst (Memᴰ stood.last) (sym stood.whole) (Memᴰ.append_right stood.earlier (Memᴰ.head refl)))

        owner : stood.last.node ≡ link_from b link
        owner = stood.owner ∙ ap (port_node b) end-taken.at_port ∙ owner-is (is-sound spread) link link-known

    end-shallow : end-taken.end.position < 512
    end-shallow =
        omega (
          arith,
          stood.shallow,
          sym (length-map (frontier_at b t).placed (λ x. x.node)) ∙ ap length before.nodes,
          length-take t (order b),
          spread.ready.read.few-nodes,
          here,
        )

    in_row : j < length (row b (node_at b t))
    in_row = omega (arith, new_width ok t turn-known)

    -- ---- the step on the area

    module _ {a : List ℕ} (over : Over b at room a₀ a) (to : TakenTo b a at room t j) {first list : ℕ}
        (is-first : first ≡ below (in_keys b) (first_port b (node_at b t))) (is-list : list ≡ at.lines + start_of b (node_at b t)) where
      now : Spread b a at room
      now = spread_over spread over

      link_here : link_in a room (first + j) ≡ link
      unfolding link
      link_here =
          ap (λ (x : ℕ). get_or a (room.in_sorted + (x + j)) 0) is-first ∙ now.in_link (node_at b t) node-low j more

      link-low : link < at.sizes.links
      link-low = omega (arith, link-known, spread.ready.read.links)

      port-here : port_of a room (link_in a room (first + j)) ≡ port
      unfolding port
      port-here = ap (λ (k : ℕ). get_or a (room.ports + k) 0) link_here ∙ now.port-is link link-low

      port-low : port < at.sizes.ports
      unfolding port
      port-low = source-below spread.ready.read (is-sound spread) link-low

      end_inside : room.stack + at.sizes.links ≤ length a
      end_inside = omega (arith, now.ready.long)

      links : L b ≡ at.sizes.links
      links = spread.ready.read.links

      pub takes : TakingLine b a at room (first + j) (list + j)
      takes =
          record {
            place-inside = omega (arith, is-first, in_span spread (node_at b t) node-low, now.ready.fits, now.ready.placed, now.ready.long);
            link-inside = omega (arith, link_here, link-low, now.ready.fits, now.ready.placed, now.ready.long);
            source-inside =
                omega (
                  arith,
                  ap (link_from b) link_here,
                  (is-sound spread).source link link-known,
                  spread.ready.read.nodes,
                  now.ready.placed,
                  now.ready.fits,
                  now.ready.long,
                );
            record_there = rw link_here (has-link spread.ready.read (is-sound spread) link-low);
            popping =
                rw port-here
                (record {
                  apart = omega (arith, port-low, now.ready.fits);
                  some = top_some links to.stacks port port-low end-taken end_inside spread.ready.fits;
                  inside = omega (arith, top_few links to.stacks port port-low end-taken end_inside spread.ready.fits, end_inside);
                });
            to-inside = omega (arith, is-list, in_row, row_inside ok (node_at b t) (node-known ok t turn-known), entries_fit spread, now.ready.placed, now.ready.fits, now.ready.long);
            shallow =
                omega
                (arith, ap (λ (k : ℕ). get_or a (at.positions + link_from b k) 0) link_here, end-position to.held, end-shallow);
          }

      popped_area : List ℕ
      popped_area = set a (room.tops + port) (top_of a room port - 1)

      left_is : line_taken a room (first + j) (list + j) ≡ set popped_area (at.lines + (start_of b (node_at b t) + j)) end-taken.end.line
      unfolding line_taken popped_area
      left_is =
          ap (λ (q : ℕ). set (set a (room.tops + q) (top_of a room q - 1)) (list + j) (get_or a (room.stack + (top_of a room q - 1)) 0)) port-here
          ∙ ap₂ (λ (k x : ℕ). set popped_area k x) (at_list is-list) (top_line links to.stacks port port-low end-taken end_inside spread.ready.fits)
        where
          at_list : list ≡ at.lines + start_of b (node_at b t) → list + j ≡ at.lines + (start_of b (node_at b t) + j)
          at_list e = omega (arith, e)

      pub over_next : {m : List ℕ} → m ≡ line_taken a room (first + j) (list + j) → Over b at room a₀ m
      unfolding popped_area
      over_next e =
          rw (e ∙ left_is)
          (over_set spread (over_set spread over (room.tops + port) (top_of a room port - 1) (top (omega arith) (omega (arith, port-low))))
          (at.lines + (start_of b (node_at b t) + j)) end-taken.end.line
          (Changed.list (omega arith) (omega (arith, in_row, row_inside ok (node_at b t) (node-known ok t turn-known)))))

      written : List ℕ
      written = set popped_area (at.lines + (start_of b (node_at b t) + j)) end-taken.end.line

      stacks-next : Stacks b written at room (taking_to b t (suc j)).ends
      unfolding written popped_area
      stacks-next =
          subst (Stacks b written at room) (sym ends_next)
          (stacks-same links (stacks_pop links to.stacks port port-low end-taken end_inside spread.ready.fits)
          (λ q h. get_or-set_other popped_area spot (room.tops + q) end-taken.end.line 0 (λ e. omega (arith, e, low)))
          (λ i h. get_or-set_other popped_area spot (room.stack + i) end-taken.end.line 0 (λ e. omega (arith, e, low))))
        where
          spot : ℕ
          spot = at.lines + (start_of b (node_at b t) + j)

          low : at.lines + (start_of b (node_at b t) + j) < room.tops
          low = omega (arith, in_row, row_inside ok (node_at b t) (node-known ok t turn-known), entries_fit spread)

      held_next : Held b written at (frontier_at b t).placed
      unfolding written popped_area
      held_next =
          held-row spread (omega arith) (held_far spread (omega arith) to.held (room.tops + port) (top_of a room port - 1) (omega arith)) here
          (λ i away. get_or-set_other popped_area (at.lines + (start_of b (node_at b t) + j)) i end-taken.end.line 0 (outside i away))
        where
          outside : (i : ℕ) → Apart i (at.lines + start_of b (node_at b t)) (length (row b (node_at b t))) → i ≡ at.lines + (start_of b (node_at b t) + j) → ⊥
          outside i (inl under) e = omega (arith, e)
          outside i (inr over) e = omega (arith, e, in_row)

      row_next : length (taking_to b t j).taken ≡ j → (i : ℕ) → i < suc j
          → get_or written (at.lines + (start_of b (node_at b t) + i)) 0 ≡ get_or (map (λ e. e.line) (taking_to b t (suc j)).taken) i 0
      unfolding written popped_area
      row_next long i h = go (dec_lt i j) ∙ ap (λ (ls : List ℕ). get_or ls i 0) (sym lines_next)
        where
          lines : List ℕ
          lines = map (λ e. e.line) (taking_to b t j).taken

          lines_next : map (λ e. e.line) (taking_to b t (suc j)).taken ≡ map (λ e. e.line) (taking_to b t j).taken ++ (end-taken.end.line ∷ [])
          lines_next =
              ap (map (λ e. e.line)) taken_next ∙ map-append (λ e. e.line) (taking_to b t j).taken (end-taken.end ∷ [])

          lines_long : length (map (λ e. e.line) (taking_to b t j).taken) ≡ j
          lines_long = length-map (taking_to b t j).taken (λ e. e.line) ∙ long

          low : (k : ℕ) → k ≤ j → at.lines + (start_of b (node_at b t) + k) < room.tops
          low k le = omega (arith, in_row, row_inside ok (node_at b t) (node-known ok t turn-known), entries_fit spread)

          last : (i j : ℕ) → i < suc j → (i < j → ⊥) → i ≡ j
          last i j h ge = omega arith

          go : Dec (i < j) → get_or written (at.lines + (start_of b (node_at b t) + i)) 0 ≡ get_or (map (λ e. e.line) (taking_to b t j).taken ++ (end-taken.end.line ∷ [])) i 0
          go (yes lt) =
              get_or-set_other popped_area (at.lines + (start_of b (node_at b t) + j)) (at.lines + (start_of b (node_at b t) + i)) end-taken.end.line 0 (λ e. omega (arith, e))
              ∙ get_or-set_other a (room.tops + port) (at.lines + (start_of b (node_at b t) + i)) (top_of a room port - 1) 0 (λ e. omega (arith, e, low i (omega arith)))
              ∙ to.row i lt
              ∙ sym (entry-before (map (λ e. e.line) (taking_to b t j).taken) end-taken.end.line i (omega (arith, lines_long)))
          go (no ge) =
              rw (last i j h ge)
              (get_or-set_same popped_area (at.lines + (start_of b (node_at b t) + j)) end-taken.end.line 0
              (omega (arith, low j (omega arith), end_inside, length-set a (room.tops + port) (top_of a room port - 1)))
              ∙ sym (entry-last (map (λ e. e.line) (taking_to b t j).taken) end-taken.end.line)
              ∙ ap (λ (k : ℕ). get_or (map (λ e. e.line) (taking_to b t j).taken ++ (end-taken.end.line ∷ [])) k 0) lines_long)

      pub taken-on : {m : List ℕ} → m ≡ line_taken a room (first + j) (list + j) → TakenTo b m at room t (suc j)
      unfolding written
      taken-on e =
          rw (e ∙ left_is)
          (record {
            stacks = stacks-next;
            held = held_next;
            row = row_next (taken-count (omega (arith, many)));
          })

      pub position-next : {position r : ℕ} → position ≡ position_above (taking_to b t j).taken
          → r ≡ position_met b a at room (first + j) position → r ≡ position_above (taking_to b t (suc j)).taken
      unfolding position_met
      position-next {position} is-position said =
          said
          ∙ ap₂ (λ (x y : ℕ). max x (suc y)) is-position (ap (λ (k : ℕ). get_or a (at.positions + link_from b k) 0) link_here ∙ end-position to.held)
          ∙ sym (above-one_more (taking_to b t j).taken end-taken.end)
          ∙ ap position_above (sym taken_next)

-- ---- all of a node's linked inputs

-- after j of them
pub record TakenSoFar (b a₀ a : List ℕ) (at : Layout) (room : Room) (t j position : ℕ) : Type 0 where
  pub over : Over b at room a₀ a
  pub taken : TakenTo b a at room t j
  pub height : position ≡ position_above (taking_to b t j).taken

module _ {b a : List ℕ} {at : Layout} {room : Room} {t first list : ℕ} (turned : Turned b a at room t) (here : t < at.sizes.nodes)
    (is-first : first ≡ below (in_keys b) (first_port b (node_at b t))) (is-list : list ≡ at.lines + start_of b (node_at b t)) where
  taken_so_far_on : (j : ℕ) → j ≤ length (in_links b (node_at b t))
      → TakenSoFar b a (taken_after a room first list j) at room t j (position_after b a at room first list j)
  unfolding taken_after position_after take_all position_above
  taken_so_far_on zero h =
      record {
        over = over_itself;
        taken = record { stacks = turned.stacks; held = turned.held; row = λ i low. absurd (omega arith) };
        height = refl;
      }
  taken_so_far_on (suc j) h =
      let s = taken_so_far_on j (omega arith) in
      record {
        over = over_next turned.spread here j h s.over s.taken is-first is-list refl;
        taken = taken-on turned.spread here j h s.over s.taken is-first is-list refl;
        height = position-next turned.spread here j h s.over s.taken is-first is-list s.height refl;
      }

  pub taking-lines : TakingLines b a at room first list (length (in_links b (node_at b t)))
  taking-lines j h =
      let s = taken_so_far_on j (omega arith) in
      takes turned.spread here j h s.over s.taken is-first is-list

  pub all-taken : TakenSoFar b a (taken_after a room first list (length (in_links b (node_at b t)))) at room t (length (in_links b (node_at b t)))
      (position_after b a at room first list (length (in_links b (node_at b t))))
  all-taken = taken_so_far_on (length (in_links b (node_at b t))) (omega arith)

-- all linked inputs are all sources
pub taking-all : (b : List ℕ) (t : ℕ) → taking_to b t (length (in_links b (node_at b t))) ≡ taking b (node_at b t) (frontier_at b t)
taking-all b t =
    ap (λ (ps : List ℕ). take_all ps (record { taken = []; ends = (frontier_at b t).ends }))
    (ap (λ (k : ℕ). take k (sources b (node_at b t))) (sym (length-map (in_links b (node_at b t)) (source_port b))) ∙ take-length (sources b (node_at b t)))
