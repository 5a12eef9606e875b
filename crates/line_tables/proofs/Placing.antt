-- A node is placed: its position, its new lines after those taken, and a line at each of its outgoing links.
-- Rests on Taking, Stacks and Holding; there is a line for every outgoing link by lines_theory.PlacingEnds.
use Prim.Native.Nat.{ℕ, zero, suc, ◌+◌, ◌-◌, ◌≤◌, ◌<◌}
use native.Mathlib.Decide.{dec_lt}
use native.Mathlib.Omega.{arith}
use native.Mathlib.Numerals.{add-one}
use mathlib.Core.Path.{◌≡◌, refl, sym, ap, ap₂, ◌∙◌, subst}
use mathlib.Core.Logic.{◌⊎◌, inl, inr}
use mathlib.Core.Bool.{Bool, true, false, cond}
use mathlib.Core.List.Memᴰ
use mathlib.Core.List.{List, [], ◌∷◌, ◌++◌, map, Memᴰ}
use lib.ListN.{length, get_or, set, take, length-map, length-append, get_or-append}
use lib.Seq.{sets, length-sets, take-length, length-take-le, get_or-set_same, get_or-set_other, get_or-append-add}
use lib.Dec.{eqb}
use Rattle.lists.specs.Lists.{from, upto, one, count, times}
use Rattle.lists.specs.Weight.{weight}
use Rattle.lists.proofs.Sections.{Apart, get_or-sets_in, get_or-sets-out}
use Rattle.lists.proofs.Upto.{length_from}
use Rattle.lists.proofs.Count.{times-take, count_map, count-take-suc, one_eq}
use Rattle.lists.proofs.Places.{place-known}
use Rattle.paper.specs.Map.{N, L, first_port, link_from, source_port, in_links, out_links}
use Rattle.paper.specs.Order.{order}
use Rattle.paper.specs.Lines.{End, Placed, Frontier, Taking, position_above, push, new_lines, frontier_after}
use Rattle.order_theory.proofs.Order.{ordered-times}
use Rattle.order_theory.proofs.Refusals.{sound}
use Rattle.order_theory.proofs.Links.{out-known}
use Rattle.lines_theory.specs.Lined.{Lined, Next, targets, taking, old_lines, fresh, level, newcomer}
use Rattle.lines_theory.proofs.Pushing.{push-times, made-ports}
use Rattle.lines_theory.proofs.PlacingEnds.{lines_enough}
use Rattle.lines_theory.proofs.Placing.{place-grows}
use Rattle.lines_theory.proofs.Room.{count_room}
use Rattle.lines_theory.proofs.Taken.{old_length, fresh-length}
use Rattle.neighbours.proofs.Writing.{source-below}
use Rattle.counting_sort.specs.Sorted.{below}
use Rattle.tables.specs.declared.Layout.{Layout}
use Rattle.line_tables.specs.declared.room.Room.{Room}
use Rattle.line_tables.specs.Layout.{out_keys, in_keys, start_of, entries}
use Rattle.line_tables.specs.Spread.{Spread, Kept, in_front, in_starts, in_tables, in_links_lem, behind, Over, position, top, stack}
use Rattle.line_tables.specs.Frontier.{height, Stacks, Held, node_at, frontier_at, Turned, TakenTo, pushed_to, PushedTo, Seated}
use Rattle.line_tables.specs.Steps.{TakingLines, taken_after, position_after, pushed, link_out, port_of, top_of, PushingLine, PushingLines, line_pushed, pushed_after}
use Rattle.line_tables.proofs.Ends.{push-next}
use Rattle.line_tables.proofs.Stacks.{stacks-same, slot-inside, stacks-push}
use Rattle.line_tables.proofs.Keeping.{over_itself, over_over, over_same, over_set, spread_over}
use Rattle.line_tables.proofs.Links.{is-sound, out-span, entries_fit}
use Rattle.line_tables.proofs.Holding.{passing, held_far, held-row, held-position}
use Rattle.line_tables.proofs.Rows.{Passing, all-ordered, placed-next, at_turn, comes_next, node-known, row, new_row, new_width, row_inside}
use Rattle.line_tables.proofs.Taking.{entry-map, turn-known, node-low, taking-lines, all-taken, taking-all}

-- ---- no port has more ends than links

few_weighed : (f : ℕ → Bool) (h : ℕ → ℕ) (us : List ℕ) → ((v : ℕ) → times v us ≤ 1) → (ks : List ℕ) → weight f h us ks ≤ count f ks
few_weighed f h us once [] = omega arith
few_weighed f h us once (k ∷ ks) = omega (arith, few_weighed f h us once ks, each (f k))
  where
    each : (t : Bool) → cond t (times (h k) us) 0 ≤ one t
    each true = once (h k)
    each false = omega arith

module _ {b : List ℕ} (ok : Passing b) where
  ends-few : (u : ℕ) → u ≤ N b → (q : ℕ) → height q (frontier_at b u).ends ≤ times q (out_keys b)
  ends-few u h q =
      omega (
        arith,
        (at_turn ok u h).balance q,
        few_weighed (λ k. eqb q (source_port b k)) (link_from b) (take u (order b)) (λ v. omega (arith, times-take v u (order b), ordered-times (sound b ok.links) v)) (upto (L b)),
        count_map (eqb q) (source_port b) (upto (L b)),
      )

module _ {b a₀ : List ℕ} {at : Layout} {room : Room} {t : ℕ} (spread : Spread b a₀ at room) (here : t < at.sizes.nodes) where
  ok : Passing b
  ok = passing spread

  before : Lined b (take t (order b)) (frontier_at b t)
  before = at_turn ok t (omega (arith, turn-known spread here))

  next : Next b (take t (order b)) (node_at b t)
  next = comes_next ok t (turn-known spread here)

  row_low : start_of b (node_at b t) + length (row b (node_at b t)) ≤ entries b
  row_low = row_inside ok (node_at b t) (node-known ok t (turn-known spread here))

  -- ---- its position

  pub seated : {a m : List ℕ} {position : ℕ} → TakenTo b a at room t (length (in_links b (node_at b t))) → length a ≡ length a₀
      → position ≡ level b (node_at b t) (frontier_at b t) → m ≡ set a (at.positions + node_at b t) position → Seated b m at room t
  seated {a} {m} {position} to long is-level e =
      rw e
      (record {
        taken =
            record {
              stacks =
                  stacks-same spread.ready.read.links to.stacks
                  (λ q h. get_or-set_other a (at.positions + node_at b t) (room.tops + q) position 0 (λ x. omega (arith, x, node-low spread here)))
                  (λ i h. get_or-set_other a (at.positions + node_at b t) (room.stack + i) position 0 (λ x. omega (arith, x, node-low spread here)));
              held = held-position spread (omega arith) to.held here position;
              row =
                  λ i h. get_or-set_other a (at.positions + node_at b t) (at.lines + (start_of b (node_at b t) + i)) position 0 (λ x. omega (arith, x, node-low spread here))
                  ∙ to.row i h;
            };
        seat = get_or-set_same a (at.positions + node_at b t) position 0 (omega (arith, node-low spread here, spread.ready.long, long)) ∙ is-level;
      })

  pub seat_over : {a m : List ℕ} (x : ℕ) → Over b at room a₀ a → m ≡ set a (at.positions + node_at b t) x → Over b at room a₀ m
  seat_over x over e =
      rw e (over_set spread over (at.positions + node_at b t) x (position (omega arith) (omega (arith, node-low spread here))))

  -- ---- its list

  count_of_new : length (fresh b (node_at b t) (frontier_at b t)) ≡ new_lines (length (in_links b (node_at b t))) (length (out_links b (node_at b t)))
  count_of_new =
      fresh-length (is-sound spread) before next
      ∙ ap (λ (k : ℕ). new_lines k (length (out_links b (node_at b t)))) (old_length (is-sound spread) before next)

  count_next : {known new : ℕ} → known ≡ (frontier_at b t).count
      → new ≡ new_lines (length (in_links b (node_at b t))) (length (out_links b (node_at b t))) → known + new ≡ (frontier_at b (suc t)).count
  unfolding frontier_after
  count_next is_Known is-new =
      omega (arith, is_Known, is-new, count_of_new, ap (λ (f : Frontier). f.count) (place-grows b (node_at b t) (frontier_at b t)))

  -- the new lines' words
  module _ {a m : List ℕ} (over : Over b at room a₀ a) (s : Seated b a at room t) {list known new : ℕ}
      (is-list : list ≡ at.lines + start_of b (node_at b t)) (is_Known : known ≡ (frontier_at b t).count)
      (is-new : new ≡ new_lines (length (in_links b (node_at b t))) (length (out_links b (node_at b t))))
      (e : m ≡ sets a (list + length (in_links b (node_at b t))) (from known new)) where
    width : length (row b (node_at b t)) ≡ length (in_links b (node_at b t)) + new
    width = omega (arith, new_width ok t (turn-known spread here), is-new)

    same : (i : ℕ) → Apart i (list + length (in_links b (node_at b t))) new → get_or m i 0 ≡ get_or a i 0
    same i away =
        ap (λ (x : List ℕ). get_or x i 0) e
        ∙ get_or-sets-out a (list + length (in_links b (node_at b t))) (from known new) i 0
        (subst (Apart i (list + length (in_links b (node_at b t)))) (sym (length_from known new)) away)

    long : length m ≡ length a
    long = ap length e ∙ length-sets a (list + length (in_links b (node_at b t))) (from known new)

    pub created_over : Over b at room a₀ m
    created_over = over_same over long (λ i k. same i (away i k))
      where
        away : (i : ℕ) → Kept (entries b) at room i → Apart i (list + length (in_links b (node_at b t))) new
        away i (in_front h) = inl (omega (arith, is-list))
        away i (in_starts g h) = inl (omega (arith, is-list))
        away i (in_tables g h) = inr (omega (arith, is-list, width, row_low))
        away i (in_links_lem g h) = inr (omega (arith, is-list, width, row_low, entries_fit spread))
        away i (behind h) = inr (omega (arith, is-list, width, row_low, entries_fit spread))

    list-whole : (i : ℕ) → i < length (newcomer b (node_at b t) (frontier_at b t)).lines
        → get_or m (at.lines + (start_of b (node_at b t) + i)) 0 ≡ get_or (newcomer b (node_at b t) (frontier_at b t)).lines i 0
    list-whole i h = go (dec_lt i (length (in_links b (node_at b t))))
      where
        old_long : length (old_lines b (node_at b t) (frontier_at b t)) ≡ length (in_links b (node_at b t))
        old_long = old_length (is-sound spread) before next

        fresh-is : fresh b (node_at b t) (frontier_at b t) ≡ from known new
        fresh-is = ap₂ (λ (x y : ℕ). from x y) (sym is_Known) (sym (fresh-length (is-sound spread) before next) ∙ count_of_new ∙ sym is-new)

        go : Dec (i < length (in_links b (node_at b t)))
            → get_or m (at.lines + (start_of b (node_at b t) + i)) 0 ≡ get_or (old_lines b (node_at b t) (frontier_at b t) ++ fresh b (node_at b t) (frontier_at b t)) i 0
        go (yes lt) =
            same (at.lines + (start_of b (node_at b t) + i)) (inl (omega (arith, is-list)))
            ∙ s.taken.row i lt
            ∙ ap (λ (x : Taking). get_or (map (λ y. y.line) x.taken) i 0) (taking-all b t)
            ∙ sym (get_or-append (old_lines b (node_at b t) (frontier_at b t)) (fresh b (node_at b t) (frontier_at b t)) 0 i (omega (arith, old_long)))
        go (no ge) =
            ap₂ (λ (x : List ℕ) (k : ℕ). get_or x k 0) e place
            ∙ get_or-sets_in a (list + length (in_links b (node_at b t))) (from known new) (i - length (in_links b (node_at b t))) 0
            (omega (arith, inside, length_from known new)) (omega (arith, length_from known new, is-list, width, row_low, entries_fit spread, over.long, spread.ready.long))
            ∙ ap (λ (ls : List ℕ). get_or ls (i - length (in_links b (node_at b t))) 0) (sym fresh-is)
            ∙ sym (get_or-append-add (old_lines b (node_at b t) (frontier_at b t)) (fresh b (node_at b t) (frontier_at b t)) (i - length (in_links b (node_at b t))) 0)
            ∙ ap (λ (k : ℕ). get_or (old_lines b (node_at b t) (frontier_at b t) ++ fresh b (node_at b t) (frontier_at b t)) k 0) back
          where
            inside : i - length (in_links b (node_at b t)) < new
            inside = omega (arith, ge, h, ap length (new_row ok t (turn-known spread here)), width)

            place : at.lines + (start_of b (node_at b t) + i) ≡ list + length (in_links b (node_at b t)) + (i - length (in_links b (node_at b t)))
            place = omega (arith, is-list, ge)

            back : length (old_lines b (node_at b t) (frontier_at b t)) + (i - length (in_links b (node_at b t))) ≡ i
            back = omega (arith, old_long, ge)

    pub listed : PushedTo b m at room t 0
    unfolding push
    listed =
        record {
          stacks =
              stacks-same spread.ready.read.links
              (subst (λ (x : Taking). Stacks b a at room x.ends) (taking-all b t) s.taken.stacks)
              (λ q h. same (room.tops + q) (inr (omega (arith, is-list, width, row_low, entries_fit spread))))
              (λ i h. same (room.stack + i) (inr (omega (arith, is-list, width, row_low, entries_fit spread))));
          held =
              record {
                positions = λ x m. positions x (Memᴰ.append_cases (frontier_at b t).placed m);
                lists = λ x m. lists x (Memᴰ.append_cases (frontier_at b t).placed m);
              };
        }
      where
        newest : Placed
        newest = newcomer b (node_at b t) (frontier_at b t)

        before-held : Held b m at (frontier_at b t).placed
        before-held = held-row spread (omega arith) s.taken.held here (λ i away. same i (narrower i away))
          where
            narrower : (i : ℕ) → Apart i (at.lines + start_of b (node_at b t)) (length (row b (node_at b t))) → Apart i (list + length (in_links b (node_at b t))) new
            narrower i (inl under) = inl (omega (arith, is-list))
            narrower i (inr over) = inr (omega (arith, is-list, width))

        positions : (x : Placed) → Memᴰ x (frontier_at b t).placed ⊎ Memᴰ x (newest ∷ []) → get_or m (at.positions + x.node) 0 ≡ x.position
        positions x (inl old) = before-held.positions x old
        positions x (inr new) =
            rw (Memᴰ.eq_of_singleton new)
            (same (at.positions + node_at b t) (inl (omega (arith, is-list, node-low spread here))) ∙ s.seat)

        lists : (x : Placed) → Memᴰ x (frontier_at b t).placed ⊎ Memᴰ x (newest ∷ []) → (i : ℕ) → i < length x.lines
            → get_or m (at.lines + (start_of b x.node + i)) 0 ≡ get_or x.lines i 0
        lists x (inl old) = before-held.lists x old
        lists x (inr new) = rw (Memᴰ.eq_of_singleton new) list-whole

  -- ---- a line at each outgoing link

  lines-many : length (targets b (node_at b t)) ≤ length (newcomer b (node_at b t) (frontier_at b t)).lines
  lines-many =
      omega (
        arith,
        (lines_enough (is-sound spread) before next).each,
        length-append (old_lines b (node_at b t) (frontier_at b t)) (fresh b (node_at b t) (frontier_at b t)),
        fresh-length (is-sound spread) before next,
        length-map (out_links b (node_at b t)) (source_port b),
      )

  pushed-height : (q j : ℕ) → j ≤ length (targets b (node_at b t))
      → height q (pushed_to b t j) ≡ times q (take j (targets b (node_at b t))) + height q (taking b (node_at b t) (frontier_at b t)).ends
  pushed-height q j h =
      omega (
        arith,
        push-times (level b (node_at b t) (frontier_at b t)) (λ e. e.port) q (take j (targets b (node_at b t))) (newcomer b (node_at b t) (frontier_at b t)).lines (taking b (node_at b t) (frontier_at b t)).ends,
        ap (times q) (made-ports (level b (node_at b t) (frontier_at b t)) (take j (targets b (node_at b t))) (newcomer b (node_at b t) (frontier_at b t)).lines (omega (arith, lines-many, length-take-le j (targets b (node_at b t)) h))),
      )

  pushed-all : pushed_to b t (length (targets b (node_at b t))) ≡ (frontier_at b (suc t)).ends
  unfolding frontier_after
  pushed-all =
      ap (λ (ps : List ℕ). push (level b (node_at b t) (frontier_at b t)) ps (newcomer b (node_at b t) (frontier_at b t)).lines (taking b (node_at b t) (frontier_at b t)).ends) (take-length (targets b (node_at b t)))
      ∙ ap (λ (f : Frontier). f.ends) (sym (place-grows b (node_at b t) (frontier_at b t)))

  module _ (j : ℕ) (more : j < length (out_links b (node_at b t))) where
    link : ℕ
    link = get_or (out_links b (node_at b t)) j 0

    link-known : link < L b
    unfolding link
    link-known = place-known (L b) (out_links b (node_at b t)) j (out-known b (node_at b t)) more

    link-low : link < at.sizes.links
    link-low = omega (arith, link-known, spread.ready.read.links)

    many : j < length (targets b (node_at b t))
    many = omega (arith, length-map (out_links b (node_at b t)) (source_port b))

    is-target : get_or (targets b (node_at b t)) j 0 ≡ source_port b link
    unfolding link
    is-target = entry-map (source_port b) (out_links b (node_at b t)) j more

    end : End
    end =
        record {
          port = get_or (targets b (node_at b t)) j 0;
          line = get_or (newcomer b (node_at b t) (frontier_at b t)).lines j 0;
          position = level b (node_at b t) (frontier_at b t);
        }

    one_more : pushed_to b t (suc j) ≡ end ∷ pushed_to b t j
    unfolding end
    one_more =
        push-next (level b (node_at b t) (frontier_at b t)) (targets b (node_at b t)) (newcomer b (node_at b t) (frontier_at b t)).lines (taking b (node_at b t) (frontier_at b t)).ends j many
        (omega (arith, lines-many, many))

    fits : height (get_or (targets b (node_at b t)) j 0) (pushed_to b t j) < times (get_or (targets b (node_at b t)) j 0) (out_keys b)
    fits =
        let q = get_or (targets b (node_at b t)) j 0 in
        omega (
          arith,
          pushed-height q j (omega (arith, many)),
          pushed-height q (length (targets b (node_at b t))) (omega arith),
          ap (height q) pushed-all,
          ends-few ok (suc t) (turn-known spread here) q,
          count-take-suc (eqb q) (targets b (node_at b t)) j many,
          one_eq q q refl,
          times-take q (suc j) (targets b (node_at b t)),
          ap (times q) (take-length (targets b (node_at b t))),
        )

    module _ {a : List ℕ} (over : Over b at room a₀ a) (to : PushedTo b a at room t j) {first list : ℕ}
        (is-first : first ≡ below (out_keys b) (first_port b (node_at b t))) (is-list : list ≡ at.lines + start_of b (node_at b t)) where
      now : Spread b a at room
      now = spread_over spread over

      links : L b ≡ at.sizes.links
      links = spread.ready.read.links

      end_inside : room.stack + at.sizes.links ≤ length a
      end_inside = omega (arith, now.ready.long)

      link_here : link_out a room (first + j) ≡ link
      unfolding link
      link_here =
          ap (λ (x : ℕ). get_or a (room.out_sorted + (x + j)) 0) is-first ∙ now.out-link (node_at b t) (node-low spread here) j more

      port-here : port_of a room (link_out a room (first + j)) ≡ end.port
      unfolding end
      port-here = ap (λ (k : ℕ). get_or a (room.ports + k) 0) link_here ∙ now.port-is link link-low ∙ sym is-target

      port-low : end.port < at.sizes.ports
      unfolding end
      port-low = omega (arith, is-target, source-below spread.ready.read (is-sound spread) link-low)

      end_fits : height end.port (pushed_to b t j) < times end.port (out_keys b)
      unfolding end
      end_fits = fits

      at_list : list + j ≡ at.lines + (start_of b (node_at b t) + j)
      at_list = omega (arith, is-list)

      line-here : get_or a (list + j) 0 ≡ end.line
      unfolding end
      line-here =
          ap (λ (k : ℕ). get_or a k 0) at_list
          ∙ to.held.lists (newcomer b (node_at b t) (frontier_at b t)) (Memᴰ.append_right (frontier_at b t).placed (Memᴰ.head refl)) j
          (omega (arith, lines-many, many))

      pub pushes : PushingLine a room (first + j) (list + j)
      pushes =
          record {
            place-inside = omega (arith, is-first, out-span spread (node_at b t) (node-low spread here), now.ready.fits, now.ready.placed, now.ready.long);
            link-inside = omega (arith, link_here, link-low, now.ready.fits, now.ready.placed, now.ready.long);
            pushing =
                rw port-here
                (record {
                  apart = omega (arith, port-low, now.ready.fits);
                  inside = omega (arith, slot-inside links to.stacks end port-low end_fits end_inside spread.ready.fits, end_inside);
                  small = omega (arith, slot-inside links to.stacks end port-low end_fits end_inside spread.ready.fits, spread.ready.read.few-links);
                });
            here-inside =
                omega (
                  arith,
                  at_list,
                  lines-many,
                  many,
                  ap length (new_row ok t (turn-known spread here)),
                  row_low,
                  entries_fit spread,
                  now.ready.placed,
                  now.ready.fits,
                  now.ready.long,
                );
          }

      written : List ℕ
      written = set (set a (room.stack + top_of a room end.port) end.line) (room.tops + end.port) (top_of a room end.port + 1)

      left_is : line_pushed a room (first + j) (list + j) ≡ written
      unfolding line_pushed pushed written
      left_is =
          ap₂ (λ (q x : ℕ). set (set a (room.stack + top_of a room q) x) (room.tops + q) (top_of a room q + 1)) port-here line-here

      pub push_over : {m : List ℕ} → m ≡ line_pushed a room (first + j) (list + j) → Over b at room a₀ m
      unfolding written
      push_over e =
          rw (e ∙ left_is)
          (over_set spread
          (over_set spread over (room.stack + top_of a room end.port) end.line
          (stack (omega arith) (omega (arith, slot-inside links to.stacks end port-low end_fits end_inside spread.ready.fits))))
          (room.tops + end.port) (top_of a room end.port + 1) (top (omega arith) (omega (arith, port-low))))

      held-written : Held b written at (frontier_at b (suc t)).placed
      unfolding written
      held-written =
          held_far spread here
          (held_far spread here (subst (Held b a at) (sym (placed-next b t)) to.held) (room.stack + top_of a room end.port) end.line (omega arith))
          (room.tops + end.port) (top_of a room end.port + 1) (omega arith)

      stacks-written : Stacks b written at room (end ∷ pushed_to b t j)
      unfolding written
      stacks-written = stacks-push links to.stacks end port-low end_fits end_inside spread.ready.fits

      pub pushed-on : {m : List ℕ} → m ≡ line_pushed a room (first + j) (list + j) → PushedTo b m at room t (suc j)
      pushed-on e =
          rw (e ∙ left_is)
          (record {
            stacks = subst (Stacks b written at room) (sym one_more) stacks-written;
            held = subst (Held b written at) (placed-next b t) held-written;
          })

-- ---- all of a node's outgoing links

pub record PushedSoFar (b a₀ a : List ℕ) (at : Layout) (room : Room) (t j : ℕ) : Type 0 where
  pub over : Over b at room a₀ a
  pub pushed : PushedTo b a at room t j

module _ {b a : List ℕ} {at : Layout} {room : Room} {t first list : ℕ} (spread : Spread b a at room) (here : t < at.sizes.nodes) (start : PushedTo b a at room t 0)
    (is-first : first ≡ below (out_keys b) (first_port b (node_at b t))) (is-list : list ≡ at.lines + start_of b (node_at b t)) where
  pushed_so_far : (j : ℕ) → j ≤ length (out_links b (node_at b t)) → PushedSoFar b a (pushed_after a room first list j) at room t j
  unfolding pushed_after
  pushed_so_far zero h = record { over = over_itself; pushed = start }
  pushed_so_far (suc j) h =
      let s = pushed_so_far j (omega arith) in
      record {
        over = push_over spread here j h s.over s.pushed is-first is-list refl;
        pushed = pushed-on spread here j h s.over s.pushed is-first is-list refl;
      }

  pub pushing_lines : PushingLines a room first list (length (out_links b (node_at b t)))
  pushing_lines j h =
      let s = pushed_so_far j (omega arith) in
      pushes spread here j h s.over s.pushed is-first is-list

  -- the node is placed
  pub node-placed : {m : List ℕ} → m ≡ pushed_after a room first list (length (out_links b (node_at b t)))
      → Over b at room a m × Turned b m at room (suc t)
  node-placed e =
      let s = pushed_so_far (length (out_links b (node_at b t))) (omega arith) in
      rw e (
        s.over,
        record {
          spread = spread_over spread s.over;
          stacks =
              subst (Stacks b (pushed_after a room first list (length (out_links b (node_at b t)))) at room)
              (ap (pushed_to b t) (sym (length-map (out_links b (node_at b t)) (source_port b))) ∙ pushed-all spread here)
              s.pushed.stacks;
          held = subst (Held b (pushed_after a room first list (length (out_links b (node_at b t)))) at) (sym (placed-next b t)) s.pushed.held;
        },
      )

-- ---- what taking leaves, as the code has it

module _ {b a : List ℕ} {at : Layout} {room : Room} {t first list incoming : ℕ} (turned : Turned b a at room t) (here : t < at.sizes.nodes)
    (is-first : first ≡ below (in_keys b) (first_port b (node_at b t))) (is-list : list ≡ at.lines + start_of b (node_at b t))
    (is-incoming : incoming ≡ length (in_links b (node_at b t))) where
  pub takes_all : TakingLines b a at room first list incoming
  takes_all = rw is-incoming (taking-lines turned here is-first is-list)

  pub long_after : {m : List ℕ} → m ≡ taken_after a room first list incoming → length m ≡ length a
  long_after e = ap length e ∙ rw is-incoming (all-taken turned here is-first is-list).over.long

  pub node_seated : {m r : List ℕ} {v position : ℕ} → v ≡ node_at b t → position ≡ position_after b a at room first list incoming
      → m ≡ taken_after a room first list incoming → r ≡ set m (at.positions + v) position → Over b at room a r × Seated b r at room t
  node_seated {m} {r} {v} {position} is-node is-position is-taken is-left =
      let s = all-taken turned here is-first is-list in
      let taken = is-taken ∙ ap (taken_after a room first list) is-incoming in
      let left = is-left ∙ ap (λ (u : ℕ). set m (at.positions + u) position) is-node in (
        seat_over turned.spread here position (subst (Over b at room a) (sym taken) s.over) left,
        seated turned.spread here (subst (λ (x : List ℕ). TakenTo b x at room t (length (in_links b (node_at b t)))) (sym taken) s.taken) (long_after is-taken)
            (is-position ∙ ap (position_after b a at room first list) is-incoming ∙ s.height ∙ ap (λ (x : Taking). position_above x.taken) (taking-all b t)) left,
      )

-- ---- the node's list made whole, and its lines pushed, as the code has it

pub is-new : (b : List ℕ) (t : ℕ) {taken outgoing new : ℕ} → taken ≡ length (in_links b (node_at b t)) → outgoing ≡ length (out_links b (node_at b t))
    → new ≡ new_lines taken outgoing → new ≡ new_lines (length (in_links b (node_at b t))) (length (out_links b (node_at b t)))
is-new b t is-taken is-outgoing e = e ∙ ap₂ (λ (i j : ℕ). new_lines i j) is-taken is-outgoing

module _ {b a : List ℕ} {at : Layout} {room : Room} {t : ℕ} (spread : Spread b a at room) (here : t < at.sizes.nodes) where
  pub count-placed : {known new : ℕ} → known ≡ (frontier_at b t).count
      → new ≡ new_lines (length (in_links b (node_at b t))) (length (out_links b (node_at b t))) → known + new ≡ (frontier_at b (t + 1)).count
  count-placed is_Known is-new = rw add-one (count_next spread here is_Known is-new)

  module _ {list incoming known new : ℕ} (is-list : list ≡ at.lines + start_of b (node_at b t))
      (is-incoming : incoming ≡ length (in_links b (node_at b t))) (is_Known : known ≡ (frontier_at b t).count)
      (is-new : new ≡ new_lines (length (in_links b (node_at b t))) (length (out_links b (node_at b t)))) where
    pub new-fits : list + incoming + new ≤ length a
    new-fits =
        omega (
          arith,
          is-list,
          is-incoming,
          is-new,
          new_width (passing spread) t (turn-known spread here),
          row_low spread here,
          entries_fit spread,
          spread.ready.long,
        )

    pub new-small : known + new ≤ 65536
    new-small =
        omega (
          arith,
          count_next spread here is_Known is-new,
          count_room (is-sound spread) (suc t) (omega (arith, all-ordered (passing spread), turn-known spread here)),
          spread.ready.read.nodes,
          spread.ready.read.links,
          spread.ready.read.few-nodes,
          spread.ready.read.few-links,
        )

    module _ (seat : Seated b a at room t) {m : List ℕ} (e : m ≡ sets a (list + incoming) (from known new)) where
      laid_so : m ≡ sets a (list + length (in_links b (node_at b t))) (from known new)
      laid_so = e ∙ ap (λ (k : ℕ). sets a (list + k) (from known new)) is-incoming

      pub list_over : Over b at room a m
      list_over = created_over spread here over_itself seat is-list is_Known is-new laid_so

      module _ {first outgoing : ℕ} (is-first : first ≡ below (out_keys b) (first_port b (node_at b t))) (is-outgoing : outgoing ≡ length (out_links b (node_at b t))) where
        listed_here : PushedTo b m at room t 0
        listed_here = listed spread here over_itself seat is-list is_Known is-new laid_so

        pub pushes_all : PushingLines m room first list outgoing
        pushes_all = rw is-outgoing (pushing_lines (spread_over spread list_over) here listed_here is-first is-list)

        pub placed_over : {r : List ℕ} → r ≡ pushed_after m room first list outgoing → Over b at room a r
        placed_over e =
            over_over list_over
            (node-placed (spread_over spread list_over) here listed_here is-first is-list (e ∙ ap (pushed_after m room first list) is-outgoing)).0

        pub placed-turned : {r : List ℕ} → r ≡ pushed_after m room first list outgoing → Turned b r at room (t + 1)
        placed-turned e =
            rw add-one
            (node-placed (spread_over spread list_over) here listed_here is-first is-list (e ∙ ap (pushed_after m room first list) is-outgoing)).1

-- before the first node there is no line
pub no_lines : (b : List ℕ) → 0 ≡ (frontier_at b 0).count
unfolding frontier_after
no_lines b = refl
