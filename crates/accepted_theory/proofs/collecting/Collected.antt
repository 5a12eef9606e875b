-- The small map that the Rust fills is 01's: each touched line, first seen first, with its interval and the number of its listed nodes.
-- Rests on Events (any positions), Known (accepted tables) and lists' Compare.
use Prim.Native.Nat.{ℕ, suc, ◌+◌, ◌≤◌, ◌<◌}
use native.Mathlib.Decide.{dec_lt}
use native.Mathlib.Omega.{arith}
use mathlib.Core.Path.{◌≡◌, refl, sym, ap, ap₂, ◌∙◌}
use mathlib.Core.Logic.{inl, inr}
use mathlib.Core.Bool.{Bool, true, false, cond}
use mathlib.Core.List.{List, [], ◌∷◌, ◌++◌, map, flat_map, map-append}
use lib.ListN.{length, length-map, replicate}
use lib.Dec.{eqb}
use Rattle.lists.specs.Lists.{one, keep, member, times, once, In, Distinct}
use Rattle.lists.specs.Bounds.{Below}
use Rattle.lists.proofs.Upto.{keep_append, count-append}
use Rattle.lists.proofs.Count.{one-small, times-keep, cond_small, length-keep, count_map}
use Rattle.lists.proofs.Compare.{fewer, same_length, fits}
use Rattle.lists.proofs.Members.{times-member, member_no}
use Rattle.lists.proofs.Places.{times_in, distinct-times}
use Rattle.paper.specs.Map.{N}
use Rattle.paper.specs.Area.{K, position, lines_of, nodes_of}
use Rattle.paper.specs.Accepted.{Accepted}
use Rattle.paper.specs.Intervals.{touched, listed_positions, interval}
use Rattle.accepted_theory.specs.collecting.SmallMap.{Held, add, add_lines, add_nodes}
use Rattle.accepted_theory.specs.collecting.Collected.{Listing, held}
use Rattle.accepted_theory.proofs.collecting.Laws.{
  map_in,
  count_most,
  below_in,
  in_below,
  times-distinct,
  times-once,
  least-same,
  greatest-same,
}
use Rattle.accepted_theory.proofs.collecting.Known.{lines-known, nodes-once}
use Rattle.accepted_theory.proofs.collecting.Events.{
  Event,
  add_all,
  add_all_append,
  lines_of_all,
  places_on,
  held_with,
  held_same,
  length_places_on,
  all_added,
}

-- ---- the positions that are added, as events

abbrev events_at : ℕ → List ℕ → List Event
events_at p ls = map (λ l. record { line = l; place = p }) ls

events_of : List ℕ → List ℕ → List ℕ → List Event
events_of b a list = flat_map (λ v. events_at (position b a v) (lines_of b a v)) list

lines_events : (p : ℕ) (ls : List ℕ) (hs : List Held) → add_lines p ls hs ≡ add_all (events_at p ls) hs
unfolding add_lines
lines_events p [] hs = refl
lines_events p (l ∷ ls) hs = lines_events p ls (add p l hs)

nodes_events : (b a list : List ℕ) (hs : List Held) → add_nodes b a list hs ≡ add_all (events_of b a list) hs
unfolding add_nodes events_of flat_map
nodes_events b a [] hs = refl
nodes_events b a (v ∷ vs) hs =
    nodes_events b a vs (add_lines (position b a v) (lines_of b a v) hs)
    ∙ ap (add_all (events_of b a vs)) (lines_events (position b a v) (lines_of b a v) hs)
    ∙ sym (add_all_append (events_at (position b a v) (lines_of b a v)) (events_of b a vs) hs)

lines_at : (p : ℕ) (ls : List ℕ) → lines_of_all (events_at p ls) ≡ ls
lines_at p [] = refl
lines_at p (l ∷ ls) = ap (λ (r : List ℕ). l ∷ r) (lines_at p ls)

lines_of_lem : (b a list : List ℕ) → lines_of_all (events_of b a list) ≡ flat_map (lines_of b a) list
unfolding events_of flat_map
lines_of_lem b a [] = refl
lines_of_lem b a (v ∷ vs) =
    map-append (λ e. e.line) (events_at (position b a v) (lines_of b a v)) (events_of b a vs)
    ∙ ap₂ (λ (xs ys : List ℕ). xs ++ ys) (lines_at (position b a v) (lines_of b a v)) (lines_of_lem b a vs)

-- a node's position stands on a line as often as the node lists the line
places_at : (l p : ℕ) (ls : List ℕ) → places_on l (events_at p ls) ≡ replicate (times l ls) p
places_at l p [] = refl
places_at l p (k ∷ ks) = go (eqb l k) (places_at l p ks)
  where
    one_more : (n : ℕ) → suc n ≡ 1 + n
    one_more n = omega arith

    no_more : (n : ℕ) → n ≡ 0 + n
    no_more n = omega arith

    go : (t : Bool) → places_on l (events_at p ks) ≡ replicate (times l ks) p
        → map (λ e. e.place) (cond t (record { line = k; place = p } ∷ keep (λ e. eqb l e.line) (events_at p ks)) (keep (λ e. eqb l e.line) (events_at p ks)))
        ≡ replicate (one t + times l ks) p
    go true ih = ap (λ (r : List ℕ). p ∷ r) ih ∙ ap (λ (n : ℕ). replicate n p) (one_more (times l ks))
    go false ih = ih ∙ ap (λ (n : ℕ). replicate n p) (no_more (times l ks))

both : (s t : Bool) → cond s (one t) 0 ≡ cond t (one s) 0
both true true = refl
both true false = refl
both false true = refl
both false false = refl

touched-times : (b a list : List ℕ) (l : ℕ) → times l (touched b a list) ≡ one (member l (flat_map (lines_of b a) list))
unfolding touched
touched-times b a list l = times-once l (flat_map (lines_of b a) list)

touched-listed : (b a list : List ℕ) (l : ℕ) → In l (touched b a list) → 1 ≤ times l (flat_map (lines_of b a) list)
touched-listed b a list l i = go (dec_lt 0 (times l (flat_map (lines_of b a) list)))
  where
    go : Dec (0 < times l (flat_map (lines_of b a) list)) → 1 ≤ times l (flat_map (lines_of b a) list)
    go (yes h) = h
    go (no h) =
        absurd
        (omega (arith, times_in l (touched b a list) i, touched-times b a list l, ap one (member_no l (flat_map (lines_of b a) list) (omega arith))))

-- ---- on accepted tables

module _ {b a : List ℕ} (acc : Accepted b a) where
  module _ (l : ℕ) (line : l < K b a) where
    -- the line's nodes, in the list's order
    places_of_lem : (list : List ℕ) → ((v : ℕ) → In v list → v < N b)
        → places_on l (events_of b a list) ≡ map (position b a) (keep (λ v. member v (nodes_of b a l)) list)
    unfolding events_of flat_map
    places_of_lem [] known = refl
    places_of_lem (v ∷ vs) known =
        ap (map (λ e. e.place)) (keep_append (λ e. eqb l e.line) (events_at (position b a v) (lines_of b a v)) (events_of b a vs))
        ∙ map-append (λ e. e.place) (keep (λ e. eqb l e.line) (events_at (position b a v) (lines_of b a v))) (keep (λ e. eqb l e.line) (events_of b a vs))
        ∙ ap₂ (λ (xs ys : List ℕ). xs ++ ys)
        (places_at l (position b a v) (lines_of b a v) ∙ ap (λ (n : ℕ). replicate n (position b a v)) (acc.listed v (known v (inl refl)) l line))
        (places_of_lem vs (λ u i. known u (inr i)))
        ∙ taken (member v (nodes_of b a l))
      where
        taken : (t : Bool)
            → replicate (one t) (position b a v) ++ map (position b a) (keep (λ u. member u (nodes_of b a l)) vs)
            ≡ map (position b a) (cond t (v ∷ keep (λ u. member u (nodes_of b a l)) vs) (keep (λ u. member u (nodes_of b a l)) vs))
        taken true = refl
        taken false = refl

    module _ (list : List ℕ) (listing : Listing b list) where
      by_list : List ℕ
      by_list = keep (λ v. member v (nodes_of b a l)) list

      by_line : List ℕ
      by_line = keep (λ v. member v list) (nodes_of b a l)

      -- the listed nodes on the line, in either order
      times_both : (v : ℕ) → times v by_list ≡ times v by_line
      unfolding by_list by_line
      times_both v =
          times-keep (λ u. member u (nodes_of b a l)) v list
          ∙ ap (λ (n : ℕ). cond (member v (nodes_of b a l)) n 0) (times-member v list (times-distinct list listing.distinct v))
          ∙ both (member v (nodes_of b a l)) (member v list)
          ∙ ap (λ (n : ℕ). cond (member v list) n 0) (sym (times-member v (nodes_of b a l) (nodes-once acc l line v)))
          ∙ sym (times-keep (λ u. member u list) v (nodes_of b a l))

      below-list : Below (N b) by_list
      unfolding by_list
      below-list v h =
          omega (
            arith,
            times-keep (λ u. member u (nodes_of b a l)) v list,
            cond_small (member v (nodes_of b a l)) (times v list),
            below_in (N b) list listing.known v h,
          )

      below-line : Below (N b) by_line
      below-line v h = sym (times_both v) ∙ below-list v h

      positions_both : (p : ℕ) → times p (map (position b a) by_list) ≡ times p (map (position b a) by_line)
      positions_both p =
          let there = fewer (λ v. eqb p (position b a v)) (N b) by_list by_line below-list (λ v h. omega (arith, times_both v)) in
          let back = fewer (λ v. eqb p (position b a v)) (N b) by_line by_list below-line (λ v h. omega (arith, times_both v)) in
          omega (arith, count_map (eqb p) (position b a) by_list, count_map (eqb p) (position b a) by_line)

      length_both : length (map (position b a) by_list) ≡ length (map (position b a) by_line)
      length_both =
          length-map by_list (position b a)
          ∙ same_length (N b) by_list by_line below-list below-line (λ v h. times_both v)
          ∙ sym (length-map by_line (position b a))

      line-held : held_with l (places_on l (events_of b a list)) ≡ held b a list l
      unfolding held interval listed_positions by_list by_line
      line-held =
          ap (held_with l) (places_of_lem list listing.known)
          ∙ held_same l (map (position b a) by_list) (map (position b a) by_line)
          (least-same (map (position b a) by_list) (map (position b a) by_line) positions_both)
          (greatest-same (map (position b a) by_list) (map (position b a) by_line) positions_both)
          length_both

      -- as many as the listed nodes have entries of the line
      pub listed-length : length (listed_positions b a list l) ≡ times l (flat_map (lines_of b a) list)
      unfolding held interval listed_positions
      listed-length =
          ap (λ h. h.count) (sym line-held) ∙ length_places_on l (events_of b a list) ∙ ap (times l) (lines_of_lem b a list)

      pub listed-most : length (listed_positions b a list l) ≤ length list
      unfolding listed_positions by_list by_line
      listed-most =
          omega (
            arith,
            length_both,
            length-map by_list (position b a),
            length-keep (λ v. member v (nodes_of b a l)) list,
            count_most (λ v. member v (nodes_of b a l)) list,
          )

  -- ---- the lines touched

  module _ (list : List ℕ) (known : (v : ℕ) → In v list → v < N b) where
    flat_below : (vs : List ℕ) → ((v : ℕ) → In v vs → v < N b) → Below (K b a) (flat_map (lines_of b a) vs)
    unfolding flat_map
    flat_below [] known k h = refl
    flat_below (v ∷ vs) known k h =
        omega (
          arith,
          count-append (eqb k) (lines_of b a v) (flat_map (lines_of b a) vs),
          lines-known acc v (known v (inl refl)) k h,
          flat_below vs (λ u i. known u (inr i)) k h,
        )

    pub touched-below : Below (K b a) (touched b a list)
    touched-below k h =
        touched-times b a list k ∙ ap one (member_no k (flat_map (lines_of b a) list) (flat_below list known k h))

    touched-once : (l : ℕ) → times l (touched b a list) ≤ 1
    touched-once l = omega (arith, touched-times b a list l, one-small (member l (flat_map (lines_of b a) list)))

    pub touched-distinct : Distinct (touched b a list)
    touched-distinct = distinct-times (touched b a list) touched-once

    pub touched-few : length (touched b a list) ≤ K b a
    touched-few = fits (K b a) (touched b a list) touched-below touched-once

    pub touched-known : (l : ℕ) → In l (touched b a list) → l < K b a
    touched-known = in_below (K b a) (touched b a list) touched-below

  module _ (list : List ℕ) (listing : Listing b list) where
    -- a touched line has a listed node
    pub listed-some : (l : ℕ) → In l (touched b a list) → 1 ≤ length (listed_positions b a list l)
    listed-some l i = omega (arith, listed-length l (touched-known list listing.known l i) list listing, touched-listed b a list l i)

    pub collected : add_nodes b a list [] ≡ map (held b a list) (touched b a list)
    unfolding touched
    collected =
        nodes_events b a list [] ∙ all_added (events_of b a list)
        ∙ ap (λ (ls : List ℕ). map (λ l. held_with l (places_on l (events_of b a list))) (once ls)) (lines_of_lem b a list)
        ∙ map_in (λ l. held_with l (places_on l (events_of b a list))) (held b a list) (once (flat_map (lines_of b a) list))
        (λ l i. line-held l (touched-known list listing.known l i) list listing)
