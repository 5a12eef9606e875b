-- Each node's list of lines in its section: what a placed node holds is what the tables say, and no two lists share a word.
-- Rests on lines_theory: the frontier's invariant at every turn, and where lists start.
use Prim.Native.Nat.{ℕ, zero, suc, ◌+◌, ◌≤◌, ◌<◌}
use native.Mathlib.Decide.{dec_lt}
use native.Mathlib.Omega.{arith}
use mathlib.Core.Path.{◌≡◌, refl, sym, ap, ◌∙◌, subst}
use mathlib.Core.Logic.{◌⊎◌, inl, inr}
use mathlib.Core.List.Memᴰ
use mathlib.Core.List.{List, [], ◌∷◌, ◌++◌, Memᴰ}
use lib.ListN.{length, get_or, take}
use lib.Seq.{take-length}
use Rattle.lists.specs.Lists.{times}
use Rattle.lists.proofs.Upto.{get_or-table}
use Rattle.lists.proofs.Count.{times-take}
use Rattle.lists.proofs.Members.{member-times}
use Rattle.lists.proofs.Places.{times_in, times_in_back, times-place, place-times, PlaceBelow}
use Rattle.paper.specs.Map.{N, in_links, out_links}
use Rattle.paper.specs.Order.{order}
use Rattle.paper.specs.Lines.{Placed, Frontier, placed_as, new_lines, frontier_after, tables, tables_of}
use Rattle.paper.specs.Refusals.{passed, rule45, rule6}
use Rattle.order_theory.specs.Sound.{Sound}
use Rattle.order_theory.proofs.Order.{ordered-times, ordered-known}
use Rattle.order_theory.proofs.Refusals.{sound, rule6_passes}
use Rattle.lines_theory.specs.Lined.{Lined, Next, newcomer}
use Rattle.lines_theory.proofs.Frontier.{lined, all_lined, turn-next}
use Rattle.lines_theory.proofs.Placing.{place-grows}
use Rattle.lines_theory.proofs.PlacedAs.{placed-itself}
use Rattle.lines_theory.proofs.Prepared.{tables-sized}
use Rattle.lines_theory.proofs.Starts.{starts-room, starts_later}
use Rattle.lines_theory.proofs.Taken.{lines-length, fresh-length, old_length}
use Rattle.line_tables.specs.Layout.{start_of, entries}
use Rattle.line_tables.specs.Frontier.{node_at, frontier_at}

-- ---- a node stays placed

pub placed-next : (b : List ℕ) (t : ℕ) → (frontier_at b (suc t)).placed ≡ (frontier_at b t).placed ++ (newcomer b (node_at b t) (frontier_at b t) ∷ [])
unfolding frontier_after
placed-next b t = ap (λ (f : Frontier). f.placed) (place-grows b (node_at b t) (frontier_at b t))

stays : (b : List ℕ) (t n : ℕ) {x : Placed} → t ≤ n → Memᴰ x (frontier_at b t).placed → Memᴰ x (frontier_at b n).placed
stays b t zero {x} h m = subst (λ (u : ℕ). Memᴰ x (frontier_at b u).placed) (omega arith) m
stays b t (suc n) {x} h m = go (dec_lt t (suc n)) (λ l. stays b t n l m)
  where
    last : (t n : ℕ) → t ≤ n → (t < n → ⊥) → t ≡ n
    last t n h ge = omega arith

    go : Dec (t < suc n) → (t ≤ n → Memᴰ x (frontier_at b n).placed) → Memᴰ x (frontier_at b (suc n)).placed
    go (yes lt) ih =
        subst (Memᴰ x) (sym (placed-next b n)) (Memᴰ.append_left (newcomer b (node_at b n) (frontier_at b n) ∷ []) (ih (omega arith)))
    go (no ge) ih = subst (λ (u : ℕ). Memᴰ x (frontier_at b u).placed) (last t (suc n) h ge) m

-- ---- the rows of the tables

abbrev pub rows : List ℕ → List (List ℕ)
rows b = (tables b).lines_of_nodes

abbrev pub row : List ℕ → ℕ → List ℕ
row b v = get_or (rows b) v []

-- a map that passes 4, 5 and 6
pub record Passing (b : List ℕ) : Type 0 where
  pub links : rule45 b ≡ passed
  pub cycle : rule6 b ≡ passed

module _ {b : List ℕ} (ok : Passing b) where
  is-sound : Sound b
  is-sound = sound b ok.links

  pub all-ordered : length (order b) ≡ N b
  unfolding tables tables_of
  all-ordered = (tables-sized b ok.links ok.cycle).ordered

  pub node-known : (t : ℕ) → t < N b → node_at b t < N b
  node-known t h =
      ordered-known is-sound (node_at b t) (times_in_back (node_at b t) (order b) (times-place (order b) t (omega (arith, all-ordered))))

  pub at_turn : (t : ℕ) → t ≤ N b → Lined b (take t (order b)) (frontier_at b t)
  at_turn t h = lined is-sound t (omega (arith, all-ordered))

  pub comes_next : (t : ℕ) → t < N b → Next b (take t (order b)) (node_at b t)
  comes_next t h = turn-next is-sound t (omega (arith, all-ordered))

  last_frontier : Lined b (order b) (frontier_at b (N b))
  last_frontier =
      subst (λ (t : ℕ). Lined b (order b) (frontier_after b (order b) t)) all-ordered (all_lined is-sound)

  module _ (t : ℕ) (h : t ≤ N b) {x : Placed} (m : Memᴰ x (frontier_at b t).placed) where
    at_last : Memᴰ x (frontier_at b (N b)).placed
    at_last = stays b t (N b) h m

    found : 1 ≤ times x.node (take t (order b))
    found = omega (arith, member-times (λ (y : Placed). y.node) m, ap (times x.node) (at_turn t h).nodes)

    pub seat-known : x.node < N b
    seat-known =
        ordered-known is-sound x.node
        (times_in_back x.node (order b) (omega (arith, found, times-take x.node t (order b))))

    looked_up : placed_as x.node (frontier_at b (N b)).placed ≡ x
    looked_up =
        placed-itself at_last
        (omega (arith, ap (times x.node) last_frontier.nodes, ordered-times is-sound x.node))

    pub seat-row : row b x.node ≡ x.lines
    unfolding tables tables_of
    seat-row =
        get_or-table (λ v. (placed_as v (frontier_after b (order b) (length (order b))).placed).lines) (N b) x.node [] seat-known
        ∙ ap (λ (u : ℕ). (placed_as x.node (frontier_after b (order b) u).placed).lines) all-ordered
        ∙ ap (λ (y : Placed). y.lines) looked_up

    pub seat-position : get_or (tables b).positions x.node 0 ≡ x.position
    unfolding tables tables_of
    seat-position =
        get_or-table (λ v. (placed_as v (frontier_after b (order b) (length (order b))).placed).position) (N b) x.node 0 seat-known
        ∙ ap (λ (u : ℕ). (placed_as x.node (frontier_after b (order b) u).placed).position) all-ordered
        ∙ ap (λ (y : Placed). y.position) looked_up

    -- the node that comes next is another
    pub seat_other : t < N b → x.node ≡ node_at b t → ⊥
    seat_other lt e = omega (arith, found, (comes_next t lt).new, ap (λ (v : ℕ). times v (take t (order b))) e)

  -- ---- the node that comes next

  module _ (t : ℕ) (h : t < N b) where
    new-there : Memᴰ (newcomer b (node_at b t) (frontier_at b t)) (frontier_at b (suc t)).placed
    new-there =
        subst (Memᴰ (newcomer b (node_at b t) (frontier_at b t))) (sym (placed-next b t))
        (Memᴰ.append_right (frontier_at b t).placed (Memᴰ.head refl))

    pub new_row : row b (node_at b t) ≡ (newcomer b (node_at b t) (frontier_at b t)).lines
    new_row = seat-row (suc t) h new-there

    pub new_width : length (row b (node_at b t))
        ≡ length (in_links b (node_at b t)) + new_lines (length (in_links b (node_at b t))) (length (out_links b (node_at b t)))
    new_width =
        let i = at_turn t (omega arith) in
        let n = comes_next t h in
        ap length new_row ∙ lines-length is-sound i n
        ∙ ap (λ (k : ℕ). length (in_links b (node_at b t)) + k)
        (fresh-length is-sound i n ∙ ap (λ (k : ℕ). new_lines k (length (out_links b (node_at b t)))) (old_length is-sound i n))

  -- how many lines a node has, by its links alone
  pub row_width : (v : ℕ) → v < N b → length (row b v) ≡ length (in_links b v) + new_lines (length (in_links b v)) (length (out_links b v))
  row_width v h =
      subst (λ (u : ℕ). length (row b u) ≡ length (in_links b u) + new_lines (length (in_links b u)) (length (out_links b u))) place.holds
      (new_width place.place (omega (arith, place.inside, all-ordered)))
    where
      place : PlaceBelow (length (order b)) v (order b)
      place =
          place-times (length (order b)) v (order b)
          (omega (arith, ap (times v) (take-length (order b)), times_in v (order b) ((rule6_passes b).0 ok.cycle v h)))

  -- ---- where the rows stand

  pub rows_long : length (rows b) ≡ N b
  rows_long = (tables-sized b ok.links ok.cycle).nodes

  pub row_inside : (v : ℕ) → v < N b → start_of b v + length (row b v) ≤ entries b
  row_inside v h =
      omega
      (arith, starts-room 0 (rows b) v (omega (arith, rows_long)), (tables-sized b ok.links ok.cycle).line_entries)

  rows_rise : (u v : ℕ) → u < v → v < N b → start_of b u + length (row b u) ≤ start_of b v
  rows_rise u v l h = starts_later 0 (rows b) u v l (omega (arith, rows_long))

  -- of two rows one stands before the other
  pub rows_apart : (u v : ℕ) → u < N b → v < N b → (u ≡ v → ⊥)
      → (start_of b u + length (row b u) ≤ start_of b v) ⊎ (start_of b v + length (row b v) ≤ start_of b u)
  rows_apart u v hu hv apart = go (dec_lt u v)
    where
      turned : (u v : ℕ) → (u ≡ v → ⊥) → (u < v → ⊥) → v < u
      turned u v ne ge = omega arith

      go : Dec (u < v) → (start_of b u + length (row b u) ≤ start_of b v) ⊎ (start_of b v + length (row b v) ≤ start_of b u)
      go (yes lt) = inl (rows_rise u v lt hv)
      go (no ge) = inr (rows_rise v u (turned u v apart ge) hu)
