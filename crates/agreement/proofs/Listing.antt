-- How long the lists of pairs are, and which numbers they hold.
-- Rests on Laying and Reading.
use Prim.Native.Nat.{ℕ, zero, suc, ◌+◌, ◌-◌, ◌≤◌, ◌<◌}
use native.Mathlib.Omega.{arith}
use mathlib.Core.Path.{◌≡◌, refl, ap, ◌∙◌}
use mathlib.Core.List.{List, [], ◌∷◌}
use lib.ListN.{length, get_or, take, drop, replicate, length-replicate, length-drop}
use lib.Seq.{slice, length-slice, get_or-take, get_or-drop, length-take-le}
use Rattle.lists.specs.Lists.{times}
use Rattle.lists.specs.Bounds.{Below}
use Rattle.lists.proofs.Count.{one_ne, times-take}
use Rattle.lists.proofs.Places.{place-known}
use Rattle.groups.specs.Groups.{Known}
use Rattle.groups.proofs.Bags.{known-below}
use Rattle.tables.specs.declared.Layout.{Layout}
use Rattle.agreement.specs.Tables.{entry_count, node_start, line_start, lines_in, nodes_on, Tables}
use Rattle.agreement.specs.Lists.{line_numbers, fronts, backs}
use Rattle.agreement.proofs.Laying.{laid-long, laid_none}
use Rattle.accepted_theory.proofs.Starts.{start-least, start-most}
use Rattle.agreement.proofs.Reading.{line-rises, line-end, line-long}

-- the words of a part of the area
slice_known : (a : List ℕ) (o f t m bound : ℕ) → f ≤ t → t ≤ m → o + m ≤ length a → ((i : ℕ) → i < m → get_or a (o + i) 0 < bound)
    → Below bound (slice (o + f) (o + t) a)
slice_known a o f t m bound low high fits known =
    known-below bound (slice (o + f) (o + t) a)
    (λ i h. let l : f + i < t = omega (arith, length-slice (o + f) (o + t) a (omega arith)) in
    omega (
      arith,
      get_or-drop (o + f) (take (o + t) a) i 0,
      get_or-take (o + t) a (o + f + i) 0 (omega arith),
      ap (λ (j : ℕ). get_or a j 0) (assoc i),
      known (f + i) (omega arith),
    ))
  where
    assoc : (i : ℕ) → o + f + i ≡ o + (f + i)
    assoc i = omega arith

times-replicate : (w x m : ℕ) → (w ≡ x → ⊥) → times w (replicate m x) ≡ 0
times-replicate w x zero ne = refl
times-replicate w x (suc m) ne = omega (arith, one_ne w x ne, times-replicate w x m ne)

below-known : (n : ℕ) (xs : List ℕ) → Below n xs → Known n xs
below-known n xs below i h = place-known n xs i below h

module _ {a : List ℕ} {at : Layout} {k : ℕ} (t : Tables a at k) where
  pub lines-below : {v : ℕ} → v < at.sizes.nodes → Below k (lines_in a at v)
  lines-below {v} h =
      slice_known a at.lines (node_start a at v) (node_start a at (suc v)) (entry_count at k) k (omega (arith, t.known.node_starts.rises v h))
      (omega (arith, start-most t.known.node_starts (suc v) h)) t.sized.lines_fit t.known.lines_known

  nodes-below : {x : ℕ} → x < k → Below at.sizes.nodes (nodes_on a at x)
  nodes-below {x} h =
      slice_known a at.along (line_start a at x) (line_start a at (suc x)) (entry_count at k) at.sizes.nodes (omega (arith, line-rises t h)) (line-end t h)
      t.sized.along-fit t.known.nodes_known

  -- ---- the numbers of the lines

  pub numbers_long : length (line_numbers a at k) ≡ entry_count at k
  unfolding line_numbers
  numbers_long =
      laid-long (line_start a at) t.known.line_starts.begins (λ x. replicate (line_start a at (suc x) - line_start a at x) x) k
      (λ x h. omega (arith, length-replicate (line_start a at (suc x) - line_start a at x) x, line-rises t h)) k (omega arith)
      ∙ t.known.line_starts.ends

  pub numbers_known : Known k (line_numbers a at k)
  unfolding line_numbers
  numbers_known =
      below-known k (line_numbers a at k)
      (λ w h. laid_none (λ x. replicate (line_start a at (suc x) - line_start a at x) x) w k (λ x hx. times-replicate w x (line_start a at (suc x) - line_start a at x) (λ e. omega arith)))

  -- ---- the neighbours: each line before has dropped one

  pub pair_start : ℕ → ℕ
  pair_start x = line_start a at x - x

  pub pair_start_lem : (x : ℕ) → pair_start x ≡ line_start a at x - x
  unfolding pair_start
  pair_start_lem x = refl

  pub pairs_begin : pair_start 0 ≡ 0
  unfolding pair_start
  pairs_begin = omega (arith, t.known.line_starts.begins)

  one_less : (x : ℕ) → x < k → {m : ℕ} → m ≡ line_start a at (suc x) - line_start a at x - 1 → pair_start x + m ≡ pair_start (suc x)
  unfolding pair_start
  one_less x h is = omega (arith, line-rises t h, start-least t.known.line_starts x (omega arith))

  pub front_long : (x : ℕ) → x < k → pair_start x + length (take (length (nodes_on a at x) - 1) (nodes_on a at x)) ≡ pair_start (suc x)
  front_long x h =
      one_less x h (length-take-le (length (nodes_on a at x) - 1) (nodes_on a at x) (omega arith) ∙ ap (λ (m : ℕ). m - 1) (line-long t h))

  pub back_long : (x : ℕ) → x < k → pair_start x + length (drop 1 (nodes_on a at x)) ≡ pair_start (suc x)
  back_long x h = one_less x h (length-drop 1 (nodes_on a at x) ∙ ap (λ (m : ℕ). m - 1) (line-long t h))

  pairs_end : pair_start k ≡ at.sizes.links
  unfolding pair_start
  pairs_end = omega (arith, t.known.line_starts.ends)

  pub fronts-long : length (fronts a at k) ≡ at.sizes.links
  unfolding fronts
  fronts-long = laid-long pair_start pairs_begin (λ x. take (length (nodes_on a at x) - 1) (nodes_on a at x)) k front_long k (omega arith) ∙ pairs_end

  pub backs-long : length (backs a at k) ≡ at.sizes.links
  unfolding backs
  backs-long = laid-long pair_start pairs_begin (λ x. drop 1 (nodes_on a at x)) k back_long k (omega arith) ∙ pairs_end

  fronts-below : Below at.sizes.nodes (fronts a at k)
  unfolding fronts
  fronts-below w h =
      laid_none (λ x. take (length (nodes_on a at x) - 1) (nodes_on a at x)) w k
      (λ x hx. omega (arith, times-take w (length (nodes_on a at x) - 1) (nodes_on a at x), nodes-below hx w h))

  pub backs-below : Below at.sizes.nodes (backs a at k)
  unfolding backs
  backs-below w h = laid_none (λ x. drop 1 (nodes_on a at x)) w k (λ x hx. omega (arith, fewer (nodes_on a at x), nodes-below hx w h))
    where
      fewer : (xs : List ℕ) → times w (drop 1 xs) ≤ times w xs
      fewer [] = omega arith
      fewer (x ∷ xs) = omega arith

  pub fronts-known : Known at.sizes.nodes (fronts a at k)
  fronts-known = below-known at.sizes.nodes (fronts a at k) fronts-below

  pub backs-known : Known at.sizes.nodes (backs a at k)
  backs-known = below-known at.sizes.nodes (backs a at k) backs-below
