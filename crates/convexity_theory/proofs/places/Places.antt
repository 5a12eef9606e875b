-- The accepted order holds the known nodes, each once: the node at a place and the place of a node are inverse.
-- Rests on lists.Compare (more numbers than places do not fit) and order_theory.Order (where a node stands).
use Prim.Native.Nat.{ℕ, suc, ◌+◌, ◌≤◌, ◌<◌}
use native.Mathlib.Decide.{ℕ_discrete, dec_lt}
use native.Mathlib.Omega.{arith}
use mathlib.Core.Path.{◌≡◌, refl, ap, ◌∙◌}
use mathlib.Core.Bool.{true}
use mathlib.Core.List.{List, [], ◌∷◌}
use lib.ListN.{length, get_or, take}
use lib.Seq.{take_all, get_or-take, length-take-le}
use lib.Dec.{eqb}
use borrow.Author.Tests.{eq-eqb, ne_eqb}
use Rattle.lists.specs.Lists.{upto, count, times}
use Rattle.lists.specs.Bounds.{Below}
use Rattle.lists.specs.Found.{Found, absent, at, number}
use Rattle.lists.proofs.Sections.{length_part}
use Rattle.lists.proofs.Upto.{length_from}
use Rattle.lists.proofs.Count.{one_eq, one_ne, times-upto, times_past}
use Rattle.lists.proofs.Compare.{fewer, below_more}
use Rattle.lists.proofs.Places.{times-place, place-known, place-new}
use Rattle.lists.proofs.First.{first-is}
use Rattle.paper.specs.Map.{N, link_from, link_to}
use Rattle.paper.specs.Order.{place_in}
use Rattle.paper.specs.Area.{Section, size, start, W, section, order_of}
use Rattle.paper.specs.Accepted.{Accepted, GoesBefore}
use Rattle.paper.specs.Plain.{Linked}
use Rattle.order_theory.proofs.Order.{PlacedBefore, placed-before}
use Rattle.convexity_theory.specs.places.Places.{node_at, place_of}

-- where the order's section ends
order-room : (b : List ℕ) → start b Section.order + N b ≤ W b
unfolding start W size
order-room b = omega arith

count-all : (xs : List ℕ) → count (λ (x : ℕ). true) xs ≡ length xs
count-all [] = refl
count-all (x ∷ xs) = omega (arith, count-all xs)

-- the first place of what stands once is any place where it stands
once-placed : (xs : List ℕ) (i : ℕ) → i < length xs → times (get_or xs i 0) xs ≤ 1 → place_in xs (get_or xs i 0) ≡ at i
unfolding place_in
once-placed xs i h once =
    first-is (λ k. eqb (get_or xs k 0) (get_or xs i 0)) (length xs) i
    (record { known = h; passes = eq-eqb (get_or xs i 0) (get_or xs i 0) refl; fail = λ k l. ne_eqb (get_or xs k 0) (get_or xs i 0) (before k l) })
  where
    before : (k : ℕ) → k < i → get_or xs k 0 ≡ get_or xs i 0 → ⊥
    before k l e =
        omega (
          arith,
          place-new xs i h once,
          times-place (take i xs) k (omega (arith, length-take-le i xs (omega arith))),
          ap (λ (x : ℕ). times x (take i xs)) (get_or-take i xs k 0 l ∙ e),
        )

-- ---- the order's places

module _ {b a : List ℕ} (acc : Accepted b a) (room : W b ≤ length a) where
  pub order-long : length (order_of b a) ≡ N b
  unfolding order_of section size
  order-long = length_part a (start b Section.order) (N b) (omega (arith, order-room b))

  -- N nodes fill the order, so that no other number stands there
  pub order-known : Below (N b) (order_of b a)
  order-known v h = go (ℕ_discrete (times v (order_of b a)) 0)
    where
      below : Below (suc v) (v ∷ upto (N b))
      below = below_more v (suc v) (upto (N b)) (omega arith) (λ k l. times_past k (N b) (omega arith))

      less : 1 ≤ times v (order_of b a) → (k : ℕ) → Dec (k ≡ v) → Dec (k < N b) → times k (v ∷ upto (N b)) ≤ times k (order_of b a)
      less some k (yes e) d =
          omega (arith, one_eq k v e, times_past k (N b) (omega arith), ap (λ (x : ℕ). times x (order_of b a)) e)
      less some k (no ne) (yes l) = omega (arith, one_ne k v ne, times-upto k (N b) l, acc.each_once k l)
      less some k (no ne) (no l) = omega (arith, one_ne k v ne, times_past k (N b) (omega arith))

      go : Dec (times v (order_of b a) ≡ 0) → times v (order_of b a) ≡ 0
      go (yes e) = e
      go (no ne) =
          absurd
          (omega (
            arith,
            fewer (λ (x : ℕ). true) (suc v) (v ∷ upto (N b)) (order_of b a) below (λ k l. less (omega arith) k (ℕ_discrete k v) (dec_lt k (N b))),
            count-all (upto (N b)),
            count-all (order_of b a),
            length_from 0 (N b),
            order-long,
          ))

  pub node-known : (i : ℕ) → i < N b → node_at b a i < N b
  node-known i h = place-known (N b) (order_of b a) i order-known (omega (arith, order-long))

  pub place_at : (i : ℕ) → i < N b → place_in (order_of b a) (node_at b a i) ≡ at i
  place_at i h = once-placed (order_of b a) i (omega (arith, order-long)) (omega (arith, acc.each_once (node_at b a i) (node-known i h)))

  pub place_of_node : (i : ℕ) → i < N b → place_of b a (node_at b a i) ≡ i
  place_of_node i h = ap number (place_at i h)

  module _ (v : ℕ) (h : v < N b) where
    pub node-placed : PlacedBefore (N b) v (order_of b a)
    node-placed =
        placed-before (N b) v (order_of b a)
        (omega (arith, acc.each_once v h, ap (times v) (take_all (N b) (order_of b a) (omega (arith, order-long)))))

    pub place-below : place_of b a v < N b
    place-below = omega (arith, ap number node-placed.found, node-placed.before)

    pub node_of_place : node_at b a (place_of b a v) ≡ v
    node_of_place = ap (λ (f : Found). node_at b a (number f)) node-placed.found ∙ node-placed.holds

-- ---- links go forward

number-before : (x y : Found) → GoesBefore x y → number x < number y
number-before absent y p = absurd p
number-before (at i) absent p = absurd p
number-before (at i) (at j) p = p

pub link_later : {b a : List ℕ} → Accepted b a → {u v : ℕ} → Linked b u v → place_of b a u < place_of b a v
link_later {b} {a} acc {u} {v} r =
    omega (
      arith,
      number-before (place_in (order_of b a) (link_from b r.link)) (place_in (order_of b a) (link_to b r.link)) (acc.forward r.link r.known),
      ap (place_of b a) r.source,
      ap (place_of b a) r.target,
    )
