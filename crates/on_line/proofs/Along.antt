-- In a usable area every line is a line of the tables: its nodes, the positions along it and the next node are 01's.
-- Rests on tables' Words.
use Prim.Native.Nat.{ℕ, suc, ◌+◌, ◌-◌, ◌≤◌, ◌<◌}
use native.Mathlib.Omega.{arith}
use mathlib.Core.Path.{◌≡◌, refl, sym, ap, ap₂, ◌∙◌, subst}
use mathlib.Core.Bool.{cond}
use mathlib.Core.List.{List, [], ◌∷◌, map}
use lib.ListN.{length, get_or, take, drop}
use lib.Dec.{ltb}
use Rattle.lists.specs.Lists.{keep, Rising}
use Rattle.lists.specs.Found.{front}
use Rattle.lists.proofs.Sections.{part, length_part, get_d_part}
use Rattle.paper.specs.Area.{K, position, nodes_of}
use Rattle.paper.specs.Walk.{next_on}
use Rattle.lookup.specs.Line.{positions_on}
use Rattle.tables.specs.declared.Layout.{Layout}
use Rattle.tables.specs.Usable.{Usable}
use Rattle.tables.proofs.Words.{position-is, nodes_are, nodes-span, node-known}
use Rattle.on_line.specs.Along.{LineAt, positions_in, nodes_along, positions_along, next_along}

-- two functions that agree on the elements
map_at : (f g : ℕ → ℕ) (xs : List ℕ) → ((i : ℕ) → i < length xs → f (get_or xs i 0) ≡ g (get_or xs i 0)) → map f xs ≡ map g xs
map_at f g [] h = refl
map_at f g (x ∷ xs) h = ap₂ (λ (y : ℕ) (ys : List ℕ). y ∷ ys) (h 0 (omega arith)) (map_at f g xs (λ i l. h (suc i) (omega arith)))

keep_at : (p : ℕ) (f g : ℕ → ℕ) (xs : List ℕ) → ((i : ℕ) → i < length xs → f (get_or xs i 0) ≡ g (get_or xs i 0))
    → keep (λ v. ltb p (f v)) xs ≡ keep (λ v. ltb p (g v)) xs
keep_at p f g [] h = refl
keep_at p f g (x ∷ xs) h =
    ap₂ (λ (y : ℕ) (ys : List ℕ). cond (ltb p y) (x ∷ ys) ys) (h 0 (omega arith)) (keep_at p f g xs (λ i l. h (suc i) (omega arith)))

-- a part, handed on by its two ends
pub handed : (a : List ℕ) (first n : ℕ) → take (first + n - first) (drop first a) ≡ part a first n
handed a first n = ap (λ (k : ℕ). take k (drop first a)) (exactly first n)
  where
    exactly : (first n : ℕ) → first + n - first ≡ n
    exactly first n = omega arith

module _ {b a : List ℕ} {at : Layout} (usable : Usable b a at) (x : ℕ) (known : x < K b a) where
  along : (i : ℕ) → i < length (nodes_along a at x) → get_or (nodes_along a at x) i 0 < at.sizes.nodes
  along i h =
      subst (λ (xs : List ℕ). get_or xs i 0 < at.sizes.nodes) (nodes_are usable x)
      (node-known usable x i known (omega (arith, ap length (nodes_are usable x))))

  same-position : (i : ℕ) → i < length (nodes_along a at x)
      → get_or (positions_in a at) (get_or (nodes_along a at x) i 0) 0 ≡ position b a (get_or (nodes_along a at x) i 0)
  same-position i h =
      let v : ℕ = get_or (nodes_along a at x) i 0 in
      get_d_part a at.positions at.sizes.nodes v 0 (along i h) ∙ sym (position-is usable v)

  pub along-is : positions_along a at x ≡ map (position b a) (nodes_of b a x)
  unfolding positions_along positions_on
  along-is =
      map_at (λ v. get_or (positions_in a at) v 0) (position b a) (nodes_along a at x) same-position
      ∙ ap (map (position b a)) (sym (nodes_are usable x))

  pub next-is : (q : ℕ) → next_along a at x q ≡ next_on b a x q
  unfolding next_along next_on
  next-is q =
      ap front (
      keep_at q (λ v. get_or (positions_in a at) v 0) (position b a) (nodes_along a at x) same-position
      ∙ ap (keep (λ v. ltb q (position b a v))) (sym (nodes_are usable x))
      )

  pub line_at : LineAt a at x
  unfolding positions_along
  line_at =
      record {
        span = nodes-span usable x known;
        room = roomy;
        line =
            record {
              known = λ i h. omega (arith, along i h, length_part a at.positions at.sizes.nodes roomy);
              rises = subst Rising (sym along-is) (usable.tables.rises x known);
            };
      }
    where
      roomy : at.positions + at.sizes.nodes ≤ length a
      roomy = omega (arith, usable.placed, usable.room)
