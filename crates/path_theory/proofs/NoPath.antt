-- There is a path back exactly when the list is not convex: a path back passes a step outside, and a directed path that does so has one in it.
-- Rests on path_theory (ways that return, and that what returns is found).
use Prim.Native.Nat.{ℕ, ◌≤◌}
use native.Mathlib.Omega.{arith}
use mathlib.Core.Path.{◌≡◌, refl, subst}
use mathlib.Core.Logic.{◌↔◌, inl}
use mathlib.Core.List.{List, [], ◌∷◌, ◌++◌}
use lib.ListN.{length, length-append}
use Rattle.lists.specs.Lists.{In}
use Rattle.paper.specs.Plain.{Linked, DirectedPath, link, onward, Convex}
use Rattle.paper.specs.Path.{Chain, BackPath, Path, path, no_path, back_path}
use Rattle.order_theory.specs.Sound.{Sound}
use Rattle.convexity_theory.proofs.Memberships.{dec_in}
use Rattle.path_theory.proofs.levels.Ways.{Way, begin, further, way_some}
use Rattle.path_theory.proofs.levels.Returns.{Return, chain_first, chain_rest, return_path, back-path}
use Rattle.path_theory.proofs.levels.Shortest.{path-found}

-- ---- a path back is no convex list's

pub chain_path : {b : List ℕ} {u : ℕ} (between : List ℕ) {end : ℕ} → Chain b (u ∷ (between ++ (end ∷ []))) → DirectedPath b u end
chain_path [] c = link (chain_first c)
chain_path (x ∷ between) c = onward (chain_first c) (chain_path between (chain_rest c))

pub bent : {b list steps : List ℕ} → BackPath b list steps → Convex b list → ⊥
bent {b} {list} p convex = go p.between p.some p.outside (subst (Chain b) p.whole p.linked)
  where
    go : (between : List ℕ) → 1 ≤ length between → ((v : ℕ) → In v between → In v list → ⊥) → Chain b (p.start ∷ (between ++ (p.end ∷ []))) → ⊥
    go [] h outside c = omega arith
    go (x ∷ between) h outside c =
        convex p.start x p.end p.starts (link (chain_first c)) (outside x (inl refl)) (chain_path between (chain_rest c)) p.ends

-- ---- and a list with none is convex

-- a way to x, which has left the list
record Left (b list : List ℕ) (x : ℕ) : Type 0 where
  steps : List ℕ
  way : Way b list steps x
  far : 2 ≤ length steps

module _ {b list : List ℕ} where
  on : {vs : List ℕ} {u v : ℕ} → Way b list vs u → Linked b u v → (In v list → ⊥) → Left b list v
  on {vs} {v = v} w r out = record { steps = vs ++ (v ∷ []); way = further w r out; far = omega (arith, length-append vs (v ∷ []), way_some w) }

  -- from the last listed step on
  leaves : {vs : List ℕ} {u x : ℕ} → Way b list vs u → DirectedPath b u x → (In x list → ⊥) → Left b list x
  leaves w (link r) out = on w r out
  leaves w (onward {v = v} r p) out = go (dec_in v list) (λ i. leaves (begin i) p out) (λ o. leaves (further w r o) p out)
    where
      go : {x : ℕ} → Dec (In v list) → (In v list → Left b list x) → ((In v list → ⊥) → Left b list x) → Left b list x
      go (yes i) anew later = anew i
      go (no o) anew later = later o

  closed : {x w : ℕ} → Left b list x → Linked b x w → In w list → (steps : List ℕ) × Return b list steps
  closed {x} {w} l r i = (
    l.steps ++ (w ∷ []),
    record {
      away = l.steps;
      last = x;
      end = w;
      whole = refl;
      way = l.way;
      far = l.far;
      linked = r;
      listed = i;
    },
  )

  -- up to the first listed step
  comes_back : {x w : ℕ} → Left b list x → DirectedPath b x w → In w list → (steps : List ℕ) × Return b list steps
  comes_back l (link r) i = closed l r i
  comes_back l (onward {v = v} r p) i = go (dec_in v list) (λ j. closed l r j) (λ o. comes_back (on l.way r o) p i)
    where
      go : Dec (In v list) → (In v list → (steps : List ℕ) × Return b list steps) → ((In v list → ⊥) → (steps : List ℕ) × Return b list steps)
          → (steps : List ℕ) × Return b list steps
      go (yes j) here later = here j
      go (no o) here later = later o

-- "For a yes the answer is "no path", a case of its own."
pub no_path_lem : {b : List ℕ} → Sound b → (list : List ℕ) → (back_path b list ≡ no_path) ↔ Convex b list
no_path_lem {b} s list = (
  λ e u x w i p out q j. path-found s list (return_path (comes_back (leaves (begin i) p out) q j).1) e,
  λ convex. none (back_path b list) refl convex,
)
  where
    none : (r : Path) → back_path b list ≡ r → Convex b list → r ≡ no_path
    none (path vs) e convex = absurd (bent (back-path b list e) convex)
    none no_path e convex = refl
