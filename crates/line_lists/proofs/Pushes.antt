-- What pushes change: the words before the cursors stand, and a cursor moves on by one for each push on its line.
-- Rests on lib.Seq's laws of one store and on lists.Count.
use Prim.Native.Nat.{ℕ, suc, ◌+◌, ◌≤◌, ◌<◌}
use native.Mathlib.Decide.{ℕ_discrete}
use native.Mathlib.Omega.{arith}
use mathlib.Core.Path.{◌≡◌, refl, sym, ap, ◌∙◌}
use mathlib.Core.List.{List, [], ◌∷◌, ◌++◌, Memᴰ}
use lib.ListN.{length, get_or, take, set, length-set}
use lib.Seq.{get_or-set_same, get_or-set_other, take-suc}
use lib.Dec.{eqb}
use Rattle.lists.specs.Lists.{one, times}
use Rattle.lists.specs.Weight.{total}
use Rattle.lists.proofs.Count.{one_eq, one_ne}
use Rattle.line_lists.specs.Pushing.{pushed, row_pushed, all_pushed}

module _ (cursors nodes : ℕ) where
  -- ---- one push

  pub length-pushed : (a : List ℕ) (v l : ℕ) → length (pushed a cursors nodes v l) ≡ length a
  unfolding pushed
  length-pushed a v l = simp length-set

  pushed-before : (a : List ℕ) (v l i : ℕ) → cursors ≤ nodes → i < cursors → get_or (pushed a cursors nodes v l) i 0 ≡ get_or a i 0
  unfolding pushed
  pushed-before a v l i after h =
      get_or-set_other (set a (nodes + get_or a (cursors + l) 0) v) (cursors + l) i _ 0 (λ e. omega arith)
      ∙ get_or-set_other a (nodes + get_or a (cursors + l) 0) i v 0 (λ e. omega arith)

  pub pushed_cursor : (a : List ℕ) (v x l : ℕ) → cursors + l < nodes → nodes ≤ length a
      → get_or (pushed a cursors nodes v x) (cursors + l) 0 ≡ get_or a (cursors + l) 0 + one (eqb l x)
  unfolding pushed
  pushed_cursor a v x l h inside = go (ℕ_discrete l x)
    where
      stored : List ℕ
      stored = set a (nodes + get_or a (cursors + x) 0) v

      go : Dec (l ≡ x) → get_or (set stored (cursors + x) (get_or a (cursors + x) 0 + 1)) (cursors + l) 0 ≡ get_or a (cursors + l) 0 + one (eqb l x)
      go (yes e) =
          ap (λ (i : ℕ). get_or (set stored (cursors + x) (get_or a (cursors + x) 0 + 1)) (cursors + i) 0) e
          ∙ get_or-set_same stored (cursors + x) (get_or a (cursors + x) 0 + 1) 0 (rw length-set (omega arith))
          ∙ ap (λ (i : ℕ). get_or a (cursors + i) 0 + 1) (sym e)
          ∙ ap (λ (n : ℕ). get_or a (cursors + l) 0 + n) (sym (one_eq l x e))
      go (no ne) =
          let far : cursors + l ≡ cursors + x → ⊥ = λ e. ne (omega arith) in
          get_or-set_other stored (cursors + x) (cursors + l) (get_or a (cursors + x) 0 + 1) 0 far
          ∙ get_or-set_other a (nodes + get_or a (cursors + x) 0) (cursors + l) v 0 (λ e. omega arith)
          ∙ omega (arith, one_ne l x ne)

  -- ---- a row of pushes

  pub length-row : (a : List ℕ) (v : ℕ) (ls : List ℕ) → length (row_pushed a cursors nodes v ls) ≡ length a
  unfolding row_pushed
  length-row a v [] = refl
  length-row a v (l ∷ ls) = length-row (pushed a cursors nodes v l) v ls ∙ length-pushed a v l

  pub row_before : (a : List ℕ) (v : ℕ) (ls : List ℕ) (i : ℕ) → cursors ≤ nodes → i < cursors → get_or (row_pushed a cursors nodes v ls) i 0 ≡ get_or a i 0
  unfolding row_pushed
  row_before a v [] i after h = refl
  row_before a v (l ∷ ls) i after h = row_before (pushed a cursors nodes v l) v ls i after h ∙ pushed-before a v l i after h

  pub row_cursor : (a : List ℕ) (v : ℕ) (ls : List ℕ) (l : ℕ) → cursors + l < nodes → nodes ≤ length a
      → get_or (row_pushed a cursors nodes v ls) (cursors + l) 0 ≡ get_or a (cursors + l) 0 + times l ls
  unfolding row_pushed
  row_cursor a v [] l h inside = omega arith
  row_cursor a v (x ∷ ls) l h inside =
      omega (arith, row_cursor (pushed a cursors nodes v x) v ls l h (omega (arith, length-pushed a v x)), pushed_cursor a v x l h inside)

  row-append : (a : List ℕ) (v : ℕ) (ls ms : List ℕ) → row_pushed a cursors nodes v (ls ++ ms) ≡ row_pushed (row_pushed a cursors nodes v ls) cursors nodes v ms
  unfolding row_pushed
  row-append a v [] ms = refl
  row-append a v (l ∷ ls) ms = row-append (pushed a cursors nodes v l) v ls ms

  -- one push more
  pub row_next : (a : List ℕ) (v : ℕ) (ls : List ℕ) (j : ℕ) → j < length ls
      → pushed (row_pushed a cursors nodes v (take j ls)) cursors nodes v (get_or ls j 0) ≡ row_pushed a cursors nodes v (take (suc j) ls)
  unfolding row_pushed
  row_next a v ls j h =
      sym (ap (row_pushed a cursors nodes v) (take-suc ls j 0 h) ∙ row-append a v (take j ls) (get_or ls j 0 ∷ []))

  -- ---- the rows of some nodes

  module _ (row : ℕ → List ℕ) where
    pub length-all : (a : List ℕ) (us : List ℕ) → length (all_pushed a cursors nodes row us) ≡ length a
    unfolding all_pushed
    length-all a [] = refl
    length-all a (v ∷ us) = length-all (row_pushed a cursors nodes v (row v)) us ∙ length-row a v (row v)

    pub all-before : (a : List ℕ) (us : List ℕ) (i : ℕ) → cursors ≤ nodes → i < cursors → get_or (all_pushed a cursors nodes row us) i 0 ≡ get_or a i 0
    unfolding all_pushed
    all-before a [] i after h = refl
    all-before a (v ∷ us) i after h = all-before (row_pushed a cursors nodes v (row v)) us i after h ∙ row_before a v (row v) i after h

    pub all_cursor : (a : List ℕ) (us : List ℕ) (l : ℕ) → cursors + l < nodes → nodes ≤ length a
        → get_or (all_pushed a cursors nodes row us) (cursors + l) 0 ≡ get_or a (cursors + l) 0 + total (λ v. times l (row v)) us
    unfolding all_pushed
    all_cursor a [] l h inside = omega arith
    all_cursor a (v ∷ us) l h inside =
        omega (
          arith,
          all_cursor (row_pushed a cursors nodes v (row v)) us l h (omega (arith, length-row a v (row v))),
          row_cursor a v (row v) l h inside,
        )

    all_append : (a : List ℕ) (us vs : List ℕ) → all_pushed a cursors nodes row (us ++ vs) ≡ all_pushed (all_pushed a cursors nodes row us) cursors nodes row vs
    unfolding all_pushed
    all_append a [] vs = refl
    all_append a (u ∷ us) vs = all_append (row_pushed a cursors nodes u (row u)) us vs

    -- one node more
    pub all-next : (a : List ℕ) (us : List ℕ) (t : ℕ) → t < length us
        → row_pushed (all_pushed a cursors nodes row (take t us)) cursors nodes (get_or us t 0) (row (get_or us t 0)) ≡ all_pushed a cursors nodes row (take (suc t) us)
    unfolding all_pushed
    all-next a us t h =
        sym (ap (all_pushed a cursors nodes row) (take-suc us t 0 h) ∙ all_append a (take t us) (get_or us t 0 ∷ []))

  -- rows that agree on the nodes
  pub all_same : (row row' : ℕ → List ℕ) (a us : List ℕ) → ((u : ℕ) → Memᴰ u us → row u ≡ row' u)
      → all_pushed a cursors nodes row us ≡ all_pushed a cursors nodes row' us
  unfolding all_pushed
  all_same row row' a [] h = refl
  all_same row row' a (u ∷ us) h =
      ap (λ (ls : List ℕ). all_pushed (row_pushed a cursors nodes u ls) cursors nodes row us) (h u (Memᴰ.head refl))
      ∙ all_same row row' (row_pushed a cursors nodes u (row' u)) us (λ w m. h w (Memᴰ.tail m))
