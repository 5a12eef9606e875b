-- What is said of a path, and what stands in the buffer: that there is none, 11 where it does not fit, and else its steps alone.
-- Rests on take_in's Into and path_theory's Bounds.
use Prim.Native.Nat.{ℕ, suc, ◌≤◌, ◌<◌}
use native.Mathlib.Omega.{arith}
use mathlib.Core.Path.{◌≡◌, refl, sym, ap, ◌∙◌, subst}
use mathlib.Core.List.{List, [], ◌∷◌}
use lib.ListN.{length}
use lib.Seq.{sets}
use Rattle.lists.specs.Lists.{least}
use Rattle.lists.specs.Found.{absent, at}
use Rattle.paper.specs.Path.{ends_at, closing, path_to, Path, path, no_path, path_from, back_path, steps_of, Shown, steps, no_steps, shown_of}
use Rattle.paper.specs.Refusals.{rule11, decide, Answer, answered, refused}
use Rattle.take_in.proofs.Into.{Into, too_long, short_enough, into_refused, into_passed}

-- ---- by the way back's closing

pub path-none : (b list : List ℕ) → closing b list ≡ absent → back_path b list ≡ no_path
unfolding back_path path_from
path-none b list e = ap (path_from b list) e

pub path-some : (b list : List ℕ) {d : ℕ} → closing b list ≡ at d → back_path b list ≡ path (path_to b list (suc (suc d)) (least (ends_at b list (suc d))))
unfolding back_path path_from
path-some b list e = ap (path_from b list) e

-- ---- into the buffer

module _ (buffer : List ℕ) where
  abbrev pub IntoBuffer : Answer Shown → Path → List ℕ → Type 0
  IntoBuffer said found after = Into said (rule11 (length buffer) (length (steps_of found)) ∷ []) (shown_of found) buffer after (steps_of found)

  pub none_into : {found : Path} → found ≡ no_path → IntoBuffer (answered no_steps) found buffer
  unfolding steps_of shown_of
  none_into e =
      subst (λ (f : Path). IntoBuffer (answered no_steps) f buffer) (sym e)
      (into_passed (rule11 (length buffer) 0 ∷ []) no_steps buffer [] (short_enough (length buffer) 0 (omega arith)) refl)

  module _ {found : Path} {vs : List ℕ} (is : found ≡ path vs) {many : ℕ} (long : length vs ≡ many) where
    pub long_into : length buffer < many → IntoBuffer (refused 11 many) found buffer
    unfolding steps_of shown_of
    long_into h =
        subst (λ (f : Path). IntoBuffer (refused 11 many) f buffer) (sym is)
        (into_refused (rule11 (length buffer) (length vs) ∷ []) (steps (length vs)) buffer vs
        (too_long (length buffer) many h ∙ ap (λ (k : ℕ). decide (rule11 (length buffer) k ∷ [])) (sym long)))

    pub fit_into : many ≤ length buffer → {after : List ℕ} → after ≡ sets buffer 0 vs → IntoBuffer (answered (steps many)) found after
    unfolding steps_of shown_of
    fit_into h {after} written =
        subst (λ (f : Path). IntoBuffer (answered (steps many)) f after) (sym is)
        (subst (λ (k : ℕ). Into (answered (steps k)) (rule11 (length buffer) (length vs) ∷ []) (steps (length vs)) buffer after vs) long
        (into_passed (rule11 (length buffer) (length vs) ∷ []) (steps (length vs)) buffer vs (short_enough (length buffer) (length vs) (omega (arith, long))) written))
