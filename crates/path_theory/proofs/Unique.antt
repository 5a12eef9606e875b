-- The promise says enough: two answers that keep it with one room are the same, and where a path is said, the path stands in the room.
-- Rests on path_theory's Only and on NoPath.
use Prim.Native.Nat.{ℕ, ◌≤◌}
use native.Mathlib.Omega.{arith}
use mathlib.Core.Path.{◌≡◌, sym, ap, ◌∙◌, subst}
use mathlib.Core.List.{List}
use lib.ListN.{length, take, length-take}
use Rattle.paper.specs.Path.{ThePath, Shown, steps}
use Rattle.paper.specs.Refusals.{Answer, refused, answered}
use Rattle.paper.specs.Promise.{PathPromise, given, none, no_room}
use Rattle.paper.proofs.Promise.{never_answered}
use Rattle.path_theory.proofs.levels.Only.{the_path-once}
use Rattle.path_theory.proofs.NoPath.{bent}

-- what stands in a room fits it
fits : (vs room : List ℕ) → take (length vs) room ≡ vs → length vs ≤ length room
fits vs room e = omega (arith, ap length e, length-take (length vs) room)

module _ {b list : List ℕ} where
  same_length : {vs ws : List ℕ} → ThePath b list vs → ThePath b list ws → length vs ≡ length ws
  same_length p q = ap length (the_path-once p q)

  -- where the room keeps its length
  pub path_promise_unique : {before after later : List ℕ} {said told : Answer Shown} → length after ≡ length before → length later ≡ length before
      → PathPromise b list before after said → PathPromise b list before later told → said ≡ told
  path_promise_unique kept also (given vs p e left) (given ws q f there) = e ∙ ap (λ (n : ℕ). answered (steps n)) (same_length p q) ∙ sym f
  path_promise_unique kept also (given vs p e left) (none convex f) = absurd (bent p.path convex)
  path_promise_unique {after = after} kept also (given vs p e left) (no_room ws q f short) =
      absurd (omega (arith, fits vs after left, same_length p q))
  path_promise_unique kept also (none convex e) (given ws q f there) = absurd (bent q.path convex)
  path_promise_unique kept also (none convex e) (none again f) = e ∙ sym f
  path_promise_unique kept also (none convex e) (no_room ws q f short) = absurd (bent q.path convex)
  path_promise_unique {later = later} kept also (no_room vs p e short) (given ws q f there) =
      absurd (omega (arith, fits ws later there, same_length p q))
  path_promise_unique kept also (no_room vs p e short) (none convex f) = absurd (bent p.path convex)
  path_promise_unique kept also (no_room vs p e short) (no_room ws q f narrow) = e ∙ ap (refused 11) (same_length p q) ∙ sym f

  -- a path that is said is the path, and stands in the room
  pub path-said : {before after : List ℕ} {n : ℕ} → PathPromise b list before after (answered (steps n)) → ThePath b list (take n after)
  path-said {after = after} {n} (given vs p e left) =
      let many : length vs ≡ n = cc e in
      subst (ThePath b list) (sym left ∙ ap (λ (m : ℕ). take m after) many) p
  path-said (none convex e) = absurd (let z : ◌≡◌ {A = ℕ} 0 1 = cc in omega arith)
  path-said (no_room vs p e short) = absurd (never_answered (sym e))
