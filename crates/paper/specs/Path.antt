-- 02, No. 1, "Show the path": the plain notion of the path that is given, and that path computed "by distance".
-- Rests on Map and Plain (a link from step to step).
use Rattle.std.specs.Prelude.{ℕ, zero, suc, ◌≤◌, ◌<◌, ◌≡◌, ◌⊎◌, Bool, ◌&&◌, not, List, [], ◌∷◌, ◌++◌, length, eqb}
use Rattle.lists.specs.Lists.{In, upto, any, keep, member, least}
use Rattle.lists.specs.Found.{Found, absent, at, first}
use Rattle.paper.specs.Map.{N, L, link_from, link_to}
use Rattle.paper.specs.Plain.{Linked}

-- ---- "a path that starts in the list, ends in it and has at least one step between, all of those outside the list, each linked
-- to the next"

-- "each linked to the next"
pub data Chain (b : List ℕ) : List ℕ → Type 0 where
  alone : {v : ℕ} → Chain b (v ∷ [])
  onward : {u v : ℕ} {steps : List ℕ} → Linked b u v → Chain b (v ∷ steps) → Chain b (u ∷ (v ∷ steps))

pub record BackPath (b list steps : List ℕ) : Type 0 where
  pub start : ℕ
  pub between : List ℕ
  pub end : ℕ
  pub whole : steps ≡ start ∷ (between ++ (end ∷ []))
  pub starts : In start list
  pub ends : In end list
  pub some : 0 < length between
  pub outside : (v : ℕ) → In v between → In v list → ⊥
  pub linked : Chain b steps

-- ---- "No shorter one may exist; among equals, read from the end backwards, the one with the smaller step number at the first
-- difference."

-- both have the same end, and before it stands the smaller step
pub record Precedes (steps others : List ℕ) : Type 0 where
  pub lead : List ℕ
  pub step : ℕ
  pub other_lead : List ℕ
  pub other_step : ℕ
  pub shared : List ℕ
  pub whole : steps ≡ lead ++ (step ∷ shared)
  pub other_whole : others ≡ other_lead ++ (other_step ∷ shared)
  pub smaller : step < other_step

pub record ThePath (b list steps : List ℕ) : Type 0 where
  pub path : BackPath b list steps
  pub shortest : (others : List ℕ) → BackPath b list others → length steps ≤ length others
  pub first : (others : List ℕ) → BackPath b list others → length others ≡ length steps → (others ≡ steps) ⊎ Precedes steps others

-- ---- "The path is found by distance .."

-- a link leads from u to v
unfoldable pub leads : List ℕ → ℕ → ℕ → Bool
leads b u v = any (λ k. eqb (link_from b k) u && eqb (link_to b k) v) (upto (L b))

-- one of some steps is linked to v
unfoldable pub fed_by : List ℕ → List ℕ → ℕ → Bool
fed_by b some v = any (λ u. leads b u v) some

-- the steps at a distance from the list, and all that were met up to it
pub record Round : Type 0 where
  pub level : List ℕ
  pub met : List ℕ

-- one farther: the steps not met before to which a step of the last distance is linked
unfoldable pub farther : List ℕ → Round → List ℕ
farther b r = keep (λ v. fed_by b r.level v && not (member v r.met)) (upto (N b))

unfoldable pub rounds : List ℕ → List ℕ → ℕ → Round
rounds b list zero = record { level = list; met = list }
rounds b list (suc d) =
    let r = rounds b list d in
    record { level = farther b r; met = r.met ++ farther b r }

-- the steps at distance d: the list itself at 0, and outside it from 1 on
unfoldable pub level_at : List ℕ → List ℕ → ℕ → List ℕ
level_at b list d = (rounds b list d).level

-- the listed steps to which a step at distance d is linked
unfoldable pub ends_at : List ℕ → List ℕ → ℕ → List ℕ
ends_at b list d = keep (fed_by b (level_at b list d)) list

-- the shortest distance, from 1 on, at which there is one: one more than what is found here
unfoldable pub closing : List ℕ → List ℕ → Found
closing b list = first (λ d. any (fed_by b (level_at b list (suc d))) list) (N b)

-- ---- ".. and written out from its end, each step asking for the shorter path before it."

-- the step before v at distance d: the smallest that is linked to v
unfoldable pub step_before : List ℕ → List ℕ → ℕ → ℕ → ℕ
step_before b list d v = least (keep (λ u. leads b u v) (level_at b list d))

-- the path over d links from the list to v
unfoldable pub path_to : List ℕ → List ℕ → ℕ → ℕ → List ℕ
path_to b list zero v = v ∷ []
path_to b list (suc d) v = path_to b list d (step_before b list d v) ++ (v ∷ [])

-- "For a yes the answer is "no path", a case of its own."
pub data Path : Type 0 where
  path : List ℕ → Path
  no_path : Path

-- from the shortest distance d + 1, and one link more, to the smallest end
unfoldable pub path_from : List ℕ → List ℕ → Found → Path
path_from b list absent = no_path
path_from b list (at d) = path (path_to b list (suc (suc d)) (least (ends_at b list (suc d))))

unfoldable pub back_path : List ℕ → List ℕ → Path
back_path b list = path_from b list (closing b list)

-- its steps, and how many they are
unfoldable pub steps_of : Path → List ℕ
steps_of (path steps) = steps
steps_of no_path = []

-- what is said of it: how many steps it has, or that there is none
pub data Shown : Type 0 where
  steps : ℕ → Shown
  no_steps : Shown

unfoldable pub shown_of : Path → Shown
shown_of (path vs) = steps (length vs)
shown_of no_path = no_steps
