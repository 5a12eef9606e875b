-- The path is one of the list as a set: lists with the same members have the same levels, closing, smallest end and path.
-- Rests on Levels and on convexity_theory's Memberships and Extremes.
use Prim.Native.Nat.{ℕ, zero, suc}
use native.Mathlib.Omega.{arith}
use mathlib.Core.Path.{◌≡◌, refl, sym, ap, ap₂, ◌∙◌}
use mathlib.Core.Logic.{◌⊎◌, inl, inr}
use mathlib.Core.Bool.{Bool, true, not, ◌&&◌, ◌||◌}
use mathlib.Core.List.{List, [], ◌∷◌, ◌++◌}
use Rattle.lists.specs.Lists.{In, any, keep, member, least}
use Rattle.lists.specs.Found.{Found, absent, at}
use Rattle.lists.proofs.Count.{keep-upto}
use Rattle.lists.proofs.First.{first-same}
use Rattle.lists.proofs.Members.{keep_members}
use Rattle.paper.specs.Map.{N}
use Rattle.paper.specs.Path.{leads, fed_by, Round, farther, rounds, level_at, ends_at, closing, step_before, path_to, path, path_from, back_path}
use Rattle.accepted_theory.proofs.recorded.Among.{same_truth}
use Rattle.convexity_theory.proofs.Memberships.{
  in_mem,
  mem_in,
  in_member,
  member_in,
  in_left,
  in_right,
  in_either,
  in_keep,
  kept,
  Some,
  any_some,
  some-any,
}
use Rattle.convexity_theory.proofs.Extremes.{least-most, least_in}
use Rattle.path_theory.proofs.levels.Levels.{nobody}

-- ---- lists with the same members

abbrev pub Alike : List ℕ → List ℕ → Type 0
Alike xs ys = (v : ℕ) → member v xs ≡ member v ys

alike_in : (xs ys : List ℕ) → Alike xs ys → (v : ℕ) → In v xs → In v ys
alike_in xs ys same v i = member_in v ys (sym (same v) ∙ in_member v xs i)

pub in_alike : (xs ys : List ℕ) → ((v : ℕ) → In v xs → In v ys) → ((v : ℕ) → In v ys → In v xs) → Alike xs ys
in_alike xs ys to back v =
    same_truth (member v xs) (member v ys) (λ e. in_member v ys (to v (member_in v xs e))) (λ e. in_member v xs (back v (member_in v ys e)))

pub any_alike : (f : ℕ → Bool) (xs ys : List ℕ) → Alike xs ys → any f xs ≡ any f ys
any_alike f xs ys same =
    same_truth (any f xs) (any f ys) (λ e. over xs ys same (any_some f xs e)) (λ e. over ys xs (λ v. sym (same v)) (any_some f ys e))
  where
    over : (xs ys : List ℕ) → Alike xs ys → Some f true xs → any f ys ≡ true
    over xs ys same s = some-any f (in_mem ys (alike_in xs ys same s.which (mem_in xs s.there))) s.says

pub keep_alike : (f : ℕ → Bool) (xs ys : List ℕ) → Alike xs ys → Alike (keep f xs) (keep f ys)
keep_alike f xs ys same = in_alike (keep f xs) (keep f ys) (over xs ys same) (over ys xs (λ v. sym (same v)))
  where
    over : (xs ys : List ℕ) → Alike xs ys → (v : ℕ) → In v (keep f xs) → In v (keep f ys)
    over xs ys same v i = let k = kept f v xs i in in_keep f v ys k.0 (alike_in xs ys same v k.1)

pub least_alike : (xs ys : List ℕ) → Alike xs ys → least xs ≡ least ys
least_alike [] ys same = ap least (sym (nobody ys (λ v. alike_in ys [] (λ w. sym (same w)) v)))
least_alike (x ∷ xs) ys same =
    let there = alike_in (x ∷ xs) ys same in
    let back = alike_in ys (x ∷ xs) (λ v. sym (same v)) in
    let up = least-most (least ys) (x ∷ xs) (back (least ys) (least_in x ys (there x (inl refl)))) in
    let down = least-most (least (x ∷ xs)) ys (there (least (x ∷ xs)) (least_in x (x ∷ xs) (inl refl))) in
    omega arith

append_alike : (xs ys zs : List ℕ) → Alike xs ys → Alike (xs ++ zs) (ys ++ zs)
append_alike xs ys zs same = in_alike (xs ++ zs) (ys ++ zs) (over xs ys same) (over ys xs (λ v. sym (same v)))
  where
    over : (xs ys : List ℕ) → Alike xs ys → (v : ℕ) → In v (xs ++ zs) → In v (ys ++ zs)
    over xs ys same v i = go (in_either v xs zs i)
      where
        go : In v xs ⊎ In v zs → In v (ys ++ zs)
        go (inl j) = in_left v ys zs (alike_in xs ys same v j)
        go (inr j) = in_right v ys zs j

module _ (b xs ys : List ℕ) (same : Alike xs ys) where
  -- from 1 on the very same levels
  farther_alike : (r s : Round) → Alike r.level s.level → Alike r.met s.met → farther b r ≡ farther b s
  unfolding farther fed_by
  farther_alike r s level met =
      keep-upto (λ v. fed_by b r.level v && not (member v r.met)) (λ v. fed_by b s.level v && not (member v s.met)) (N b)
      (λ v h. ap₂ (λ (f m : Bool). f && not m) (any_alike (λ u. leads b u v) r.level s.level level) (met v))

  rounds_alike : (d : ℕ) → Alike (rounds b xs d).level (rounds b ys d).level × Alike (rounds b xs d).met (rounds b ys d).met
  unfolding rounds
  rounds_alike zero = (same, same)
  rounds_alike (suc d) =
      let before = rounds_alike d in
      let next = farther_alike (rounds b xs d) (rounds b ys d) before.0 before.1 in (
        λ v. ap (member v) next,
        λ v.
            append_alike (rounds b xs d).met (rounds b ys d).met (farther b (rounds b xs d)) before.1 v
            ∙ ap (λ (l : List ℕ). member v ((rounds b ys d).met ++ l)) next,
      )

  pub levels_alike : (d : ℕ) → Alike (level_at b xs d) (level_at b ys d)
  unfolding level_at
  levels_alike d = (rounds_alike d).0

  fed_alike : (d v : ℕ) → fed_by b (level_at b xs d) v ≡ fed_by b (level_at b ys d) v
  unfolding fed_by
  fed_alike d v = any_alike (λ u. leads b u v) (level_at b xs d) (level_at b ys d) (levels_alike d)

  pub ends_alike : (d : ℕ) → least (ends_at b xs d) ≡ least (ends_at b ys d)
  unfolding ends_at
  ends_alike d =
      ap least (keep_members (fed_by b (level_at b xs d)) (fed_by b (level_at b ys d)) xs (λ v m. fed_alike d v))
      ∙ least_alike (keep (fed_by b (level_at b ys d)) xs) (keep (fed_by b (level_at b ys d)) ys) (keep_alike (fed_by b (level_at b ys d)) xs ys same)

  pub closing_alike : closing b xs ≡ closing b ys
  unfolding closing
  closing_alike =
      first-same (λ d. any (fed_by b (level_at b xs (suc d))) xs) (λ d. any (fed_by b (level_at b ys (suc d))) ys) (N b)
      (λ d h. any-same_test xs (fed_alike (suc d)) ∙ any_alike (fed_by b (level_at b ys (suc d))) xs ys same)
    where
      any-same_test : {f g : ℕ → Bool} (zs : List ℕ) → ((v : ℕ) → f v ≡ g v) → any f zs ≡ any g zs
      any-same_test [] h = refl
      any-same_test (z ∷ zs) h = ap₂ ◌||◌ (h z) (any-same_test zs h)

  pub before_alike : (d v : ℕ) → step_before b xs d v ≡ step_before b ys d v
  unfolding step_before
  before_alike d v =
      least_alike (keep (λ u. leads b u v) (level_at b xs d)) (keep (λ u. leads b u v) (level_at b ys d))
      (keep_alike (λ u. leads b u v) (level_at b xs d) (level_at b ys d) (levels_alike d))

  pub path_alike : (d v : ℕ) → path_to b xs d v ≡ path_to b ys d v
  unfolding path_to
  path_alike zero v = refl
  path_alike (suc d) v =
      ap (λ (steps : List ℕ). steps ++ (v ∷ [])) (path_alike d (step_before b xs d v) ∙ ap (path_to b ys d) (before_alike d v))

  -- so the path is one of the list as a set
  pub back-path_alike : back_path b xs ≡ back_path b ys
  unfolding back_path path_from
  back-path_alike = ap (path_from b xs) closing_alike ∙ go (closing b ys)
    where
      go : (f : Found) → path_from b xs f ≡ path_from b ys f
      go absent = refl
      go (at d) = ap path (path_alike (suc (suc d)) (least (ends_at b xs (suc d))) ∙ ap (path_to b ys (suc (suc d))) (ends_alike (suc d)))
