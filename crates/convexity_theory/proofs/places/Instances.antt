-- Against vacuity: 01's map A as prepared meets the theorems' premises, and both forms of the order check compute there to a yes and a no,
-- also for the empty list and for lists with repeats. Rests on Convex and on paper.Cases (the map).
use Prim.Native.Nat.{ℕ, ◌≤◌}
use mathlib.Core.Path.{refl}
use mathlib.Core.Bool.{Bool, true, false, ◌&&◌}
use mathlib.Core.List.{List, [], ◌∷◌}
use lib.ListN.{length, replicate}
use lib.Dec.{T, leb→le}
use Rattle.lists.specs.Lists.{all}
use Rattle.paper.specs.Area.{W}
use Rattle.paper.specs.Accepted.{Accepted}
use Rattle.paper.specs.Intervals.{Reply, Yes, No}
use Rattle.paper.specs.OrderCheck.{order_check}
use Rattle.paper.specs.Plain.{Convex}
use Rattle.paper.specs.Calls.{prepare}
use Rattle.paper.proofs.Accepted.{accepted-says}
use Rattle.paper.proofs.Everything.{everything}
use Rattle.paper.proofs.Recording.{map_bytes}
use Rattle.paper.proofs.Cases.{map_a}
use Rattle.order_theory.specs.Sound.{Sound}
use Rattle.order_theory.proofs.Refusals.{sound}
use Rattle.convexity_theory.specs.places.Passed.{pass_place, passed_below, reply_of, passing}
use Rattle.convexity_theory.proofs.places.Convex.{no_yes, order_convex}

bytes : List ℕ
bytes = map_bytes map_a.nodes map_a.links

area : List ℕ
area = (prepare bytes (replicate (W bytes) 9)).area

-- ---- the premises

accepted_A : Accepted bytes area
unfolding everything map_bytes map_a bytes area
accepted_A = (accepted-says bytes area).to tt

sound_A : Sound bytes
unfolding everything map_bytes map_a bytes
sound_A = sound bytes refl

room_A : W bytes ≤ length area
unfolding everything map_bytes map_a bytes area
room_A = leb→le (W bytes) (length area) tt

-- ---- the answers

says : Reply → Reply → Bool
says Yes Yes = true
says Yes No = false
says No Yes = false
says No No = true

-- both forms give the answer
answers : List ℕ × Reply → Bool
answers q = says (passing bytes area q.0) q.1 && says (order_check bytes area q.0) q.1

computed : T (all answers
    ((1 ∷ 2 ∷ [], Yes) ∷ (0 ∷ 3 ∷ [], No) ∷ ([], Yes) ∷ (2 ∷ 1 ∷ 2 ∷ [], Yes) ∷ (3 ∷ 0 ∷ 3 ∷ [], No) ∷ (3 ∷ 3 ∷ [], Yes)
    ∷ (0 ∷ 1 ∷ 3 ∷ [], No) ∷ (0 ∷ 1 ∷ 2 ∷ 3 ∷ [], Yes) ∷ []))
unfolding everything map_bytes map_a bytes area says answers passing pass_place passed_below reply_of
computed = tt

-- ---- what they mean

convex_A : Convex bytes (1 ∷ 2 ∷ [])
unfolding everything map_bytes map_a bytes area
convex_A = (order_convex accepted_A sound_A room_A (1 ∷ 2 ∷ [])).0 refl

not_convex_A : Convex bytes (0 ∷ 3 ∷ []) → ⊥
unfolding everything map_bytes map_a bytes area
not_convex_A c = no_yes ((order_convex accepted_A sound_A room_A (0 ∷ 3 ∷ [])).1 c)
