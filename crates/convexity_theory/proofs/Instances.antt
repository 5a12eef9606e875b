-- Against vacuity: map B with tables that preparing did not write. They are accepted, and there the line check says yes with a count
-- above 0, no by a gap and no by the walk; so the theorems speak of something.
-- Rests on Convexity and on paper's computed cases.
use Prim.Native.Nat.{ℕ, ◌≤◌, ◌<◌}
use mathlib.Core.Path.{◌≡◌, refl}
use mathlib.Core.Bool.{true}
use mathlib.Core.List.{List, [], ◌∷◌, ◌++◌}
use lib.ListN.{length, replicate}
use lib.Dec.{ltb, ltb→lt, leb→le}
use Rattle.lists.specs.Lists.{all, In}
use Rattle.paper.specs.Map.{N}
use Rattle.paper.specs.Area.{W, nodes_of}
use Rattle.paper.specs.Accepted.{Accepted, accepted}
use Rattle.paper.specs.Intervals.{Yes, No, apart, intervals}
use Rattle.paper.specs.Walk.{line_check}
use Rattle.paper.specs.Plain.{Convex, Ahead, Number}
use Rattle.paper.specs.Calls.{prepare}
use Rattle.paper.proofs.Accepted.{accepted-says}
use Rattle.paper.proofs.Everything.{everything}
use Rattle.paper.proofs.Recording.{map_bytes}
use Rattle.paper.proofs.Cases.{map_b}
use Rattle.order_theory.specs.Sound.{Sound}
use Rattle.order_theory.proofs.Refusals.{sound}
use Rattle.convexity_theory.proofs.Memberships.{in_mem, all-each}
use Rattle.convexity_theory.proofs.Convexity.{line_convex, line-count}

unfoldable bytes_b : List ℕ
unfolding map_b
bytes_b = map_bytes map_b.nodes map_b.links

-- node 1's two lines handed out the other way round: lines 0 1 3; 4 5 6; 1 2. Another order, node 1's lines turned round, and
-- 9 in every unused word
unfoldable tables_b : List ℕ
tables_b =
    3
    ∷ 4 ∷ 0 ∷ 5 ∷ 1 ∷ 6 ∷ 3 ∷ 2
    ∷ 0 ∷ 1 ∷ 2 ∷ 2 ∷ 0 ∷ 1 ∷ 2
    ∷ 0 ∷ 1 ∷ 3 ∷ 4 ∷ 5 ∷ 6 ∷ 7 ∷ 8
    ∷ 0 ∷ 2 ∷ 0 ∷ 2 ∷ 0 ∷ 1 ∷ 1 ∷ 1
    ∷ (replicate 9 9
    ++ (0 ∷ 3 ∷ 6 ∷ 8 ∷ replicate 9 9)
    ++ (0 ∷ 1 ∷ 3 ∷ 4 ∷ 5 ∷ 6 ∷ 1 ∷ 2 ∷ replicate 9 9)
    ++ replicate 72 9)

-- ---- the premises hold

accepted_B : accepted bytes_b tables_b ≡ true
unfolding everything bytes_b map_bytes map_b tables_b
accepted_B = refl

-- preparing writes other lines
line_0_other : nodes_of bytes_b tables_b 0 ≡ 0 ∷ 1 ∷ 3 ∷ []
unfolding everything bytes_b map_bytes map_b tables_b
line_0_other = refl

line_0_prepared : nodes_of bytes_b (prepare bytes_b tables_b).area 0 ≡ 0 ∷ 1 ∷ 2 ∷ []
unfolding everything bytes_b map_bytes map_b tables_b
line_0_prepared = refl

sound_B : Sound bytes_b
unfolding everything bytes_b map_bytes map_b
sound_B = sound bytes_b refl

tables_B : Accepted bytes_b tables_b
unfolding everything bytes_b map_bytes map_b tables_b
tables_B = (accepted-says bytes_b tables_b).to tt

room_B : W bytes_b ≤ length tables_b
unfolding everything bytes_b map_bytes map_b tables_b
room_B = leb→le (W bytes_b) (length tables_b) tt

known_B : (list : List ℕ) → all (λ v. ltb v 7) list ≡ true → (v : ℕ) → In v list → v < N bytes_b
unfolding everything bytes_b map_bytes map_b
known_B list e v i = ltb→lt v 7 (rw (all-each (λ u. ltb u 7) (in_mem list i) e) tt)

-- ---- P7: a yes with a count above 0

yes_0_6 : line_check bytes_b tables_b (0 ∷ 6 ∷ []) ≡ (Yes, 3)
unfolding everything bytes_b map_bytes map_b tables_b
yes_0_6 = refl

convex_0_6 : Convex bytes_b (0 ∷ 6 ∷ [])
convex_0_6 = (line_convex sound_B tables_B room_B (0 ∷ 6 ∷ []) (known_B (0 ∷ 6 ∷ []) refl)).0 (3, yes_0_6)

ahead_of_0_6 : Number (Ahead bytes_b tables_b (0 ∷ 6 ∷ [])) 3
ahead_of_0_6 = line-count sound_B tables_B room_B (0 ∷ 6 ∷ []) (known_B (0 ∷ 6 ∷ []) refl) 3 yes_0_6

-- ---- a no by a gap, and one by the walk: as 01 says of P6, but with these tables 0 3 has a gap and 0 2 has none

gap_0_3 : intervals bytes_b tables_b (0 ∷ 3 ∷ []) ≡ apart
unfolding everything bytes_b map_bytes map_b tables_b
gap_0_3 = refl

no_0_3 : line_check bytes_b tables_b (0 ∷ 3 ∷ []) ≡ (No, 0)
unfolding everything bytes_b map_bytes map_b tables_b
no_0_3 = refl

no_0_2 : line_check bytes_b tables_b (0 ∷ 2 ∷ []) ≡ (No, 1)
unfolding everything bytes_b map_bytes map_b tables_b
no_0_2 = refl

-- P6 itself, with the tables that preparing writes
no_0_3_prepared : line_check bytes_b (prepare bytes_b tables_b).area (0 ∷ 3 ∷ []) ≡ (No, 1)
unfolding everything bytes_b map_bytes map_b tables_b
no_0_3_prepared = refl
