-- Against vacuity: map B with tables that preparing did not write. Every premise holds there, and the checks say yes with a count above 0, no by
-- a gap, by the walk and by ports. So a check that invents its reply or its count keeps no promise. Rests on Promise, Unique and paper's cases.
use Prim.Native.Nat.{ℕ}
use native.Mathlib.Omega.{arith}
use mathlib.Core.Path.{◌≡◌, refl, sym, ap, ◌∙◌}
use mathlib.Core.List.{List, [], ◌∷◌, ◌++◌}
use lib.ListN.{replicate}
use Rattle.paper.specs.Area.{W, nodes_of}
use Rattle.paper.specs.Intervals.{Yes, No, apart, intervals}
use Rattle.paper.specs.Refusals.{refused, answered}
use Rattle.paper.specs.Calls.{prepare, is_node_convex, topo_is_node_convex, is_convex, topo_is_convex, wrote, get_intervals_from_nodes, is_convex_by_intervals}
use Rattle.paper.specs.Promise.{Trusted, KnownSteps, StepList, KnownPorts, LinePromise}
use Rattle.paper.proofs.Everything.{everything}
use Rattle.paper.proofs.Recording.{map_bytes}
use Rattle.paper.proofs.Cases.{map_b}
use Rattle.paper.proofs.Promise.{never_answered, no_yes}
use Rattle.convexity_theory.proofs.trust.Promise.{line_promise, answered_trusted, answered_kept, ports_answered_trusted, order_answered_trusted}
use Rattle.convexity_theory.proofs.trust.Unique.{promise_unique}
use Rattle.convexity_theory.proofs.trust.Agree.{records_promise}

unfoldable bytes_b : List ℕ
unfolding map_b
bytes_b = map_bytes map_b.nodes map_b.links

-- node 1's two lines handed out the other way round: lines 0 1 3; 4 5 6; 1 2. Another order, and 9 in every unused word
unfoldable tables_b : List ℕ
tables_b =
    3
    ∷ 4 ∷ 0 ∷ 5 ∷ 1 ∷ 6 ∷ 3 ∷ 2
    ∷ 0 ∷ 1 ∷ 2 ∷ 2 ∷ 0 ∷ 1 ∷ 2
    ∷ 0 ∷ 1 ∷ 3 ∷ 4 ∷ 5 ∷ 6 ∷ 7 ∷ 8
    ∷ 0 ∷ 2 ∷ 0 ∷ 2 ∷ 0 ∷ 1 ∷ 1 ∷ 1
    ∷ (replicate 9 9
    ++ (0 ∷ 3 ∷ 6 ∷ 8 ∷ replicate 9 9)
    ++ (0 ∷ 1 ∷ 3 ∷ 4 ∷ 5 ∷ 6 ∷ 1 ∷ 2 ∷ replicate 9 9)
    ++ replicate 72 9)

-- preparing writes another line 0
not_prepared : tables_b ≡ (prepare bytes_b tables_b).area → ⊥
unfolding everything bytes_b map_bytes map_b tables_b
not_prepared e = other (ap (λ (a : List ℕ). nodes_of bytes_b a 0) e)
  where
    other : ◌≡◌ {A = List ℕ} (0 ∷ 1 ∷ 3 ∷ []) (0 ∷ 1 ∷ 2 ∷ []) → ⊥
    other e = let z : ◌≡◌ {A = ℕ} 3 2 = cc in omega arith

-- ---- what the checks answer

-- P7, and the line check's two kinds of no
yes_0_6 : (is_node_convex bytes_b tables_b (0 ∷ 6 ∷ [])).answer ≡ answered (Yes, 3)
unfolding everything bytes_b map_bytes map_b tables_b
yes_0_6 = refl

gap_0_3 : intervals bytes_b tables_b (0 ∷ 3 ∷ []) ≡ apart
unfolding everything bytes_b map_bytes map_b tables_b
gap_0_3 = refl

no_0_3 : (is_node_convex bytes_b tables_b (0 ∷ 3 ∷ [])).answer ≡ answered (No, 0)
unfolding everything bytes_b map_bytes map_b tables_b
no_0_3 = refl

no_0_2 : (is_node_convex bytes_b tables_b (0 ∷ 2 ∷ [])).answer ≡ answered (No, 1)
unfolding everything bytes_b map_bytes map_b tables_b
no_0_2 = refl

-- the order check takes the empty list and repeats
order_answers : ((topo_is_node_convex bytes_b tables_b (0 ∷ 6 ∷ [])).answer ≡ answered Yes) × ((topo_is_node_convex bytes_b tables_b (0 ∷ 2 ∷ [])).answer ≡ answered No)
    × ((topo_is_node_convex bytes_b tables_b []).answer ≡ answered Yes) × ((topo_is_node_convex bytes_b tables_b (3 ∷ 3 ∷ [])).answer ≡ answered Yes)
unfolding everything bytes_b map_bytes map_b tables_b
order_answers = (refl, refl, refl, refl)

-- port 1 is the other end of port 0's first link, port 4 is not
ports_yes : (is_convex bytes_b tables_b (0 ∷ 6 ∷ []) (4 ∷ []) (0 ∷ [])).answer ≡ answered (Yes, 3)
unfolding everything bytes_b map_bytes map_b tables_b
ports_yes = refl

ports_no : (is_convex bytes_b tables_b (0 ∷ 6 ∷ []) (1 ∷ []) (0 ∷ [])).answer ≡ answered (No, 0)
unfolding everything bytes_b map_bytes map_b tables_b
ports_no = refl

order-ports_answers : ((topo_is_convex bytes_b tables_b (0 ∷ 6 ∷ []) (4 ∷ []) (0 ∷ [])).answer ≡ answered Yes)
    × ((topo_is_convex bytes_b tables_b (0 ∷ 6 ∷ []) (1 ∷ []) (0 ∷ [])).answer ≡ answered No)
unfolding everything bytes_b map_bytes map_b tables_b
order-ports_answers = (refl, refl)

wrote_2 : (get_intervals_from_nodes bytes_b tables_b (0 ∷ 6 ∷ []) (replicate 6 9)).answer ≡ answered (wrote 2)
unfolding everything bytes_b map_bytes map_b tables_b
wrote_2 = refl

-- ---- so the premises hold

trusted_B : Trusted bytes_b tables_b
trusted_B = (answered_trusted bytes_b tables_b (0 ∷ 6 ∷ []) yes_0_6).0

steps_0_6 : StepList bytes_b (0 ∷ 6 ∷ [])
steps_0_6 = (answered_trusted bytes_b tables_b (0 ∷ 6 ∷ []) yes_0_6).1

known_3_3 : KnownSteps bytes_b (3 ∷ 3 ∷ [])
known_3_3 = (order_answered_trusted bytes_b tables_b (3 ∷ 3 ∷ []) order_answers.3).1

ports-known : KnownPorts bytes_b (1 ∷ []) × KnownPorts bytes_b (0 ∷ [])
ports-known = (ports_answered_trusted bytes_b tables_b (0 ∷ 6 ∷ []) (1 ∷ []) (0 ∷ []) ports_no).1.1

-- .. and not of any tables
cleared_refused : (is_node_convex bytes_b (replicate (W bytes_b) 0) (0 ∷ 6 ∷ [])).answer ≡ refused 7 0
unfolding everything bytes_b map_bytes map_b
cleared_refused = refl

cleared_not_trusted : Trusted bytes_b (replicate (W bytes_b) 0) → ⊥
cleared_not_trusted t = never_answered (sym cleared_refused ∙ (line_promise t steps_0_6).is)

-- ---- what the promises say there

kept_0_6 : LinePromise bytes_b tables_b (0 ∷ 6 ∷ []) (answered (Yes, 3))
kept_0_6 = answered_kept bytes_b tables_b (0 ∷ 6 ∷ []) yes_0_6

kept_0_2 : LinePromise bytes_b tables_b (0 ∷ 2 ∷ []) (answered (No, 1))
kept_0_2 = answered_kept bytes_b tables_b (0 ∷ 2 ∷ []) no_0_2

by_records_0_6 : LinePromise bytes_b tables_b (0 ∷ 6 ∷ [])
    (is_convex_by_intervals bytes_b (get_intervals_from_nodes bytes_b tables_b (0 ∷ 6 ∷ []) (replicate 6 9)).area
    (get_intervals_from_nodes bytes_b tables_b (0 ∷ 6 ∷ []) (replicate 6 9)).buffer 2).answer
by_records_0_6 = records_promise trusted_B steps_0_6 (replicate 6 9) wrote_2

module _ {c : ℕ} where
  no_constant_yes : LinePromise bytes_b tables_b (0 ∷ 2 ∷ []) (answered (Yes, c)) → ⊥
  no_constant_yes p = no_yes (promise_unique kept_0_2 p).0

  no_constant_no : LinePromise bytes_b tables_b (0 ∷ 6 ∷ []) (answered (No, c)) → ⊥
  no_constant_no p = no_yes (promise_unique p kept_0_6).0

  no_invented_count : LinePromise bytes_b tables_b (0 ∷ 6 ∷ []) (answered (Yes, c)) → c ≡ 3
  no_invented_count p = (promise_unique p kept_0_6).1 refl
