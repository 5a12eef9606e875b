-- A trusted map has no cycle, so preparing answers for it too: where tables are accepted, refusal 6 need not be asked.
-- Rests on convexity_theory (positions rise along a link) and order_theory (all nodes are ordered exactly if there is no cycle).
use Prim.Native.Nat.{ℕ, ◌<◌}
use native.Mathlib.Omega.{arith}
use mathlib.Core.Path.{◌≡◌}
use mathlib.Core.List.{List}
use Rattle.paper.specs.Lines.{tables}
use Rattle.paper.specs.Area.{position}
use Rattle.paper.specs.Refusals.{answered}
use Rattle.paper.specs.Calls.{untouched, unprepared, prepare}
use Rattle.paper.specs.Plain.{DirectedPath, link, onward}
use Rattle.paper.specs.Promise.{Trusted}
use Rattle.order_theory.specs.Cycle.{NoCycle}
use Rattle.order_theory.proofs.Cycle.{all-ordered}
use Rattle.order_theory.proofs.Refusals.{rule6_passes}
use Rattle.convexity_theory.specs.Lined.{Lined}
use Rattle.convexity_theory.proofs.Tables.{accepted_lined}
use Rattle.convexity_theory.proofs.Paths.{rises-along}
use Rattle.convexity_theory.proofs.trust.Rules.{rule45_passes}
use Rattle.convexity_theory.proofs.trust.Passing.{answers, each_passes, both_pass, links-good, trusted-sound, untouched_passes}

module _ {b a : List ℕ} (t : Trusted b a) where
  lined : Lined b a
  lined = accepted_lined (trusted-sound t) t.accepted_tables t.room

  path-rises : {u v : ℕ} → DirectedPath b u v → position b a u < position b a v
  path-rises (link r) = rises-along lined r
  path-rises (onward r p) = omega (arith, rises-along lined r, path-rises p)

  pub no_cycle : NoCycle b
  no_cycle v p = omega (arith, path-rises p)

  pub preparing_answers : (prepare b a).answer ≡ answered (tables b).count
  unfolding prepare unprepared
  preparing_answers =
      answers (tables b).count
      ((both_pass (untouched b a) (unprepared b)).1
      (untouched_passes t, (each_passes (unprepared b)).1 ((rule45_passes b).1 (links-good t.accepted_map), ((rule6_passes b).1 ((all-ordered (trusted-sound t)).1 no_cycle), tt))))
