-- The program prepares an area of at least 31,751 words, which is room for every map: the answer is that of an area of W words, and the words in
-- use are the same. Rests on lines_theory (what preparing writes is accepted) and convexity_theory (what passes).
use Prim.Native.Nat.{ℕ, ◌≤◌, ◌<◌}
use native.Mathlib.Nat.{zero-add}
use native.Mathlib.Omega.{arith}
use mathlib.Core.Path.{◌≡◌, refl, sym, ap, ap₂, ◌∙◌, subst}
use mathlib.Core.List.{List, [], ◌∷◌, ◌++◌}
use lib.ListN.{length, get_or, replicate, length-replicate}
use lib.Seq.{length-sets}
use Rattle.lists.proofs.Sections.{get_or-sets_in}
use Rattle.paper.specs.Lines.{tables}
use Rattle.paper.specs.Area.{Section, W, written, prepared, cleared}
use Rattle.paper.specs.Refusals.{Ruling, passed, refusal, decide, answered, answer, on_refusal, rule1, rule2, rule3, rule45, rule6}
use Rattle.paper.specs.Calls.{untouched, unprepared, opening, prepare}
use Rattle.paper.specs.Promise.{Trusted}
use Rattle.paper.proofs.Area.{W-sum, W-most}
use Rattle.lines_theory.proofs.Written.{start_is_lem}
use Rattle.lines_theory.proofs.Prepared.{written-long}
use Rattle.lines_theory.proofs.Accepted.{prepared-accepted}
use Rattle.stepmap.proofs.Reading.{limits, formed-size}
use Rattle.accepted_theory.specs.InUse.{SameInUse}
use Rattle.accepted_theory.proofs.InUse.{same-below}
use Rattle.convexity_theory.proofs.trust.Rules.{rule1_passes, rule2_passes, rule3_passes, rule7_passes}
use Rattle.convexity_theory.proofs.trust.Passing.{not_refused, each_passes, both_pass, opening_passes}
use Rattle.asking.specs.Standing.{prepared_area, Standing}

-- an area of zeros with just the room
zeros : List ℕ → List ℕ
zeros b = replicate (W b) 0

zeros-long : (b : List ℕ) → length (zeros b) ≡ W b
unfolding zeros
zeros-long b = length-replicate (W b) 0

-- a map within the limits has room
roomy : (b : List ℕ) → rule2 b ≡ passed → W b ≤ 31751
roomy b e = let few = limits b ((rule2_passes b).0 e) in W-most b few.0.0 few.0.1 few.1

module _ (b a : List ℕ) (room : 31751 ≤ length a) where
  same_rules : decide (untouched b a ++ unprepared b) ≡ decide (untouched b (zeros b) ++ unprepared b)
  unfolding untouched decide
  same_rules = go (rule1 b) (rule2 b) refl
    where
      go : (u v : Ruling) → rule2 b ≡ v
          → decide ((u ∷ v ∷ rule3 b a ∷ []) ++ unprepared b) ≡ decide ((u ∷ v ∷ rule3 b (zeros b) ∷ []) ++ unprepared b)
      go (refusal n p) v e = refl
      go passed (refusal n p) e = refl
      go passed passed e =
          ap (λ (r : Ruling). decide (r ∷ unprepared b))
          ((rule3_passes b a).1 (omega (arith, roomy b e)) ∙ sym ((rule3_passes b (zeros b)).1 (omega (arith, zeros-long b))))

  -- the answer does not tell the areas apart
  pub same_answer : (prepare b a).answer ≡ (prepare b (replicate (W b) 0)).answer
  unfolding prepare zeros
  same_answer = ap (λ (r : Ruling). answer r (tables b).count) same_rules

-- ---- a map that is prepared

module _ (b a : List ℕ) {k : ℕ} (said : (prepare b a).answer ≡ answered k) where
  passing : (decide (untouched b a ++ unprepared b) ≡ passed) × ((tables b).count ≡ k)
  unfolding prepare
  passing = not_refused (tables b).count (decide (untouched b a ++ unprepared b)) said

  pub count-said : (tables b).count ≡ k
  count-said = passing.1

  both : (decide (untouched b a) ≡ passed) × (decide (unprepared b) ≡ passed)
  both = (both_pass (untouched b a) (unprepared b)).0 passing.0

  pub area-left : (prepare b a).area ≡ prepared b a
  unfolding prepare on_refusal
  area-left = ap₂ (λ (u v : Ruling). on_refusal u a (on_refusal v (cleared b a) (prepared b a))) both.0 both.1

  formed : rule1 b ≡ passed
  unfolding untouched
  formed = ((each_passes (untouched b a)).0 both.0).0

  limited : rule2 b ≡ passed
  unfolding untouched
  limited = ((each_passes (untouched b a)).0 both.0).1.0

  room : W b ≤ length a
  unfolding untouched
  room = (rule3_passes b a).0 ((each_passes (untouched b a)).0 both.0).1.1.0

  linked : rule45 b ≡ passed
  unfolding unprepared
  linked = ((each_passes (unprepared b)).0 both.1).0

  acyclic : rule6 b ≡ passed
  unfolding unprepared
  acyclic = ((each_passes (unprepared b)).0 both.1).1.0

  -- the trailer is there
  pub trailer-there : 12 ≤ length b
  trailer-there = omega (arith, formed-size b ((rule1_passes b).0 formed))

  still_room : W b ≤ length (prepared b a)
  unfolding prepared
  still_room = omega (arith, length-sets a 0 (written b), room)

  accepted-there : Trusted b (prepared b a)
  unfolding opening untouched
  accepted-there =
      (opening_passes b (prepared b a)).0
      ((each_passes (opening b (prepared b a))).1 (
        formed,
        (
          limited,
          (
            (rule3_passes b (prepared b a)).1 still_room,
            (linked, ((rule7_passes b (prepared b a)).1 (prepared-accepted b a linked acyclic room), tt)),
          ),
        ),
      ))

  -- a word that preparing writes
  word-written : (i : ℕ) → i < W b → get_or (prepared b a) i 0 ≡ get_or (written b) i 0
  unfolding prepared
  word-written i h =
      ap (λ (k : ℕ). get_or (prepared b a) k 0) (sym (zero-add i))
      ∙ get_or-sets_in a 0 (written b) i 0 (omega (arith, written-long b linked acyclic)) (omega (arith, written-long b linked acyclic, room))

-- the words in use are those that are written
module _ (b a : List ℕ) {k : ℕ} (said : (prepare b a).answer ≡ answered k) (same : (prepare b a).answer ≡ (prepare b (replicate (W b) 0)).answer) where
  said-there : (prepare b (replicate (W b) 0)).answer ≡ answered k
  said-there = sym same ∙ said

  in_use_same : SameInUse b (prepared b a) (prepared b (replicate (W b) 0))
  in_use_same =
      same-below b (prepared b a) (prepared b (replicate (W b) 0)) (accepted-there b a said).accepted_tables.few
      (λ i h. let low : i < W b = omega (arith, start_is_lem b Section.scratch, W-sum b) in
      word-written b (replicate (W b) 0) said-there i low ∙ sym (word-written b a said i low))

  pub standing-there : Standing b (prepare b a).area
  unfolding prepared_area
  standing-there =
      record {
        trusted = subst (Trusted b) (sym (area-left b a said)) (accepted-there b a said);
        same = rw (area-left b a said, area-left b (replicate (W b) 0) said-there) in_use_same;
      }
