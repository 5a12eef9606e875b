-- Demand 3 for the line check: a yes exactly when the list is convex, the count on a yes, what a no says, and that a yes leaves room.
-- Rests on Tables, Spans and Ended.
use Prim.Native.Nat.{ℕ, ◌+◌, ◌≤◌, ◌<◌}
use native.Mathlib.Omega.{arith}
use mathlib.Core.Path.{◌≡◌, refl, sym, ap, ◌∙◌, subst}
use mathlib.Core.Logic.{◌↔◌, inl, inr}
use mathlib.Core.List.{List, [], ◌∷◌}
use lib.ListN.{length}
use Rattle.lists.specs.Lists.{In, Distinct}
use Rattle.paper.specs.Map.{N, L}
use Rattle.paper.specs.Area.{W}
use Rattle.paper.specs.Accepted.{Accepted}
use Rattle.paper.specs.Intervals.{Reply, Yes, No, Interval, records, apart, intervals}
use Rattle.paper.specs.Walk.{M, going, stopped, walk_after, answer_of, walk, walk_on, line_check}
use Rattle.paper.specs.Plain.{Convex, Ahead, Number, highest_lowest}
use Rattle.order_theory.specs.Sound.{Sound}
use Rattle.convexity_theory.specs.Lined.{Lined}
use Rattle.convexity_theory.specs.Fits.{Fits}
use Rattle.convexity_theory.specs.Walked.{Counted, Going, Halted, StoppedAt, NoBy, by_gap, by_walk}
use Rattle.convexity_theory.proofs.Numbers.{number-room}
use Rattle.convexity_theory.proofs.Paths.{path-known}
use Rattle.convexity_theory.proofs.Tables.{accepted_lined}
use Rattle.convexity_theory.proofs.Spans.{Spanned, fitting, gap, spanned}
use Rattle.convexity_theory.proofs.Ended.{Ended, empty, halted, ended, halted_back, ended_convex, ended_counted}

-- ---- the check's answer from the intervals and the walk's end

module _ (b a list : List ℕ) where
  check_gap : intervals b a list ≡ apart → line_check b a list ≡ (No, 0)
  unfolding line_check walk_on
  check_gap e = rw e

  module _ (rs : List Interval) (e : intervals b a list ≡ records rs) (counted : List ℕ) where
    check_ended : walk_after b a rs (length rs + L b) ≡ going [] counted → line_check b a list ≡ (Yes, length counted)
    unfolding line_check walk_on walk answer_of
    check_ended w = rw e (ap answer_of w)

    check_stopped : walk_after b a rs (length rs + L b) ≡ stopped counted → line_check b a list ≡ (No, length counted)
    unfolding line_check walk_on walk answer_of
    check_stopped w = rw e (ap answer_of w)

-- all that is said of a yes, and of a no
data Verdict (b a list : List ℕ) : Type 0 where
  says_yes : (c : ℕ) → line_check b a list ≡ (Yes, c) → Convex b list → Number (Ahead b a list) c → Verdict b a list
  says_no : (c : ℕ) → line_check b a list ≡ (No, c) → (Convex b list → ⊥) → NoBy b a list c → Verdict b a list

module _ {b a : List ℕ} (s : Sound b) (lined : Lined b a) (list : List ℕ) (rs : List Interval) (f : Fits b a list rs)
    (top : M rs ≡ highest_lowest b a list) where
  ahead : (x : ℕ) → Counted b a list rs x → Ahead b a list x
  ahead x c =
      record { outside = c.beyond.outside; reached = c.beyond.reached; no_higher = omega (arith, c.no_higher, top) }

  number-ahead : (counted : List ℕ) → Going b a list rs [] counted → Number (Ahead b a list) (length counted)
  number-ahead counted g =
      record {
        steps = counted;
        once = g.once;
        exactly = λ x. (λ i. ahead x (g.passed x i).counted, λ h. ended_counted s lined list rs f counted g x h.reached h.outside (omega (arith, h.no_higher, top)));
        size = refl;
      }

  stopped_at : (counted : List ℕ) → walk_after b a rs (length rs + L b) ≡ stopped counted → Halted b a list rs counted → StoppedAt b a list rs (length counted)
  stopped_at counted w h =
      record {
        last = h.last;
        earlier = h.earlier;
        walked = w ∙ ap stopped h.whole;
        size = ap length (sym h.whole);
        once = h.once;
        ahead = counted-ahead;
        stands = h.stands;
        before = λ x i. (h.passed x i).clear;
      }
    where
      counted-ahead : (x : ℕ) → In x (h.last ∷ h.earlier) → Ahead b a list x
      counted-ahead x (inl e) = subst (Ahead b a list) (sym e) (ahead h.last h.last_counted)
      counted-ahead x (inr i) = ahead x (h.passed x i).counted

  walk_verdict : intervals b a list ≡ records rs → Ended b a list rs → Verdict b a list
  walk_verdict e (empty counted w g) =
      says_yes (length counted) (check_ended b a list rs e counted w) (ended_convex s lined list rs f counted g) (number-ahead counted g)
  walk_verdict e (halted counted w h) =
      says_no (length counted) (check_stopped b a list rs e counted w) (halted_back s lined list rs f counted h) (by_walk rs e (stopped_at counted w h))

-- ---- the theorems

module _ {b a : List ℕ} (s : Sound b) (acc : Accepted b a) (room : W b ≤ length a) (list : List ℕ) (known : (v : ℕ) → In v list → v < N b) where
  verdict : Verdict b a list
  verdict = go (spanned lined list known)
    where
      lined : Lined b a
      lined = accepted_lined s acc room

      go : Spanned b a list → Verdict b a list
      go (fitting rs e f top) = walk_verdict s lined list rs f top e (ended s lined list rs f)
      go (gap e back) = says_no 0 (check_gap b a list e) back (by_gap e refl)

  not_both : {c d : ℕ} {A : Type 0} → line_check b a list ≡ (Yes, c) → line_check b a list ≡ (No, d) → A
  not_both p q =
      let e : Yes ≡ No = ap (λ (r : Reply × ℕ). r.0) (sym p ∙ q) in
      absurd (let z : ◌≡◌ {A = ℕ} 0 1 = cc in omega arith)

  -- "both checkers say yes exactly when no directed path starts in the list, passes a step outside it and ends in it": the line check
  pub line_convex : ((c : ℕ) × (line_check b a list ≡ (Yes, c))) ↔ Convex b list
  line_convex = (to verdict, back verdict)
    where
      to : Verdict b a list → (c : ℕ) × (line_check b a list ≡ (Yes, c)) → Convex b list
      to (says_yes c e convex n) said = convex
      to (says_no c e bent n) said = not_both said.1 e

      back : Verdict b a list → Convex b list → (c : ℕ) × (line_check b a list ≡ (Yes, c))
      back (says_yes c e convex n) h = (c, e)
      back (says_no c e bent n) h = absurd (bent h)

  -- "On a yes the count is exactly the number of steps .."
  pub line-count : (c : ℕ) → line_check b a list ≡ (Yes, c) → Number (Ahead b a list) c
  line-count c said = go verdict
    where
      go : Verdict b a list → Number (Ahead b a list) c
      go (says_yes d e convex n) = subst (Number (Ahead b a list)) (ap (λ (r : Reply × ℕ). r.1) (sym e ∙ said)) n
      go (says_no d e bent n) = not_both said e

  -- the steps counted and the steps listed are no more than all steps
  pub line-few : Distinct list → (c : ℕ) → line_check b a list ≡ (Yes, c) → c + length list ≤ N b
  line-few distinct c said = number-room list (N b) distinct known (line-count c said) (λ x h. h.outside) (λ x h. path-known s h.reached.2)

  -- the count on a no
  pub line_no : (c : ℕ) → line_check b a list ≡ (No, c) → NoBy b a list c
  line_no c said = go verdict
    where
      go : Verdict b a list → NoBy b a list c
      go (says_yes d e convex n) = not_both e said
      go (says_no d e bent n) = subst (NoBy b a list) (ap (λ (r : Reply × ℕ). r.1) (sym e ∙ said)) n
