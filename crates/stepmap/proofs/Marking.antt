-- One link with the marks: where its input's mark stands, what the mark says, the marks after it, and the answer for one link.
-- Rests on Marks and LinkFaults.
use Prim.Native.Nat.{ℕ, ◌+◌, ◌<◌}
use native.Mathlib.Decide.{ℕ_discrete}
use native.Mathlib.Omega.{arith}
use mathlib.Core.Bool.{Bool, true, false, ◌||◌, cond}
use mathlib.Core.List.{List}
use mathlib.Core.Path.{◌≡◌, sym, ap, ◌∙◌}
use lib.Dec.{eqb}
use lib.ListN.{length, get_or, set}
use lib.Seq.{get_or-set_same, get_or-set_other}
use borrow.Author.Count.{below_more}
use borrow.Author.Tests.{eq-eqb, ne_eqb}
use Rattle.lists.specs.Found.{placed}
use Rattle.lists.specs.Lists.{upto, any, one}
use Rattle.paper.specs.Map.{link_to, link_in, first_port, target_port, missing, second}
use Rattle.paper.specs.Refusals.{Ruling, passed, refusal, refuse_link}
use Rattle.stepmap.specs.Formed.{HasLink}
use Rattle.stepmap.specs.Marks.{Firsts, Marked, LinkReady}
use Rattle.stepmap.proofs.LinkFaults.{ends, target-sum, target_below, second_by_port}
use Rattle.lists.proofs.AllAny.{any_true, any-next_false}
use Rattle.lists.proofs.Count.{one-is, one-is_not}

-- the port at which a link ends
module _ {b firsts : List ℕ} {n k : ℕ} (link : HasLink b n k) (stand : Firsts b n firsts) (here : missing b k ≡ false) where
  pub node-below : link_to b k < n
  node-below = omega (arith, (ends b k here).to, link.nodes)

  pub target : {t f i : ℕ} → t ≡ link_to b k → f ≡ get_or firsts t 0 → i ≡ link_in b k → f + i ≡ target_port b k
  target e g h = omega (arith, target-sum b k, ap (λ (v : ℕ). get_or firsts v 0) e, stand.port (link_to b k) node-below)

-- the mark of that port
module _ {b firsts marks : List ℕ} {n k : ℕ} (ready : LinkReady b n k firsts marks) (here : missing b k ≡ false) where
  pub mark-below : {t : ℕ} → t ≡ target_port b k → t < length marks
  mark-below e = omega (arith, target_below b k (ends b k here), ready.room, ap (first_port b) ready.link.nodes)

  -- what it says
  says : get_or marks (target_port b k) 0 ≡ one (second b k)
  says = ready.marked.mark (target_port b k) ∙ ap one (sym (second_by_port b k ready.marked.sound here))

  pub mark_set : {t : ℕ} → t ≡ target_port b k → get_or marks t 0 ≡ 1 → second b k ≡ true
  mark_set e h = one-is (second b k) (sym says ∙ ap (λ (q : ℕ). get_or marks q 0) (sym e) ∙ h)

  pub mark-clear : {t : ℕ} → t ≡ target_port b k → (get_or marks t 0 ≡ 1 → ⊥) → second b k ≡ false
  mark-clear e h = one-is_not (second b k) (λ q. h (ap (λ (p : ℕ). get_or marks p 0) e ∙ says ∙ q))

-- the marks after one link more
pub marked_next : (b : List ℕ) (k : ℕ) {marks : List ℕ} → Marked b k marks → missing b k ≡ false → target_port b k < length marks
    → Marked b (k + 1) (set marks (target_port b k) 1)
marked_next b k {marks} m here below =
    record { sound = below_more _ k m.sound here; mark = λ q. one_more q (ℕ_discrete q (target_port b k)) }
  where
    one_more : (q : ℕ) → Dec (q ≡ target_port b k)
        → get_or (set marks (target_port b k) 1) q 0 ≡ one (any (λ j. eqb (target_port b j) q) (upto (k + 1)))
    one_more q (yes e) =
        ap (λ (p : ℕ). get_or (set marks (target_port b k) 1) p 0) e ∙ get_or-set_same marks (target_port b k) 1 0 below
        ∙ sym (ap one (any_true (λ j. eqb (target_port b j) q) (k + 1) k (omega arith) (eq-eqb (target_port b k) q (sym e))))
    one_more q (no ne) =
        get_or-set_other marks (target_port b k) q 1 0 ne ∙ m.mark q
        ∙ sym (ap one (any-next_false (λ j. eqb (target_port b j) q) k (ne_eqb (target_port b k) q (λ e. ne (sym e)))))

-- the answer for one link, with the marks
abbrev pub bad : List ℕ → ℕ → Bool
bad b k = missing b k || second b k

abbrev Answered : List ℕ → ℕ → List ℕ → Ruling → List ℕ → Type 0
Answered b k marks said after =
    (said ≡ refuse_link b (placed (bad b k) k)) × (after ≡ cond (bad b k) marks (set marks (target_port b k) 1))

module _ (b : List ℕ) (k : ℕ) (marks : List ℕ) where
  pub answer_4 : missing b k ≡ true → Answered b k marks (refusal 4 k) marks
  unfolding refuse_link
  answer_4 h =
      (sym (ap (λ (t : Bool). refuse_link b (placed (t || second b k) k)) h ∙ ap (λ (t : Bool). refusal (cond t 4 5) k) h), rw h)

  pub answer_5 : missing b k ≡ false → second b k ≡ true → Answered b k marks (refusal 5 k) marks
  unfolding refuse_link
  answer_5 h g = (
    sym
        (ap (λ (t : Bool). refuse_link b (placed (t || second b k) k)) h ∙ ap (λ (t : Bool). refuse_link b (placed t k)) g
        ∙ ap (λ (t : Bool). refusal (cond t 4 5) k) h),
    rw (h, g),
  )

  pub answer-none : {t : ℕ} → t ≡ target_port b k → missing b k ≡ false → second b k ≡ false → Answered b k marks passed (set marks t 1)
  unfolding refuse_link
  answer-none e h g = (rw (h, g), rw (h, g, e))
