-- The pass over the links: what holds after k of them, what makes the next one ready to be checked, and the answer for all.
-- Rests on Marking and Known.
use Prim.Native.Nat.{ℕ, ◌+◌, ◌≤◌, ◌<◌}
use native.Mathlib.Omega.{arith}
use mathlib.Core.Bool.{Bool, true, false, cond}
use mathlib.Core.List.{List, map}
use mathlib.Core.Path.{◌≡◌, refl, sym, ap, ◌∙◌, subst}
use lib.ListN.{length, get_or, set, length-set}
use lib.Seq.{sets, length-sets}
use borrow.Author.Count.{below_none}
use Rattle.lists.specs.Found.{absent, first, placed}
use Rattle.lists.specs.Lists.{upto}
use Rattle.paper.specs.Map.{L, P, first_port, target_port, missing, second}
use Rattle.paper.specs.Refusals.{passed, refuse_link, bad_link, rule45}
use Rattle.refusals.specs.Said.{ruled}
use Rattle.refusals.specs.declared.Refusal.{Refusal}
use Rattle.refusals.proofs.Rulings.{no_refusal}
use Rattle.stepmap.specs.Formed.{ReadWell}
use Rattle.stepmap.specs.Marks.{Blank, Firsts, Marked, LinkReady}
use Rattle.stepmap.proofs.Known.{has-link, numbered}
use Rattle.lists.proofs.First.{first-is, first_next, first_absent}
use Rattle.lists.proofs.Tests.{or_false_both}
use Rattle.lists.proofs.Upto.{get_or-sets-upto}
use Rattle.stepmap.proofs.Marking.{bad, mark-below, marked_next}

-- what holds after k links
pub record Passed (b : List ℕ) (k : ℕ) (marks : List ℕ) : Type 0 where
  pub none : first (bad b) k ≡ absent
  pub marked : Marked b k marks
  pub size : length marks ≡ 4096

-- ---- the start

pub firsts-from : (b room : List ℕ) (n : ℕ) {firsts : List ℕ} → firsts ≡ sets room 0 (map (first_port b) (upto (n + 1)))
    → length room ≡ 513 → n ≤ 512 → Firsts b n firsts
firsts-from b room n e size few =
    record {
      room = omega (arith, ap length e, length-sets room 0 (map (first_port b) (upto (n + 1))));
      port =
          λ v lt. ap (λ (l : List ℕ). get_or l v 0) e
          ∙ get_or-sets-upto (first_port b) room (n + 1) v 0 (omega arith) (omega arith);
    }

pub pass_starts : (b : List ℕ) {room : List ℕ} → Blank 4096 room → Passed b 0 room
pass_starts b blank =
    record {
      none = refl;
      marked = record { sound = below_none _; mark = blank.zeros };
      size = blank.size;
    }

-- ---- one link

no_fault : (b : List ℕ) (k : ℕ) → bad b k ≡ false → refuse_link b (placed (bad b k) k) ≡ passed
unfolding refuse_link
no_fault b k h = rw h

-- a link for which no fault was found has none
sound-link : (b : List ℕ) (k : ℕ) → passed ≡ refuse_link b (placed (bad b k) k) → bad b k ≡ false
unfolding refuse_link
sound-link b k = split (bad b k)
  where
    split : (t : Bool) → passed ≡ refuse_link b (placed t k) → t ≡ false
    split false q = refl
    split true q = cc

-- a bad link decides
at_bad : (b : List ℕ) (k : ℕ) → first (bad b) k ≡ absent → k < L b → bad b k ≡ true → refuse_link b (placed (bad b k) k) ≡ rule45 b
unfolding rule45 bad_link
at_bad b k none lt h =
    ap (λ (t : Bool). refuse_link b (placed t k)) h
    ∙ ap (refuse_link b) (sym (first-is (bad b) (L b) k (record { known = lt; passes = h; fail = first_absent (bad b) k none })))

module _ {b firsts marks : List ℕ} {n l k : ℕ} (well : ReadWell b n l (P b)) (lt : k < l) (stand : Firsts b n firsts)
    (pass : Passed b k marks) where
  pub link-ready : LinkReady b n k firsts marks
  link-ready =
      record {
        link = has-link well lt;
        firsts_stand = stand;
        marked = pass.marked;
        room = omega (arith, (numbered well).few, pass.size);
      }

  pub pass_on : {after : List ℕ} → passed ≡ refuse_link b (placed (bad b k) k)
      → after ≡ cond (bad b k) marks (set marks (target_port b k) 1) → Passed b (k + 1) after
  pass_on {after} said now =
      let fine = sound-link b k said in
      let written = sym (now ∙ ap (λ (t : Bool). cond t marks (set marks (target_port b k) 1)) fine) in
      let here = (or_false_both (missing b k) (second b k) fine).0 in
      record {
        none = first_next (bad b) k pass.none fine;
        marked =
            subst (Marked b (k + 1)) written (marked_next b k pass.marked here (mark-below link-ready here refl));
        size = sym (ap length written) ∙ length-set marks (target_port b k) 1 ∙ pass.size;
      }

  pub faulty_link : (x : Refusal) → ruled x ≡ refuse_link b (placed (bad b k) k) → ruled x ≡ rule45 b
  faulty_link x said = split (bad b k) refl
    where
      split : (t : Bool) → bad b k ≡ t → ruled x ≡ rule45 b
      split true h = said ∙ at_bad b k pass.none (omega (arith, well.links)) h
      split false h = absurd (no_refusal (sym (said ∙ no_fault b k h)))

-- ---- the end

pub all_sound : {b marks : List ℕ} {n l k : ℕ} → ReadWell b n l (P b) → k ≡ l → Passed b k marks → passed ≡ rule45 b
unfolding rule45 refuse_link bad_link
all_sound {b} well all pass = sym (ap (refuse_link b) (ap (first (bad b)) (well.links ∙ sym all) ∙ pass.none))
