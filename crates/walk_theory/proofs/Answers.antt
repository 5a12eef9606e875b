-- The walk with marks answers as 01's walk, on a yes and on a no: the walk's own answer and count.
-- Rests on Together and Entries.
use Prim.Native.Nat.{ℕ, zero, suc, ◌+◌, ◌≤◌}
use native.Mathlib.Decide.{ℕ_discrete, dec_le}
use native.Mathlib.Omega.{arith}
use mathlib.Core.Path.{◌≡◌, refl, sym, ap, ◌∙◌, subst}
use mathlib.Core.List.{List, [], ◌∷◌}
use lib.ListN.{length}
use borrow.Author.Tests.{le-ltb}
use Rattle.paper.specs.Map.{L}
use Rattle.paper.specs.Intervals.{Reply, Yes, No, Interval}
use Rattle.paper.specs.Walk.{answer_of, walk}
use Rattle.order_theory.specs.Sound.{Sound}
use Rattle.walk_theory.specs.Marked.{join_all, Marked, going, stopped, turn_marked, marked_after}
use Rattle.walk_theory.proofs.Entries.{links-few}
use Rattle.walk_theory.proofs.Together.{Together, both_go, both_stop, together}

-- the answer is no, or all who joined were taken
abbrev Settled : ℕ → Marked → Type 0
Settled t (going joined counted) = length joined ≤ t
Settled t (stopped counted) = Unit {0}

abbrev answer : Marked → Reply × ℕ
answer (going joined counted) = (Yes, counted)
answer (stopped counted) = (No, counted)

-- ---- once settled, nothing changes

settled_later : {t u : ℕ} → t ≤ u → (m : Marked) → Settled t m → Settled u m
settled_later h (going joined counted) l = omega arith
settled_later h (stopped counted) l = tt

module _ (b a : List ℕ) (rs : List Interval) where
  settled_turn : (t : ℕ) (m : Marked) → Settled t m → turn_marked b a rs t m ≡ m
  unfolding turn_marked
  settled_turn t (going joined counted) l = rw (le-ltb t (length joined) l)
  settled_turn t (stopped counted) l = refl

  settled_stays : (t : ℕ) → Settled t (marked_after b a rs t) → (u : ℕ) → t ≤ u → marked_after b a rs u ≡ marked_after b a rs t
  unfolding marked_after
  settled_stays t l zero h = let e : 0 ≡ t = omega arith in ap (marked_after b a rs) e
  settled_stays t l (suc u) h = go (ℕ_discrete t (suc u)) (settled_stays t l u)
    where
      go : Dec (t ≡ suc u) → (t ≤ u → marked_after b a rs u ≡ marked_after b a rs t) → marked_after b a rs (suc u) ≡ marked_after b a rs t
      go (yes e) ih = ap (marked_after b a rs) (sym e)
      go (no ne) ih =
          let le : t ≤ u = omega arith in
          ap (turn_marked b a rs u) (ih le) ∙ settled_turn u (marked_after b a rs t) (settled_later le (marked_after b a rs t) l)

  settled_same : (t u : ℕ) → Settled t (marked_after b a rs t) → Settled u (marked_after b a rs u) → marked_after b a rs t ≡ marked_after b a rs u
  settled_same t u p q = go (dec_le t u)
    where
      go : Dec (t ≤ u) → marked_after b a rs t ≡ marked_after b a rs u
      go (yes le) = sym (settled_stays t p u le)
      go (no gt) = settled_stays u q t (omega arith)

-- ---- 01's steps suffice, and its answer is that of a settled turn

record Answered (b a : List ℕ) (rs : List Interval) : Type 0 where
  turns : ℕ
  settled : Settled turns (marked_after b a rs turns)
  same : walk b a rs ≡ answer (marked_after b a rs turns)

module _ {b : List ℕ} (s : Sound b) (a : List ℕ) (rs : List Interval) where
  answered : Answered b a rs
  unfolding walk answer_of join_all
  answered = go (together b a rs (length rs + L b))
    where
      go : Together b a rs (length rs + L b) → Answered b a rs
      go (both_go [] g) =
          record {
            turns = length g.taken;
            settled = subst (Settled (length g.taken)) (sym g.marked) (omega arith);
            same = ap answer_of g.walked ∙ sym (ap answer g.marked);
          }
      go (both_go (v ∷ queue) g) = absurd (omega (arith, g.room, links-few s g.counted g.once))
      go (both_stop t counted walked marked) =
          record { turns = t; settled = subst (Settled t) (sym marked) tt; same = ap answer_of walked ∙ sym (ap answer marked) }

  walk_settled : (t : ℕ) (m : Marked) → marked_after b a rs t ≡ m → Settled t m → walk b a rs ≡ answer m
  walk_settled t m e l =
      answered.same ∙ ap answer (settled_same b a rs answered.turns t answered.settled (subst (Settled t) (sym e) l) ∙ e)

  pub stopped_no : (t counted : ℕ) → marked_after b a rs t ≡ stopped counted → walk b a rs ≡ (No, counted)
  stopped_no t counted e = walk_settled t (stopped counted) e tt

  pub ended_yes : (t : ℕ) (joined : List ℕ) (counted : ℕ) → marked_after b a rs t ≡ going joined counted → length joined ≤ t
      → walk b a rs ≡ (Yes, counted)
  ended_yes t joined counted e h = walk_settled t (going joined counted) e h
