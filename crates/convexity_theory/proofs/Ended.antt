-- How the walk ends: with an empty queue nothing leads back into the list and all nodes ahead were counted; with a stop something leads back.
-- Rests on Walk and Borders, and on walk_theory (a step for each record and each link is enough).
use Prim.Native.Nat.{ℕ, ◌+◌, ◌≤◌, ◌<◌}
use native.Mathlib.Omega.{arith}
use mathlib.Core.Path.{◌≡◌, sym, ◌∙◌, subst}
use mathlib.Core.Logic.{◌⊎◌, inl, inr}
use mathlib.Core.Bool.{true≢false}
use mathlib.Core.List.{List, [], ◌∷◌}
use lib.ListN.{length}
use Rattle.lists.specs.Lists.{In}
use Rattle.paper.specs.Map.{L}
use Rattle.paper.specs.Area.{position}
use Rattle.paper.specs.Intervals.{Interval}
use Rattle.paper.specs.Walk.{M, Walk, going, stopped, walk_after}
use Rattle.paper.specs.Plain.{Linked, DirectedPath, link, onward, Convex, Reached}
use Rattle.order_theory.specs.Sound.{Sound}
use Rattle.walk_theory.proofs.Entries.{links-few}
use Rattle.walk_theory.proofs.Together.{Together, both_go, both_stop, together}
use Rattle.convexity_theory.specs.Lined.{Lined}
use Rattle.convexity_theory.specs.Fits.{Fits}
use Rattle.convexity_theory.specs.Walked.{Seen, Going, Halted}
use Rattle.convexity_theory.proofs.Memberships.{dec_in}
use Rattle.convexity_theory.proofs.Paths.{path-known, rises-along}
use Rattle.convexity_theory.proofs.Borders.{enters, leaves, stands-back}
use Rattle.convexity_theory.proofs.Walk.{Holds, walk-holds}

-- how the walk ends
pub data Ended (b a list : List ℕ) (rs : List Interval) : Type 0 where
  empty : (counted : List ℕ) → walk_after b a rs (length rs + L b) ≡ going [] counted → Going b a list rs [] counted → Ended b a list rs
  halted : (counted : List ℕ) → walk_after b a rs (length rs + L b) ≡ stopped counted → Halted b a list rs counted → Ended b a list rs

module _ {b a : List ℕ} (s : Sound b) (lined : Lined b a) (list : List ℕ) (rs : List Interval) (fits : Fits b a list rs) where
  pub ended : Ended b a list rs
  ended = go (together b a rs (length rs + L b))
    where
      holds : {w : Walk} → walk_after b a rs (length rs + L b) ≡ w → Holds b a list rs w
      holds e = subst (Holds b a list rs) e (walk-holds s lined list rs fits (length rs + L b))

      go : Together b a rs (length rs + L b) → Ended b a list rs
      go (both_go [] g) = empty g.counted g.walked (holds g.walked)
      go (both_go (v ∷ queue) g) = absurd (omega (arith, g.room, links-few s g.counted g.once))
      go (both_stop t counted walked marked) = halted counted walked (holds walked)

  pub halted_back : (counted : List ℕ) → Halted b a list rs counted → Convex b list → ⊥
  halted_back counted h =
      let beyond = h.last_counted.beyond in
      stands-back lined fits h.last (path-known s beyond.reached.2) beyond h.stands

  module _ (counted : List ℕ) (g : Going b a list rs [] counted) where
    -- counted, or above M
    abbrev Left : ℕ → Type 0
    Left x = In x counted ⊎ (M rs < position b a x)

    left : (x : ℕ) → Seen b a rs [] counted x → Left x
    left x (inl i) = absurd i
    left x (inr there) = there

    -- links lead on among these, and not into the list
    left-on : (u v : ℕ) → Left u → Linked b u v → Left v
    left-on u v (inl i) e = left v (g.onward u v i e)
    left-on u v (inr h) e = inr (omega (arith, rises-along lined e))

    left-outside : (u v : ℕ) → Left u → (In u list → ⊥) → Linked b u v → In v list → ⊥
    left-outside u v (inl i) out e j = true≢false (sym (enters lined fits u v e out j).stands ∙ (g.passed u i).clear)
    left-outside u v (inr h) out e j = omega (arith, (enters lined fits u v e out j).below)

    -- so no path from them does
    stays_out : {u w : ℕ} → DirectedPath b u w → Left u → (In u list → ⊥) → In w list → ⊥
    stays_out {u} {w} (link e) l out = left-outside u w l out e
    stays_out {u} (onward {v = v} e p) l out = stays_out p (left-on u v l e) (left-outside u v l out e)

    -- what the list reaches is listed, or one of these
    listed_or_left : (u v : ℕ) → In u list ⊎ Left u → Linked b u v → In v list ⊎ Left v
    listed_or_left u v (inl i) e = go (dec_in v list)
      where
        go : Dec (In v list) → In v list ⊎ Left v
        go (yes j) = inl j
        go (no out) = inr (left v (g.starts v (leaves lined fits u v e i out)))
    listed_or_left u v (inr l) e = inr (left-on u v l e)

    path-on : {u w : ℕ} → DirectedPath b u w → In u list ⊎ Left u → In w list ⊎ Left w
    path-on {u} {w} (link e) l = listed_or_left u w l e
    path-on {u} (onward {v = v} e p) l = path-on p (listed_or_left u v l e)

    reached-left : (x : ℕ) → Reached b list x → (In x list → ⊥) → Left x
    reached-left x r out = go (path-on r.2 (inl r.1))
      where
        go : In x list ⊎ Left x → Left x
        go (inl i) = absurd (out i)
        go (inr l) = l

    pub ended_convex : Convex b list
    ended_convex u x w i p out q j = stays_out q (reached-left x (u, i, p) out) out j

    -- all that are ahead were counted
    pub ended_counted : (x : ℕ) → Reached b list x → (In x list → ⊥) → position b a x ≤ M rs → In x counted
    ended_counted x r out low = go (reached-left x r out)
      where
        go : Left x → In x counted
        go (inl i) = i
        go (inr h) = absurd (omega arith)
