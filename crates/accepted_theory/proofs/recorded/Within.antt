-- What the tests on records say: a position within a record, a node inside on a line, and a node that straddles.
-- Rests on the definitions and Among.
use Prim.Native.Nat.{ℕ, ◌≤◌}
use mathlib.Core.Path.{◌≡◌, refl, ap, ap₂}
use mathlib.Core.Bool.{Bool, true, false, not, ◌&&◌}
use mathlib.Core.List.{List, Memᴰ}
use lib.Dec.{eqb, leb}
use borrow.Author.Tests.{eq-eqb, eqb-true, leb-true, le-leb, not-false}
use Rattle.lists.specs.Lists.{any}
use Rattle.paper.specs.Area.{position, lines_of}
use Rattle.paper.specs.Intervals.{Interval, within}
use Rattle.paper.specs.Records.{inside_on, inside}
use Rattle.paper.specs.Refusals.{straddles}
use Rattle.accepted_theory.proofs.recorded.Among.{and_both, and_rest, any_at, any_by, any_none, none_at}

pub within_at : (r : Interval) (p : ℕ) → r.lowest ≤ p → p ≤ r.highest → within r p ≡ true
unfolding within
within_at r p low high = ap₂ (λ (s t : Bool). s && t) (le-leb r.lowest p low) (le-leb p r.highest high)

pub within_by : (r : Interval) (p : ℕ) → within r p ≡ true → (r.lowest ≤ p) × (p ≤ r.highest)
unfolding within
within_by r p e =
    let both = and_both (leb r.lowest p) (leb p r.highest) e in
    (leb-true r.lowest p both.0, leb-true p r.highest both.1)

-- a record of the line that a node is inside
pub record Covering (b a : List ℕ) (rs : List Interval) (v l : ℕ) : Type 0 where
  pub which : Interval
  pub there : Memᴰ which rs
  pub line : which.line ≡ l
  pub covers : within which (position b a v) ≡ true

module _ (b a : List ℕ) (rs : List Interval) (v l : ℕ) where
  pub covered : inside_on b a rs v l ≡ true → Covering b a rs v l
  unfolding inside_on
  covered e =
      let w = any_by (λ r. eqb r.line l && within r (position b a v)) rs e in
      let both = and_both (eqb w.which.line l) (within w.which (position b a v)) w.passes in
      record { which = w.which; there = w.there; line = eqb-true w.which.line l both.0; covers = both.1 }

  pub covering : Covering b a rs v l → inside_on b a rs v l ≡ true
  unfolding inside_on
  covering c =
      any_at (λ r. eqb r.line l && within r (position b a v)) c.there
      (ap₂ (λ (s t : Bool). s && t) (eq-eqb c.which.line l c.line) c.covers)

module _ (b a : List ℕ) (rs : List Interval) (v : ℕ) where
  -- a node that is inside on every line, if it is inside at all, does not straddle
  pub whole_passes : (inside b a rs v ≡ true → (l : ℕ) → Memᴰ l (lines_of b a v) → inside_on b a rs v l ≡ true)
      → straddles b a rs v ≡ false
  unfolding straddles inside
  whole_passes h = go (any (inside_on b a rs v) (lines_of b a v)) h
    where
      go : (t : Bool) → (t ≡ true → (l : ℕ) → Memᴰ l (lines_of b a v) → inside_on b a rs v l ≡ true)
          → (t && any (λ l. not (inside_on b a rs v l)) (lines_of b a v)) ≡ false
      go true h = any_none (λ l. not (inside_on b a rs v l)) (lines_of b a v) (λ l m. ap not (h refl l m))
      go false h = refl

  -- a node that is inside and does not straddle is inside on every line
  pub inside-all : straddles b a rs v ≡ false → inside b a rs v ≡ true → (l : ℕ) → Memᴰ l (lines_of b a v) → inside_on b a rs v l ≡ true
  unfolding straddles inside
  inside-all whole e l m =
      let outside = and_rest (any (inside_on b a rs v) (lines_of b a v)) (any (λ k. not (inside_on b a rs v k)) (lines_of b a v)) whole e in
      not-false (inside_on b a rs v l) (none_at (λ k. not (inside_on b a rs v k)) outside m)

  pub inside_at : {l : ℕ} → Memᴰ l (lines_of b a v) → inside_on b a rs v l ≡ true → inside b a rs v ≡ true
  unfolding inside
  inside_at m e = any_at (inside_on b a rs v) m e
