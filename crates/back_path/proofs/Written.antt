-- The path written from its end: a step that has one before it, and what stands in the buffer after both are written.
-- Rests on Searching and lists.Sections.
use Prim.Native.Nat.{ℕ, zero, suc, ◌+◌, ◌-◌, ◌<◌}
use native.Mathlib.Omega.{arith}
use mathlib.Core.Path.{◌≡◌, refl, sym, ap, ◌∙◌, subst}
use mathlib.Core.Logic.{◌≢◌}
use mathlib.Core.Bool.{true}
use mathlib.Core.List.{List, [], ◌∷◌}
use lib.ListN.{length, length-append, set}
use lib.Seq.{sets}
use Rattle.lists.specs.Lists.{any, keep, least}
use Rattle.lists.proofs.Sections.{sets_snoc}
use Rattle.lists.proofs.Members.{member_below}
use Rattle.order_theory.proofs.Refusals.{sound}
use Rattle.convexity_theory.proofs.Extremes.{least_in}
use Rattle.convexity_theory.proofs.Memberships.{in_mem, kept}
use Rattle.distances.specs.declared.queue.Queue.{Queue}
use Rattle.distances.specs.Met.{tells}
use Rattle.back_path.specs.Ways.{Sourced, in_neighbours, step_told, way_told, HasWay}
use Rattle.back_path.specs.declared.writing.Back.{Back}
use Rattle.back_path.proofs.Searching.{sources-known, marked-source}

some-links : (d : ℕ) → d ≢ 0 → d ≡ suc (d - 1)
some-links zero h = absurd (h refl)
some-links (suc d) h = omega arith

-- ---- the step before

module _ {b a : List ℕ} {back : Back} (st : Sourced b a back) {d : ℕ} (some : d ≢ 0) (v : ℕ) (way : HasWay b a back.queue d v) where
  one_less : (any (λ u. tells a back.queue u (d - 1)) (in_neighbours b v) ≡ true) × HasWay b a back.queue (d - 1) (step_told b a back.queue (d - 1) v)
  unfolding HasWay
  one_less = subst (λ (e : ℕ). HasWay b a back.queue e v) (some-links d some) way

  pub before-there : any (λ u. tells a back.queue u (d - 1)) (in_neighbours b v) ≡ true
  before-there = one_less.0

  module _ {u : ℕ} (read : u ≡ step_told b a back.queue (d - 1) v) where
    pub before_way : HasWay b a back.queue (d - 1) u
    before_way = subst (HasWay b a back.queue (d - 1)) (sym read) one_less.1

    pub before-known : u < back.queue.nodes
    unfolding step_told
    before-known =
        let s = sound b st.linked.links in
        let w = marked-source s a back.queue v (d - 1) before-there in
        let marked = keep (λ x. tells a back.queue x (d - 1)) (in_neighbours b v) in
        let there = (kept (λ x. tells a back.queue x (d - 1)) (least marked) (in_neighbours b v) (least_in w.0 marked w.1)).1 in
        omega (arith, read, member_below (sources-known s v) (in_mem (in_neighbours b v) there), st.linked.read.nodes)

-- ---- what is written

module _ (b a : List ℕ) (queue : Queue) where
  way_long : (d v : ℕ) → length (way_told b a queue d v) ≡ suc d
  unfolding way_told
  way_long zero v = refl
  way_long (suc d) v =
      omega (arith, length-append (way_told b a queue d (step_told b a queue d v)) (v ∷ []), way_long d (step_told b a queue d v))

  -- over no link
  pub first-written : (buffer : List ℕ) (v : ℕ) {d : ℕ} → d ≡ 0 → set buffer 0 v ≡ sets buffer 0 (way_told b a queue d v)
  unfolding way_told
  first-written buffer v e = sym (ap (λ (d : ℕ). sets buffer 0 (way_told b a queue d v)) e)

  -- over a link from the step before
  pub next-written : (buffer : List ℕ) (v : ℕ) {d : ℕ} → d ≢ 0 → {u : ℕ} → u ≡ step_told b a queue (d - 1) v
      → {m : List ℕ} → m ≡ sets buffer 0 (way_told b a queue (d - 1) u) → set m d v ≡ sets buffer 0 (way_told b a queue d v)
  unfolding way_told
  next-written buffer v {d} some read e =
      ap (λ (o : List ℕ). set o d v) (e ∙ ap (λ (w : ℕ). sets buffer 0 (way_told b a queue (d - 1) w)) read)
      ∙ ap (λ (i : ℕ). set (sets buffer 0 before) i v) place
      ∙ sym (sets_snoc buffer 0 before v)
      ∙ ap (λ (e : ℕ). sets buffer 0 (way_told b a queue e v)) (sym (some-links d some))
    where
      before : List ℕ
      before = way_told b a queue (d - 1) (step_told b a queue (d - 1) v)

      place : d ≡ 0 + length before
      place = omega (arith, way_long (d - 1) (step_told b a queue (d - 1) v), some-links d some)
