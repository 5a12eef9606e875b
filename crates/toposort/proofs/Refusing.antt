-- How a refusal, or none, is passed up with its area; and that what ordering laid is gone once all the words are written.
-- Rests on tables' Within and lists.Sections.
use Prim.Native.Nat.{ℕ, ◌≤◌}
use native.Mathlib.Omega.{arith}
use mathlib.Core.Path.{◌≡◌, refl, sym, ap, ◌∙◌}
use mathlib.Core.List.{List, [], ◌∷◌, ◌++◌}
use lib.ListN.{length, replicate, length-replicate}
use lib.Seq.{sets}
use Rattle.lists.proofs.Sections.{sets-sets}
use Rattle.paper.specs.Area.{cleared}
use Rattle.paper.specs.Refusals.{Ruling, passed, refusal, answer, on_refusal, refused, answered, decide, rule6}
use Rattle.refusals.specs.Said.{ruled}
use Rattle.refusals.specs.declared.Refusal.{Refusal}
use Rattle.tables.specs.declared.Layout.{Layout}
use Rattle.tables.specs.Within.{Within}
use Rattle.tables.proofs.Within.{within-filled}
use Rattle.neighbours.specs.declared.Listing.{Listing}
use Rattle.std.specs.Prelude.{Ok, Err}
use Rattle.toposort.specs.Laid.{OrderLaid, Left}

-- ---- a ruling passed up

module _ {A : Type 0} where
  pub passed-said : {u : Ruling} → passed ≡ u → (x : A) → answered x ≡ answer u x
  unfolding answer
  passed-said e x = ap (λ (u : Ruling). answer u x) e

  pub refused_said : {n v : ℕ} {u : Ruling} → refusal n v ≡ u → (x : A) → refused n v ≡ answer u x
  unfolding answer
  refused_said e x = ap (λ (u : Ruling). answer u x) e

  pub passed-kept : {u : Ruling} → passed ≡ u → {m o : A} (z : A) → m ≡ o → m ≡ on_refusal u z o
  unfolding on_refusal
  passed-kept e {m} {o} z k = k ∙ ap (λ (u : Ruling). on_refusal u z o) e

  pub refused_kept : {n v : ℕ} {u : Ruling} → refusal n v ≡ u → {m z : A} (o : A) → m ≡ z → m ≡ on_refusal u z o
  unfolding on_refusal
  refused_kept e {m} {z} o k = k ∙ ap (λ (u : Ruling). on_refusal u z o) e

-- ---- the first refusal of several rules

pub next : {u : Ruling} → passed ≡ u → (us : List Ruling) → decide us ≡ decide (u ∷ us)
unfolding decide
next e us = ap (λ (u : Ruling). decide (u ∷ us)) e

pub here : {n v : ℕ} {u : Ruling} → refusal n v ≡ u → (us : List Ruling) → refusal n v ≡ decide (u ∷ us)
unfolding decide
here e us = ap (λ (u : Ruling). decide (u ∷ us)) e

pub alone : (u : Ruling) → u ≡ decide (u ∷ [])
unfolding decide
alone passed = refl
alone (refusal n v) = refl

pub after : (us vs : List Ruling) → passed ≡ decide us → decide vs ≡ decide (us ++ vs)
unfolding decide
after [] vs e = refl
after (passed ∷ us) vs e = after us vs e
after (refusal n v ∷ us) vs e = cc

pub before : {n v : ℕ} (us vs : List Ruling) → refusal n v ≡ decide us → refusal n v ≡ decide (us ++ vs)
unfolding decide
before [] vs e = cc
before (passed ∷ us) vs e = before us vs e
before (refusal m w ∷ us) vs e = e

-- ---- what ordering laid is gone once all the words are written

pub written_over : {n : ℕ} {a m : List ℕ} → Within 0 n a m → n ≤ length a → (ws : List ℕ) → length ws ≡ n → sets m 0 ws ≡ sets a 0 ws
written_over {n} {a} {m} inside fits ws many =
    sym (sets-sets m 0 (replicate n 0) ws (omega (arith, length-replicate {A = ℕ} n 0, many)))
    ∙ ap (λ (x : List ℕ). sets x 0 ws) (within-filled inside (omega arith) 0)
    ∙ sets-sets a 0 (replicate n 0) ws (omega (arith, length-replicate {A = ℕ} n 0, many))

-- ---- the two answers of the ordering, passed up

module _ {b a : List ℕ} {at : Layout} {links : Listing} {m : List ℕ} (laid : OrderLaid b a at links m) where
  pub all-ordered : passed ≡ rule6 b → Left b a (cleared b a) (rule6 b) (Ok (record { at = at; links = links })) m
  all-ordered said = record { said = said; lies = laid }

  pub cycle-found : {x : Refusal} → ruled x ≡ rule6 b → {z : List ℕ} → z ≡ sets m 0 (replicate at.end 0)
      → Left b a (cleared b a) (rule6 b) (Err x) z
  unfolding cleared
  cycle-found said f =
      record {
        said = said;
        lies =
            f ∙ within-filled laid.inside (omega (arith, laid.inside.long, laid.ready.room)) 0
            ∙ ap (λ (k : ℕ). sets a 0 (replicate k 0)) (sym laid.ready.placed.whole);
      }
