-- The output neighbours of a node join one by one, as its links by output port lead to them.
-- Rests on Joining and on neighbours' Keeping and Passing.
use Prim.Native.Nat.{ℕ, ◌+◌, ◌≤◌}
use mathlib.Core.Path.{◌≡◌, sym, ap, ◌∙◌, subst}
use mathlib.Core.List.{List, [], ◌∷◌, ◌++◌}
use Rattle.stepmap.specs.declared.read.Sizes.{Sizes}
use Rattle.tables.specs.Within.{Within}
use Rattle.neighbours.specs.declared.Listing.{Listing}
use Rattle.neighbours.specs.Linked.{out_start, out_target}
use Rattle.neighbours.proofs.Keeping.{linked-kept}
use Rattle.neighbours.proofs.Passing.{targets_to, no_targets, targets_next}
use Rattle.walk.specs.Queue.{Queued, Grown}
use Rattle.walk.specs.Fitting.{Leading}
use Rattle.walk.proofs.Joining.{grown-none, grown_both}

pub grown_as : {a m : List ℕ} {queue n joined grown : ℕ} {us vs : List ℕ} → us ≡ vs → Grown a queue n joined us grown m → Grown a queue n joined vs grown m
grown_as {a} {m} {queue} {n} {joined} {grown} e g = subst (λ (us : List ℕ). Grown a queue n joined us grown m) e g

-- the links stand while nodes join
pub leading-kept : {b a m : List ℕ} {s : Sizes} {queue : ℕ} {links : Listing} → Leading b a s queue links → Within queue (s.nodes + s.nodes) a m
    → Leading b m s queue links
leading-kept leads kept = record { linked = linked-kept leads.linked kept leads.apart; apart = leads.apart }

module _ (b : List ℕ) (v : ℕ) {a : List ℕ} {queue n joined : ℕ} where
  pub links-start : {i : ℕ} → i ≡ out_start b v → Queued a queue n joined → Grown a queue n joined (targets_to b v i) joined a
  links-start e queued = grown_as (sym (ap (targets_to b v) e ∙ no_targets b v)) (grown-none queued)

  pub links-next : (i : ℕ) {grown more w : ℕ} {m o : List ℕ} → out_start b v ≤ i → Grown a queue n joined (targets_to b v i) grown m
      → w ≡ out_target b i → Grown m queue n grown (w ∷ []) more o → Grown a queue n joined (targets_to b v (i + 1)) more o
  links-next i low g e h =
      grown_as (ap (λ (x : ℕ). targets_to b v i ++ (x ∷ [])) e ∙ sym (targets_next b v i low)) (grown_both g h)
