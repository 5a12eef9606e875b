-- Sizes say that refusals 1 and 2 let the map pass; and links that 4 and 5 let pass are known, each the only one at its input.
-- Rests on Formed and Reading.
use Prim.Native.Nat.{ℕ, ◌<◌}
use native.Mathlib.Omega.{arith}
use mathlib.Core.Bool.{Bool, true, false, ◌||◌}
use mathlib.Core.List.{List}
use mathlib.Core.Path.{◌≡◌, refl, sym, ap, ◌∙◌}
use Rattle.lists.specs.Found.{Found, absent, at}
use Rattle.paper.specs.Map.{N, L, P, well_formed, within_limits, missing, second}
use Rattle.paper.specs.Refusals.{Answer, refused, answered, passed, refuse_link, bad_link, rule45}
use Rattle.stepmap.specs.Formed.{ReadWell, sizes_of}
use Rattle.stepmap.specs.declared.read.Sizes.{Sizes}
use Rattle.lists.proofs.First.{first_absent}
use Rattle.lists.proofs.Tests.{or_false_both}
use Rattle.stepmap.proofs.Reading.{formed-size, limits, ruled, refused_1, refused_2, sized}

same-sizes : {s t : Sizes} → answered s ≡ answered t → s ≡ t
same-sizes e = cc

-- an answer is no refusal
apart : {s : Sizes} {a : Answer Sizes} {n p : ℕ} → answered s ≡ a → refused n p ≡ a → ⊥
apart e f = let z : ◌≡◌ {A = ℕ} 0 1 = cc in omega arith

module _ (b : List ℕ) (s : Sizes) (said : answered s ≡ ruled b) where
  passing : well_formed b ≡ true → within_limits b ≡ true → ReadWell b s.nodes s.links s.ports
  passing formed within =
      let sizes : sizes_of b ≡ s = same-sizes (sized b refl refl refl formed within ∙ sym said) in
      let nodes : N b ≡ s.nodes = ap (λ (t : Sizes). t.nodes) sizes in
      let links : L b ≡ s.links = ap (λ (t : Sizes). t.links) sizes in
      let ports : P b ≡ s.ports = ap (λ (t : Sizes). t.ports) sizes in
      let few = limits b within in
      record {
        nodes = nodes;
        links = links;
        ports = ports;
        size = omega (arith, formed-size b formed);
        few-nodes = omega arith;
        few-links = omega arith;
        few-ports = omega arith;
      }

  pub read_well : ReadWell b s.nodes s.links s.ports
  read_well = go (well_formed b) refl (within_limits b) refl
    where
      go : (w : Bool) → well_formed b ≡ w → (i : Bool) → within_limits b ≡ i → ReadWell b s.nodes s.links s.ports
      go false h i g = absurd (apart said (refused_1 b h))
      go true h false g = absurd (apart said (refused_2 b h g))
      go true h true g = passing h g

-- links that no refusal met are known, and no two end at one input
pub links_fine : (b : List ℕ) → passed ≡ rule45 b → (k : ℕ) → k < L b → (missing b k ≡ false) × (second b k ≡ false)
unfolding rule45 refuse_link bad_link
links_fine b e k lt =
    or_false_both (missing b k) (second b k) (first_absent (λ j. missing b j || second b j) (L b) (none (bad_link b) e) k lt)
  where
    none : (f : Found) → passed ≡ refuse_link b f → f ≡ absent
    none absent q = refl
    none (at j) q = cc
