-- The order's test in the area: what its steps ask is there, and what its answer says in the definitions' terms.
-- Rests on Places and agreement.Reading.
use Prim.Native.Nat.{ℕ, ◌+◌, ◌-◌, ◌<◌}
use native.Mathlib.Omega.{arith}
use mathlib.Core.Path.{◌≡◌, sym, ap, ◌∙◌}
use mathlib.Core.Bool.{Bool, true, false, not}
use mathlib.Core.List.{List}
use lib.Dec.{T, ltb}
use lib.ListN.{length, get_or}
use Rattle.lists.specs.Lists.{all, upto, times}
use Rattle.lists.specs.Found.{Found}
use Rattle.lists.proofs.Sections.{part, length_part}
use Rattle.lists.proofs.Tests.{Says, says_no_lem, granted, denied, holds, reworded, lt_says, every-says}
use Rattle.paper.specs.Map.{link_from, link_to}
use Rattle.paper.specs.Area.{order_of}
use Rattle.paper.specs.Order.{place_in}
use Rattle.paper.specs.Accepted.{GoesBefore}
use Rattle.order_theory.proofs.Refusals.{sound}
use Rattle.stepmap.proofs.Known.{has-link}
use Rattle.tables.specs.declared.Layout.{Layout}
use Rattle.acceptance.specs.Places.{EachOnce, KeptUpto, Linking}
use Rattle.acceptance.specs.Testable.{Testable, Ordered}
use Rattle.acceptance.proofs.Known.{told}
use Rattle.acceptance.proofs.Places.{place_is}
use Rattle.agreement.proofs.Reading.{order_is}

module _ {b a : List ℕ} {at : Layout} (ready : Testable b a at) where
  -- the order as it is lent
  abbrev lent : List ℕ
  lent = part a at.order (at.order + at.sizes.nodes - at.order)

  lent_is : lent ≡ order_of b a
  lent_is = ap (part a at.order) (just at.order at.sizes.nodes) ∙ sym (order_is ready.placed a ready.read.nodes)
    where
      just : (o m : ℕ) → o + m - o ≡ m
      just o m = omega arith

  pub lent_long : length lent ≡ at.sizes.nodes
  lent_long = length_part a at.order (at.order + at.sizes.nodes - at.order) (omega (arith, ready.room)) ∙ omega arith

  from-known : (k : ℕ) → k < at.sizes.links → link_from b k < at.sizes.nodes
  from-known k h = omega (arith, (sound b ready.links).source k (omega (arith, ready.read.links)), ready.read.nodes)

  to-known : (k : ℕ) → k < at.sizes.links → link_to b k < at.sizes.nodes
  to-known k h = omega (arith, (sound b ready.links).target k (omega (arith, ready.read.links)), ready.read.nodes)

  pub linking : {places : List ℕ} → length places ≡ 512 → Linking b at.sizes places
  linking long =
      record {
        link = λ k h. has-link ready.read h;
        from = λ k h. omega (arith, from-known k h, long, ready.read.few-nodes);
        to = λ k h. omega (arith, to-known k h, long, ready.read.few-nodes);
      }

  once_is : Ordered b a → EachOnce lent
  once_is o v h = ap (times v) lent_is ∙ o.each_once v (omega (arith, lent_long, ready.read.nodes))

  pub not_once : {r : Bool} → Says r (EachOnce lent) → not r ≡ true → Says false (Ordered b a)
  not_once said e = says_no_lem (λ o. denied said e (once_is o))

  module _ {r : Bool} (said : Says r (EachOnce lent)) (good : not r ≡ false) {places : List ℕ} (kept : T r → KeptUpto lent (length lent) places) where
    place : {v : ℕ} → v < at.sizes.nodes → place_in (order_of b a) v ≡ Found.at (get_or places v 0)
    place {v} h =
        ap (λ (xs : List ℕ). place_in xs v) (sym lent_is) ∙ place_is (kept (holds r good)) (granted said good) (omega (arith, lent_long))

    pub ordered : {q : Bool} → q ≡ all (λ k. ltb (get_or places (link_from b k) 0) (get_or places (link_to b k) 0)) (upto at.sizes.links) → Says q (Ordered b a)
    ordered e =
        reworded
        (λ ahead. record {
          each_once = λ v h. ap (times v) (sym lent_is) ∙ granted said good v (omega (arith, lent_long, ready.read.nodes));
          forward = λ k h. let hl : k < at.sizes.links = omega (arith, ready.read.links) in back k hl (ahead k hl);
        })
        (λ o k h. to k h (o.forward k (omega (arith, ready.read.links))))
        (told (every-says (λ k. lt_says (get_or places (link_from b k) 0) (get_or places (link_to b k) 0)) at.sizes.links) e)
      where
        back : (k : ℕ) → k < at.sizes.links → get_or places (link_from b k) 0 < get_or places (link_to b k) 0
            → GoesBefore (place_in (order_of b a) (link_from b k)) (place_in (order_of b a) (link_to b k))
        back k h lt = rw (place (from-known k h), place (to-known k h)) lt

        to : (k : ℕ) → k < at.sizes.links → GoesBefore (place_in (order_of b a) (link_from b k)) (place_in (order_of b a) (link_to b k))
            → get_or places (link_from b k) 0 < get_or places (link_to b k) 0
        to k h g = rw (place (from-known k h), place (to-known k h)) at g
