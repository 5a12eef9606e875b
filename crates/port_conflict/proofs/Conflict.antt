-- The first-link rule of the definitions, link by link: ports conflict exactly if one link is the first of a listed output and has a listed
-- input at its other end. Rests on lists.First and accepted_theory.Among.
use Prim.Native.Nat.{ℕ, zero, suc, ◌<◌}
use native.Mathlib.Decide.{ℕ_discrete}
use mathlib.Core.Path.{◌≡◌, refl, sym, ap, ap₂, ◌∙◌}
use mathlib.Core.Logic.{◌⊎◌, inl, inr}
use mathlib.Core.Bool.{Bool, true, false, ◌&&◌, ◌||◌, cond, or-true, false≢true}
use mathlib.Core.List.{List, [], ◌∷◌, ◌++◌, map}
use lib.Dec.{eqb}
use borrow.Author.Tests.{eqb-true, eq-eqb, ne_eqb, not-true}
use Rattle.lists.specs.Lists.{upto, any, keep, member}
use Rattle.lists.specs.Found.{Found, absent, at, or_else, placed, first, front, is_at}
use Rattle.lists.proofs.AllAny.{any_true, any_false}
use Rattle.lists.proofs.First.{FirstOf, first_at, first-is}
use Rattle.lists.proofs.Upto.{upto-suc, keep_append}
use Rattle.paper.specs.Map.{L, source_port, target_port, port_links}
use Rattle.paper.specs.Ports.{other_end, first_other_end, conflict}
use Rattle.accepted_theory.proofs.recorded.Among.{same_truth, and_both, any_at, any_by, none_at, member_in, upto_at, upto-below}
use Rattle.port_conflict.specs.FirstLinks.{touches, unlinked, joined, meets}

-- ---- the head of a list of links

front-append : (xs ys : List ℕ) → front (xs ++ ys) ≡ or_else (front xs) (front ys)
front-append [] ys = refl
front-append (x ∷ xs) ys = refl

-- the head of those kept is the first that passes
front-keep : (f : ℕ → Bool) (n : ℕ) → front (keep f (upto n)) ≡ first f n
front-keep f zero = refl
front-keep f (suc n) =
    ap (λ (l : List ℕ). front (keep f l)) (upto-suc n) ∙ ap front (keep_append f (upto n) (n ∷ []))
    ∙ front-append (keep f (upto n)) (keep f (n ∷ []))
    ∙ ap₂ or_else (front-keep f n) (last (f n))
  where
    last : (t : Bool) → front (cond t (n ∷ []) []) ≡ placed t n
    last true = refl
    last false = refl

module _ (g : ℕ → ℕ) where
  front-map : (xs : List ℕ) (k : ℕ) → front xs ≡ at k → front (map g xs) ≡ at (g k)
  front-map [] k e = cc
  front-map (x ∷ xs) k e = cc

  front-map-none : (xs : List ℕ) → front xs ≡ absent → front (map g xs) ≡ absent
  front-map-none [] e = refl
  front-map-none (x ∷ xs) e = cc

-- ---- the first link of a port

module _ (b : List ℕ) (q : ℕ) where
  first-end : (k : ℕ) → first (touches b q) (L b) ≡ at k → first_other_end b q ≡ at (other_end b q k)
  unfolding first_other_end port_links
  first-end k e = front-map (other_end b q) (keep (touches b q) (upto (L b))) k (front-keep (touches b q) (L b) ∙ e)

  no_end : first (touches b q) (L b) ≡ absent → first_other_end b q ≡ absent
  unfolding first_other_end port_links
  no_end e = front-map-none (other_end b q) (keep (touches b q) (upto (L b))) (front-keep (touches b q) (L b) ∙ e)

  first-unlinked : {n k : ℕ} → FirstOf (touches b q) n k → unlinked b k q ≡ true
  unfolding unlinked
  first-unlinked {k = k} r = rw (any_false (touches b q) k r.fail)

  unlinked-first : (k : ℕ) → k < L b → touches b q k ≡ true → unlinked b k q ≡ true → first (touches b q) (L b) ≡ at k
  unfolding unlinked
  unlinked-first k known here free =
      first-is (touches b q) (L b) k
      (record {
        known = known;
        passes = here;
        fail = λ j h. none_at (touches b q) (not-true (any (touches b q) (upto k)) free) (upto_at j k h);
      })

-- ---- the two ends of a link

module _ (b : List ℕ) (k : ℕ) where
  pub at_source : (q : ℕ) → q ≡ source_port b k → touches b q k ≡ true
  at_source q e = rw (eq-eqb (source_port b k) q (sym e))

  pub at_target : (q : ℕ) → q ≡ target_port b k → touches b q k ≡ true
  at_target q e =
      ap (λ (t : Bool). eqb (source_port b k) q || t) (eq-eqb (target_port b k) q (sym e)) ∙ or-true (eqb (source_port b k) q)

  from-source : other_end b (source_port b k) k ≡ target_port b k
  unfolding other_end
  from-source = rw (eq-eqb (source_port b k) (source_port b k) refl)

  from-target : other_end b (target_port b k) k ≡ source_port b k
  unfolding other_end
  from-target = go (ℕ_discrete (source_port b k) (target_port b k))
    where
      go : Dec (source_port b k ≡ target_port b k)
          → cond (eqb (source_port b k) (target_port b k)) (target_port b k) (source_port b k) ≡ source_port b k
      go (yes e) = rw (eq-eqb (source_port b k) (target_port b k) e) (sym e)
      go (no ne) = rw (ne_eqb (source_port b k) (target_port b k) ne)

-- ---- a conflict and the link where it is met

or_either : (s t : Bool) → (s || t) ≡ true → (s ≡ true) ⊎ (t ≡ true)
or_either true t e = inl refl
or_either false t e = inr e

module _ (b inputs outputs : List ℕ) where
  abbrev is_input : ℕ → Bool
  is_input q = member q inputs

  abbrev is_output : ℕ → Bool
  is_output q = member q outputs

  -- the first link of listed output q, with listed input p at its other end
  met : (p q k : ℕ) → FirstOf (touches b q) (L b) k → other_end b q k ≡ p → is_input p ≡ true → is_output q ≡ true
      → meets b is_input is_output k ≡ true
  unfolding meets other_end
  met p q k r e Listed-in listed-out = go (eqb (source_port b k) q) refl r.passes e
    where
      free : unlinked b k q ≡ true
      free = first-unlinked b q r

      go : (t : Bool) → eqb (source_port b k) q ≡ t → (t || eqb (target_port b k) q) ≡ true → cond t (target_port b k) (source_port b k) ≡ p
          → joined is_input (λ o. is_output o && unlinked b k o) (source_port b k) (target_port b k) ≡ true
      go true s t e =
          rw (eqb-true (source_port b k) q s, e, listed-out, free, Listed-in)
      go false s t e =
          rw (eqb-true (target_port b k) q t, e, listed-out, free, Listed-in) (or-true (is_output p && unlinked b k p && is_input q))

  conflict-met : conflict b inputs outputs ≡ true → any (meets b is_input is_output) (upto (L b)) ≡ true
  unfolding conflict
  conflict-met e =
      let i = any_by (λ p. any (λ q. is_at p (first_other_end b q)) outputs) inputs e in
      let o = any_by (λ q. is_at i.which (first_other_end b q)) outputs i.passes in
      go i.which o.which (any_at (eqb i.which) i.there (eq-eqb i.which i.which refl))
      (any_at (eqb o.which) o.there (eq-eqb o.which o.which refl)) o.passes
      (first (touches b o.which) (L b)) refl
    where
      go : (p q : ℕ) → is_input p ≡ true → is_output q ≡ true → is_at p (first_other_end b q) ≡ true → (f : Found) → first (touches b q) (L b) ≡ f
          → any (meets b is_input is_output) (upto (L b)) ≡ true
      go p q Listed-in listed-out e absent none = absurd (false≢true (ap (is_at p) (sym (no_end b q none)) ∙ e))
      go p q Listed-in listed-out e (at k) there =
          let r = first_at (touches b q) (L b) k there in
          let end = eqb-true (other_end b q k) p (ap (is_at p) (sym (first-end b q k there)) ∙ e) in
          any_true (meets b is_input is_output) (L b) k r.known (met p q k r end Listed-in listed-out)

  -- a link at port q that is its first, with p at its other end
  conflicts : (p q k : ℕ) → k < L b → touches b q k ≡ true → other_end b q k ≡ p → (is_output q && unlinked b k q) ≡ true → is_input p ≡ true
      → conflict b inputs outputs ≡ true
  unfolding conflict
  conflicts p q k known here e free Listed-in =
      let out = and_both (is_output q) (unlinked b k q) free in
      let there = first-end b q k (unlinked-first b q k known here out.1) in
      any_at (λ p. any (λ q. is_at p (first_other_end b q)) outputs) (member_in p inputs Listed-in)
      (any_at (λ q. is_at p (first_other_end b q)) (member_in q outputs out.0) (ap (is_at p) there ∙ eq-eqb (other_end b q k) p e))

  at_link : (k : ℕ) → k < L b → meets b is_input is_output k ≡ true → conflict b inputs outputs ≡ true
  unfolding meets
  at_link k known m = go (or_either (opened s && is_input t) (opened t && is_input s) m)
    where
      s : ℕ
      s = source_port b k

      t : ℕ
      t = target_port b k

      opened : ℕ → Bool
      opened q = is_output q && unlinked b k q

      go : ((opened s && is_input t) ≡ true) ⊎ ((opened t && is_input s) ≡ true) → conflict b inputs outputs ≡ true
      go (inl e) =
          let both = and_both (opened s) (is_input t) e in
          conflicts t s k known (at_source b k s refl) (from-source b k) both.0 both.1
      go (inr e) =
          let both = and_both (opened t) (is_input s) e in
          conflicts s t k known (at_target b k t refl) (from-target b k) both.0 both.1

  met-conflict : any (meets b is_input is_output) (upto (L b)) ≡ true → conflict b inputs outputs ≡ true
  met-conflict e =
      let w = any_by (meets b is_input is_output) (upto (L b)) e in
      at_link w.which (upto-below w.which (L b) w.there) w.passes

  pub conflict_by_links : conflict b inputs outputs ≡ any (meets b (λ q. member q inputs) (λ q. member q outputs)) (upto (L b))
  conflict_by_links =
      same_truth (conflict b inputs outputs) (any (meets b is_input is_output) (upto (L b))) conflict-met met-conflict
