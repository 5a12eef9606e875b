-- Nodes in records stand by position, then number; those of a list's intervals are the list's, each once.
-- Rests on Chosen (sorting) and Listed.
use Prim.Native.Nat.{ℕ, zero, suc, ◌≤◌, ◌<◌}
use native.Mathlib.Decide.{ℕ_discrete, dec_lt}
use native.Mathlib.Omega.{arith}
use borrow.Author.Tests.{leb-true, leb-false}
use mathlib.Core.Path.{◌≡◌, refl, sym, ap, ◌∙◌}
use mathlib.Core.Logic.{◌⊎◌, inl, inr}
use mathlib.Core.Bool.{Bool, true, false, cond}
use mathlib.Core.List.{List, [], ◌∷◌}
use lib.ListN.{length}
use lib.Dec.{leb}
use Rattle.lists.specs.Lists.{from, upto, one, keep, times, put, sort_by, In, Distinct}
use Rattle.lists.specs.Bounds.{Below}
use Rattle.lists.proofs.Count.{one_ne, one-is, one-small, cond_small, times-keep, times-keep-upto, times-keep_past, times-before}
use Rattle.lists.proofs.Members.{member_below, times-member}
use Rattle.lists.proofs.Places.{times_in, times_in_back, distinct-times}
use Rattle.paper.specs.Map.{N}
use Rattle.paper.specs.Area.{W, position}
use Rattle.paper.specs.Accepted.{Accepted}
use Rattle.paper.specs.Intervals.{Interval, records, intervals}
use Rattle.paper.specs.Records.{inside, nodes_in}
use Rattle.accepted_theory.specs.recorded.Ordered.{Before, Ordered}
use Rattle.accepted_theory.specs.recorded.Same.{NodesInside}
use Rattle.accepted_theory.proofs.recorded.Among.{there-times, times-there, distinct-few}
use Rattle.accepted_theory.proofs.recorded.Chosen.{times-put, times_sorted}
use Rattle.accepted_theory.proofs.recorded.Listed.{inside-listed}

-- ---- sorting numbers that rise

module _ (key : ℕ → ℕ) where
  in_put : (z x : ℕ) (ys : List ℕ) → In z (put key x ys) → (z ≡ x) ⊎ In z ys
  in_put z x ys m = go (ℕ_discrete z x)
    where
      go : Dec (z ≡ x) → (z ≡ x) ⊎ In z ys
      go (yes e) = inl e
      go (no ne) = inr (times_in_back z ys (omega (arith, times_in z (put key x ys) m, times-put key z x ys, one_ne z x ne)))

  -- a number below all others is put before those with the same key
  ordered-put : (x : ℕ) (ys : List ℕ) → Ordered key ys → ((y : ℕ) → In y ys → x < y) → Ordered key (put key x ys)
  ordered-put x [] o h = (λ v m. absurd m, tt)
  ordered-put x (y ∷ ys) o h = go (leb (key x) (key y)) refl (ordered-put x ys o.1 (λ z m. h z (inr m)))
    where
      above : key x ≤ key y → (z : ℕ) → In z (y ∷ ys) → key x ≤ key z
      above low z (inl e) = omega (arith, ap key e)
      above low z (inr m) = past (o.0 z m)
        where
          past : Before key y z → key x ≤ key z
          past (inl l) = omega arith
          past (inr l) = omega arith

      by_number : (z : ℕ) → key x ≤ key z → x < z → Dec (key x < key z) → Before key x z
      by_number z low less (yes l) = inl l
      by_number z low less (no l) = inr (omega arith, less)

      first : key x ≤ key y → (z : ℕ) → In z (y ∷ ys) → Before key x z
      first low z m = by_number z (above low z m) (h z m) (dec_lt (key x) (key z))

      later : key y < key x → (z : ℕ) → In z (put key x ys) → Before key y z
      later high z m = pick (in_put z x ys m)
        where
          pick : (z ≡ x) ⊎ In z ys → Before key y z
          pick (inl e) = inl (omega (arith, ap key e))
          pick (inr n) = o.0 z n

      go : (t : Bool) → leb (key x) (key y) ≡ t → Ordered key (put key x ys) → Ordered key (cond t (x ∷ (y ∷ ys)) (y ∷ put key x ys))
      go true e ih = (first (leb-true (key x) (key y) e), o)
      go false e ih = (later (leb-false (key x) (key y) e), ih)

  -- numbers in a row that pass a test
  ordered-kept : (f : ℕ → Bool) (n k : ℕ) → Ordered key (sort_by key (keep f (from n k)))
  ordered-kept f n zero = tt
  ordered-kept f n (suc k) = go (f n) (ordered-kept f (suc n) k)
    where
      rest : List ℕ
      rest = keep f (from (suc n) k)

      above : (y : ℕ) → In y (sort_by key rest) → n < y
      above y m = pick (dec_lt n y)
        where
          pick : Dec (n < y) → n < y
          pick (yes l) = l
          pick (no l) =
              absurd
              (omega (
                arith,
                times_in y (sort_by key rest) m,
                times_sorted key y rest,
                times-keep f y (from (suc n) k),
                cond_small (f y) (times y (from (suc n) k)),
                times-before y (suc n) k (omega arith),
              ))

      go : (t : Bool) → Ordered key (sort_by key rest) → Ordered key (sort_by key (cond t (n ∷ rest) rest))
      go true ih = ordered-put n (sort_by key rest) ih above
      go false ih = ih

-- "Nodes in records: by position, then number"
pub nodes-ordered : (b a : List ℕ) (rs : List Interval) → Ordered (position b a) (nodes_in b a rs)
unfolding nodes_in
nodes-ordered b a rs = ordered-kept (position b a) (inside b a rs) 0 (N b)

-- ---- which nodes they are

module _ (b a : List ℕ) (rs : List Interval) where
  -- once if it is inside
  pub times-nodes : (v : ℕ) → v < N b → times v (nodes_in b a rs) ≡ one (inside b a rs v)
  unfolding nodes_in
  times-nodes v h = times_sorted (position b a) v (keep (inside b a rs) (upto (N b))) ∙ times-keep-upto (inside b a rs) v (N b) h

  pub nodes-known : Below (N b) (nodes_in b a rs)
  unfolding nodes_in
  nodes-known v h = times_sorted (position b a) v (keep (inside b a rs) (upto (N b))) ∙ times-keep_past (inside b a rs) v (N b) h

  -- "each once"
  pub nodes-once : Distinct (nodes_in b a rs)
  nodes-once = distinct-times (nodes_in b a rs) (λ v. few v (dec_lt v (N b)))
    where
      few : (v : ℕ) → Dec (v < N b) → times v (nodes_in b a rs) ≤ 1
      few v (yes h) = omega (arith, times-nodes v h, one-small (inside b a rs v))
      few v (no h) = omega (arith, nodes-known v (omega arith))

  -- they are exactly the nodes inside
  pub nodes-inside : NodesInside b a rs (nodes_in b a rs)
  nodes-inside =
      record {
        listed = λ v h e. times-there v (nodes_in b a rs) (omega (arith, times-nodes v h, ap one e));
        known = λ v m. member_below nodes-known m;
        is_inside = λ v m. one-is (inside b a rs v)
            (omega (arith, there-times m, times-nodes v (member_below nodes-known m), one-small (inside b a rs v)));
      }

module _ {b a : List ℕ} (acc : Accepted b a) (room : W b ≤ length a) (list : List ℕ) {rs : List Interval} (found : intervals b a list ≡ records rs) where
  -- the nodes in the records of a list are the listed ones
  pub nodes-same : Distinct list → Below (N b) list → (v : ℕ) → times v (nodes_in b a rs) ≡ times v list
  nodes-same distinct known v = go (dec_lt v (N b))
    where
      go : Dec (v < N b) → times v (nodes_in b a rs) ≡ times v list
      go (yes h) = times-nodes b a rs v h ∙ ap one (inside-listed acc room list found v h) ∙ sym (times-member v list (distinct-few v list distinct))
      go (no h) = nodes-known b a rs v (omega arith) ∙ sym (known v (omega arith))
