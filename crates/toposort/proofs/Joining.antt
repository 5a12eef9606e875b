-- The start of the queue, node by node: node v joins where its counter is 0, and the counters stand as they stood.
-- Rests on lists.Sections, lists.Upto and lists.Count.
use Prim.Native.Nat.{ℕ, zero, suc, ◌+◌, ◌≤◌, ◌<◌}
use native.Mathlib.Omega.{arith}
use native.Mathlib.Numerals.{add-one}
use mathlib.Core.Path.{◌≡◌, sym, ap, ◌∙◌}
use mathlib.Core.Logic.{inr}
use mathlib.Core.Bool.{Bool, true, false, cond}
use mathlib.Core.List.{List, [], ◌∷◌, ◌++◌, append-nil}
use lib.ListN.{length, get_or, set, length-append}
use lib.Seq.{sets, length-sets}
use lib.Dec.{eqb}
use borrow.Author.Tests.{eq-eqb, ne_eqb}
use Rattle.lists.specs.Lists.{upto, one, keep}
use Rattle.lists.proofs.Sections.{sets_snoc, get_or-sets-out}
use Rattle.lists.proofs.Upto.{upto-suc, keep_append}
use Rattle.lists.proofs.Count.{one-small}
use Rattle.toposort.specs.Queue.{Counters, Joining, zero_counters}

-- ---- one node

-- `joined` nodes stand from `order` on, and v joins them where x is k
abbrev pub Joins : List ℕ → ℕ → ℕ → ℕ → ℕ → ℕ → ℕ → List ℕ → Type 0
Joins a order joined v x k r area =
    (r ≡ joined + one (eqb x k)) × (area ≡ cond (eqb x k) (set a (order + joined) v) a)

module _ (a : List ℕ) (order joined v : ℕ) {x k : ℕ} where
  pub joins : x ≡ k → Joins a order joined v x k (joined + 1) (set a (order + joined) v)
  joins e = (rw (eq-eqb x k e), rw (eq-eqb x k e))

  pub waits : (x ≡ k → ⊥) → Joins a order joined v x k joined a
  waits ne = (rw (ne_eqb x k ne) (omega arith), rw (ne_eqb x k ne))

-- ---- all nodes

one_more : (a : List ℕ) (counts v : ℕ)
    → zero_counters a counts (suc v) ≡ zero_counters a counts v ++ cond (eqb (get_or a (counts + v) 0) 0) (v ∷ []) []
unfolding zero_counters
one_more a counts v =
    ap (keep (λ u. eqb (get_or a (counts + u) 0) 0)) (upto-suc v) ∙ keep_append (λ u. eqb (get_or a (counts + u) 0) 0) (upto v) (v ∷ [])

length_more : (us : List ℕ) (v : ℕ) (t : Bool) → length (us ++ cond t (v ∷ []) []) ≡ length us + one t
length_more us v true = length-append us (v ∷ [])
length_more us v false = ap length (append-nil us) ∙ omega arith

sets_more : (a : List ℕ) (order : ℕ) (us : List ℕ) (v : ℕ) (t : Bool)
    → cond t (set (sets a order us) (order + length us) v) (sets a order us) ≡ sets a order (us ++ cond t (v ∷ []) [])
sets_more a order us v true = sym (sets_snoc a order us v)
sets_more a order us v false = ap (sets a order) (sym (append-nil us))

-- no more nodes join than there are
few : (a : List ℕ) (counts v : ℕ) → length (zero_counters a counts v) ≤ v
unfolding zero_counters
few a counts zero = omega arith
few a counts (suc v) =
    omega (
      arith,
      ap length (one_more a counts v),
      length_more (zero_counters a counts v) v (eqb (get_or a (counts + v) 0) 0),
      one-small (eqb (get_or a (counts + v) 0) 0),
      few a counts v,
    )

-- before node v the area is `area`, and `joined` nodes stand in the queue
module _ {a : List ℕ} {order counts n : ℕ} (ready : Counters a order counts n) {area : List ℕ} {v joined : ℕ} (v<n : v < n)
    (many : joined ≡ length (zero_counters a counts v)) (now : area ≡ sets a order (zero_counters a counts v)) where
  pub may_join : Joining area order counts joined v
  may_join = record {
    room = omega (arith, few a counts v, ready.apart);
    fits = omega (arith, ap length now, length-sets a order (zero_counters a counts v), ready.fits);
    small = omega (arith, ready.small);
  }

  counter_stands : get_or area (counts + v) 0 ≡ get_or a (counts + v) 0
  counter_stands =
      ap (λ (m : List ℕ). get_or m (counts + v) 0) now
      ∙ get_or-sets-out a order (zero_counters a counts v) (counts + v) 0 (inr (omega (arith, few a counts v, ready.apart)))

  module _ {r : ℕ} {next : List ℕ} (turn : Joins area order joined v (get_or area (counts + v) 0) 0 r next) where
    pub many-next : r ≡ length (zero_counters a counts (v + 1))
    many-next =
        turn.0 ∙ ap (λ (x : ℕ). joined + one (eqb x 0)) counter_stands
        ∙ ap (λ (m : ℕ). m + one (eqb (get_or a (counts + v) 0) 0)) many
        ∙ sym (length_more (zero_counters a counts v) v (eqb (get_or a (counts + v) 0) 0))
        ∙ ap length (sym (one_more a counts v))
        ∙ ap (λ (m : ℕ). length (zero_counters a counts m)) (sym (add-one v))

    pub area-next : next ≡ sets a order (zero_counters a counts (v + 1))
    area-next =
        turn.1 ∙ ap (λ (x : ℕ). cond (eqb x 0) (set area (order + joined) v) area) counter_stands
        ∙ ap (λ (m : ℕ). cond (eqb (get_or a (counts + v) 0) 0) (set area (order + m) v) area) many
        ∙ ap (λ (m : List ℕ). cond (eqb (get_or a (counts + v) 0) 0) (set m (order + length (zero_counters a counts v)) v) m) now
        ∙ sets_more a order (zero_counters a counts v) v (eqb (get_or a (counts + v) 0) 0)
        ∙ ap (sets a order) (sym (one_more a counts v))
        ∙ ap (λ (m : ℕ). sets a order (zero_counters a counts m)) (sym (add-one v))
