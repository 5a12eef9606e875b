-- A node joins the queue in the area as `join` says: marked and appended, or left out.
-- Rests on walk_theory (Join, Joined) and lists.Sections.
use Prim.Native.Nat.{ℕ, ◌+◌, ◌<◌}
use native.Mathlib.Decide.{ℕ_discrete}
use native.Mathlib.Numerals.{add-one}
use native.Mathlib.Omega.{arith}
use mathlib.Core.Path.{◌≡◌, refl, sym, ap, ◌∙◌, subst}
use mathlib.Core.Logic.{inl}
use mathlib.Core.Bool.{Bool, true, false, ◌||◌, or-true, or-false}
use mathlib.Core.List.{List, [], ◌∷◌, ◌++◌}
use lib.ListN.{length, get_or, set, length-set}
use lib.Seq.{get_or-set_same, get_or-set_other}
use lib.Dec.{eqb}
use borrow.Author.Tests.{eq-eqb, ne_eqb}
use Rattle.lists.specs.Lists.{one, member}
use Rattle.lists.proofs.Sections.{part, length_part, part-set-last, part-sets-out}
use Rattle.walk_theory.specs.Marked.{join, join_all}
use Rattle.walk_theory.specs.Joined.{Joined}
use Rattle.walk_theory.proofs.Join.{join_old, join-new, member-join, join_all-append}
use Rattle.walk_theory.proofs.Joined.{join-joined, join-room}
use Rattle.tables.proofs.Within.{within_none, within_both, within-set}
use Rattle.walk.specs.Queue.{Queued, Grown}

-- ---- who joined, joined in turn

pub grown-none : {a : List ℕ} {queue n joined : ℕ} → Queued a queue n joined → Grown a queue n joined [] joined a
unfolding join_all
grown-none q = record { queued = q; whole = refl; kept = within_none }

pub grown_both : {a m o : List ℕ} {queue n joined grown more : ℕ} {us vs : List ℕ} → Grown a queue n joined us grown m → Grown m queue n grown vs more o
    → Grown a queue n joined (us ++ vs) more o
grown_both {a} {queue = queue} {joined = joined} {us = us} {vs = vs} g h =
    record {
      queued = h.queued;
      whole = h.whole ∙ ap (λ (xs : List ℕ). join_all xs vs) g.whole ∙ sym (join_all-append (part a queue joined) us vs);
      kept = within_both g.kept h.kept;
    }

-- ---- one node

module _ {a : List ℕ} {queue n joined v : ℕ} (q : Queued a queue n joined) (known : v < n) where
  abbrev here : List ℕ
  here = part a queue joined

  many : length here ≡ joined
  many = length_part a queue joined (omega (arith, q.fits, q.few))

  -- the mark says that it has joined
  pub join_again : (get_or a (queue + n + v) 0 ≡ 0 → ⊥) → Grown a queue n joined (v ∷ []) joined a
  unfolding join_all
  join_again marked =
      record { queued = q; whole = sym (join_old here v (old (member v here) (q.marks v known))); kept = within_none }
    where
      old : (t : Bool) → get_or a (queue + n + v) 0 ≡ one t → t ≡ true
      old true e = refl
      old false e = absurd (marked e)

  -- the mark says that it has not
  module _ (unmarked : get_or a (queue + n + v) 0 ≡ 0) where
    abbrev marked : List ℕ
    marked = set a (queue + n + v) 1

    abbrev after : List ℕ
    after = set marked (queue + joined) v

    fresh : member v here ≡ false
    fresh = new (member v here) (sym (q.marks v known) ∙ unmarked)
      where
        new : (t : Bool) → one t ≡ 0 → t ≡ false
        new true e = absurd (omega arith)
        new false e = refl

    pub join-fits : joined < n
    join-fits = omega (arith, join-room q.nodes v known fresh, many)

    long : length after ≡ length a
    long = length-set marked (queue + joined) v ∙ length-set a (queue + n + v) 1

    whole : part after queue (joined + 1) ≡ join here v
    whole =
        ap (part after queue) (add-one joined)
        ∙ part-set-last marked queue joined v (omega (arith, length-set a (queue + n + v) 1, q.fits, join-fits))
        ∙ ap (λ (xs : List ℕ). xs ++ (v ∷ []))
        (part-sets-out a (queue + n + v) (1 ∷ []) queue joined 0 (inl (omega (arith, join-fits))) (omega (arith, q.fits, join-fits)))
        ∙ sym (join-new here v fresh)

    marks : (u : ℕ) → u < n → get_or after (queue + n + u) 0 ≡ one (member u (join here v))
    marks u h =
        get_or-set_other marked (queue + joined) (queue + n + u) v 0 (λ e. omega (arith, join-fits)) ∙ go (ℕ_discrete u v)
        ∙ ap one (sym (member-join here v u))
      where
        go : Dec (u ≡ v) → get_or marked (queue + n + u) 0 ≡ one (member u here || eqb u v)
        go (yes e) = rw (eq-eqb u v e, or-true (member u here), e) (get_or-set_same a (queue + n + v) 1 0 (omega (arith, q.fits)))
        go (no ne) =
            rw (ne_eqb u v ne, or-false (member u here))
            (get_or-set_other a (queue + n + v) (queue + n + u) 1 0 (λ e. ne (omega arith)) ∙ q.marks u h)

    pub join-once : Grown a queue n joined (v ∷ []) (joined + 1) (set (set a (queue + n + v) 1) (queue + joined) v)
    unfolding join_all
    join-once =
        record {
          queued =
              record {
                fits = omega (arith, long, q.fits);
                small = q.small;
                few = omega (arith, join-fits);
                nodes = subst (Joined n) (sym whole) (join-joined q.nodes v known);
                marks = λ u h. marks u h ∙ ap (λ (xs : List ℕ). one (member u xs)) (sym whole);
              };
          whole = whole;
          kept =
              within-set (within-set within_none (queue + n + v) 1 (omega arith) (omega arith)) (queue + joined) v (omega arith) (omega (arith, join-fits));
        }
