-- The list marked one by one.
-- Rests on walk_theory.Join and lists.Sections.
use Prim.Native.Nat.{ℕ, ◌+◌, ◌≤◌, ◌<◌}
use native.Mathlib.Decide.{ℕ_discrete}
use native.Mathlib.Numerals.{add-one}
use native.Mathlib.Omega.{arith}
use mathlib.Core.Path.{◌≡◌, sym, ap, ◌∙◌, subst}
use mathlib.Core.Logic.{inl}
use mathlib.Core.Bool.{◌||◌, or-true, or-false}
use mathlib.Core.List.{List, [], ◌∷◌, ◌++◌}
use lib.ListN.{length, get_or, set, replicate, length-replicate}
use lib.Seq.{sets, get_or-set_same, get_or-set_other}
use lib.Dec.{eqb}
use borrow.Author.Tests.{eq-eqb, ne_eqb}
use Rattle.lists.specs.Lists.{one, member}
use Rattle.lists.proofs.Sections.{part, length_part, get_d_part, get_or-sets_in, part-suc, part_same}
use Rattle.lists.proofs.Upto.{at_the_end, get_or-zeros}
use Rattle.walk_theory.specs.Joined.{Joined}
use Rattle.walk_theory.proofs.Join.{member_snoc}
use Rattle.walk_theory.proofs.Joined.{joined-known}
use Rattle.tables.specs.Within.{Within}
use Rattle.tables.proofs.Within.{within_none, within_both, within-set, within-sets, within_wider}
use Rattle.distances.specs.declared.queue.Queue.{Queue}
use Rattle.distances.specs.Met.{met_size, Listed, ListMarked}

-- the first i nodes of the queue are marked, and every distance is 0
pub record Marking (a : List ℕ) (queue : Queue) (i : ℕ) (m : List ℕ) : Type 0 where
  pub marks : (u : ℕ) → u < queue.nodes → get_or m (queue.start + queue.nodes + u) 0 ≡ one (member u (part a queue.start i))
  pub near : (u : ℕ) → u < queue.nodes → get_or m (queue.start + queue.nodes + queue.nodes + u) 0 ≡ 0
  pub kept : Within (queue.start + queue.nodes) (queue.nodes + queue.nodes) a m

-- the words of the queue stand
list-stands : {a m : List ℕ} (queue : Queue) (i : ℕ) → queue.start + met_size queue.nodes ≤ length a → i ≤ queue.nodes → Within (queue.start + queue.nodes) (queue.nodes + queue.nodes) a m
    → part m queue.start i ≡ part a queue.start i
list-stands {a} {m} queue i fits few kept =
    part_same m a queue.start i 0 kept.long (omega arith) (λ j h. kept.same (queue.start + j) (inl (omega arith)))

module _ {a : List ℕ} {queue : Queue} {count : ℕ} (l : Listed a queue count) {o : List ℕ} (filled : o ≡ sets a (queue.start + queue.nodes) (replicate (queue.nodes + queue.nodes) 0)) where
  filled-kept : Within (queue.start + queue.nodes) (queue.nodes + queue.nodes) a o
  filled-kept =
      subst (Within (queue.start + queue.nodes) (queue.nodes + queue.nodes) a) (sym filled)
      (within-sets within_none (queue.start + queue.nodes) (replicate (queue.nodes + queue.nodes) 0) (omega arith) (omega (arith, length-replicate {A = ℕ} (queue.nodes + queue.nodes) 0)))

  -- the list stands as it stood
  pub still_listed : Listed o queue count
  still_listed =
      record {
        fits = omega (arith, filled-kept.long, l.fits);
        small = l.small;
        few = l.few;
        nodes = subst (Joined queue.nodes) (sym (list-stands queue count l.fits l.few filled-kept)) l.nodes;
      }

  zero_at : (j : ℕ) → j < queue.nodes + queue.nodes → get_or o (queue.start + queue.nodes + j) 0 ≡ 0
  zero_at j h =
      ap (λ (xs : List ℕ). get_or xs (queue.start + queue.nodes + j) 0) filled
      ∙ get_or-sets_in a (queue.start + queue.nodes) (replicate (queue.nodes + queue.nodes) 0) j 0 (omega (arith, length-replicate {A = ℕ} (queue.nodes + queue.nodes) 0))
      (omega (arith, length-replicate {A = ℕ} (queue.nodes + queue.nodes) 0, l.fits))
      ∙ get_or-zeros (queue.nodes + queue.nodes) j

  pub marking_starts : Marking o queue 0 o
  marking_starts =
      record {
        marks = λ u h. zero_at u (omega arith);
        near = λ u h. ap (λ (j : ℕ). get_or o j 0) (second queue u) ∙ zero_at (queue.nodes + u) (omega arith);
        kept = within_none;
      }
    where
      second : (queue : Queue) (u : ℕ) → queue.start + queue.nodes + queue.nodes + u ≡ queue.start + queue.nodes + (queue.nodes + u)
      second queue u = omega arith

  pub list-marked : {m : List ℕ} {i : ℕ} → i ≤ count → count ≤ i → Marking o queue i m → ListMarked a queue count m
  list-marked {m} {i} low high g =
      record {
        met =
            record {
              fits = omega (arith, kept.long, l.fits);
              small = l.small;
              few = l.few;
              nodes = subst (Joined queue.nodes) (sym same) l.nodes;
              marks = λ u h.
                  g.marks u h
                  ∙ ap (λ (xs : List ℕ). one (member u xs))
                  (at_the_end (part o queue.start) low high ∙ list-stands queue count l.fits l.few filled-kept ∙ sym same);
            };
        list = same;
        near = g.near;
        kept = within_wider kept queue.start (met_size queue.nodes) (omega arith) (omega arith);
      }
    where
      kept : Within (queue.start + queue.nodes) (queue.nodes + queue.nodes) a m
      kept = within_both filled-kept g.kept

      same : part m queue.start count ≡ part a queue.start count
      same = list-stands queue count l.fits l.few kept

module _ {o : List ℕ} {queue : Queue} {count : ℕ} (l : Listed o queue count) {i : ℕ} (h : i < count) {m : List ℕ} (g : Marking o queue i m) where
  pub listed-inside : queue.start + i < length m
  listed-inside = omega (arith, l.fits, l.few, g.kept.long)

  module _ {v : ℕ} (read : v ≡ get_or m (queue.start + i) 0) where
    v_is : v ≡ get_or o (queue.start + i) 0
    v_is = read ∙ g.kept.same (queue.start + i) (inl (omega (arith, l.few)))

    listed-known : v < queue.nodes
    listed-known =
        omega (
          arith,
          v_is,
          get_d_part o queue.start count i 0 h,
          joined-known l.nodes i (omega (arith, length_part o queue.start count (omega (arith, l.fits, l.few)))),
        )

    pub mark-inside : queue.start + queue.nodes + v < length m
    mark-inside = omega (arith, listed-known, l.fits, g.kept.long)

    pub marking_next : Marking o queue (i + 1) (set m (queue.start + queue.nodes + v) 1)
    marking_next =
        record {
          marks = λ u k. go u k (ℕ_discrete u v) ∙ ap one (sym (member_snoc u (part o queue.start i) v) ∙ ap (member u) (sym longer));
          near = λ u k. get_or-set_other m (queue.start + queue.nodes + v) (queue.start + queue.nodes + queue.nodes + u) 1 0 (λ e. omega (arith, listed-known)) ∙ g.near u k;
          kept = within-set g.kept (queue.start + queue.nodes + v) 1 (omega arith) (omega (arith, listed-known));
        }
      where
        longer : part o queue.start (i + 1) ≡ part o queue.start i ++ (v ∷ [])
        longer =
            ap (part o queue.start) (add-one i) ∙ part-suc o queue.start i 0 (omega (arith, l.fits, l.few))
            ∙ ap (λ (x : ℕ). part o queue.start i ++ (x ∷ [])) (sym v_is)

        go : (u : ℕ) → u < queue.nodes → Dec (u ≡ v) → get_or (set m (queue.start + queue.nodes + v) 1) (queue.start + queue.nodes + u) 0 ≡ one (member u (part o queue.start i) || eqb u v)
        go u k (yes e) = rw (eq-eqb u v e, or-true (member u (part o queue.start i)), e) (get_or-set_same m (queue.start + queue.nodes + v) 1 0 mark-inside)
        go u k (no ne) =
            rw (ne_eqb u v ne, or-false (member u (part o queue.start i)))
            (get_or-set_other m (queue.start + queue.nodes + v) (queue.start + queue.nodes + u) 1 0 (λ e. ne (omega arith)) ∙ g.marks u k)
