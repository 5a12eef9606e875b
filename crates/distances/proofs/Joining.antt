-- A node joins as `join` says: marked, its distance noted and appended, or left out; and what joins in turn joins together.
-- Rests on walk_theory (Join, Joined) and lists.Sections.
use Prim.Native.Nat.{ℕ, ◌+◌, ◌≤◌, ◌<◌}
use native.Mathlib.Decide.{ℕ_discrete}
use native.Mathlib.Numerals.{add-one}
use native.Mathlib.Omega.{arith}
use mathlib.Core.Path.{◌≡◌, refl, sym, ap, ap₂, ◌∙◌, subst}
use mathlib.Core.Logic.{inl}
use mathlib.Core.Bool.{Bool, true, false, ◌&&◌, ◌||◌, not, or-true, or-false, and-false, or_assoc}
use mathlib.Core.List.{List, [], ◌∷◌, ◌++◌}
use lib.ListN.{length, get_or, set, take, drop, length-set}
use lib.Seq.{get_or-set_same, get_or-set_other, take-take}
use lib.Dec.{eqb}
use borrow.Author.Tests.{eq-eqb, ne_eqb, eqb-true}
use Rattle.lists.specs.Lists.{one, member}
use Rattle.lists.proofs.Sections.{part, length_part, get_d_part, part-set-last, part-sets-out}
use Rattle.lists.proofs.Extends.{extends_length, extends_take}
use Rattle.walk_theory.specs.Marked.{join, join_all}
use Rattle.walk_theory.specs.Joined.{Joined}
use Rattle.walk_theory.proofs.Join.{join_old, join-new, member-join, join_all-append, join_all_extends}
use Rattle.walk_theory.proofs.Joined.{join-joined, join-room}
use Rattle.tables.proofs.Within.{within_none, within_both, within-set}
use Rattle.distances.specs.declared.queue.Queue.{Queue}
use Rattle.distances.specs.Met.{tells, Met, Joins}

-- ---- who is there when many have joined

pub member-append : (u : ℕ) (xs ys : List ℕ) → member u (xs ++ ys) ≡ (member u xs || member u ys)
member-append u [] ys = refl
member-append u (x ∷ xs) ys = ap (λ (t : Bool). eqb u x || t) (member-append u xs ys) ∙ sym (or_assoc (eqb u x) (member u xs) (member u ys))

pub member-join_all : (u : ℕ) (joined nodes : List ℕ) → member u (join_all joined nodes) ≡ (member u joined || member u nodes)
unfolding join_all
member-join_all u joined [] = sym (or-false (member u joined))
member-join_all u joined (x ∷ xs) =
    member-join_all u (join joined x) xs ∙ ap (λ (t : Bool). t || member u xs) (member-join joined x u)
    ∙ or_assoc (member u joined) (eqb u x) (member u xs)

-- ---- who joined, joined in turn

-- told before, or among the first or the later ones and not met before
later : (told first second met near : Bool)
    → ((told || ((first && not met) && near)) || ((second && not (met || first)) && near)) ≡ (told || (((first || second) && not met) && near))
later true first second met near = refl
later false first second true near = go first second
  where
    go : (s t : Bool) → (((s && false) && near) || ((t && false) && near)) ≡ (((s || t) && false) && near)
    go s t = rw (and-false s, and-false t, and-false (s || t))
later false true second false near = go second near
  where
    go : (t d : Bool) → (d || ((t && false) && d)) ≡ d
    go t d = rw (and-false t, or-false d)
later false false second false near = refl

pub joins-none : {a : List ℕ} {queue : Queue} {joined d : ℕ} → Met a queue joined → Joins a queue joined [] d joined a
unfolding join_all
joins-none {a} {queue} met =
    record { met = met; whole = refl; told = λ u e h. sym (or-false (tells a queue u e)); kept = within_none }

pub joins_both : {a m o : List ℕ} {queue : Queue} {joined grown more d : ℕ} {us vs : List ℕ} → Joins a queue joined us d grown m
    → Joins m queue grown vs d more o → Joins a queue joined (us ++ vs) d more o
joins_both {a} {m} {queue = queue} {joined = joined} {d = d} {us = us} {vs = vs} g h =
    record {
      met = h.met;
      whole = h.whole ∙ ap (λ (xs : List ℕ). join_all xs vs) g.whole ∙ sym (join_all-append (part a queue.start joined) us vs);
      told = λ u e l.
          h.told u e l
          ∙ ap₂ (λ (s t : Bool). s || ((member u vs && not t) && eqb d e)) (g.told u e l)
          (ap (member u) g.whole ∙ member-join_all u (part a queue.start joined) us)
          ∙ later (tells a queue u e) (member u us) (member u vs) (member u (part a queue.start joined)) (eqb d e)
          ∙ ap (λ (t : Bool). tells a queue u e || ((t && not (member u (part a queue.start joined))) && eqb d e)) (sym (member-append u us vs));
      kept = within_both g.kept h.kept;
    }

-- ---- one node

module _ {a : List ℕ} {queue : Queue} {joined v : ℕ} (q : Met a queue joined) (known : v < queue.nodes) where
  abbrev here : List ℕ
  here = part a queue.start joined

  many : length here ≡ joined
  many = length_part a queue.start joined (omega (arith, q.fits, q.few))

  -- the mark says that it was met
  pub join_again : (d : ℕ) → (get_or a (queue.start + queue.nodes + v) 0 ≡ 0 → ⊥) → Joins a queue joined (v ∷ []) d joined a
  unfolding join_all
  join_again d marked =
      record {
        met = q;
        whole = sym (join_old here v there);
        told = λ u e h. sym (ap (λ (t : Bool). tells a queue u e || (t && eqb d e)) (not_new u (eqb u v) refl) ∙ or-false (tells a queue u e));
        kept = within_none;
      }
    where
      old : (t : Bool) → get_or a (queue.start + queue.nodes + v) 0 ≡ one t → t ≡ true
      old true e = refl
      old false e = absurd (marked e)

      there : member v here ≡ true
      there = old (member v here) (q.marks v known)

      not_new : (u : ℕ) (t : Bool) → eqb u v ≡ t → ((t || false) && not (member u here)) ≡ false
      not_new u true e = ap (λ (w : ℕ). not (member w here)) (eqb-true u v e) ∙ ap not there
      not_new u false e = refl

  -- the mark says that it was not
  module _ (unmarked : get_or a (queue.start + queue.nodes + v) 0 ≡ 0) where
    fresh : member v here ≡ false
    fresh = new (member v here) (sym (q.marks v known) ∙ unmarked)
      where
        new : (t : Bool) → one t ≡ 0 → t ≡ false
        new true e = absurd (omega arith)
        new false e = refl

    pub join-fits : joined < queue.nodes
    join-fits = omega (arith, join-room q.nodes v known fresh, many)

    module _ (d : ℕ) where
      abbrev marked : List ℕ
      marked = set a (queue.start + queue.nodes + v) 1

      abbrev placed : List ℕ
      placed = set marked (queue.start + queue.nodes + queue.nodes + v) d

      abbrev after : List ℕ
      after = set placed (queue.start + joined) v

      long-placed : length placed ≡ length a
      long-placed = length-set marked (queue.start + queue.nodes + queue.nodes + v) d ∙ length-set a (queue.start + queue.nodes + v) 1

      pub long : length after ≡ length a
      long = length-set placed (queue.start + joined) v ∙ long-placed

      whole : part after queue.start (joined + 1) ≡ join here v
      whole =
          ap (part after queue.start) (add-one joined)
          ∙ part-set-last placed queue.start joined v (omega (arith, long-placed, q.fits, join-fits))
          ∙ ap (λ (xs : List ℕ). xs ++ (v ∷ []))
          (part-sets-out marked (queue.start + queue.nodes + queue.nodes + v) (d ∷ []) queue.start joined 0 (inl (omega (arith, join-fits)))
          (omega (arith, length-set a (queue.start + queue.nodes + v) 1, q.fits, join-fits))
          ∙ part-sets-out a (queue.start + queue.nodes + v) (1 ∷ []) queue.start joined 0 (inl (omega (arith, join-fits))) (omega (arith, q.fits, join-fits)))
          ∙ sym (join-new here v fresh)

      -- its own mark and distance
      own-mark : get_or after (queue.start + queue.nodes + v) 0 ≡ 1
      own-mark =
          get_or-set_other placed (queue.start + joined) (queue.start + queue.nodes + v) v 0 (λ e. omega (arith, join-fits))
          ∙ get_or-set_other marked (queue.start + queue.nodes + queue.nodes + v) (queue.start + queue.nodes + v) d 0 (λ e. omega (arith, known))
          ∙ get_or-set_same a (queue.start + queue.nodes + v) 1 0 (omega (arith, q.fits))

      own-distance : get_or after (queue.start + queue.nodes + queue.nodes + v) 0 ≡ d
      own-distance =
          get_or-set_other placed (queue.start + joined) (queue.start + queue.nodes + queue.nodes + v) v 0 (λ e. omega (arith, join-fits))
          ∙ get_or-set_same marked (queue.start + queue.nodes + queue.nodes + v) d 0 (omega (arith, length-set a (queue.start + queue.nodes + v) 1, q.fits))

      -- those of another node
      module _ (u : ℕ) (h : u < queue.nodes) (ne : u ≡ v → ⊥) where
        other_mark : get_or after (queue.start + queue.nodes + u) 0 ≡ get_or a (queue.start + queue.nodes + u) 0
        other_mark =
            get_or-set_other placed (queue.start + joined) (queue.start + queue.nodes + u) v 0 (λ e. omega (arith, join-fits))
            ∙ get_or-set_other marked (queue.start + queue.nodes + queue.nodes + v) (queue.start + queue.nodes + u) d 0 (λ e. omega arith)
            ∙ get_or-set_other a (queue.start + queue.nodes + v) (queue.start + queue.nodes + u) 1 0 (λ e. ne (omega arith))

        other_distance : get_or after (queue.start + queue.nodes + queue.nodes + u) 0 ≡ get_or a (queue.start + queue.nodes + queue.nodes + u) 0
        other_distance =
            get_or-set_other placed (queue.start + joined) (queue.start + queue.nodes + queue.nodes + u) v 0 (λ e. omega (arith, join-fits))
            ∙ get_or-set_other marked (queue.start + queue.nodes + queue.nodes + v) (queue.start + queue.nodes + queue.nodes + u) d 0 (λ e. ne (omega arith))
            ∙ get_or-set_other a (queue.start + queue.nodes + v) (queue.start + queue.nodes + queue.nodes + u) 1 0 (λ e. omega arith)

      marks : (u : ℕ) → u < queue.nodes → get_or after (queue.start + queue.nodes + u) 0 ≡ one (member u (join here v))
      marks u h = go (ℕ_discrete u v) ∙ ap one (sym (member-join here v u))
        where
          go : Dec (u ≡ v) → get_or after (queue.start + queue.nodes + u) 0 ≡ one (member u here || eqb u v)
          go (yes e) = rw (eq-eqb u v e, or-true (member u here), e) own-mark
          go (no ne) = rw (ne_eqb u v ne, or-false (member u here)) (other_mark u h ne ∙ q.marks u h)

      told : (u e : ℕ) → u < queue.nodes → tells after queue u e ≡ (tells a queue u e || (((eqb u v || false) && not (member u here)) && eqb d e))
      unfolding tells
      told u e h = go (ℕ_discrete u v)
        where
          go : Dec (u ≡ v) → tells after queue u e ≡ (tells a queue u e || (((eqb u v || false) && not (member u here)) && eqb d e))
          go (yes same) = rw (eq-eqb u v same, same, own-mark, own-distance, unmarked, fresh)
          go (no ne) = rw (ne_eqb u v ne, other_mark u h ne, other_distance u h ne) (sym (or-false (tells a queue u e)))

      pub join-once : Joins a queue joined (v ∷ []) d (joined + 1)
          (set (set (set a (queue.start + queue.nodes + v) 1) (queue.start + queue.nodes + queue.nodes + v) d) (queue.start + joined) v)
      unfolding join_all
      join-once =
          record {
            met =
                record {
                  fits = omega (arith, long, q.fits);
                  small = q.small;
                  few = omega (arith, join-fits);
                  nodes = subst (Joined queue.nodes) (sym whole) (join-joined q.nodes v known);
                  marks = λ u h. marks u h ∙ ap (λ (xs : List ℕ). one (member u xs)) (sym whole);
                };
            whole = whole;
            told = told;
            kept =
                within-set
                (within-set (within-set within_none (queue.start + queue.nodes + v) 1 (omega arith) (omega arith)) (queue.start + queue.nodes + queue.nodes + v) d (omega arith) (omega arith))
                (queue.start + joined) v (omega arith) (omega (arith, join-fits));
          }

-- ---- what stands before stays

module _ {a : List ℕ} {queue : Queue} {joined d grown : ℕ} {nodes m : List ℕ} (before : Met a queue joined) (j : Joins a queue joined nodes d grown m) where
  long-before : length (part a queue.start joined) ≡ joined
  long-before = length_part a queue.start joined (omega (arith, before.fits, before.few))

  pub joins_rise : joined ≤ grown
  joins_rise =
      omega (
        arith,
        long-before,
        length_part m queue.start grown (omega (arith, j.met.fits, j.met.few)),
        ap length j.whole,
        extends_length (join_all_extends (part a queue.start joined) nodes),
      )

  -- the first places
  pub joins-keep : (k : ℕ) → k ≤ joined → part m queue.start k ≡ part a queue.start k
  joins-keep k h =
      sym (take-take k grown (drop queue.start m) (omega (arith, joins_rise))) ∙ ap (take k) j.whole
      ∙ extends_take (join_all_extends (part a queue.start joined) nodes) k (omega (arith, long-before))
      ∙ take-take k joined (drop queue.start a) h

  pub joins_stand : (t : ℕ) → t < joined → get_or m (queue.start + t) 0 ≡ get_or a (queue.start + t) 0
  joins_stand t h =
      sym (get_d_part m queue.start joined t 0 h) ∙ ap (λ (xs : List ℕ). get_or xs t 0) (joins-keep joined (omega arith))
      ∙ get_d_part a queue.start joined t 0 h

pub joins_as : {a m : List ℕ} {queue : Queue} {joined d grown : ℕ} {us vs : List ℕ} → us ≡ vs → Joins a queue joined us d grown m
    → Joins a queue joined vs d grown m
joins_as {a} {m} {queue} {joined} {d} {grown} e j = subst (λ (us : List ℕ). Joins a queue joined us d grown m) e j
