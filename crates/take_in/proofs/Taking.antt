-- One node more: its mark tells whether it was taken before; taken, it stands after the others, and there was room for it.
-- Rests on lists' Sections, Count and Compare, and tables' Within.
use Prim.Native.Nat.{ℕ, suc, ◌+◌, ◌*◌, ◌≤◌, ◌<◌}
use native.Mathlib.Decide.{ℕ_discrete}
use native.Mathlib.Numerals.{add-one}
use native.Mathlib.Omega.{arith}
use mathlib.Core.Path.{◌≡◌, refl, sym, ap, ◌∙◌, subst}
use mathlib.Core.Logic.{inl}
use mathlib.Core.Bool.{true, false, true≢false}
use mathlib.Core.List.{List, [], ◌∷◌, ◌++◌}
use lib.Dec.{eqb}
use lib.ListN.{length, get_or, set, replicate, length-set, length-replicate}
use lib.Seq.{sets, length-sets, get_or-set_same, get_or-set_other}
use Rattle.lists.specs.Lists.{one, times}
use Rattle.lists.proofs.Count.{one_eq, one_ne}
use Rattle.lists.proofs.Compare.{below_more, once_more, fits}
use Rattle.lists.proofs.Members.{member_yes, member_no}
use Rattle.lists.proofs.Sections.{part, length_part, part-sets-out, part-set-last, get_or-sets_in}
use Rattle.lists.proofs.Upto.{count-append, get_or-zeros}
use Rattle.tables.specs.Within.{Within}
use Rattle.tables.proofs.Within.{within_none, within-set, within-sets}
use Rattle.take_in.specs.Taking.{Taking, Took}

-- no node is taken where the marks are 0
pub nothing_taken : (a : List ℕ) (n at : ℕ) {m : List ℕ} → at + 2 * n ≤ length a → m ≡ sets a (at + n) (replicate n 0) → Taking n at 0 m
nothing_taken a n at room e =
    record {
      fits = omega (arith, ap length e, length-sets a (at + n) (replicate n 0));
      few = omega arith;
      below = λ k h. refl;
      once = λ x. omega arith;
      mark =
          λ x h. ap (λ (l : List ℕ). get_or l (at + n + x) 0) e
          ∙ get_or-sets_in a (at + n) (replicate n 0) x 0 (omega (arith, length-replicate {A = ℕ} n 0)) (omega (arith, length-replicate {A = ℕ} n 0))
          ∙ get_or-zeros n x;
    }

pub marks-cleared : (a : List ℕ) (n at : ℕ) {m : List ℕ} → m ≡ sets a (at + n) (replicate n 0) → Within at (2 * n) a m
marks-cleared a n at e =
    subst (Within at (2 * n) a) (sym e) (within-sets within_none (at + n) (replicate n 0) (omega arith) (omega (arith, length-replicate {A = ℕ} n 0)))

module _ {n at taken v : ℕ} {a : List ℕ} (t : Taking n at taken a) (known : v < n) where
  -- a mark that is set
  pub was_taken : {w : ℕ} → w ≡ v → get_or a (at + n + w) 0 ≡ 1 → Took n at taken v a false a
  was_taken e set =
      record {
        said = sym (member_yes v (part a at taken) (omega (arith, t.mark v known, ap (λ (x : ℕ). get_or a (at + n + x) 0) e)));
        taking = λ h. absurd (true≢false (sym h));
        stands = λ h. absurd (true≢false (sym h));
        kept = within_none;
      }

  -- .. and one that is not
  module _ {w : ℕ} (is : w ≡ v) (clear : get_or a (at + n + w) 0 ≡ 1 → ⊥) where
    new : times v (part a at taken) ≡ 0
    new = none (get_or a (at + n + w) 0) clear (ap (λ (x : ℕ). get_or a (at + n + x) 0) is ∙ t.mark v known) (t.once v)
      where
        none : (w : ℕ) → (w ≡ 1 → ⊥) → w ≡ times v (part a at taken) → times v (part a at taken) ≤ 1 → times v (part a at taken) ≡ 0
        none w ne e le = omega arith

    -- n distinct nodes leave no new one, so there is room for it
    room : taken < n
    room =
        omega (
          arith,
          fits n (v ∷ part a at taken) (below_more v n (part a at taken) known t.below) (once_more v (part a at taken) new t.once),
          length_part a at taken (omega (arith, t.fits, t.few)),
        )

    after : List ℕ
    after = set (set a (at + taken) v) (at + n + w) 1

    stored : part after at (taken + 1) ≡ part a at taken ++ (v ∷ [])
    unfolding after
    stored =
        ap (part after at) (add-one taken)
        ∙ part-sets-out (set a (at + taken) v) (at + n + w) (1 ∷ []) at (suc taken) 0 (inl (omega (arith, room))) (omega (arith, room, t.fits, length-set a (at + taken) v))
        ∙ part-set-last a at taken v (omega (arith, room, t.fits))

    times-after : (x : ℕ) → times x (part after at (taken + 1)) ≡ times x (part a at taken) + one (eqb x v)
    times-after x = omega (arith, ap (times x) stored, count-append (eqb x) (part a at taken) (v ∷ []))

    marks : (x : ℕ) → x < n → Dec (x ≡ v) → get_or after (at + n + x) 0 ≡ times x (part after at (taken + 1))
    unfolding after
    marks x h (yes e) =
        ap (λ (y : ℕ). get_or after (at + n + y) 0) (e ∙ sym is)
        ∙ get_or-set_same (set a (at + taken) v) (at + n + w) 1 0 (omega (arith, t.fits, length-set a (at + taken) v))
        ∙ omega (arith, times-after x, one_eq x v e, new, ap (λ (y : ℕ). times y (part a at taken)) e)
    marks x h (no ne) =
        get_or-set_other (set a (at + taken) v) (at + n + w) (at + n + x) 1 0 (λ e. ne (omega arith))
        ∙ get_or-set_other a (at + taken) (at + n + x) v 0 (λ e. omega (arith, room))
        ∙ omega (arith, t.mark x h, times-after x, one_ne x v ne)

    pub now_taken : Took n at taken v a true (set (set a (at + taken) v) (at + n + w) 1)
    unfolding after
    now_taken =
        record {
          said = sym (member_no v (part a at taken) new);
          taking = λ h. record {
            fits = omega (arith, t.fits, length-set a (at + taken) v, length-set (set a (at + taken) v) (at + n + w) 1);
            few = omega (arith, room);
            below = λ k le. omega (arith, times-after k, t.below k le, one_ne k v (λ e. omega arith));
            once = λ x. at_most x (ℕ_discrete x v);
            mark = λ x le. marks x le (ℕ_discrete x v);
          };
          stands = λ h. stored;
          kept =
              within-set (within-set within_none (at + taken) v (omega arith) (omega (arith, room))) (at + n + w) 1 (omega arith) (omega arith);
        }
      where
        at_most : (x : ℕ) → Dec (x ≡ v) → times x (part after at (taken + 1)) ≤ 1
        at_most x (yes e) = omega (arith, times-after x, one_eq x v e, new, ap (λ (y : ℕ). times y (part a at taken)) e)
        at_most x (no ne) = omega (arith, times-after x, t.once x, one_ne x v ne)
