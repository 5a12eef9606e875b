-- The pass over a list of ports: after i entries none is unknown, and a port is marked exactly if it is one of them.
-- Rests on Written, lists.First and tables.Within.
use Prim.Native.Nat.{ℕ, ◌+◌, ◌≤◌, ◌<◌}
use native.Mathlib.Decide.{ℕ_discrete}
use native.Mathlib.Numerals.{add-one}
use native.Mathlib.Omega.{arith}
use mathlib.Core.Path.{◌≡◌, refl, sym, ap, ◌∙◌, subst}
use mathlib.Core.Bool.{Bool, true, false, not, ◌||◌, cond, or-true, or-false}
use mathlib.Core.List.{List, [], ◌∷◌, ◌++◌}
use lib.Dec.{eqb, leb}
use lib.ListN.{length, get_or, set, take, replicate, length-replicate}
use lib.Seq.{sets, take-suc, take_all}
use borrow.Author.Tests.{ltb-true, ltb-false, lt-leb, le-leb, eq-eqb, ne_eqb, not-false, not-true}
use Rattle.lists.specs.Lists.{member}
use Rattle.lists.specs.Found.{absent, at, first}
use Rattle.lists.proofs.First.{first-is, first_next, first_absent}
use Rattle.lists.proofs.Sections.{get_or-sets_in}
use Rattle.lists.proofs.Upto.{get_or-zeros, at_the_end}
use Rattle.paper.specs.Refusals.{passed, refusal, refuse, earliest}
use Rattle.refusals.proofs.Rulings.{no_refusal}
use Rattle.tables.specs.Within.{Within}
use Rattle.tables.proofs.Within.{within_none, within_both, within-set, within-sets}
use Rattle.walk_theory.proofs.Join.{member_snoc}
use Rattle.port_conflict.specs.Marks.{marked, PortMarked, ListMarked}
use Rattle.port_conflict.proofs.Written.{marked-here, marked_elsewhere}

-- what holds after i entries, a being the area before the first
pub record MarkedUpto (a m : List ℕ) (marks p : ℕ) (ports : List ℕ) (i : ℕ) : Type 0 where
  pub known : first (λ j. leb p (get_or ports j 0)) i ≡ absent
  pub kept : Within marks p a m
  pub stand : (q : ℕ) → q < p → marked m marks q ≡ member q (take i ports)

module _ (a : List ℕ) (marks p : ℕ) (room : marks + p ≤ length a) {filled : List ℕ} (blank : filled ≡ sets a marks (replicate p 0)) (ports : List ℕ) where
  blank-kept : Within marks p a filled
  blank-kept =
      subst (Within marks p a) (sym blank)
      (within-sets within_none marks (replicate p 0) (omega arith) (omega (arith, length-replicate {A = ℕ} p 0)))

  pub marking_starts : MarkedUpto filled filled marks p ports 0
  unfolding marked
  marking_starts =
      record {
        known = refl;
        kept = within_none;
        stand = λ q h. ap (λ (w : ℕ). eqb w 1)
            (ap (λ (l : List ℕ). get_or l (marks + q) 0) blank
            ∙ get_or-sets_in a marks (replicate p 0) q 0 (omega (arith, length-replicate {A = ℕ} p 0)) (omega (arith, length-replicate {A = ℕ} p 0))
            ∙ get_or-zeros p q);
      }

  module _ {m after : List ℕ} {i x : ℕ} {found : Bool} (so_far : MarkedUpto filled m marks p ports i) (more : i < length ports)
      (entry : x ≡ get_or ports i 0) (one : PortMarked m after marks p x found) where
    -- one entry more
    pub marking_next : not found ≡ false → MarkedUpto filled after marks p ports (i + 1)
    marking_next fine = subst (λ (l : List ℕ). MarkedUpto filled l marks p ports (i + 1)) (sym written)
        (record {
          known = first_next (λ j. leb p (get_or ports j 0)) i so_far.known (lt-leb p (get_or ports i 0) (omega (arith, below, entry)));
          kept = within-set so_far.kept (marks + x) 1 (omega arith) (omega (arith, below));
          stand = λ q h. stands q h (ℕ_discrete q x);
        }) where
          is_known : found ≡ true
          is_known = not-false found fine

          below : x < p
          below = ltb-true x p (sym one.says ∙ is_known)

          written : after ≡ set m (marks + x) 1
          written = one.left ∙ ap (λ (t : Bool). cond t (set m (marks + x) 1) m) is_known

          inside : marks + x < length m
          inside = omega (arith, below, so_far.kept.long, blank-kept.long)

          taken : take (i + 1) ports ≡ take i ports ++ (x ∷ [])
          taken = ap (λ (j : ℕ). take j ports) (add-one i) ∙ take-suc ports i 0 more ∙ ap (λ (y : ℕ). take i ports ++ (y ∷ [])) (sym entry)

          listed : (q : ℕ) → member q (take (i + 1) ports) ≡ (member q (take i ports) || eqb q x)
          listed q = ap (member q) taken ∙ member_snoc q (take i ports) x

          stands : (q : ℕ) → q < p → Dec (q ≡ x) → marked (set m (marks + x) 1) marks q ≡ member q (take (i + 1) ports)
          stands q h (yes e) =
              marked-here m marks x 1 q e inside
              ∙ sym (listed q ∙ ap (λ (t : Bool). member q (take i ports) || t) (eq-eqb q x e) ∙ or-true (member q (take i ports)))
          stands q h (no ne) =
              marked_elsewhere m marks x 1 q ne ∙ so_far.stand q h
              ∙ sym (listed q ∙ ap (λ (t : Bool). member q (take i ports) || t) (ne_eqb q x ne) ∙ or-false (member q (take i ports)))

    -- the first unknown entry
    pub unknown_entry : not found ≡ true → ListMarked a after marks p ports (refusal 14 i)
    unfolding refuse earliest
    unknown_entry bad =
        record {
          says = sym (ap (refuse 14) there);
          kept = subst (Within marks p a) (sym untouched) (within_both blank-kept so_far.kept);
          marks_stand = λ e. absurd (no_refusal (sym e));
        }
      where
        is_unknown : found ≡ false
        is_unknown = not-true found bad

        untouched : after ≡ m
        untouched = one.left ∙ ap (λ (t : Bool). cond t (set m (marks + x) 1) m) is_unknown

        there : first (λ j. leb p (get_or ports j 0)) (length ports) ≡ at i
        there =
            first-is (λ j. leb p (get_or ports j 0)) (length ports) i
            (record {
              known = more;
              passes = le-leb p (get_or ports i 0) (omega (arith, ltb-false x p (sym one.says ∙ is_unknown), entry));
              fail = first_absent (λ j. leb p (get_or ports j 0)) i so_far.known;
            })

  -- the whole list
  pub all_known : {m : List ℕ} {i : ℕ} → MarkedUpto filled m marks p ports i → i ≤ length ports → length ports ≤ i → ListMarked a m marks p ports passed
  unfolding refuse earliest
  all_known {m} {i} so_far within end =
      record {
        says = sym (ap (refuse 14) (sym (at_the_end (first (λ j. leb p (get_or ports j 0))) within end) ∙ so_far.known));
        kept = within_both blank-kept so_far.kept;
        marks_stand = λ e q h. so_far.stand q h ∙ ap (member q) (take_all i ports end);
      }
