-- A list that was taken in, for the questions on an opened area: 8, 9 and 10 pass, its nodes stand in the scratch, and what the area with the list
-- answers is what the question answers; or one of the three refuses. Whether it was taken in from words or from bytes is all one.
-- Rests on Answers, Passing, refusals' Rulings and tables' Within.
use Prim.Native.Nat.{ℕ, ◌*◌, ◌<◌}
use native.Mathlib.Omega.{arith}
use mathlib.Core.Path.{◌≡◌, sym, ap, ◌∙◌, subst}
use mathlib.Core.List.{List, [], ◌∷◌, ◌++◌}
use lib.ListN.{length, get_or}
use lib.Seq.{sets}
use Rattle.lists.specs.Bounds.{Below}
use Rattle.lists.specs.Lists.{Distinct}
use Rattle.lists.proofs.Sections.{get_d_part}
use Rattle.paper.specs.Map.{N}
use Rattle.paper.specs.Refusals.{Ruling, passed, Answer, answer, decide, on_refusal, rule8, rule9, rule10}
use Rattle.paper.specs.Calls.{line_rules}
use Rattle.refusals.specs.Said.{ruled, refused_by}
use Rattle.refusals.specs.declared.Refusal.{Refusal}
use Rattle.refusals.proofs.Rulings.{no_refusal, first_decides, then_decides}
use Rattle.tables.specs.Answered.{Answered, AnsweredInto}
use Rattle.tables.specs.declared.Layout.{Layout}
use Rattle.tables.specs.Placed.{scratch_size}
use Rattle.tables.specs.Within.{Within}
use Rattle.tables.specs.Usable.{Usable, Scratched}
use Rattle.tables.proofs.Within.{within_both, within_wider}
use Rattle.take_in.specs.Taking.{Known}
use Rattle.take_in.specs.Said.{TakenIn, list_ruled}
use Rattle.std.specs.Prelude.{Err}
use Rattle.refusals.proofs.Answers.{rule_said}
use Rattle.take_in.proofs.Answers.{AllNodes}
use Rattle.take_in.proofs.Passing.{rule9-is, known-below}
use Rattle.take_in.specs.Listed.{Listed}

-- a list of nodes of n is a list of the map's nodes
pub nodes-below : {b a : List ℕ} {at : Layout} → Usable b a at → {list : List ℕ} → Known at.sizes.nodes list → Below (N b) list
nodes-below usable {list} known = subst (λ (k : ℕ). Below k list) (sym usable.read.nodes) (known-below known)

-- what taking in a list writes is in the scratch
pub taken-kept : (at : Layout) {a m : List ℕ} → Within at.scratch (2 * at.sizes.nodes) a m → Scratched at a m
taken-kept at kept = within_wider kept at.scratch (scratch_size at.sizes) (omega arith) (omega arith)

-- ---- a list that was taken in

module _ {b a : List ℕ} {at : Layout} (usable : Usable b a at) {list : List ℕ} {c : ℕ} {m : List ℕ} (nodes : AllNodes at.sizes.nodes list at.scratch c m)
    (kept : Scratched at a m) where
  -- 8, 9 and 10 pass
  pub list-passed : passed ≡ decide (line_rules b list)
  unfolding line_rules decide
  list-passed =
      sym (
      ap (λ (r : Ruling). decide (r ∷ rule9 b list ∷ rule10 list ∷ [])) nodes.not_empty_lem
      ∙ ap (λ (r : Ruling). decide (r ∷ rule10 list ∷ [])) (rule9-is b list at.sizes.nodes usable.read.nodes ∙ nodes.none_unknown)
      ∙ ap (λ (r : Ruling). decide (r ∷ [])) nodes.none_repeated
      )

  pub listed : Listed m at c
  listed =
      record {
        few = nodes.few;
        known = λ i h.
            subst (λ (x : ℕ). x < at.sizes.nodes) (ap (λ (xs : List ℕ). get_or xs i 0) (sym nodes.stands) ∙ get_d_part m at.scratch c i 0 h)
            (nodes.known.entry i (omega (arith, nodes.count)));
        once = subst Distinct (sym nodes.stands) nodes.once;
      }

  -- rules that come after 8, 9 and 10
  pub list_into : {A : Type 0} {o : List ℕ} {x : Answer A} {rules : List Ruling} {y : A} {buffer after result : List ℕ}
      → AnsweredInto at m o x rules y buffer after result → AnsweredInto at a o x (line_rules b list ++ rules) y buffer after result
  list_into {rules = rules} {y} {buffer} {result = result} got =
      record {
        says = got.says ∙ ap (λ (u : Ruling). answer u y) so;
        kept = within_both kept got.kept;
        written = got.written ∙ ap (λ (u : Ruling). on_refusal u buffer (sets buffer 0 result)) so;
      }
    where
      so : decide rules ≡ decide (line_rules b list ++ rules)
      so = sym (then_decides (line_rules b list) rules list-passed)

-- ---- a list that was not taken in

-- 8, 9 or 10 refuses
module _ {b a : List ℕ} {at : Layout} (usable : Usable b a at) {list : List ℕ} {x : Refusal} {m : List ℕ}
    (taken : TakenIn at.sizes.nodes list a at.scratch (Err x) m) {A : Type 0} (y : A) where
  ruled_so : ruled x ≡ decide (line_rules b list)
  unfolding line_rules list_ruled
  ruled_so =
      rule_said x (length list) taken.said
      ∙ ap (λ (u : Ruling). decide (rule8 (length list) ∷ u ∷ rule10 list ∷ [])) (sym (rule9-is b list at.sizes.nodes usable.read.nodes))

  pub list_refused : Answered at a m (refused_by x) (line_rules b list) y
  unfolding answer
  list_refused = record { says = ap (λ (u : Ruling). answer u y) ruled_so; kept = taken-kept at taken.kept }

  -- .. before any rule that comes after, and nothing is written
  pub list_refused_into : (rules : List Ruling) (buffer result : List ℕ)
      → AnsweredInto at a m (refused_by x) (line_rules b list ++ rules) y buffer buffer result
  unfolding answer on_refusal
  list_refused_into rules buffer result =
      record {
        says = ap (λ (u : Ruling). answer u y) so;
        kept = taken-kept at taken.kept;
        written = ap (λ (u : Ruling). on_refusal u buffer (sets buffer 0 result)) so;
      }
    where
      so : ruled x ≡ decide (line_rules b list ++ rules)
      so = ruled_so ∙ sym (first_decides (line_rules b list) rules (λ f. no_refusal (sym (ruled_so ∙ f))))
