-- Taking in entry after entry: those passed stand in the area, none of them a repeat, until one is or the list ends.
-- Rests on Search and lists' Sections.
use Prim.Native.Nat.{ℕ, ◌+◌, ◌*◌, ◌<◌}
use native.Mathlib.Numerals.{add-one}
use native.Mathlib.Omega.{arith}
use mathlib.Core.Path.{◌≡◌, refl, sym, ap, ap₂, ◌∙◌, subst}
use mathlib.Core.Bool.{Bool, true, false, not}
use mathlib.Core.List.{List, [], ◌∷◌, ◌++◌}
use lib.ListN.{length, get_or, take}
use lib.Seq.{take-suc, take-length}
use borrow.Author.Tests.{not-false}
use Rattle.lists.specs.Lists.{member}
use Rattle.lists.specs.Found.{absent, at}
use Rattle.lists.proofs.Sections.{part}
use Rattle.tables.specs.Within.{Within}
use Rattle.tables.proofs.Within.{within_none, within_both}
use Rattle.std.specs.Prelude.{Some, None}
use Rattle.take_in.specs.Taking.{Taking, Took}
use Rattle.take_in.specs.Said.{repeats, repeat_in, EachTaken}
use Rattle.take_in.proofs.Search.{Clean, clean_starts, clean_on, bad_at, clean_all}

-- m after i entries, from a on
pub record EachTo (n : ℕ) (list a : List ℕ) (at i : ℕ) (m : List ℕ) : Type 0 where
  pub clean : Clean (repeats list) i
  pub taking : Taking n at i m
  pub stands : part m at i ≡ take i list
  pub kept : Within at (2 * n) a m

pub each-starts : {n : ℕ} (list : List ℕ) {a : List ℕ} {at : ℕ} → Taking n at 0 a → EachTo n list a at 0 a
each-starts list t = record { clean = clean_starts (repeats list); taking = t; stands = refl; kept = within_none }

-- a found repeat is not absent
found : {i : ℕ} → at i ≡ absent → ⊥
found e = let z : ◌≡◌ {A = ℕ} 0 1 = cc in omega arith

module _ {n : ℕ} {list a : List ℕ} {at i : ℕ} {m : List ℕ} (so_far : EachTo n list a at i m) where
  -- one entry more
  module _ {v : ℕ} {r : Bool} {o : List ℕ} (lt : i < length list) (entry : v ≡ get_or list i 0) (took : Took n at i v m r o) where
    repeat_told : not r ≡ repeats list i
    repeat_told = took.said ∙ ap₂ member entry so_far.stands

    pub each_on : not r ≡ false → EachTo n list a at (i + 1) o
    each_on e =
        let new = not-false r e in
        record {
          clean = clean_on so_far.clean (sym repeat_told ∙ e);
          taking = took.taking new;
          stands =
              took.stands new ∙ ap₂ (λ (xs : List ℕ) (x : ℕ). xs ++ (x ∷ [])) so_far.stands entry
              ∙ sym (take-suc list i 0 lt) ∙ ap (λ (k : ℕ). take k list) (sym (add-one i));
          kept = within_both so_far.kept took.kept;
        }

    pub each-stops : not r ≡ true → EachTaken n list a at (Some i) o
    unfolding repeat_in
    each-stops e =
        record {
          said = bad_at so_far.clean (length list) lt (sym repeat_told ∙ e);
          stands = λ h. absurd (found h);
          kept = within_both so_far.kept took.kept;
        }

  -- the list's end
  pub each-ends : length list ≡ i → EachTaken n list a at None m
  unfolding repeat_in
  each-ends h =
      record {
        said = clean_all so_far.clean (length list) h;
        stands = λ e. subst (λ (k : ℕ). part m at k ≡ take k list) (sym h) so_far.stands ∙ take-length list;
        kept = so_far.kept;
      }
