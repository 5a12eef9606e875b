-- Lists laid one after the other into a room, each where a start list says: one more, and the whole.
-- Rests on lists.Sections and lists.Upto.
use Prim.Native.Nat.{ℕ, zero, suc, ◌+◌, ◌-◌, ◌≤◌, ◌<◌}
use native.Mathlib.Nat.{zero-add}
use native.Mathlib.Numerals.{add-one}
use native.Mathlib.Omega.{arith}
use mathlib.Core.Path.{◌≡◌, refl, sym, ap, ap₂, ◌∙◌}
use mathlib.Core.List.{List, [], ◌∷◌, ◌++◌, map, flat_map, append-nil}
use lib.ListN.{length, take, drop, set, length-append}
use lib.Seq.{sets, slice, take-add, drop-drop}
use lib.Dec.{eqb}
use Rattle.lists.specs.Lists.{upto, times}
use Rattle.lists.proofs.Sections.{part, sets-next}
use Rattle.lists.proofs.Upto.{upto-suc, count-append, flat_map-append, sets-upto-next}
use Rattle.groups.proofs.Picking.{part_slice}

-- ---- word by word

-- a table, filled from the front
pub table-next : (f : ℕ → ℕ) (room₀ : List ℕ) {room : List ℕ} (k : ℕ) {v : ℕ} → v ≡ f k → room ≡ sets room₀ 0 (map f (upto k))
    → set room k v ≡ sets room₀ 0 (map f (upto (k + 1)))
table-next f room₀ k is e = ap₂ (λ (l : List ℕ) (w : ℕ). set l k w) e is ∙ sets-upto-next f room₀ k

-- ---- list by list: f x has its place from s x on

one_list : (f : ℕ → List ℕ) (x : ℕ) → flat_map f (upto (suc x)) ≡ flat_map f (upto x) ++ f x
unfolding flat_map
one_list f x =
    ap (flat_map f) (upto-suc x) ∙ flat_map-append f (upto x) (x ∷ []) ∙ ap (λ (l : List ℕ). flat_map f (upto x) ++ l) (append-nil (f x))

module _ (s : ℕ → ℕ) (begins : s 0 ≡ 0) (f : ℕ → List ℕ) (k : ℕ) (long : (x : ℕ) → x < k → s x + length (f x) ≡ s (suc x)) where
  pub laid-long : (x : ℕ) → x ≤ k → length (flat_map f (upto x)) ≡ s x
  unfolding flat_map
  laid-long zero h = sym begins
  laid-long (suc x) h =
      ap length (one_list f x) ∙ length-append (flat_map f (upto x)) (f x)
      ∙ omega (arith, laid-long x (omega arith), long x (omega arith))

  pub laid_next : (room₀ : List ℕ) {room : List ℕ} (x : ℕ) → x < k → room ≡ sets room₀ 0 (flat_map f (upto x)) → {at : ℕ} → at ≡ s x → {ws : List ℕ} → ws ≡ f x
      → sets room at ws ≡ sets room₀ 0 (flat_map f (upto (x + 1)))
  laid_next room₀ {room} x h e is same =
      ap₂ (λ (i : ℕ) (l : List ℕ). sets room i l) (is ∙ sym (zero-add (s x))) same
      ∙ sets-next room₀ 0 (flat_map f (upto x)) (f x) e (laid-long x (omega arith))
      ∙ ap (sets room₀ 0) (sym (one_list f x) ∙ ap (λ (m : ℕ). flat_map f (upto m)) (sym (add-one x)))

-- ---- the parts of a section, cut where a start list says, are the section

module _ (a : List ℕ) (o : ℕ) (s : ℕ → ℕ) (begins : s 0 ≡ 0) (k : ℕ) (rises : (x : ℕ) → x < k → s x ≤ s (suc x)) where
  pub parts_whole : (x : ℕ) → x ≤ k → flat_map (λ y. slice (o + s y) (o + s (suc y)) a) (upto x) ≡ part a o (s x)
  unfolding flat_map
  parts_whole zero h = ap (part a o) (sym begins)
  parts_whole (suc x) h =
      one_list (λ y. slice (o + s y) (o + s (suc y)) a) x
      ∙ ap₂ (λ (u v : List ℕ). u ++ v) (parts_whole x (omega arith)) (sym (part_slice a (o + s x) (o + s (suc x)) (omega (arith, rises x (omega arith)))))
      ∙ ap₂ (λ (u : List ℕ) (m : ℕ). part a o (s x) ++ take m u) (sym (drop-drop (s x) o a)) (over (s x) (s (suc x)))
      ∙ sym (take-add (s x) (s (suc x) - s x) (drop o a))
      ∙ ap (part a o) (up (s x) (s (suc x)) (rises x (omega arith)))
    where
      over : (m n : ℕ) → o + n - (o + m) ≡ n - m
      over m n = omega arith

      up : (m n : ℕ) → m ≤ n → m + (n - m) ≡ n
      up m n le = omega arith

-- what stands in no part stands nowhere
pub laid_none : (f : ℕ → List ℕ) (w k : ℕ) → ((x : ℕ) → x < k → times w (f x) ≡ 0) → times w (flat_map f (upto k)) ≡ 0
unfolding flat_map
laid_none f w zero h = refl
laid_none f w (suc k) h =
    ap (times w) (one_list f k) ∙ count-append (eqb w) (flat_map f (upto k)) (f k)
    ∙ omega (arith, laid_none f w k (λ x l. h x (omega arith)), h k (omega arith))
