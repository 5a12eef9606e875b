-- Records written word by word and copied: the record is there whole, and no other record changes.
-- Rests on lib.Seq.
use Prim.Native.Nat.{ℕ, ◌+◌, ◌*◌, ◌≤◌, ◌<◌}
use native.Mathlib.Omega.{arith}
use mathlib.Core.Path.{◌≡◌, ap, ap₂, ◌∙◌}
use mathlib.Core.List.{List, ◌++◌}
use lib.ListN.{length, get_or, set, take, drop, length-set, get_or-append}
use lib.Seq.{get_or-set_same, get_or-set_other, get_or-take, length-take-le}
use Rattle.std.proofs.Common.{length-append, length-drop}
use Rattle.paper.specs.Records.{record_at}
use Rattle.extension.specs.Room.{record_of, Put, Copied}

pub same_words : {x y low down high up : ℕ} → x ≡ y → low ≡ down → high ≡ up → record_of x low high ≡ record_of y down up
same_words {x} {y} {low} {down} {high} {up} e f g = ap (λ (z : ℕ). record_of z low high) e ∙ ap₂ (λ (s t : ℕ). record_of y s t) f g

module _ (room : List ℕ) (i x low high : ℕ) (whole : 3 * i + 2 < length room) where
  first : List ℕ
  first = set room (3 * i) x

  second : List ℕ
  second = set first (3 * i + 1) low

  third : List ℕ
  third = set second (3 * i + 2) high

  two_long : length second ≡ length room
  unfolding first second
  two_long = length-set first (3 * i + 1) low ∙ length-set room (3 * i) x

  line-put : get_or third (3 * i) 0 ≡ x
  unfolding first second third
  line-put =
      get_or-set_other second (3 * i + 2) (3 * i) high 0 (λ e. omega arith) ∙ get_or-set_other first (3 * i + 1) (3 * i) low 0 (λ e. omega arith)
      ∙ get_or-set_same room (3 * i) x 0 (omega arith)

  lowest-put : get_or third (3 * i + 1) 0 ≡ low
  unfolding first second third
  lowest-put =
      get_or-set_other second (3 * i + 2) (3 * i + 1) high 0 (λ e. omega arith)
      ∙ get_or-set_same first (3 * i + 1) low 0 (omega (arith, length-set room (3 * i) x))

  highest-put : get_or third (3 * i + 2) 0 ≡ high
  unfolding third
  highest-put = get_or-set_same second (3 * i + 2) high 0 (omega (arith, two_long))

  other_word : (q : ℕ) → (q ≡ 3 * i → ⊥) → (q ≡ 3 * i + 1 → ⊥) → (q ≡ 3 * i + 2 → ⊥) → get_or third q 0 ≡ get_or room q 0
  unfolding first second third
  other_word q e f g =
      get_or-set_other second (3 * i + 2) q high 0 g ∙ get_or-set_other first (3 * i + 1) q low 0 f ∙ get_or-set_other room (3 * i) q x 0 e

  pub record_put : Put room i (record_of x low high) (set (set (set room (3 * i) x) (3 * i + 1) low) (3 * i + 2) high)
  unfolding record_at first second third
  record_put =
      record {
        own = same_words line-put lowest-put highest-put;
        others = λ j ne.
            same_words (other_word (3 * j) (λ e. ne (omega arith)) (λ e. omega arith) (λ e. omega arith))
            (other_word (3 * j + 1) (λ e. omega arith) (λ e. ne (omega arith)) (λ e. omega arith))
            (other_word (3 * j + 2) (λ e. omega arith) (λ e. omega arith) (λ e. ne (omega arith)));
        long = length-set second (3 * i + 2) high ∙ two_long;
      }

-- ---- copied words

pub copied : {words room own : List ℕ} {taken : ℕ} → taken ≤ length words → taken ≤ length room → own ≡ take taken words → Copied words taken room (own ++ drop taken room)
copied {words} {room} {own} {taken} low high e =
    record {
      same = λ j h. get_or-append own (drop taken room) 0 j (omega (arith, long)) ∙ ap (λ (ws : List ℕ). get_or ws j 0) e ∙ get_or-take taken words j 0 h;
      long = length-append own (drop taken room) ∙ omega (arith, long, length-drop taken room, high);
    }
  where
    long : length own ≡ taken
    long = ap length e ∙ length-take-le taken words low

pub copied_record : {words room after : List ℕ} (count : ℕ) → Copied words (3 * count) room after → (j : ℕ) → j < count → record_at after j ≡ record_at words j
unfolding record_at
copied_record count copied j h =
    same_words (copied.same (3 * j) (omega arith)) (copied.same (3 * j + 1) (omega arith)) (copied.same (3 * j + 2) (omega arith))
