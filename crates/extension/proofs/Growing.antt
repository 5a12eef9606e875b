-- How a record grows by a position, case by case: below its lowest, above its highest, or inside. The code asks on which side the position
-- lies before it asks what comes next; that is 01's order, since the lowest is no higher than the highest. Rests on Next and Putting.
use Prim.Native.Nat.{ℕ, ◌+◌, ◌*◌, ◌≤◌, ◌<◌}
use native.Mathlib.Omega.{arith}
use borrow.Author.Tests.{le-leb, lt-leb, not-true, not-false}
use mathlib.Core.Path.{◌≡◌, refl, sym, ap, ap₂, ◌∙◌, subst}
use mathlib.Core.Bool.{Bool, true, false, not, ◌&&◌, cond, true≢false}
use mathlib.Core.List.{List, ◌∷◌}
use lib.ListN.{get_or}
use lib.Dec.{leb}
use Rattle.lists.specs.Lists.{member}
use Rattle.lists.specs.Found.{is_at}
use Rattle.paper.specs.Intervals.{Interval, Records, records, apart, within}
use Rattle.paper.specs.Records.{record_at, next_position, next_below, next_above, grow}
use Rattle.extension.specs.Room.{record_of, Put, Growing, Grew}
use Rattle.extension.proofs.Next.{not_next}
use Rattle.extension.proofs.Putting.{same_words}

module _ (line room : List ℕ) (i p : ℕ) {x low high : ℕ} (is_line : x ≡ get_or room (3 * i) 0) (lowest : low ≡ get_or room (3 * i + 1) 0)
    (highest : high ≡ get_or room (3 * i + 2) 0) where
  -- the record as it was read
  read : record_at room i ≡ record_of x low high
  unfolding record_at
  read = same_words (sym is_line) (sym lowest) (sym highest)

  -- by the three tests
  outcome : Bool → Bool → Bool → List Interval → Records
  outcome below above inside rest =
      cond below (records (record_of x p high ∷ rest)) (cond above (records (record_of x low p ∷ rest)) (cond inside (records (record_of x low high ∷ rest)) apart))

  by_tests : {s t u : Bool} → is_at low (next_position line p) ≡ s → is_at p (next_position line high) ≡ t → (leb low p && leb p high) ≡ u
      → (rest : List Interval) → grow line p (record_at room i) rest ≡ outcome s t u rest
  unfolding grow next_below next_above within outcome
  by_tests {s} {t} {u} e f g rest =
      ap (λ (r : Interval). grow line p r rest) read
      ∙ ap (λ (w : Bool). outcome w (is_at p (next_position line high)) (leb low p && leb p high) rest) e
      ∙ ap₂ (λ (v w : Bool). outcome s v w rest) f g

  -- a record that stays or is put anew
  grown : {r : Interval} {after : List ℕ} → Put room i r after → r.line ≡ x
      → ((rest : List Interval) → grow line p (record_at room i) rest ≡ records (r ∷ rest)) → Grew line room i p true after
  grown put own e =
      record {
        grows = λ t rest. e rest ∙ ap (λ (r : Interval). records (r ∷ rest)) (sym put.own);
        stops = λ t. absurd (true≢false t);
        kept = ap (λ (r : Interval). r.line) put.own ∙ own ∙ sym (ap (λ (r : Interval). r.line) read);
        others = put.others;
        long = put.long;
      }

  stopped : ((rest : List Interval) → grow line p (record_at room i) rest ≡ apart) → Grew line room i p false room
  stopped e =
      record { grows = λ t. absurd (true≢false (sym t)); stops = λ t. e; kept = refl; others = λ j ne. refl; long = refl }

  module _ (growing : Growing line room i p) where
    pub high-here : member high line ≡ true
    high-here = subst (λ (r : Interval). member r.highest line ≡ true) read growing.high

    upright : low ≤ high
    upright = subst (λ (r : Interval). r.lowest ≤ r.highest) read growing.upright

    module _ (under : p < low) {t : Bool} (says : t ≡ is_at low (next_position line p)) where
      below : (s : Bool) → t ≡ s → (rest : List Interval) → grow line p (record_at room i) rest ≡ outcome s false false rest
      below s e =
          by_tests (sym says ∙ e) (not_next line high p (omega (arith, upright))) (ap (λ (u : Bool). u && leb p high) (lt-leb low p under))

      pub below_not : not t ≡ true → Grew line room i p false room
      unfolding outcome
      below_not e = stopped (below false (not-true t e))

      pub below_next : not t ≡ false → {after : List ℕ} → Put room i (record_of x p high) after → Grew line room i p true after
      unfolding outcome
      below_next e put = grown put refl (below true (not-false t e))

  module _ (from : low ≤ p) where
    not_below : is_at low (next_position line p) ≡ false
    not_below = not_next line p low from

    module _ (over : high < p) {t : Bool} (says : t ≡ is_at p (next_position line high)) where
      above : (s : Bool) → t ≡ s → (rest : List Interval) → grow line p (record_at room i) rest ≡ outcome false s false rest
      above s e = by_tests not_below (sym says ∙ e) (ap₂ (λ (u w : Bool). u && w) (le-leb low p from) (lt-leb p high over))

      pub above_not : not t ≡ true → Grew line room i p false room
      unfolding outcome
      above_not e = stopped (above false (not-true t e))

      pub above-next : not t ≡ false → {after : List ℕ} → Put room i (record_of x low p) after → Grew line room i p true after
      unfolding outcome
      above-next e put = grown put refl (above true (not-false t e))

    pub inside : p ≤ high → Grew line room i p true room
    unfolding outcome
    inside to =
        grown (record { own = read; others = λ j ne. refl; long = refl }) refl
        (by_tests not_below (not_next line high p to) (ap₂ (λ (u w : Bool). u && w) (le-leb low p from) (le-leb p high to)))
