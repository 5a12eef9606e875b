-- Steps on the small map one after the other, and what a step leaves of the tables.
-- Rests on tables' Within.
use Prim.Native.Nat.{ℕ, ◌<◌}
use mathlib.Core.Path.{◌≡◌, ◌∙◌, refl, subst}
use mathlib.Core.Logic.{inl}
use mathlib.Core.List.{List}
use lib.ListN.{get_or}
use Rattle.accepted_theory.specs.collecting.SmallMap.{Held}
use Rattle.tables.proofs.Within.{within_none, within_both}
use Rattle.intervals.specs.declared.layout.MapRoom.{MapRoom}
use Rattle.intervals.specs.Holds.{Became, Holds}

module _ {room : MapRoom} where
  pub became-none : {a rs : List ℕ} {made : ℕ} → Became (λ hs. hs) room a rs made a rs made
  became-none = record { kept = within_none; long = refl; holds = λ hs holds. holds }

  -- two steps
  pub became_both : {f g : List Held → List Held} {a rs : List ℕ} {made : ℕ} {m ws : List ℕ} {now : ℕ} {o vs : List ℕ} {then : ℕ}
      → Became f room a rs made m ws now → Became g room m ws now o vs then → Became (λ hs. g (f hs)) room a rs made o vs then
  became_both {f} one two =
      record {
        kept = within_both one.kept two.kept;
        long = two.long ∙ one.long;
        holds = λ hs holds. two.holds (f hs) (one.holds hs holds);
      }

  -- a step that does the same
  pub became-same : {f g : List Held → List Held} {a rs : List ℕ} {made : ℕ} {m ws : List ℕ} {now : ℕ} → ((hs : List Held) → f hs ≡ g hs)
      → Became f room a rs made m ws now → Became g room a rs made m ws now
  became-same {f} {g} {a} {rs} {made} {m} {ws} {now} same step =
      record {
        kept = step.kept;
        long = step.long;
        holds = λ hs holds. subst (λ (us : List Held). Holds us room m ws now) (same hs) (step.holds hs holds);
      }

  -- words before the slots stand
  pub before_slots : {f : List Held → List Held} {a rs : List ℕ} {made : ℕ} {m ws : List ℕ} {now : ℕ} → Became f room a rs made m ws now
      → (i : ℕ) → i < room.slots → get_or m i 0 ≡ get_or a i 0
  before_slots step i h = step.kept.same i (inl h)
