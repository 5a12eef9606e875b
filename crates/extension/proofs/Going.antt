-- Line after line: what is still to do, from the records as they stand, comes to what the whole comes to.
-- Rests on Keeping, Lines and Extending (no more records than lines).
use Prim.Native.Nat.{ℕ, suc, ◌+◌, ◌≤◌, ◌<◌}
use native.Mathlib.Numerals.{add-one}
use native.Mathlib.Omega.{arith}
use mathlib.Core.Path.{◌≡◌, refl, sym, ap, ap₂, ◌∙◌, subst}
use mathlib.Core.Bool.{true}
use mathlib.Core.List.{List}
use lib.ListN.{length, get_or, drop, drop_of_length-le}
use lib.Seq.{drop-cons}
use Rattle.paper.specs.Intervals.{Records, records}
use Rattle.paper.specs.Records.{records_in, extend_line, extend_lines}
use Rattle.paper.specs.Refusals.{on_line}
use Rattle.tables.specs.declared.Layout.{Layout}
use Rattle.tables.specs.Usable.{Usable}
use Rattle.records.specs.declared.layout.LineSlots.{LineSlots}
use Rattle.std.specs.Prelude.{Option, Some, None}
use Rattle.extension.specs.Extended.{records_left}
use Rattle.extension.specs.Room.{OwnLines, Ahead, LineReady, Changed, LineExtended, LinesReady, LinesExtended}
use Rattle.extension.proofs.Lines.{none_left}
use Rattle.extension.proofs.Keeping.{own_still, ahead_still}
use Rattle.extension.proofs.Extending.{few-made}

-- after i lines `made` records stand in the room
pub record Going (b a : List ℕ) (at : Layout) (slots : LineSlots) (lines start : List ℕ) (count p : ℕ) (room : List ℕ) (made i : ℕ) : Type 0 where
  pub own : OwnLines b a room made
  pub ahead : (j : ℕ) → i ≤ j → j < length lines → Ahead b a slots room made (get_or lines j 0)
  pub rest : extend_lines b a p (drop i lines) (records (records_in room made)) ≡ extend_lines b a p lines (records (records_in start count))
  pub long : length room ≡ length start

module _ {b a : List ℕ} {at : Layout} {slots : LineSlots} {lines start : List ℕ} {count p : ℕ} (ready : LinesReady b a at slots lines start count p) where
  pub at_first : Going b a at slots lines start count p start count 0
  at_first = record { own = ready.own; ahead = λ j low h. ready.ahead j h; rest = refl; long = refl }

  module _ {room : List ℕ} {made i : ℕ} (going : Going b a at slots lines start count p room made i) where
    module _ (h : i < length lines) {x : ℕ} (read : x ≡ get_or lines i 0) where
      pub line-ready : LineReady b a at slots room made p x
      line-ready =
          record {
            own = going.own;
            ahead = subst (Ahead b a slots room made) (sym read) (going.ahead i (omega arith) h);
            known = omega (arith, ready.known i h);
            here = subst (λ (y : ℕ). on_line b a y p ≡ true) (sym read) (ready.here i h);
            word = ready.word;
            fits = omega (arith, ready.fits, going.long);
          }

      module _ {after : List ℕ} where
        to_do : {r : Option ℕ} → LineExtended b a room made p x r after → extend_lines b a p (drop (i + 1) lines) (records_left r after) ≡ extend_lines b a p lines (records (records_in start count))
        unfolding extend_lines
        to_do extended =
            ap₂ (λ (k : ℕ) (e : Records). extend_lines b a p (drop k lines) e) (add-one i) extended.says
            ∙ ap (λ (y : ℕ). extend_lines b a p (drop (suc i) lines) (extend_line b a p y (records_in room made))) read
            ∙ ap (λ (ls : List ℕ). extend_lines b a p ls (records (records_in room made))) (sym (drop-cons lines i 0 h))
            ∙ going.rest

        pub stops : LineExtended b a room made p x None after → LinesExtended b a lines start count p None after
        stops extended =
            record {
              says = sym (none_left b a p (drop (i + 1) lines)) ∙ to_do extended;
              whole = λ c f. absurd (let z : ◌≡◌ {A = ℕ} 0 1 = cc in omega arith);
              long = extended.long ∙ going.long;
            }

        pub goes : {c : ℕ} → LineExtended b a room made p x (Some c) after → Going b a at slots lines start count p after c (i + 1)
        goes {c} extended =
            record {
              own = own_still changed going.own (omega (arith, ready.known i h));
              ahead = λ j low g. ahead_still changed (λ o. ready.lone i j (omega arith) g (sym read ∙ sym o)) (going.ahead j (omega arith) g);
              rest = to_do extended;
              long = extended.long ∙ going.long;
            }
          where
            changed : Changed room made x after c
            changed = extended.changed c refl

    pub ends : Usable b a at → length lines ≤ i → LinesExtended b a lines start count p (Some made) room
    unfolding extend_lines
    ends usable h =
        record {
          says = ap (λ (ls : List ℕ). extend_lines b a p ls (records (records_in room made))) (sym (drop_of_length-le lines h)) ∙ going.rest;
          whole = λ c e. let same : made ≡ c = cc in omega (arith, few-made usable going.own, ready.fits, going.long);
          long = going.long;
        }
