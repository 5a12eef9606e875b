-- The walk's room laid out: an empty queue with its marks, the lowest positions by line, and the links.
-- Rests on Lowest, Good, neighbours' Keeping, and on accepted_theory (writing to the scratch changes no table).
use Prim.Native.Nat.{ℕ, zero, suc, ◌+◌, ◌-◌, ◌*◌, ◌≤◌, ◌<◌}
use native.Mathlib.Decide.{ℕ_discrete}
use native.Mathlib.Omega.{arith}
use mathlib.Core.Path.{◌≡◌, sym, ap, ◌∙◌, subst}
use mathlib.Core.Logic.{inl}
use mathlib.Core.List.{List}
use lib.ListN.{length, get_or, replicate, length-replicate}
use lib.Seq.{sets, length-sets, get_or-set_same, get_or-set_other}
use borrow.Author.Tests.{eq-eqb, ne_eqb}
use Rattle.lists.proofs.Sections.{get_or-sets_in}
use Rattle.lists.proofs.Upto.{get_or-zeros}
use Rattle.paper.specs.Records.{record_at}
use Rattle.walk_theory.proofs.Joined.{nobody_joined}
use Rattle.accepted_theory.proofs.Records.{bad_record-same}
use Rattle.tables.specs.declared.Layout.{Layout}
use Rattle.tables.specs.Placed.{scratch_size}
use Rattle.tables.specs.Within.{Within}
use Rattle.tables.specs.Usable.{Usable, Scratched}
use Rattle.tables.specs.Recorded.{Recorded}
use Rattle.tables.proofs.Within.{within_none, within_both, within-set, within-sets, within_wider}
use Rattle.tables.proofs.Words.{count-few}
use Rattle.tables.proofs.Usable.{tables_still, still_usable}
use Rattle.neighbours.specs.declared.Listing.{Listing}
use Rattle.neighbours.specs.Linked.{Free, Outgoing, OutgoingLaid, outgoing_size}
use Rattle.neighbours.proofs.Keeping.{linked-kept}
use Rattle.walk.specs.Fitting.{Fits}
use Rattle.walk.specs.Lows.{low_on, lows_laid, Lined}
use Rattle.walk.specs.Starts.{LaidOut}
use Rattle.walk.specs.declared.starts.Room.{Room}
use Rattle.walk.proofs.Lowest.{lows-long}
use Rattle.walk.proofs.Good.{line_known}

-- ---- the lowest positions of records, over words that were 0

module _ (a : List ℕ) (lows : ℕ) (words : List ℕ) where
  lows-within : (many i : ℕ) → ((j : ℕ) → j < i → (record_at words j).line < many) → Within lows many a (lows_laid a lows words i)
  unfolding lows_laid
  lows-within many zero h = within_none
  lows-within many (suc i) h =
      within-set (lows-within many i (λ j l. h j (omega arith))) (lows + (record_at words i).line) (record_at words i).lowest (omega arith)
      (omega (arith, h i (omega arith)))

  lows-read : (i x : ℕ) → lows + x < length a → get_or a (lows + x) 0 ≡ 0 → get_or (lows_laid a lows words i) (lows + x) 0 ≡ low_on words i x
  unfolding lows_laid low_on
  lows-read zero x h e = e
  lows-read (suc i) x h e = go (ℕ_discrete (record_at words i).line x) (lows-read i x h e)
    where
      go : Dec ((record_at words i).line ≡ x) → get_or (lows_laid a lows words i) (lows + x) 0 ≡ low_on words i x
          → get_or (lows_laid a lows words (suc i)) (lows + x) 0 ≡ low_on words (suc i) x
      go (yes q) ih =
          rw (eq-eqb (record_at words i).line x q, q)
          (get_or-set_same (lows_laid a lows words i) (lows + x) (record_at words i).lowest 0 (omega (arith, lows-long a lows words i)))
      go (no ne) ih =
          rw (ne_eqb (record_at words i).line x ne)
          (get_or-set_other (lows_laid a lows words i) (lows + (record_at words i).line) (lows + x) (record_at words i).lowest 0 (λ q. ne (omega arith)) ∙ ih)

-- ---- records stay good

pub recorded_still : {b a m words : List ℕ} {count : ℕ} {at : Layout} → Usable b a at → Scratched at a m → Recorded b a words count → Recorded b m words count
recorded_still {words = words} usable kept recorded =
    record { fits = recorded.fits; good = λ i h. sym (bad_record-same (tables_still usable kept) words i) ∙ recorded.good i h }

-- ---- the room

-- where the links are laid
abbrev links_at : Layout → ℕ
links_at at = at.scratch + 2 * at.sizes.nodes + (at.sizes.links + at.sizes.nodes)

pub free : {b a : List ℕ} {at : Layout} → Usable b a at → Free b a at.sizes (links_at at) (outgoing_size at.sizes)
free usable = record { read = usable.read; links = usable.links; room = omega (arith, usable.placed, usable.room) }

module _ (at : Layout) {b a m : List ℕ} {links : Listing} (out : OutgoingLaid b a at.sizes (links_at at) links m) where
  pub room_fits : Fits at (record { queue = at.scratch; lows = at.scratch + 2 * at.sizes.nodes; links = links })
  room_fits =
      record {
        before-queue = omega arith;
        after-queue = omega arith;
        after-lows = omega (arith, out.first);
        inside = omega (arith, out.first);
      }

  pub links_scratched : Scratched at a m
  links_scratched = within_wider out.kept at.scratch (scratch_size at.sizes) (omega arith) (omega arith)

-- ---- its steps

module _ {b a words : List ℕ} {count : ℕ} {at : Layout} (usable : Usable b a at) (recorded : Recorded b a words count) {room : Room} (fits : Fits at room) where
  line-few : (i : ℕ) → i < count → (record_at words i).line < at.sizes.links + at.sizes.nodes
  line-few i h = omega (arith, line_known b a words i (recorded.good i h), count-few usable)

  pub lined : {m : List ℕ} → length m ≡ length a → Lined m room.lows words count
  lined long =
      record { fits = recorded.fits; inside = λ i h. omega (arith, line-few i h, usable.placed, usable.room) }

  module _ {a₁ : List ℕ} (linked : Outgoing b a₁ at.sizes room.links) (kept₁ : Scratched at a a₁)
      (many : ℕ) (whole : room.queue + many ≡ room.links.firsts) {a₂ : List ℕ} (e₂ : a₂ ≡ sets a₁ room.queue (replicate many 0)) where
    many-long : length (replicate {A = ℕ} many 0) ≡ many
    many-long = length-replicate many 0

    long₂ : length a₂ ≡ length a
    long₂ = ap length e₂ ∙ length-sets a₁ room.queue (replicate many 0) ∙ kept₁.long

    zeros : (j : ℕ) → room.queue ≤ j → j < room.links.firsts → get_or a₂ j 0 ≡ 0
    zeros j low high =
        let i : ℕ = j - room.queue in
        let here : room.queue + i ≡ j = omega arith in
        ap (λ (k : ℕ). get_or a₂ k 0) (sym here) ∙ ap (λ (m : List ℕ). get_or m (room.queue + i) 0) e₂
        ∙ get_or-sets_in a₁ room.queue (replicate many 0) i 0 (omega (arith, many-long))
        (omega (arith, many-long, kept₁.long, fits, usable.placed, usable.room))
        ∙ get_or-zeros many i

    module _ {a₃ : List ℕ} (e₃ : a₃ ≡ lows_laid a₂ room.lows words count) where
      written : Within room.lows (at.sizes.links + at.sizes.nodes) a₂ a₃
      written =
          subst (Within room.lows (at.sizes.links + at.sizes.nodes) a₂) (sym e₃)
          (lows-within a₂ room.lows words (at.sizes.links + at.sizes.nodes) count line-few)

      before : Within room.queue many a₁ a₃
      before =
          within_both
          (subst (Within room.queue many a₁) (sym e₂)
          (within-sets within_none room.queue (replicate many 0) (omega arith) (omega (arith, many-long))))
          (within_wider written room.queue many (omega (arith, fits)) (omega (arith, fits)))

      kept₃ : Scratched at a a₃
      kept₃ = within_both kept₁ (within_wider before at.scratch (scratch_size at.sizes) (omega (arith, fits)) (omega (arith, fits)))

      usable₃ : Usable b a₃ at
      usable₃ = still_usable usable kept₃

      low : (x : ℕ) → x < at.sizes.links + at.sizes.nodes → get_or a₃ (room.lows + x) 0 ≡ low_on words count x
      low x h =
          ap (λ (m : List ℕ). get_or m (room.lows + x) 0) e₃
          ∙ lows-read a₂ room.lows words count x (omega (arith, long₂, fits, usable.placed, usable.room))
          (zeros (room.lows + x) (omega (arith, fits)) (omega (arith, fits)))

      unmarked : (u : ℕ) → u < at.sizes.nodes → get_or a₃ (room.queue + at.sizes.nodes + u) 0 ≡ 0
      unmarked u h =
          written.same (room.queue + at.sizes.nodes + u) (inl (omega (arith, fits)))
          ∙ zeros (room.queue + at.sizes.nodes + u) (omega arith) (omega (arith, fits))

      pub laid_out : LaidOut b a words count at room a₃
      laid_out =
          record {
            laid =
                record {
                  usable = usable₃;
                  fits = fits;
                  linked = linked-kept linked before (omega arith);
                  recorded = recorded_still usable kept₃ recorded;
                  lows = λ x h. low x (omega (arith, count-few usable₃));
                };
            queued =
                record {
                  fits = omega (arith, fits, usable.placed, usable₃.room);
                  small = usable.read.few-nodes;
                  few = omega arith;
                  nodes = nobody_joined at.sizes.nodes;
                  marks = unmarked;
                };
            kept = kept₃;
          }
