-- The sections laid one after the other: what each step finds, and what they come to.
-- Rests on Sorting.
use Prim.Native.Nat.{ℕ, ◌+◌, ◌≤◌, ◌<◌}
use native.Mathlib.Omega.{arith}
use mathlib.Core.Path.{◌≡◌, refl, sym, ap, ap₂, ◌∙◌, subst}
use mathlib.Core.Logic.{inl, inr}
use mathlib.Core.List.{List, map}
use lib.ListN.{length}
use lib.Seq.{sets, length-sets}
use Rattle.lists.specs.Lists.{upto}
use Rattle.lists.proofs.Sections.{Disjoint, part, part-sets_in}
use Rattle.lists.proofs.Upto.{length-table}
use Rattle.paper.specs.Map.{first_port, source_port, target_port}
use Rattle.order_theory.proofs.Refusals.{sound}
use Rattle.stepmap.specs.Formed.{ReadWell}
use Rattle.stepmap.specs.declared.read.Sizes.{Sizes}
use Rattle.counting_sort.specs.Sorted.{starts_by, sorted_by}
use Rattle.tables.specs.Within.{Within}
use Rattle.tables.proofs.Within.{within_none, within_both, within-sets}
use Rattle.neighbours.specs.declared.Listing.{Listing}
use Rattle.neighbours.specs.Tabled.{Roomy, by_port}
use Rattle.neighbours.specs.Linked.{Free, Linked, Outgoing, OutgoingLaid, IncomingLaid, outgoing_size, incoming_size, with_outgoing}
use Rattle.neighbours.proofs.Writing.{source-below, target_below}
use Rattle.neighbours.proofs.Sorting.{starts_stand, sorted_stand, others_stand, only_here}

-- the links by a port of each, sorted into a room whose first ports stand
module _ {b a : List ℕ} {s : Sizes} {at : Listing}
    (roomy : Roomy b a s at)
    (port : ℕ → ℕ) (low : (k : ℕ) → k < s.links → port k < s.ports) (last : at.end ≡ at.sorted + s.links)
    {m : List ℕ} (e : m ≡ by_port a s at (map port (upto s.links))) where
  well : ReadWell b s.nodes s.links s.ports
  well = roomy.tabled.read

  long : length m ≡ length a
  long = (only_here roomy port low e 0 at.end (omega arith) (omega (arith, last))).long

  listed : Linked b m s port at
  listed =
      record {
        read = well;
        links = roomy.tabled.links;
        after-firsts = roomy.tabled.apart;
        after-keys = roomy.after-keys;
        after-starts = roomy.after-starts;
        after_sorted = omega (arith, last);
        room = omega (arith, last, long, roomy.room);
        firsts_stand =
            others_stand roomy port low e at.firsts (s.nodes + 1) (inl roomy.tabled.apart)
            (inl (omega (arith, roomy.tabled.apart, roomy.after-keys)))
            (omega (arith, roomy.tabled.apart, roomy.tabled.room))
            ∙ roomy.tabled.table;
        starts_stand = starts_stand roomy port low e ∙ ap₂ (λ (x y : ℕ). starts_by (map port (upto x)) y) (sym well.links) (sym well.ports);
        sorted_stand = sorted_stand roomy port low e ∙ ap₂ (λ (x y : ℕ). sorted_by (map port (upto x)) y) (sym well.links) (sym well.ports);
      }

module _ {b a : List ℕ} {s : Sizes} {from : ℕ} (free : Free b a s from (outgoing_size s)) where
  pub firsts-fit : from + (s.nodes + 1) ≤ length a
  firsts-fit = omega (arith, free.room)

  source-low : (k : ℕ) → k < s.links → source_port b k < s.ports
  source-low k h = source-below free.read (sound b free.links) h

  module _ {keys starts sorted end : ℕ} (keys-at : keys ≡ from + (s.nodes + 1)) (starts_at : starts ≡ keys + s.links)
      (sorted_at : sorted ≡ starts + (s.ports + 1)) (end-at : end ≡ sorted + s.links) {a₁ : List ℕ} (e₁ : a₁ ≡ sets a from (map (first_port b) (upto (s.nodes + 1)))) where
    abbrev out : Listing
    out = record { firsts = from; keys = keys; starts = starts; sorted = sorted; end = end }

    long₁ : length a₁ ≡ length a
    long₁ = ap length e₁ ∙ length-sets a from (map (first_port b) (upto (s.nodes + 1)))

    many : length (map (first_port b) (upto (s.nodes + 1))) ≡ s.nodes + 1
    many = length-table (first_port b) (s.nodes + 1)

    firsts₁ : part a₁ from (s.nodes + 1) ≡ map (first_port b) (upto (s.nodes + 1))
    firsts₁ =
        ap (λ (m : List ℕ). part m from (s.nodes + 1)) e₁
        ∙ ap (part (sets a from (map (first_port b) (upto (s.nodes + 1)))) from) (sym many)
        ∙ part-sets_in a from (map (first_port b) (upto (s.nodes + 1))) 0 (omega (arith, many, free.room))

    pub roomy-out : Roomy b a₁ s out
    roomy-out =
        record {
          tabled =
              record {
                read = free.read;
                links = free.links;
                table = firsts₁;
                apart = omega (arith, keys-at);
                room = omega (arith, long₁, free.room, keys-at);
              };
          after-keys = omega (arith, starts_at);
          after-starts = omega (arith, sorted_at);
          room = omega (arith, long₁, free.room, keys-at, starts_at, sorted_at);
        }

    module _ {a₂ : List ℕ} (e₂ : a₂ ≡ by_port a₁ s out (map (source_port b) (upto s.links))) where
      pub outgoing-laid : OutgoingLaid b a s from out a₂
      unfolding with_outgoing
      outgoing-laid =
          record {
            linked = listed roomy-out (source_port b) source-low end-at e₂;
            first = refl;
            last = omega (arith, end-at, sorted_at, starts_at, keys-at);
            kept =
                within_both
                (subst (Within from (outgoing_size s) a) (sym e₁)
                (within-sets within_none from (map (first_port b) (upto (s.nodes + 1))) (omega arith) (omega (arith, many))))
                (only_here roomy-out (source_port b) source-low e₂ from (outgoing_size s) (omega (arith, keys-at))
                (omega (arith, keys-at, starts_at, sorted_at)));
            whole = e₂ ∙ ap (λ (m : List ℕ). by_port m s out (map (source_port b) (upto s.links))) e₁;
          }

module _ {b a : List ℕ} {s : Sizes} {out : Listing} (outgoing : Outgoing b a s out) (room : out.end + incoming_size s ≤ length a) where
  target-low : (k : ℕ) → k < s.links → target_port b k < s.ports
  target-low k h = target_below outgoing.read (sound b outgoing.links) h

  module _ {sorted end : ℕ} (sorted_at : sorted ≡ out.end + (s.ports + 1)) (end-at : end ≡ sorted + s.links) where
    abbrev back : Listing
    back = record { firsts = out.firsts; keys = out.keys; starts = out.end; sorted = sorted; end = end }

    roomy_in : Roomy b a s back
    roomy_in =
        record {
          tabled =
              record {
                read = outgoing.read;
                links = outgoing.links;
                table = outgoing.firsts_stand;
                apart = outgoing.after-firsts;
                room = omega (arith, outgoing);
              };
          after-keys = omega (arith, outgoing);
          after-starts = omega (arith, sorted_at);
          room = omega (arith, room, sorted_at);
        }

    module _ {m : List ℕ} (e : m ≡ by_port a s back (map (target_port b) (upto s.links))) where
      kept : (from size : ℕ) → from ≤ out.keys → end ≤ from + size → Within from size a m
      kept from size low high = only_here roomy_in (target_port b) target-low e from size low (omega (arith, end-at))

      stands : (place many : ℕ) → Disjoint place many out.keys s.links → place + many ≤ out.end → part m place many ≡ part a place many
      stands place many off high = others_stand roomy_in (target_port b) target-low e place many off (inl high) (omega (arith, outgoing.room))

      pub incoming-laid : IncomingLaid b a s out back m
      incoming-laid =
          record {
            outgoing =
                record {
                  read = outgoing.read;
                  links = outgoing.links;
                  after-firsts = outgoing.after-firsts;
                  after-keys = outgoing.after-keys;
                  after-starts = outgoing.after-starts;
                  after_sorted = outgoing.after_sorted;
                  room = omega (arith, outgoing.room, (kept 0 end (omega arith) (omega arith)).long);
                  firsts_stand = stands out.firsts (s.nodes + 1) (inl outgoing.after-firsts) (omega (arith, outgoing)) ∙ outgoing.firsts_stand;
                  starts_stand = stands out.starts (s.ports + 1) (inr outgoing.after-keys) (omega (arith, outgoing)) ∙ outgoing.starts_stand;
                  sorted_stand = stands out.sorted s.links (inr (omega (arith, outgoing))) (omega (arith, outgoing)) ∙ outgoing.sorted_stand;
                };
            incoming = listed roomy_in (target_port b) target-low end-at e;
            first = refl;
            last = omega (arith, end-at, sorted_at);
            kept = kept;
          }
