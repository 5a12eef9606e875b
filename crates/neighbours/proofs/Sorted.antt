-- The keys that were written are ready to be sorted, and what the sort leaves is the links by port.
-- Rests on Writing and lists.Sections.
use Prim.Native.Nat.{ℕ, ◌+◌, ◌≤◌, ◌<◌}
use native.Mathlib.Omega.{arith}
use mathlib.Core.Path.{◌≡◌, sym, ap, ◌∙◌}
use mathlib.Core.List.{List, map}
use lib.ListN.{length, get_or}
use lib.Seq.{sets, length-sets}
use Rattle.lists.specs.Lists.{upto}
use Rattle.lists.proofs.Sections.{part, get_or-sets_in, part-sets_in}
use Rattle.lists.proofs.Upto.{length-table, get_or-table}
use Rattle.counting_sort.specs.Sorted.{starts_by, sorted_by}
use Rattle.counting_sort.specs.Keyed.{Sorting, keys_of}
use Rattle.stepmap.specs.declared.read.Sizes.{Sizes}
use Rattle.neighbours.specs.declared.Listing.{Listing}
use Rattle.neighbours.specs.Tabled.{Roomy, by_port}

module _ {b a : List ℕ} {s : Sizes} {at : Listing} (ready : Roomy b a s at) (f : ℕ → ℕ)
    (ports : (k : ℕ) → k < s.links → f k < s.ports) {m : List ℕ} (written : m ≡ sets a at.keys (map f (upto s.links))) where
  fits : at.keys + length (map f (upto s.links)) ≤ length a
  fits = omega (arith, length-table f s.links, ready.tabled.room)

  keys_are : keys_of m at.keys s.links ≡ map f (upto s.links)
  keys_are =
      ap (λ (x : List ℕ). keys_of x at.keys s.links) written
      ∙ ap (part (sets a at.keys (map f (upto s.links))) at.keys) (sym (length-table f s.links))
      ∙ part-sets_in a at.keys (map f (upto s.links)) 0 fits

  key_is : (k : ℕ) → k < s.links → get_or m (at.keys + k) 0 ≡ f k
  key_is k h =
      ap (λ (x : List ℕ). get_or x (at.keys + k) 0) written
      ∙ get_or-sets_in a at.keys (map f (upto s.links)) k 0 (omega (arith, length-table f s.links)) fits
      ∙ get_or-table f s.links k 0 h

  pub ready-to_sort : Sorting m at.keys s.links at.starts s.ports at.sorted
  ready-to_sort =
      record {
        apart = ready.after-keys;
        after = ready.after-starts;
        room = omega (arith, ap length written ∙ length-sets a at.keys (map f (upto s.links)), ready.room);
        small = omega (arith, ready.tabled.read.few-links);
        known = λ k h. omega (arith, key_is k h, ports k h);
      }

  pub by_port_lem : {r : List ℕ} → r ≡ sets (sets m at.starts (starts_by (keys_of m at.keys s.links) s.ports)) at.sorted (sorted_by (keys_of m at.keys s.links) s.ports)
      → r ≡ by_port a s at (map f (upto s.links))
  unfolding by_port
  by_port_lem e =
      e ∙ ap (λ (x : List ℕ). sets (sets m at.starts (starts_by x s.ports)) at.sorted (sorted_by x s.ports)) keys_are
      ∙ ap (λ (x : List ℕ). sets (sets x at.starts (starts_by (map f (upto s.links)) s.ports)) at.sorted (sorted_by (map f (upto s.links)) s.ports)) written
