-- The links to each node, counted: the targets of the links, tallied, are how many inputs of each node are open.
-- Rests on order_theory.Links, the counting sort's tally and lists.Sections.
use Prim.Native.Nat.{ℕ, ◌+◌, ◌-◌, ◌≤◌, ◌<◌}
use native.Mathlib.Omega.{arith}
use mathlib.Core.Path.{◌≡◌, sym, ap, ◌∙◌}
use mathlib.Core.Logic.{inl}
use mathlib.Core.List.{List, [], map}
use lib.ListN.{length, get_or, take, replicate, length-replicate}
use lib.Seq.{sets, length-sets, take-length}
use lib.Dec.{eqb}
use Rattle.lists.specs.Lists.{upto, times}
use Rattle.lists.proofs.Sections.{part, get_or-sets_in, get_or-sets-out, part-sets_in, part-sets-out, sets-sets}
use Rattle.lists.proofs.Upto.{length-table, get_or-table, table_same}
use Rattle.lists.proofs.Count.{eqb_sym, count_map, count_same}
use Rattle.paper.specs.Map.{L, link_to, in_links}
use Rattle.order_theory.specs.Sound.{Sound}
use Rattle.order_theory.proofs.Links.{in_count}
use Rattle.order_theory.proofs.Refusals.{sound}
use Rattle.counting_sort.specs.Keyed.{Keyed, keys_of, tallied}
use Rattle.counting_sort.proofs.Tallying.{length-tallied}
use Rattle.neighbours.proofs.Writing.{target-known}
use Rattle.tables.specs.declared.Layout.{Layout}
use Rattle.neighbours.specs.declared.Listing.{Listing}
use Rattle.neighbours.specs.Tabled.{Tabled}
use Rattle.toposort.specs.Standing.{Indexed, open_inputs, with_targets}

-- how often a node is a target
tallied_open : {b : List ℕ} → Sound b → (n : ℕ) → tallied (map (link_to b) (upto (L b))) n (L b) ≡ open_inputs b n []
unfolding tallied open_inputs
tallied_open {b} s n = table_same (λ w. times w (take (L b) targets)) (λ w. length (in_links b w) - 0) n (λ w h. here w)
  where
    targets : List ℕ
    targets = map (link_to b) (upto (L b))

    whole : take (L b) targets ≡ targets
    whole = ap (λ (m : ℕ). take m targets) (sym (length-table (link_to b) (L b))) ∙ take-length targets

    here : (w : ℕ) → times w (take (L b) targets) ≡ length (in_links b w) - 0
    here w =
        omega (
          arith,
          ap (times w) whole,
          count_map (eqb w) (link_to b) (upto (L b)),
          count_same (λ k. eqb w (link_to b k)) (λ k. eqb (link_to b k) w) (λ k. eqb_sym w (link_to b k)) (upto (L b)),
          in_count s w,
        )

module _ {b a : List ℕ} {at : Layout} {links : Listing} (start : Indexed b a at links) where
  abbrev n : ℕ
  n = at.sizes.nodes

  abbrev l : ℕ
  l = at.sizes.links

  targets : List ℕ
  targets = map (link_to b) (upto l)

  many : length targets ≡ l
  unfolding targets
  many = length-table (link_to b) l

  pub tabled : Tabled b a at.sizes links
  tabled =
      record {
        read = start.linked.read;
        links = start.linked.links;
        table = start.linked.firsts_stand;
        apart = start.linked.after-firsts;
        room = omega (arith, start.linked);
      }

  pub filled-room : {a₁ : List ℕ} → a₁ ≡ sets a links.keys (map (link_to b) (upto l)) → links.end + n ≤ length a₁
  filled-room e = omega (arith, ap length e ∙ length-sets a links.keys (map (link_to b) (upto l)), start.room)

  module _ {a₁ : List ℕ} (e₁ : a₁ ≡ sets a links.keys (map (link_to b) (upto l))) {a₂ : List ℕ} (e₂ : a₂ ≡ sets a₁ links.end (replicate n 0)) where
    long₁ : length a₁ ≡ length a
    long₁ = ap length e₁ ∙ length-sets a links.keys (map (link_to b) (upto l))

    key_is : (k : ℕ) → k < l → get_or a₂ (links.keys + k) 0 ≡ link_to b k
    unfolding targets
    key_is k h =
        ap (λ (m : List ℕ). get_or m (links.keys + k) 0) e₂
        ∙ get_or-sets-out a₁ links.end (replicate n 0) (links.keys + k) 0 (inl (omega (arith, start.linked)))
        ∙ ap (λ (m : List ℕ). get_or m (links.keys + k) 0) e₁
        ∙ get_or-sets_in a links.keys targets k 0 (omega (arith, many)) (omega (arith, many, start.linked))
        ∙ get_or-table (link_to b) l k 0 h

    keys_are : keys_of a₂ links.keys l ≡ targets
    unfolding targets
    keys_are =
        ap (λ (m : List ℕ). keys_of m links.keys l) e₂
        ∙ part-sets-out a₁ links.end (replicate n 0) links.keys l 0 (inl (omega (arith, start.linked))) (omega (arith, long₁, start.linked))
        ∙ ap (λ (m : List ℕ). keys_of m links.keys l) e₁
        ∙ ap (part (sets a links.keys targets) links.keys) (sym many)
        ∙ part-sets_in a links.keys targets 0 (omega (arith, many, start.linked))

    pub keyed : Keyed a₂ links.keys l links.end n
    keyed =
        record {
          apart = omega (arith, start.linked);
          fits = omega (arith, ap length e₂ ∙ length-sets a₁ links.end (replicate n 0), long₁, start.room);
          small = omega (arith, start.linked.read.few-links);
          known = λ k h. omega (arith, key_is k h, target-known start.linked.read (sound b start.linked.links) h);
        }

    pub zeros : part a₂ links.end n ≡ replicate n 0
    zeros =
        ap (λ (m : List ℕ). part m links.end n) e₂ ∙ ap (part (sets a₁ links.end (replicate n 0)) links.end) (sym (length-replicate {A = ℕ} n 0))
        ∙ part-sets_in a₁ links.end (replicate n 0) 0 (omega (arith, length-replicate {A = ℕ} n 0, long₁, start.room))

    pub counted : {a₃ : List ℕ} → a₃ ≡ sets a₂ links.end (tallied (keys_of a₂ links.keys l) n l)
        → a₃ ≡ sets (with_targets b a at links) links.end (open_inputs b n [])
    unfolding targets with_targets
    counted e₃ =
        e₃ ∙ ap (λ (m : List ℕ). sets a₂ links.end (tallied m n l)) keys_are
        ∙ ap (λ (m : List ℕ). sets m links.end (tallied targets n l)) e₂
        ∙ sets-sets a₁ links.end (replicate n 0) (tallied targets n l) (omega (arith, length-replicate {A = ℕ} n 0, length-tallied targets n l))
        ∙ ap (sets a₁ links.end) are_open
        ∙ ap (λ (m : List ℕ). sets m links.end (open_inputs b n [])) e₁
      where
        are_open : tallied targets n l ≡ open_inputs b n []
        are_open =
            ap (λ (m : ℕ). tallied (map (link_to b) (upto m)) n m) (sym start.linked.read.links)
            ∙ tallied_open (sound b start.linked.links) n
