-- What spreading out leaves, section by section.
-- Rests on Widening, Links and Rows.
use Prim.Native.Nat.{ℕ, zero, suc, ◌+◌, ◌*◌, ◌≤◌, ◌<◌}
use native.Mathlib.Decide.{dec_lt}
use native.Mathlib.Omega.{arith}
use mathlib.Core.Path.{◌≡◌, sym, ap, ap₂, ◌∙◌, subst}
use mathlib.Core.Logic.{◌⊎◌, inl, inr}
use mathlib.Core.List.Memᴰ
use mathlib.Core.List.{List, map}
use lib.ListN.{length, get_or}
use lib.Seq.{sets, length-sets, ext_get_or}
use Rattle.lists.specs.Lists.{upto}
use Rattle.lists.proofs.Sections.{Apart, part, length_part, get_d_part, get_or-sets_in, get_or-sets-out}
use Rattle.lists.proofs.Upto.{length-table, get_or-table}
use Rattle.paper.specs.Map.{L, P, first_port, source_port, target_port, in_links, out_links}
use Rattle.paper.specs.Order.{order}
use Rattle.paper.specs.Lines.{new_lines, frontier_after}
use Rattle.order_theory.specs.Sound.{Sound}
use Rattle.order_theory.proofs.Ports.{ports-below}
use Rattle.order_theory.proofs.Refusals.{sound}
use Rattle.counting_sort.specs.Sorted.{below, starts_by, sorted_by}
use Rattle.counting_sort.proofs.Counting.{below_length}
use Rattle.neighbours.specs.Tabled.{Tabled, Roomy, Spanned, by_port}
use Rattle.neighbours.proofs.Writing.{target_below}
use Rattle.lines_theory.proofs.Starts.{starts_first, starts-next, starts-last, starts_later}
use Rattle.lines_theory.proofs.Prepared.{tables-sized}
use Rattle.stepmap.specs.Formed.{ReadWell}
use Rattle.stepmap.specs.declared.read.Sizes.{Sizes}
use Rattle.neighbours.specs.declared.Listing.{Listing}
use Rattle.line_tables.specs.Laying.{Laying}
use Rattle.tables.specs.declared.Layout.{Layout}
use Rattle.line_tables.specs.declared.room.Room.{Room}
use Rattle.line_tables.specs.Room.{inputs_of, outputs_of}
use Rattle.line_tables.specs.Layout.{out_keys, in_keys, start_of, entries}
use Rattle.line_tables.specs.Spread.{Spread}
use Rattle.line_tables.specs.Widths.{links_from, Starting, width_at, widths_before, Widths}
use Rattle.line_tables.specs.Spreading.{Clear, Spreads}
use Rattle.line_tables.proofs.Links.{long-starts, long_sorted, out-count, in_count, out-entry, in_entry, out-fits, in_fits}
use Rattle.line_tables.proofs.Rows.{Passing, rows, row, rows_long, row_width}
use Rattle.line_tables.proofs.Stacks.{no_ends}

-- ---- links by port, read back

module _ (f : ℕ → ℕ) (s : Sizes) (low : (k : ℕ) → k < s.links → f k < s.ports) where
  module _ (a : List ℕ) (at : Listing) (after-keys : at.keys + s.links ≤ at.starts) (after-starts : at.starts + (s.ports + 1) ≤ at.sorted) (end_inside : at.sorted + s.links ≤ length a)
      {m : List ℕ} (e : m ≡ by_port a s at (map f (upto s.links))) where
    keyed : List ℕ
    keyed = sets a at.keys (map f (upto s.links))

    started : List ℕ
    started = sets keyed at.starts (starts_by (map f (upto s.links)) s.ports)

    is_sorted : m ≡ sets started at.sorted (sorted_by (map f (upto s.links)) s.ports)
    unfolding by_port keyed started
    is_sorted = e

    long-keyed : length keyed ≡ length a
    unfolding keyed
    long-keyed = length-sets a at.keys (map f (upto s.links))

    long-started : length started ≡ length a
    unfolding started
    long-started = length-sets keyed at.starts (starts_by (map f (upto s.links)) s.ports) ∙ long-keyed

    long_by : length m ≡ length a
    long_by = ap length is_sorted ∙ length-sets started at.sorted (sorted_by (map f (upto s.links)) s.ports) ∙ long-started

    same_by : (i : ℕ) → Apart i at.keys s.links → Apart i at.starts (s.ports + 1) → Apart i at.sorted s.links → get_or m i 0 ≡ get_or a i 0
    unfolding keyed started
    same_by i from-keys from-starts from_sorted =
        ap (λ (x : List ℕ). get_or x i 0) is_sorted
        ∙ get_or-sets-out started at.sorted (sorted_by (map f (upto s.links)) s.ports) i 0 (subst (Apart i at.sorted) (sym (long_sorted f s.links s.ports low)) from_sorted)
        ∙ get_or-sets-out keyed at.starts (starts_by (map f (upto s.links)) s.ports) i 0 (subst (Apart i at.starts) (sym (long-starts f s.links s.ports low)) from-starts)
        ∙ get_or-sets-out a at.keys (map f (upto s.links)) i 0 (subst (Apart i at.keys) (sym (length-table f s.links)) from-keys)

    start_by_lem : (q : ℕ) → q ≤ s.ports → get_or m (at.starts + q) 0 ≡ below (map f (upto s.links)) q
    unfolding started starts_by
    start_by_lem q h =
        ap (λ (x : List ℕ). get_or x (at.starts + q) 0) is_sorted
        ∙ get_or-sets-out started at.sorted (sorted_by (map f (upto s.links)) s.ports) (at.starts + q) 0 (inl (omega arith))
        ∙ get_or-sets_in keyed at.starts (starts_by (map f (upto s.links)) s.ports) q 0 (omega (arith, long-starts f s.links s.ports low)) (omega (arith, long-starts f s.links s.ports low, long-keyed))
        ∙ get_or-table (below (map f (upto s.links))) (suc s.ports) q 0 (omega arith)

    sorted_by_lem : (i : ℕ) → i < s.links → get_or m (at.sorted + i) 0 ≡ get_or (sorted_by (map f (upto s.links)) s.ports) i 0
    sorted_by_lem i h =
        ap (λ (x : List ℕ). get_or x (at.sorted + i) 0) is_sorted
        ∙ get_or-sets_in started at.sorted (sorted_by (map f (upto s.links)) s.ports) i 0 (omega (arith, long_sorted f s.links s.ports low)) (omega (arith, long_sorted f s.links s.ports low, long-started))

-- ---- step by step

module _ {b a₀ : List ℕ} {at : Layout} {room : Room} (ly : Laying b a₀ at room) where
  read : ReadWell b at.sizes.nodes at.sizes.links at.sizes.ports
  read = ly.ready.read

  is-sound : Sound b
  is-sound = sound b ly.ready.links

  ok : Passing b
  ok = record { links = ly.ready.links; cycle = ly.cycle }

  first-low : (v : ℕ) → v ≤ at.sizes.nodes → first_port b v ≤ at.sizes.ports
  first-low v h = omega (arith, ports-below b v (omega (arith, read.nodes)), read.ports)

  target-low : (k : ℕ) → k < at.sizes.links → target_port b k < at.sizes.ports
  target-low k h = target_below read is-sound h

  pub roomy : Roomy b a₀ at.sizes (inputs_of room)
  roomy =
      record {
        tabled =
            record {
              read = read;
              links = ly.ready.links;
              table = ly.firsts_stand;
              apart = omega arith;
              room = omega (arith, ly.ready.long);
            };
        after-keys = omega arith;
        after-starts = omega arith;
        room = omega (arith, ly.ready.long);
      }

  module _ {a₁ : List ℕ} (e₁ : a₁ ≡ by_port a₀ at.sizes (inputs_of room) (map (target_port b) (upto at.sizes.links))) where
    room₀ : room.in_sorted + at.sizes.links ≤ length a₀
    room₀ = omega (arith, ly.ready.long)

    long₁ : length a₁ ≡ length a₀
    long₁ = long_by (target_port b) at.sizes target-low a₀ (inputs_of room) (omega arith) (omega arith) room₀ e₁

    same₁ : (i : ℕ) → Apart i room.ports at.sizes.links → (i < room.in_starts) ⊎ (room.in_sorted + at.sizes.links ≤ i) → get_or a₁ i 0 ≡ get_or a₀ i 0
    same₁ i from-ports side =
        same_by (target_port b) at.sizes target-low a₀ (inputs_of room) (omega arith) (omega arith) room₀ e₁ i from-ports (by_starts side) (by_sorted side)
      where
        by_starts : (i < room.in_starts) ⊎ (room.in_sorted + at.sizes.links ≤ i) → Apart i room.in_starts (at.sizes.ports + 1)
        by_starts (inl h) = inl h
        by_starts (inr h) = inr (omega arith)

        by_sorted : (i < room.in_starts) ⊎ (room.in_sorted + at.sizes.links ≤ i) → Apart i room.in_sorted at.sizes.links
        by_sorted (inl h) = inl (omega arith)
        by_sorted (inr h) = inr h

    first₁ : (v : ℕ) → v ≤ at.sizes.nodes → get_or a₁ (room.firsts + v) 0 ≡ first_port b v
    first₁ v h =
        same₁ (room.firsts + v) (inl (omega arith)) (inl (omega arith))
        ∙ sym (get_d_part a₀ room.firsts (at.sizes.nodes + 1) v 0 (omega arith))
        ∙ ap (λ (m : List ℕ). get_or m v 0) ly.firsts_stand
        ∙ get_or-table (first_port b) (at.sizes.nodes + 1) v 0 (omega arith)

    pub tabled : Tabled b a₁ at.sizes (inputs_of room)
    tabled =
        record {
          read = read;
          links = ly.ready.links;
          table = table₁;
          apart = omega arith;
          room = omega (arith, long₁, ly.ready.long);
        }
      where
        long-part : length (part a₁ room.firsts (at.sizes.nodes + 1)) ≡ at.sizes.nodes + 1
        long-part = length_part a₁ room.firsts (at.sizes.nodes + 1) (omega (arith, long₁, ly.ready.long))

        table₁ : part a₁ room.firsts (at.sizes.nodes + 1) ≡ map (first_port b) (upto (at.sizes.nodes + 1))
        table₁ =
            ext_get_or 0 (part a₁ room.firsts (at.sizes.nodes + 1)) (map (first_port b) (upto (at.sizes.nodes + 1))) (long-part ∙ sym (length-table (first_port b) (at.sizes.nodes + 1)))
            (λ v h. get_d_part a₁ room.firsts (at.sizes.nodes + 1) v 0 (omega (arith, long-part)) ∙ first₁ v (omega (arith, long-part))
            ∙ sym (get_or-table (first_port b) (at.sizes.nodes + 1) v 0 (omega (arith, long-part))))

    module _ {a₂ : List ℕ} (e₂ : a₂ ≡ sets a₁ room.ports (map (source_port b) (upto at.sizes.links))) where
      long₂ : length a₂ ≡ length a₀
      long₂ = ap length e₂ ∙ length-sets a₁ room.ports (map (source_port b) (upto at.sizes.links)) ∙ long₁

      past_ports : (i : ℕ) → Apart i room.ports at.sizes.links → get_or a₂ i 0 ≡ get_or a₁ i 0
      past_ports i away =
          ap (λ (x : List ℕ). get_or x i 0) e₂
          ∙ get_or-sets-out a₁ room.ports (map (source_port b) (upto at.sizes.links)) i 0 (subst (Apart i room.ports) (sym (length-table (source_port b) at.sizes.links)) away)

      same₂ : (i : ℕ) → Apart i room.ports at.sizes.links → (i < room.in_starts) ⊎ (room.in_sorted + at.sizes.links ≤ i) → get_or a₂ i 0 ≡ get_or a₀ i 0
      same₂ i away side = past_ports i away ∙ same₁ i away side

      first₂ : (v : ℕ) → v ≤ at.sizes.nodes → get_or a₂ (room.firsts + v) 0 ≡ first_port b v
      first₂ v h = past_ports (room.firsts + v) (inl (omega arith)) ∙ first₁ v h

      port₂ : (k : ℕ) → k < at.sizes.links → get_or a₂ (room.ports + k) 0 ≡ source_port b k
      port₂ k h =
          ap (λ (x : List ℕ). get_or x (room.ports + k) 0) e₂
          ∙ get_or-sets_in a₁ room.ports (map (source_port b) (upto at.sizes.links)) k 0 (omega (arith, length-table (source_port b) at.sizes.links)) (omega (arith, length-table (source_port b) at.sizes.links, long₁, ly.ready.long))
          ∙ get_or-table (source_port b) at.sizes.links k 0 h

      out-keys : map (source_port b) (upto at.sizes.links) ≡ out_keys b
      out-keys = ap (λ (x : ℕ). map (source_port b) (upto x)) (sym read.links)

      in_keys_lem : map (target_port b) (upto at.sizes.links) ≡ in_keys b
      in_keys_lem = ap (λ (x : ℕ). map (target_port b) (upto x)) (sym read.links)

      top₂ : (q : ℕ) → q ≤ at.sizes.ports → get_or a₂ (room.tops + q) 0 ≡ below (out_keys b) q
      unfolding starts_by
      top₂ q h =
          same₂ (room.tops + q) (inr (omega arith)) (inl (omega arith))
          ∙ sym (get_d_part a₀ room.tops (at.sizes.ports + 1) q 0 (omega arith))
          ∙ ap (λ (m : List ℕ). get_or m q 0) ly.starts_stand
          ∙ get_or-table (below (map (source_port b) (upto at.sizes.links))) (suc at.sizes.ports) q 0 (omega arith)
          ∙ ap (λ (xs : List ℕ). below xs q) out-keys

      sorted₂ : (i : ℕ) → i < at.sizes.links → get_or a₂ (room.out_sorted + i) 0 ≡ get_or (sorted_by (out_keys b) (P b)) i 0
      sorted₂ i h =
          same₂ (room.out_sorted + i) (inr (omega arith)) (inl (omega arith))
          ∙ sym (get_d_part a₀ room.out_sorted at.sizes.links i 0 h)
          ∙ ap (λ (m : List ℕ). get_or m i 0) ly.sorted_stand
          ∙ ap₂ (λ (xs : List ℕ) (q : ℕ). get_or (sorted_by xs q) i 0) out-keys (sym read.ports)

      in_start₂ : (q : ℕ) → q ≤ at.sizes.ports → get_or a₂ (room.in_starts + q) 0 ≡ below (in_keys b) q
      in_start₂ q h =
          past_ports (room.in_starts + q) (inr (omega arith))
          ∙ start_by_lem (target_port b) at.sizes target-low a₀ (inputs_of room) (omega arith) (omega arith) room₀ e₁ q h
          ∙ ap (λ (xs : List ℕ). below xs q) in_keys_lem

      in_sorted₂ : (i : ℕ) → i < at.sizes.links → get_or a₂ (room.in_sorted + i) 0 ≡ get_or (sorted_by (in_keys b) (P b)) i 0
      in_sorted₂ i h =
          past_ports (room.in_sorted + i) (inr (omega arith))
          ∙ sorted_by_lem (target_port b) at.sizes target-low a₀ (inputs_of room) (omega arith) (omega arith) room₀ e₁ i h
          ∙ ap₂ (λ (xs : List ℕ) (q : ℕ). get_or (sorted_by xs q) i 0) in_keys_lem (sym read.ports)

      out-from : (v : ℕ) → v ≤ at.sizes.nodes → links_from a₂ (outputs_of room) v ≡ below (out_keys b) (first_port b v)
      out-from v h = ap (λ (q : ℕ). get_or a₂ (room.tops + q) 0) (first₂ v h) ∙ top₂ (first_port b v) (first-low v h)

      few-links : (q : ℕ) → below (out_keys b) q ≤ at.sizes.links
      few-links q = omega (arith, below_length (out_keys b) q, length-table (source_port b) (L b), read.links)

      pub starting : Starting a₂ at.sizes.nodes (outputs_of room) room.outs
      starting =
          record {
            spanned =
                λ v h. record {
                  first-inside = omega (arith, long₂, ly.ready.long);
                  start-inside = omega (arith, first₂ v h, first-low v h, long₂, ly.ready.long);
                };
            small = λ v h. omega (arith, out-from v h, few-links (first_port b v), read.few-links);
            before = λ v h. (omega arith, omega (arith, first₂ v h, first-low v h));
            room = omega (arith, long₂, ly.ready.long);
          }

      module _ {a₃ : List ℕ} (e₃ : a₃ ≡ sets a₂ room.outs (map (links_from a₂ (outputs_of room)) (upto (at.sizes.nodes + 1)))) where
        table-length : length (map (links_from a₂ (outputs_of room)) (upto (at.sizes.nodes + 1))) ≡ at.sizes.nodes + 1
        table-length = length-table (links_from a₂ (outputs_of room)) (at.sizes.nodes + 1)

        long₃ : length a₃ ≡ length a₀
        long₃ = ap length e₃ ∙ length-sets a₂ room.outs (map (links_from a₂ (outputs_of room)) (upto (at.sizes.nodes + 1))) ∙ long₂

        same₃ : (i : ℕ) → Apart i room.outs (at.sizes.nodes + 1) → get_or a₃ i 0 ≡ get_or a₂ i 0
        same₃ i away =
            ap (λ (x : List ℕ). get_or x i 0) e₃
            ∙ get_or-sets-out a₂ room.outs (map (links_from a₂ (outputs_of room)) (upto (at.sizes.nodes + 1))) i 0 (subst (Apart i room.outs) (sym table-length) away)

        out₃ : (v : ℕ) → v ≤ at.sizes.nodes → get_or a₃ (room.outs + v) 0 ≡ below (out_keys b) (first_port b v)
        out₃ v h =
            ap (λ (x : List ℕ). get_or x (room.outs + v) 0) e₃
            ∙ get_or-sets_in a₂ room.outs (map (links_from a₂ (outputs_of room)) (upto (at.sizes.nodes + 1))) v 0 (omega (arith, table-length)) (omega (arith, table-length, long₂, ly.ready.long))
            ∙ get_or-table (links_from a₂ (outputs_of room)) (at.sizes.nodes + 1) v 0 (omega arith)
            ∙ out-from v h

        first₃ : (v : ℕ) → v ≤ at.sizes.nodes → get_or a₃ (room.firsts + v) 0 ≡ first_port b v
        first₃ v h = same₃ (room.firsts + v) (inl (omega arith)) ∙ first₂ v h

        in_from : (v : ℕ) → v ≤ at.sizes.nodes → links_from a₃ (inputs_of room) v ≡ below (in_keys b) (first_port b v)
        in_from v h =
            ap (λ (q : ℕ). get_or a₃ (room.in_starts + q) 0) (first₃ v h)
            ∙ same₃ (room.in_starts + first_port b v) (inr (omega arith))
            ∙ in_start₂ (first_port b v) (first-low v h)

        few_in : (q : ℕ) → below (in_keys b) q ≤ at.sizes.links
        few_in q = omega (arith, below_length (in_keys b) q, length-table (target_port b) (L b), read.links)

        next-node : (v : ℕ) → suc v ≡ v + 1
        next-node v = omega arith

        in_span : (v : ℕ) → v < at.sizes.nodes → links_from a₃ (inputs_of room) v + length (in_links b v) ≡ links_from a₃ (inputs_of room) (v + 1)
        in_span v h =
            ap (λ (k : ℕ). k + length (in_links b v)) (in_from v (omega arith)) ∙ in_count read is-sound v h
            ∙ ap (λ (u : ℕ). below (in_keys b) (first_port b u)) (next-node v) ∙ sym (in_from (v + 1) (omega arith))

        out-span : (v : ℕ) → v < at.sizes.nodes → get_or a₃ (room.outs + v) 0 + length (out_links b v) ≡ get_or a₃ (room.outs + (v + 1)) 0
        out-span v h =
            ap (λ (k : ℕ). k + length (out_links b v)) (out₃ v (omega arith)) ∙ out-count read is-sound v h
            ∙ ap (λ (u : ℕ). below (out_keys b) (first_port b u)) (next-node v) ∙ sym (out₃ (v + 1) (omega arith))

        -- the words give each node's width, and so the starts of the tables
        width_is : (v : ℕ) → v < at.sizes.nodes → width_at a₃ (inputs_of room) room.outs v ≡ length (row b v)
        unfolding width_at
        width_is v h =
            ap₂ (λ (x y : ℕ). x + new_lines x y) (omega (arith, in_span v h)) (omega (arith, out-span v h))
            ∙ sym (row_width ok v (omega (arith, read.nodes)))

        starts_are : (v : ℕ) → v ≤ at.sizes.nodes → widths_before a₃ (inputs_of room) room.outs v ≡ start_of b v
        unfolding widths_before
        starts_are zero h = sym (starts_first 0 (rows b))
        starts_are (suc v) h =
            omega
            (arith, starts_are v (omega arith), width_is v h, starts-next 0 (rows b) v (omega (arith, rows_long ok, read.nodes)))

        start-few : (v : ℕ) → v ≤ at.sizes.nodes → start_of b v ≤ entries b
        start-few v h =
            omega (
              arith,
              starts_mono v h,
              starts-last 0 (rows b),
              ap (start_of b) (rows_long ok ∙ read.nodes),
              (tables-sized b ly.ready.links ly.cycle).line_entries,
            )
          where
            starts_mono : (v : ℕ) → v ≤ at.sizes.nodes → start_of b v ≤ start_of b at.sizes.nodes
            starts_mono v h = go (dec_lt v at.sizes.nodes)
              where
                last : (v n : ℕ) → v ≤ n → (v < n → ⊥) → v ≡ n
                last v n le ge = omega arith

                go : Dec (v < at.sizes.nodes) → start_of b v ≤ start_of b at.sizes.nodes
                go (yes lt) = omega (arith, starts_later 0 (rows b) v at.sizes.nodes lt (omega (arith, rows_long ok, read.nodes)))
                go (no ge) = rw (last v at.sizes.nodes h ge) (omega arith)

        entries-few : entries b ≤ at.sizes.nodes + 2 * at.sizes.links
        entries-few = omega (arith, (tables-sized b ly.ready.links ly.cycle).few, read.nodes, read.links)

        pub widths : Widths a₃ at.sizes.nodes (inputs_of room) room.outs at.begins
        widths =
            record {
              spaced =
                  λ v h. record {
                    from = span v (omega arith);
                    to = span (v + 1) (omega arith);
                    rises = omega (arith, in_span v h);
                    inside = omega (arith, long₃, ly.ready.long);
                    rises-out = omega (arith, out-span v h);
                    few = omega (arith, in_from (v + 1) (omega arith), out₃ (v + 1) (omega arith), few_in (first_port b (v + 1)), few-links (first_port b (v + 1)), read.few-links);
                  };
              after = (omega arith, omega arith, omega arith);
              room = omega (arith, long₃, ly.ready.long);
              small = λ v h. omega (arith, starts_are v h, start-few v h, entries-few, read.few-nodes, read.few-links);
            }
          where
            span : (v : ℕ) → v ≤ at.sizes.nodes → Spanned a₃ (inputs_of room) v
            span v h =
                record {
                  first-inside = omega (arith, long₃, ly.ready.long);
                  start-inside = omega (arith, first₃ v h, first-low v h, long₃, ly.ready.long);
                }

        module _ {a₄ : List ℕ} (e₄ : a₄ ≡ sets a₃ at.begins (map (widths_before a₃ (inputs_of room) room.outs) (upto (at.sizes.nodes + 1)))) where
          starts-length : length (map (widths_before a₃ (inputs_of room) room.outs) (upto (at.sizes.nodes + 1))) ≡ at.sizes.nodes + 1
          starts-length = length-table (widths_before a₃ (inputs_of room) room.outs) (at.sizes.nodes + 1)

          long₄ : length a₄ ≡ length a₀
          long₄ =
              ap length e₄ ∙ length-sets a₃ at.begins (map (widths_before a₃ (inputs_of room) room.outs) (upto (at.sizes.nodes + 1))) ∙ long₃

          same₄ : (i : ℕ) → Apart i at.begins (at.sizes.nodes + 1) → get_or a₄ i 0 ≡ get_or a₃ i 0
          same₄ i away =
              ap (λ (x : List ℕ). get_or x i 0) e₄
              ∙ get_or-sets-out a₃ at.begins (map (widths_before a₃ (inputs_of room) room.outs) (upto (at.sizes.nodes + 1))) i 0
              (subst (Apart i at.begins) (sym starts-length) away)

          behind : (i : ℕ) → at.lines ≤ i → get_or a₄ i 0 ≡ get_or a₃ i 0
          behind i h = same₄ i (inr (omega arith))

          start₄ : (v : ℕ) → v ≤ at.sizes.nodes → get_or a₄ (at.begins + v) 0 ≡ start_of b v
          start₄ v h =
              ap (λ (x : List ℕ). get_or x (at.begins + v) 0) e₄
              ∙ get_or-sets_in a₃ at.begins (map (widths_before a₃ (inputs_of room) room.outs) (upto (at.sizes.nodes + 1))) v 0
              (omega (arith, starts-length)) (omega (arith, starts-length, long₃, ly.ready.long))
              ∙ get_or-table (widths_before a₃ (inputs_of room) room.outs) (at.sizes.nodes + 1) v 0 (omega arith)
              ∙ starts_are v h

          -- words before the links' ports stand, but for the node starts
          in_front : (i : ℕ) → i < at.scratch → Apart i at.begins (at.sizes.nodes + 1) → get_or a₄ i 0 ≡ get_or a₀ i 0
          in_front i h away =
              same₄ i away ∙ same₃ i (inl (omega arith)) ∙ same₂ i (inl (omega arith)) (inl (omega arith))

          out_link₄ : (v : ℕ) → v < at.sizes.nodes → (i : ℕ) → i < length (out_links b v)
              → get_or a₄ (room.out_sorted + (below (out_keys b) (first_port b v) + i)) 0 ≡ get_or (out_links b v) i 0
          out_link₄ v h i g =
              let place = below (out_keys b) (first_port b v) + i in
              let low : place < at.sizes.links = omega (arith, out-fits read is-sound v h) in
              behind (room.out_sorted + place) (omega arith) ∙ same₃ (room.out_sorted + place) (inl (omega arith)) ∙ sorted₂ place low
              ∙ out-entry read is-sound v h i g

          in_link₄ : (v : ℕ) → v < at.sizes.nodes → (i : ℕ) → i < length (in_links b v)
              → get_or a₄ (room.in_sorted + (below (in_keys b) (first_port b v) + i)) 0 ≡ get_or (in_links b v) i 0
          in_link₄ v h i g =
              let place = below (in_keys b) (first_port b v) + i in
              let low : place < at.sizes.links = omega (arith, in_fits read is-sound v h) in
              behind (room.in_sorted + place) (omega arith) ∙ same₃ (room.in_sorted + place) (inr (omega arith)) ∙ in_sorted₂ place low
              ∙ in_entry read is-sound v h i g

          node₄ : (t : ℕ) → t < at.sizes.nodes → get_or a₄ (at.order + t) 0 ≡ get_or (order b) t 0
          node₄ t h =
              in_front (at.order + t) (omega arith) (inl (omega arith))
              ∙ sym (get_d_part a₀ at.order at.sizes.nodes t 0 h) ∙ ap (λ (m : List ℕ). get_or m t 0) ly.order-stands

          spread : Spread b a₄ at room
          spread =
              record {
                ready = record { read = read; links = ly.ready.links; placed = ly.ready.placed; fits = ly.ready.fits; long = omega (arith, long₄, ly.ready.long) };
                cycle = ly.cycle;
                node-is = node₄;
                list-start = start₄;
                first-is = λ v h. behind (room.firsts + v) (omega arith) ∙ first₃ v h;
                port-is = λ k h. behind (room.ports + k) (omega arith) ∙ same₃ (room.ports + k) (inl (omega arith)) ∙ port₂ k h;
                out-link = out_link₄;
                out-start = λ v h. behind (room.outs + v) (omega arith) ∙ out₃ v h;
                in_start = λ q h. behind (room.in_starts + q) (omega arith) ∙ same₃ (room.in_starts + q) (inr (omega arith)) ∙ in_start₂ q h;
                in_link = in_link₄;
              }

          clear₄ : Clear a₄ at
          clear₄ i where-clear h = in_front i h (away where-clear) ∙ ly.clear i (still where-clear) h
            where
              away : (i < at.order) ⊎ ((at.order + at.sizes.nodes ≤ i) × (i < at.begins)) ⊎ (at.lines ≤ i) → Apart i at.begins (at.sizes.nodes + 1)
              away (inl first) = inl (omega arith)
              away (inr (inl between)) = inl between.1
              away (inr (inr lists)) = inr (omega arith)

              still : (i < at.order) ⊎ ((at.order + at.sizes.nodes ≤ i) × (i < at.begins)) ⊎ (at.lines ≤ i) → (i < at.order) ⊎ (at.order + at.sizes.nodes ≤ i)
              still (inl first) = inl first
              still (inr (inl between)) = inr between.0
              still (inr (inr lists)) = inr (omega arith)

          pub spreads : Spreads b a₀ a₄ at room
          unfolding frontier_after
          spreads =
              record {
                turned =
                    record {
                      spread = spread;
                      stacks = no_ends (λ q h. behind (room.tops + q) (omega arith) ∙ same₃ (room.tops + q) (inl (omega arith)) ∙ top₂ q (omega arith));
                      held = record { positions = λ x m. absurd (Memᴰ.not-nil m); lists = λ x m. absurd (Memᴰ.not-nil m) };
                    };
                clear = clear₄;
                long = long₄;
                beyond =
                    λ i h. behind i (omega arith) ∙ same₃ i (inr (omega arith)) ∙ same₂ i (inr (omega arith)) (inr (omega arith));
              }
