-- Each answer of the acceptance test, as a value of the definition: what fails one part is not accepted, and what passes all is.
-- Rests on agreement's Reading, Listing and Agreeing.
use Prim.Native.Nat.{ℕ, suc, ◌+◌, ◌≤◌, ◌<◌}
use native.Mathlib.Decide.{dec_lt}
use native.Mathlib.Omega.{arith}
use mathlib.Core.Path.{◌≡◌, sym, ap, ap₂, ◌∙◌, subst}
use mathlib.Core.Bool.{Bool, true, false, not}
use mathlib.Core.List.{List, map}
use lib.ListN.{get_or}
use Rattle.lists.specs.Lists.{upto, one, count as how_many, member, times, Rising}
use Rattle.lists.proofs.Sections.{part}
use Rattle.lists.proofs.Upto.{length-table, get_or-table}
use Rattle.lists.proofs.Members.{map_members}
use Rattle.lists.proofs.Weight.{count-upto-same}
use Rattle.lists.proofs.Tests.{Says, says_no_lem, granted, denied, reworded, same-says}
use Rattle.paper.specs.Map.{N, L, link_to}
use Rattle.paper.specs.Area.{Section, K, position, lines_of, nodes_of}
use Rattle.paper.specs.Accepted.{links_between, lines_between, right_after, Starts, Accepted, accepted}
use Rattle.paper.proofs.Accepted.{accepted-says}
use Rattle.order_theory.proofs.Refusals.{sound}
use Rattle.stepmap.proofs.Known.{has-link}
use Rattle.groups.specs.Groups.{hits}
use Rattle.groups.proofs.Bags.{known-below}
use Rattle.tables.specs.declared.Layout.{Layout}
use Rattle.agreement.specs.Tables.{entry_count, lines_in, nodes_on, Sized, Known, Tables, Rise}
use Rattle.agreement.specs.Lists.{ListsAgree, LinksAgree, Linked, line_numbers, fronts, backs, sources, targets}
use Rattle.acceptance.specs.Testable.{Testable, Ordered}
use Rattle.agreement.proofs.Listing.{lines-below, backs-below}
use Rattle.agreement.proofs.Reading.{word-is, count-is, position-is, lines_are, nodes_are}
use Rattle.agreement.proofs.Agreeing.{hits_few, member-hits, no_line-hits, next-hits, link-hits}

-- the same start list in other words
starts_as : {s r : ℕ → ℕ} {m n d e : ℕ} → ((i : ℕ) → s i ≡ r i) → m ≡ n → d ≡ e → Starts s m d → Starts r n e
starts_as {s} {r} {m} {n} same em ed starts =
    record {
      begins = sym (same 0) ∙ starts.begins;
      rises = λ i h. omega (arith, same i, same (suc i), starts.rises i (omega arith));
      ends = ap r (sym em) ∙ sym (same m) ∙ starts.ends ∙ ed;
    }

module _ {b a : List ℕ} {at : Layout} (ready : Testable b a at) where
  pub linked : Linked b at.sizes
  linked =
      record {
        few = ready.read.few-links;
        few-nodes = ready.read.few-nodes;
        link = λ i h. has-link ready.read h;
        from = λ i h. omega (arith, (sound b ready.links).source i (omega (arith, ready.read.links)), ready.read.nodes);
        to = λ i h. omega (arith, (sound b ready.links).target i (omega (arith, ready.read.links)), ready.read.nodes);
      }

  module _ {k : ℕ} (is-k : k ≡ get_or a 0 0) where
    count : K b a ≡ k
    count = count-is ready.placed a ∙ sym is-k

    pub too_many : at.sizes.links + at.sizes.nodes < k → Says false (Accepted b a)
    too_many h = says_no_lem (λ acc. omega (arith, acc.few, count, ready.read.nodes, ready.read.links))

    pub sized : k ≤ at.sizes.links + at.sizes.nodes → Sized a at k
    sized h =
        record {
          few-nodes = ready.read.few-nodes;
          few-links = ready.read.few-links;
          few-lines = h;
          positions-fit = omega (arith, ready.placed, ready.room);
          begins-fit = omega (arith, ready.placed, ready.room);
          lines_fit = omega (arith, ready.placed, ready.room);
          starts_fit = omega (arith, ready.placed, ready.room);
          along-fit = omega (arith, ready.placed, ready.room);
        }

    ends : L b + K b a ≡ entry_count at k
    ends = ap₂ ◌+◌ ready.read.links count

    -- ---- start lists and entries

    known_from : Accepted b a → Known a at k
    known_from acc =
        record {
          node_starts = starts_as (word-is ready.placed a Section.node_starts) ready.read.nodes ends acc.node_starts;
          line_starts = starts_as (word-is ready.placed a Section.line_starts) count ends acc.line_starts;
          lines_known = λ i h. omega (arith, word-is ready.placed a Section.lines_of_nodes i, count, acc.lines_known i (omega (arith, ends)));
          nodes_known = λ i h. omega (arith, word-is ready.placed a Section.nodes_of_lines i, ready.read.nodes, acc.nodes_known i (omega (arith, ends)));
        }

    pub unknown : {r : Bool} → Says r (Known a at k) → not r ≡ true → Says false (Accepted b a)
    unknown said e = says_no_lem (λ acc. denied said e (known_from acc))

    -- ---- the order

    pub unordered : {r : Bool} → Says r (Ordered b a) → not r ≡ true → Says false (Accepted b a)
    unordered said e = says_no_lem (λ acc. denied said e (record { each_once = acc.each_once; forward = acc.forward }))

    -- ---- positions

    positions_are : (x : ℕ) → map (position b a) (nodes_of b a x) ≡ map (λ v. get_or a (at.positions + v) 0) (nodes_on a at x)
    positions_are x =
        ap (map (position b a)) (nodes_are ready.placed a x)
        ∙ map_members (position b a) (λ v. get_or a (at.positions + v) 0) (nodes_on a at x) (λ v m. position-is ready.placed a v)

    rise_from : Accepted b a → Rise a at k
    rise_from acc x h = subst Rising (positions_are x) (acc.rises x (omega (arith, count)))

    pub not_rising : {r : Bool} → Says r (Rise a at k) → not r ≡ true → Says false (Accepted b a)
    not_rising said e = says_no_lem (λ acc. denied said e (rise_from acc))

    module _ (few : k ≤ at.sizes.links + at.sizes.nodes) {r₂ : Bool} (said₂ : Says r₂ (Known a at k)) (good₂ : not r₂ ≡ false) where
      pub tables : Tables a at k
      tables = record { sized = sized few; known = granted said₂ good₂ }

      module _ {r₄ : Bool} (said₄ : Says r₄ (Rise a at k)) (good₄ : not r₄ ≡ false) where
        -- ---- the lists

        listed_here : {v x : ℕ} → v < at.sizes.nodes → x < k → hits v x (part a at.along (entry_count at k)) (line_numbers a at k) ≡ one (member v (nodes_of b a x))
        listed_here {v} {x} hv hx =
            member-hits tables (granted said₄ good₄) v hx ∙ ap (λ (xs : List ℕ). one (member v xs)) (sym (nodes_are ready.placed a x))

        lists-from : Accepted b a → ListsAgree a at k
        lists-from acc v h x = go (dec_lt x k)
          where
            go : Dec (x < k) → times x (lines_in a at v) ≡ hits v x (part a at.along (entry_count at k)) (line_numbers a at k)
            go (yes hx) =
                ap (times x) (sym (lines_are ready.placed a v))
                ∙ acc.listed v (omega (arith, ready.read.nodes)) x (omega (arith, count))
                ∙ sym (listed_here h hx)
            go (no nx) = lines-below tables h x (omega arith) ∙ sym (no_line-hits tables v (omega arith))

        lists_back : ListsAgree a at k → (v : ℕ) → v < N b → (x : ℕ) → x < K b a → times x (lines_of b a v) ≡ one (member v (nodes_of b a x))
        lists_back agree v hv x hx =
            ap (times x) (lines_are ready.placed a v) ∙ agree v (omega (arith, ready.read.nodes)) x
            ∙ listed_here (omega (arith, ready.read.nodes)) (omega (arith, count))

        pub lists_differ : {r : Bool} → Says r (ListsAgree a at k) → not r ≡ true → Says false (Accepted b a)
        lists_differ said e = says_no_lem (λ acc. denied said e (lists-from acc))

        -- ---- the links

        between : (u w : ℕ) → hits u w (fronts a at k) (backs a at k) ≡ lines_between b a u w
        unfolding lines_between
        between u w =
            next-hits tables (granted said₄ good₄) u w
            ∙ count-upto-same (λ x. right_after u w (nodes_on a at x)) (λ x. right_after u w (nodes_of b a x)) k
            (λ x h. ap (right_after u w) (sym (nodes_are ready.placed a x)))
            ∙ ap (λ (m : ℕ). how_many (λ x. right_after u w (nodes_of b a x)) (upto m)) (sym count)

        links-from : Accepted b a → LinksAgree b a at k
        links-from acc u h w = go (dec_lt w at.sizes.nodes)
          where
            go : Dec (w < at.sizes.nodes) → hits u w (sources b at.sizes.links) (targets b at.sizes.links) ≡ hits u w (fronts a at k) (backs a at k)
            go (yes hw) =
                link-hits b ready.read.links u w
                ∙ acc.adjacent u (omega (arith, ready.read.nodes)) w (omega (arith, ready.read.nodes))
                ∙ sym (between u w)
            go (no nw) =
                omega (
                  arith,
                  hits_few u w (sources b at.sizes.links) (targets b at.sizes.links),
                  hits_few u w (fronts a at k) (backs a at k),
                  backs-below tables w (omega arith),
                  known-below at.sizes.nodes (targets b at.sizes.links)
                      (λ i h. omega (arith, length-table (link_to b) at.sizes.links, get_or-table (link_to b) at.sizes.links i 0 (omega (arith, length-table (link_to b) at.sizes.links)), linked.to i (omega (arith, length-table (link_to b) at.sizes.links)))) w (omega arith),
                )

        links-back : LinksAgree b a at k → (u : ℕ) → u < N b → (w : ℕ) → w < N b → links_between b u w ≡ lines_between b a u w
        links-back agree u hu w hw =
            sym (link-hits b ready.read.links u w) ∙ agree u (omega (arith, ready.read.nodes)) w ∙ between u w

        -- ---- all of it

        pub accepted_if : {r₃ : Bool} → Says r₃ (Ordered b a) → not r₃ ≡ false → {r₅ : Bool} → Says r₅ (ListsAgree a at k) → not r₅ ≡ false
            → {r : Bool} → Says r (LinksAgree b a at k) → Says r (Accepted b a)
        accepted_if said₃ good₃ said₅ good₅ said =
            reworded
            (λ agree. record {
              few = omega (arith, few, count, ready.read.nodes, ready.read.links);
              each_once = (granted said₃ good₃).each_once;
              node_starts = starts_as (λ i. sym (word-is ready.placed a Section.node_starts i)) (sym ready.read.nodes) (sym ends) tables.known.node_starts;
              line_starts = starts_as (λ i. sym (word-is ready.placed a Section.line_starts i)) (sym count) (sym ends) tables.known.line_starts;
              lines_known = λ i h. omega (arith, word-is ready.placed a Section.lines_of_nodes i, count, tables.known.lines_known i (omega (arith, ends)));
              nodes_known = λ i h. omega (arith, word-is ready.placed a Section.nodes_of_lines i, ready.read.nodes, tables.known.nodes_known i (omega (arith, ends)));
              rises = λ x h. subst Rising (sym (positions_are x)) (granted said₄ good₄ x (omega (arith, count)));
              listed = lists_back (granted said₅ good₅);
              adjacent = links-back agree;
              forward = (granted said₃ good₃).forward;
            })
            links-from said

-- the answer as the definition's value
pub as_accepted : {b a : List ℕ} {r : Bool} → Says r (Accepted b a) → r ≡ accepted b a
as_accepted {b} {a} said = same-says said (accepted-says b a)
