-- The positions of a list's nodes added node by node.
-- Rests on Became, on tables' Usable (the tables stand while scratch is written) and on accepted_theory's counts.
use Prim.Native.Nat.{ℕ, ◌+◌, ◌≤◌, ◌<◌}
use native.Mathlib.Numerals.{add-one}
use native.Mathlib.Omega.{arith}
use mathlib.Core.Path.{◌≡◌, refl, sym, ap, ap₂, ◌∙◌}
use mathlib.Core.List.{List, [], ◌∷◌, ◌++◌}
use lib.ListN.{length, get_or, take, length-take}
use lib.Seq.{get_or-take, take-suc, take_all}
use Rattle.lists.specs.Lists.{In}
use Rattle.lists.proofs.Sections.{get_d_part}
use Rattle.paper.specs.Map.{N}
use Rattle.accepted_theory.specs.collecting.SmallMap.{Held, add_lines, add_nodes}
use Rattle.accepted_theory.specs.collecting.Collected.{count_on}
use Rattle.accepted_theory.proofs.collecting.Laws.{below_places, in_below}
use Rattle.accepted_theory.proofs.collecting.Sized.{count-nodes, count-most-nodes}
use Rattle.tables.specs.declared.Layout.{Layout}
use Rattle.tables.specs.Placed.{scratch_size}
use Rattle.tables.specs.Usable.{Usable, Scratched, entries_of}
use Rattle.tables.proofs.Within.{within_wider}
use Rattle.tables.proofs.Words.{position-is, lines_are}
use Rattle.tables.proofs.Usable.{still_usable, tables_still}
use Rattle.take_in.specs.Listed.{list_in}
use Rattle.take_in.proofs.Listed.{long-list}
use Rattle.intervals.specs.declared.layout.MapRoom.{MapRoom}
use Rattle.intervals.specs.Holds.{AddingNode, AddingNodes, Became, NodesTurn, add_words, add_words_of}
use Rattle.intervals.proofs.Became.{became-none, became_both, became-same, before_slots}

add_words_snoc : (a : List ℕ) (at : Layout) (vs : List ℕ) (v : ℕ) (hs : List Held) → add_words a at (vs ++ (v ∷ [])) hs ≡ add_words_of a at v (add_words a at vs hs)
unfolding add_words
add_words_snoc a at [] v hs = refl
add_words_snoc a at (u ∷ us) v hs = add_words_snoc a at us v (add_words_of a at u hs)

pub none-counted : (x : ℕ) → count_on [] x ≡ 0
unfolding count_on
none-counted x = refl

-- in a usable area the words tell the nodes' positions and lines
pub words_are : {b a : List ℕ} {at : Layout} → Usable b a at → (vs : List ℕ) (hs : List Held) → add_words a at vs hs ≡ add_nodes b a vs hs
unfolding add_words add_nodes
words_are usable [] hs = refl
words_are {b} {a} {at} usable (v ∷ vs) hs =
    ap₂ (λ (p : ℕ) (ls : List ℕ). add_words a at vs (add_lines p ls hs)) (sym (position-is usable v)) (sym (lines_are usable v))
    ∙ words_are usable vs _

module _ {at : Layout} {room : MapRoom} {a rs : List ℕ} {count : ℕ} (pre : AddingNodes at room a rs count) where
  abbrev list : List ℕ
  list = list_in a at count

  many : length list ≡ count
  many = long-list pre.usable pre.listed

  pub nodes-first : NodesTurn at room a rs count a rs 0 0
  unfolding add_words
  nodes-first = record { high = omega arith; became = became-none }

  module _ {m ws : List ℕ} {now i : ℕ} (turn : NodesTurn at room a rs count m ws now i) where
    long : length m ≡ length a
    long = turn.became.kept.long

    pub scratched : Scratched at a m
    scratched = within_wider turn.became.kept at.scratch (scratch_size at.sizes) (omega (arith, pre.fits)) (omega (arith, pre.fits))

    module _ (more : i < count) where
      pub node-inside : at.scratch + i < length m
      node-inside = omega (arith, long, pre.usable.placed.after-scratch, pre.usable.room, pre.listed.few)

      module _ {v : ℕ} (is : v ≡ get_or m (at.scratch + i) 0) where
        word : v ≡ get_or a (at.scratch + i) 0
        word = is ∙ before_slots turn.became (at.scratch + i) (omega (arith, pre.listed.few, pre.fits.after_list))

        here : v ≡ get_or list i 0
        here = word ∙ sym (get_d_part a at.scratch count i 0 more)

        -- the nodes before it are known
        known-before : (u : ℕ) → In u (take i list) → u < N pre.bytes
        known-before =
            in_below (N pre.bytes) (take i list)
            (below_places (N pre.bytes) (take i list)
            (λ j h. let less : j < i = omega (arith, length-take i list) in
            omega (
              arith,
              get_or-take i list j 0 less,
              get_d_part a at.scratch count j 0 (omega arith),
              pre.listed.known j (omega arith),
              pre.usable.read.nodes,
            )))

        few-counted : (x : ℕ) → count_on (add_words a at (take i list) []) x ≤ 512
        few-counted x =
            omega (
              arith,
              ap (λ (hs : List Held). count_on hs x) (words_are pre.usable (take i list) []),
              count-nodes pre.bytes a (take i list) [] x,
              none-counted x,
              count-most-nodes pre.usable.tables (take i list) known-before x,
              length-take i list,
              pre.listed.few,
              pre.usable.read.few-nodes,
            )

        pub can_add-node : AddingNode at room m ws now v
        can_add-node =
            record {
              bytes = pre.bytes;
              usable = still_usable pre.usable scratched;
              fits = pre.fits;
              known = omega (arith, word, pre.listed.known i more);
              held = add_words a at (take i list) [];
              holds = turn.became.holds [] pre.empty;
              roomy = omega (arith, turn.became.long, pre.roomy);
              small = few-counted;
            }

        pub nodes-on : {o vs : List ℕ} {then : ℕ} → Became (add_words_of m at v) room m ws now o vs then
            → NodesTurn at room a rs count o vs then (i + 1)
        nodes-on step = record { high = omega arith; became = became-same one_more (became_both turn.became step) }
          where
            same_lines : entries_of m at.begins at.lines v ≡ entries_of a at.begins at.lines v
            same_lines =
                sym (lines_are (still_usable pre.usable scratched) v)
                ∙ sym ((tables_still pre.usable scratched).lines v (omega (arith, word, pre.listed.known i more, pre.usable.read.nodes)))
                ∙ lines_are pre.usable v

            same_step : (hs : List Held) → add_words_of m at v hs ≡ add_words_of a at v hs
            same_step hs =
                ap₂ (λ (p : ℕ) (ls : List ℕ). add_lines p ls hs)
                (before_slots turn.became (at.positions + v) (omega (arith, word, pre.listed.known i more, pre.usable.placed, pre.fits.after_list))) same_lines

            one_more : (hs : List Held) → add_words_of m at v (add_words a at (take i list) hs) ≡ add_words a at (take (i + 1) list) hs
            one_more hs =
                same_step (add_words a at (take i list) hs)
                ∙ ap (λ (u : ℕ). add_words_of a at u (add_words a at (take i list) hs)) here
                ∙ sym (add_words_snoc a at (take i list) (get_or list i 0) hs)
                ∙ ap (λ (vs : List ℕ). add_words a at vs hs)
                (sym (take-suc list i 0 (omega (arith, many))) ∙ ap (λ (j : ℕ). take j list) (sym (add-one i)))

    pub nodes_done : count ≤ i → Became (add_words a at (list_in a at count)) room a rs 0 m ws now
    nodes_done done =
        became-same (λ hs. ap (λ (vs : List ℕ). add_words a at vs hs) (take_all i list (omega (arith, many)))) turn.became
