-- A node's position added to its lines, line by line.
-- Rests on Became and on tables' Words.
use Prim.Native.Nat.{ℕ, suc, ◌+◌, ◌-◌, ◌≤◌, ◌<◌}
use native.Mathlib.Omega.{arith}
use mathlib.Core.Path.{◌≡◌, sym, ap, ◌∙◌}
use mathlib.Core.List.{List}
use lib.ListN.{length, get_or, take, length-take}
use lib.Seq.{take-suc, take_all}
use lib.Dec.{eqb}
use Rattle.paper.specs.Area.{lines_of}
use Rattle.accepted_theory.specs.collecting.SmallMap.{Held, add, add_lines}
use Rattle.accepted_theory.proofs.collecting.Laws.{count_most}
use Rattle.accepted_theory.proofs.collecting.Add.{add_lines_snoc}
use Rattle.accepted_theory.proofs.collecting.Sized.{count-lines}
use Rattle.tables.specs.declared.Layout.{Layout}
use Rattle.tables.specs.Usable.{entries_of}
use Rattle.tables.proofs.Words.{count-few, lines_are, lines_long, lines_end, line_word, line_known}
use Rattle.intervals.specs.declared.layout.MapRoom.{MapRoom}
use Rattle.intervals.specs.Holds.{Adding, AddingNode, Became, Holds, NodeTurn, add_words_of}
use Rattle.intervals.proofs.Became.{became-none, became_both, became-same, before_slots}

module _ {at : Layout} {room : MapRoom} {a rs : List ℕ} {made v : ℕ} (pre : AddingNode at room a rs made v) where
  abbrev lines : List ℕ
  lines = entries_of a at.begins at.lines v

  abbrev from : ℕ
  from = get_or a (at.begins + v) 0

  abbrev pos : ℕ
  pos = get_or a (at.positions + v) 0

  same_lines : lines_of pre.bytes a v ≡ lines
  same_lines = lines_are pre.usable v

  pub long-lines : from + length lines ≡ get_or a (at.begins + (v + 1)) 0
  long-lines = ap (λ (xs : List ℕ). from + length xs) (sym same_lines) ∙ lines_long pre.usable v pre.known

  few-lines : from + length lines ≤ at.sizes.links + (at.sizes.links + at.sizes.nodes)
  few-lines = omega (arith, long-lines, lines_end pre.usable v pre.known, count-few pre.usable)

  line-is : (i : ℕ) → i < length lines → get_or lines i 0 ≡ get_or a (at.lines + (from + i)) 0
  line-is i h =
      ap (λ (xs : List ℕ). get_or xs i 0) (sym same_lines)
      ∙ line_word pre.usable v i pre.known (omega (arith, ap length same_lines))

  line-few : (i : ℕ) → i < length lines → get_or lines i 0 < room.lines
  line-few i h =
      omega (
        arith,
        ap (λ (xs : List ℕ). get_or xs i 0) same_lines,
        line_known pre.usable v i pre.known (omega (arith, ap length same_lines)),
        count-few pre.usable,
        pre.fits.lines,
      )

  pub node-first : {e : ℕ} → e ≡ get_or a (at.begins + v) 0 → NodeTurn at room a rs made v a rs made e
  unfolding add_lines
  node-first {e} is =
      record {
        low = omega arith;
        high = omega (arith, long-lines);
        became = became-same (λ hs. ap (λ (i : ℕ). add_lines pos (take i lines) hs) none) became-none;
      }
    where
      none : 0 ≡ e - from
      none = omega arith

  module _ {m ws : List ℕ} {now e : ℕ} (turn : NodeTurn at room a rs made v m ws now e) where
    pub turn-long : length m ≡ length a
    turn-long = turn.became.kept.long

    module _ (more : e < get_or a (at.begins + (v + 1)) 0) where
      pub line-inside : at.lines + e < length m
      line-inside = omega (arith, turn-long, few-lines, long-lines, pre.usable.placed, pre.usable.room)

      module _ {line : ℕ} (is : line ≡ get_or m (at.lines + e) 0) where
        within : e - from < length lines
        within = omega (arith, long-lines, turn.low)

        here : line ≡ get_or lines (e - from) 0
        here =
            is ∙ before_slots turn.became (at.lines + e) (omega (arith, few-lines, long-lines, pre.usable.placed, pre.fits.after_list))
            ∙ ap (λ (i : ℕ). get_or a (at.lines + i) 0) past
            ∙ sym (line-is (e - from) within)
          where
            past : e ≡ from + (e - from)
            past = omega (arith, turn.low)

        known : line < room.lines
        known = omega (arith, here, line-few (e - from) within)

        pub can_add : Adding room m ws now line
        can_add =
            record {
              holding =
                  record {
                    held = add_lines pos (take (e - from) lines) pre.held;
                    holds = holds;
                    apart = pre.fits.after_slots;
                    inside = omega (arith, turn-long, pre.fits.after_counts, pre.usable.placed.after-scratch, pre.usable.room);
                    roomy = omega (arith, turn.became.long, pre.roomy);
                    few = omega (arith, pre.fits.lines, pre.usable.read.few-nodes, pre.usable.read.few-links);
                  };
              known = known;
              small =
                  omega (
                    arith,
                    holds.counted line known,
                    count-lines pos (take (e - from) lines) pre.held line,
                    pre.small line,
                    count_most (eqb line) (take (e - from) lines),
                    length-take (e - from) lines,
                    few-lines,
                    pre.usable.read.few-nodes,
                    pre.usable.read.few-links,
                  );
            }
          where
            holds : Holds (add_lines pos (take (e - from) lines) pre.held) room m ws now
            holds = turn.became.holds pre.held pre.holds

        pub node-on : {o vs : List ℕ} {then : ℕ} → Became (add pos line) room m ws now o vs then → NodeTurn at room a rs made v o vs then (e + 1)
        node-on step =
            record {
              low = omega (arith, turn.low);
              high = omega arith;
              became = became-same one_more (became_both turn.became step);
            }
          where
            later : suc (e - from) ≡ e + 1 - from
            later = omega (arith, turn.low)

            one_more : (hs : List Held) → add pos line (add_lines pos (take (e - from) lines) hs) ≡ add_lines pos (take (e + 1 - from) lines) hs
            one_more hs =
                ap (λ (x : ℕ). add pos x (add_lines pos (take (e - from) lines) hs)) here
                ∙ sym (add_lines_snoc pos (take (e - from) lines) (get_or lines (e - from) 0) hs)
                ∙ ap (λ (xs : List ℕ). add_lines pos xs hs) (sym (take-suc lines (e - from) 0 within) ∙ ap (λ (i : ℕ). take i lines) later)

    pub node_done : get_or a (at.begins + (v + 1)) 0 ≤ e → Became (add_words_of a at v) room a rs made m ws now
    node_done done =
        became-same (λ hs. ap (λ (xs : List ℕ). add_lines pos xs hs) (take_all (e - from) lines (omega (arith, long-lines, turn.low)))) turn.became
