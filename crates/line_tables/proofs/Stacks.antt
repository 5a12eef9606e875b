-- The stacks in the area: what stands after an end is taken, after one is pushed, and after words elsewhere are changed.
-- Rests on Ends; each port's words are apart by the counts of the sort.
use Prim.Native.Nat.{ℕ, suc, ◌+◌, ◌-◌, ◌≤◌, ◌<◌}
use native.Mathlib.Decide.{dec_lt}
use native.Mathlib.Omega.{arith}
use mathlib.Core.Path.{◌≡◌, subst, refl, sym, ap, ◌∙◌}
use mathlib.Core.Bool.{Bool, true, false}
use mathlib.Core.List.{List, [], ◌∷◌}
use lib.ListN.{length, get_or, set, length-set}
use lib.Seq.{get_or-set_same, get_or-set_other}
use lib.Dec.{eqb}
use borrow.Author.Tests.{eqb-true, eqb-false}
use Rattle.lists.specs.Lists.{times}
use Rattle.lists.proofs.Upto.{length-table}
use Rattle.paper.specs.Map.{L, source_port}
use Rattle.paper.specs.Lines.{End, without}
use Rattle.counting_sort.specs.Sorted.{below}
use Rattle.counting_sort.proofs.Counting.{below_suc, below_le, below_length}
use Rattle.tables.specs.declared.Layout.{Layout}
use Rattle.line_tables.specs.declared.room.Room.{Room}
use Rattle.line_tables.specs.Room.{Fits}
use Rattle.line_tables.specs.Layout.{out_keys}
use Rattle.line_tables.specs.Frontier.{height, lines_at, Stacks}
use Rattle.line_tables.proofs.Ends.{Popped, higher, longer, elsewhere_high, elsewhere_long}

-- ---- the words of each port

module _ (b : List ℕ) where
  pub in_stack : (q i : ℕ) → i < times q (out_keys b) → below (out_keys b) q + i < L b
  in_stack q i h =
      omega (arith, below_suc (out_keys b) q, below_length (out_keys b) (suc q), length-table (source_port b) (L b))

  ports-apart : (q r i j : ℕ) → (q ≡ r → ⊥) → i < times q (out_keys b) → j < times r (out_keys b)
      → below (out_keys b) q + i ≡ below (out_keys b) r + j → ⊥
  ports-apart q r i j apart h g e = go (dec_lt q r)
    where
      go : Dec (q < r) → ⊥
      go (yes lt) = omega (arith, below_suc (out_keys b) q, below_le (out_keys b) (suc q) r lt)
      go (no ge) =
          let gt : suc r ≤ q = higher_one q r apart ge in
          omega (arith, below_suc (out_keys b) r, below_le (out_keys b) (suc r) q gt)
        where
          higher_one : (q r : ℕ) → (q ≡ r → ⊥) → (q < r → ⊥) → suc r ≤ q
          higher_one q r apart ge = omega arith

-- nothing is pushed: every top stands where its port's words start
pub no_ends : {b a : List ℕ} {at : Layout} {room : Room} → ((q : ℕ) → q < at.sizes.ports → get_or a (room.tops + q) 0 ≡ below (out_keys b) q) → Stacks b a at room []
no_ends tops =
    record {
      few = λ q. omega arith;
      tops = λ q h. omega (arith, tops q h);
      lines = λ q h i g. absurd (omega arith);
    }

module _ {b a : List ℕ} {at : Layout} {room : Room} {ends : List End} (links : L b ≡ at.sizes.links) (s : Stacks b a at room ends) where
  pub stacks-same : {m : List ℕ} → ((q : ℕ) → q < at.sizes.ports → get_or m (room.tops + q) 0 ≡ get_or a (room.tops + q) 0)
      → ((i : ℕ) → i < at.sizes.links → get_or m (room.stack + i) 0 ≡ get_or a (room.stack + i) 0) → Stacks b m at room ends
  stacks-same tops words =
      record {
        few = s.few;
        tops = λ q h. tops q h ∙ s.tops q h;
        lines = λ q h i g. words (below (out_keys b) q + i) (omega (arith, links, s.few q, in_stack b q i (omega (arith, s.few q)))) ∙ s.lines q h i g;
      }

  -- ---- an end is taken

  module _ (q : ℕ) (known : q < at.sizes.ports) (pop : Popped q ends) (end_inside : room.stack + at.sizes.links ≤ length a) (laid : Fits at room) where
    pub top_lower : get_or a (room.tops + q) 0 - 1 ≡ below (out_keys b) q + height q (without q ends)
    top_lower = omega (arith, s.tops q known, pop.lower)

    pub top_some : 1 ≤ get_or a (room.tops + q) 0
    top_some = omega (arith, s.tops q known, pop.lower)

    pub top_few : get_or a (room.tops + q) 0 ≤ at.sizes.links
    top_few =
        omega
        (arith, s.tops q known, pop.lower, s.few q, links, in_stack b q (height q (without q ends)) (omega (arith, pop.lower, s.few q)))

    -- the line on top is the line pushed last
    pub top_line : get_or a (room.stack + (get_or a (room.tops + q) 0 - 1)) 0 ≡ pop.end.line
    top_line =
        ap (λ (i : ℕ). get_or a (room.stack + i) 0) top_lower
        ∙ s.lines q known (height q (without q ends)) (omega (arith, pop.lower))
        ∙ ap (λ (i : ℕ). get_or (lines_at q ends) i 0) at_front
        ∙ ap (λ (ls : List ℕ). get_or ls 0 0) pop.shorter
      where
        at_front : height q ends - suc (height q (without q ends)) ≡ 0
        at_front = omega (arith, pop.lower)

    pub stacks_pop : Stacks b (set a (room.tops + q) (get_or a (room.tops + q) 0 - 1)) at room (without q ends)
    stacks_pop =
        record {
          few = λ r. few r (eqb q r) refl;
          tops = λ r h. tops r h (eqb q r) refl;
          lines =
              λ r h i g. get_or-set_other a (room.tops + q) (room.stack + (below (out_keys b) r + i)) top 0 (λ e. omega (arith, e)) ∙ lines r h i g (eqb q r) refl;
        }
      where
        top : ℕ
        top = get_or a (room.tops + q) 0 - 1

        few : (r : ℕ) (t : Bool) → eqb q r ≡ t → height r (without q ends) ≤ times r (out_keys b)
        few r true t = rw (← eqb-true q r t) (omega (arith, pop.lower, s.few q))
        few r false t = omega (arith, pop.as_high r (eqb-false q r t), s.few r)

        tops : (r : ℕ) → r < at.sizes.ports → (t : Bool) → eqb q r ≡ t
            → get_or (set a (room.tops + q) top) (room.tops + r) 0 ≡ below (out_keys b) r + height r (without q ends)
        tops r h true t =
            rw (← eqb-true q r t) (get_or-set_same a (room.tops + q) top 0 (omega (arith, end_inside)) ∙ top_lower)
        tops r h false t =
            let apart : q ≡ r → ⊥ = eqb-false q r t in
            get_or-set_other a (room.tops + q) (room.tops + r) top 0 (λ e. apart (omega (arith, e)))
            ∙ s.tops r h ∙ omega (arith, pop.as_high r apart)

        lines : (r : ℕ) → r < at.sizes.ports → (i : ℕ) → i < height r (without q ends) → (t : Bool) → eqb q r ≡ t
            → get_or a (room.stack + (below (out_keys b) r + i)) 0 ≡ get_or (lines_at r (without q ends)) (height r (without q ends) - suc i) 0
        lines r h i g true t = below_top r (eqb-true q r t) i g
          where
            below_top : (r : ℕ) → q ≡ r → (i : ℕ) → i < height r (without q ends)
                → get_or a (room.stack + (below (out_keys b) r + i)) 0 ≡ get_or (lines_at r (without q ends)) (height r (without q ends) - suc i) 0
            below_top r e i g =
                rw (← e)
                (s.lines q known i (omega (arith, pop.lower, ap (λ (x : ℕ). height x (without q ends)) e))
                ∙ ap (λ (ls : List ℕ). get_or ls (height q ends - suc i) 0) pop.shorter
                ∙ ap (λ (k : ℕ). get_or (pop.end.line ∷ lines_at q (without q ends)) k 0) (one_less i (omega (arith, ap (λ (x : ℕ). height x (without q ends)) e))))
              where
                one_less : (i : ℕ) → i < height q (without q ends) → height q ends - suc i ≡ suc (height q (without q ends) - suc i)
                one_less i g = omega (arith, pop.lower)
        lines r h i g false t =
            let apart : q ≡ r → ⊥ = eqb-false q r t in
            s.lines r h i (omega (arith, pop.as_high r apart))
            ∙ ap (λ (k : ℕ). get_or (lines_at r ends) (k - suc i) 0) (sym (pop.as_high r apart))
            ∙ ap (λ (ls : List ℕ). get_or ls (height r (without q ends) - suc i) 0) (sym (pop.as_long r apart))

  -- ---- an end is pushed

  module _ (e : End) (known : e.port < at.sizes.ports) (fits : height e.port ends < times e.port (out_keys b)) (end_inside : room.stack + at.sizes.links ≤ length a) (laid : Fits at room) where
    slot : ℕ
    slot = get_or a (room.tops + e.port) 0

    slot_is : slot ≡ below (out_keys b) e.port + height e.port ends
    unfolding slot
    slot_is = s.tops e.port known

    pub slot-inside : get_or a (room.tops + e.port) 0 < at.sizes.links
    slot-inside = omega (arith, s.tops e.port known, links, in_stack b e.port (height e.port ends) fits)

    pub stacks-push : Stacks b (set (set a (room.stack + get_or a (room.tops + e.port) 0) e.line) (room.tops + e.port) (get_or a (room.tops + e.port) 0 + 1)) at room (e ∷ ends)
    unfolding slot
    stacks-push =
        record {
          few = λ r. few r (eqb e.port r) refl;
          tops = λ r h. tops r h (eqb e.port r) refl;
          lines =
              λ r h i g. get_or-set_other (set a (room.stack + slot) e.line) (room.tops + e.port) (room.stack + (below (out_keys b) r + i)) (slot + 1) 0 (λ x. omega (arith, x))
              ∙ lines r h i g (eqb e.port r) refl;
        }
      where
        few : (r : ℕ) (t : Bool) → eqb e.port r ≡ t → height r (e ∷ ends) ≤ times r (out_keys b)
        few r true t = subst (λ (x : ℕ). height x (e ∷ ends) ≤ times x (out_keys b)) (eqb-true e.port r t) (omega (arith, higher e ends, fits))
        few r false t = omega (arith, elsewhere_high e ends r (eqb-false e.port r t), s.few r)

        tops : (r : ℕ) → r < at.sizes.ports → (t : Bool) → eqb e.port r ≡ t
            → get_or (set (set a (room.stack + slot) e.line) (room.tops + e.port) (slot + 1)) (room.tops + r) 0 ≡ below (out_keys b) r + height r (e ∷ ends)
        tops r h true t =
            subst
            (λ (x : ℕ). get_or (set (set a (room.stack + slot) e.line) (room.tops + e.port) (slot + 1)) (room.tops + x) 0 ≡ below (out_keys b) x + height x (e ∷ ends))
            (eqb-true e.port r t)
            (get_or-set_same (set a (room.stack + slot) e.line) (room.tops + e.port) (slot + 1) 0 (omega (arith, end_inside, length-set a (room.stack + slot) e.line))
            ∙ omega (arith, slot_is, higher e ends))
        tops r h false t =
            let apart : e.port ≡ r → ⊥ = eqb-false e.port r t in
            get_or-set_other (set a (room.stack + slot) e.line) (room.tops + e.port) (room.tops + r) (slot + 1) 0 (λ x. apart (omega (arith, x)))
            ∙ get_or-set_other a (room.stack + slot) (room.tops + r) e.line 0 (λ x. omega (arith, x))
            ∙ s.tops r h ∙ omega (arith, elsewhere_high e ends r apart)

        lines : (r : ℕ) → r < at.sizes.ports → (i : ℕ) → i < height r (e ∷ ends) → (t : Bool) → eqb e.port r ≡ t
            → get_or (set a (room.stack + slot) e.line) (room.stack + (below (out_keys b) r + i)) 0
            ≡ get_or (lines_at r (e ∷ ends)) (height r (e ∷ ends) - suc i) 0
        lines r h i g true t =
            subst
            (λ (x : ℕ). get_or (set a (room.stack + slot) e.line) (room.stack + (below (out_keys b) x + i)) 0
            ≡ get_or (lines_at x (e ∷ ends)) (height x (e ∷ ends) - suc i) 0)
            (eqb-true e.port r t)
            (at_or_under (dec_lt i (height e.port ends)))
          where
            same-height : height r (e ∷ ends) ≡ suc (height e.port ends)
            same-height = ap (λ (x : ℕ). height x (e ∷ ends)) (sym (eqb-true e.port r t)) ∙ higher e ends

            at_or_under : Dec (i < height e.port ends)
                → get_or (set a (room.stack + slot) e.line) (room.stack + (below (out_keys b) e.port + i)) 0
                ≡ get_or (lines_at e.port (e ∷ ends)) (height e.port (e ∷ ends) - suc i) 0
            at_or_under (yes under) =
                get_or-set_other a (room.stack + slot) (room.stack + (below (out_keys b) e.port + i)) e.line 0 (λ x. omega (arith, x, slot_is))
                ∙ s.lines e.port known i under
                ∙ ap (λ (ls : List ℕ). get_or ls (suc (height e.port ends - suc i)) 0) (sym (longer e ends))
                ∙ ap (λ (k : ℕ). get_or (lines_at e.port (e ∷ ends)) k 0) over
              where
                over : suc (height e.port ends - suc i) ≡ height e.port (e ∷ ends) - suc i
                over = omega (arith, higher e ends, under)
            at_or_under (no above) =
                ap (λ (k : ℕ). get_or (set a (room.stack + slot) e.line) (room.stack + k) 0) here
                ∙ get_or-set_same a (room.stack + slot) e.line 0 (omega (arith, end_inside, slot-inside))
                ∙ ap (λ (ls : List ℕ). get_or ls 0 0) (sym (longer e ends))
                ∙ ap (λ (k : ℕ). get_or (lines_at e.port (e ∷ ends)) k 0) front
              where
                here : below (out_keys b) e.port + i ≡ slot
                here = omega (arith, slot_is, same-height, g, above)

                front : 0 ≡ height e.port (e ∷ ends) - suc i
                front = omega (arith, higher e ends, above)
        lines r h i g false t =
            let apart : e.port ≡ r → ⊥ = eqb-false e.port r t in
            let low : i < height r ends = omega (arith, elsewhere_high e ends r apart) in
            get_or-set_other a (room.stack + slot) (room.stack + (below (out_keys b) r + i)) e.line 0
            (λ x. ports-apart b e.port r (height e.port ends) i apart fits (omega (arith, s.few r)) (omega (arith, x, slot_is)))
            ∙ s.lines r h i low
            ∙ ap (λ (k : ℕ). get_or (lines_at r ends) (k - suc i) 0) (sym (elsewhere_high e ends r apart))
            ∙ ap (λ (ls : List ℕ). get_or ls (height r (e ∷ ends) - suc i) 0) (sym (elsewhere_long e ends r apart))
