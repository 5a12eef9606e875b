-- A turn of one node's pushes: what it reads, that what it writes stays in bounds, and what it leaves.
-- Rests on Pushes and lists.Places.
use Prim.Native.Nat.{ℕ, suc, ◌+◌, ◌-◌, ◌≤◌, ◌<◌}
use native.Mathlib.Omega.{arith}
use native.Mathlib.Numerals.{add-one}
use mathlib.Core.Path.{◌≡◌, sym, ap, ◌∙◌}
use mathlib.Core.List.{List}
use lib.ListN.{length, get_or, take, set}
use lib.Seq.{length-slice, get_or-take, get_or-drop, take_all}
use lib.Dec.{eqb}
use Rattle.lists.specs.Lists.{times}
use Rattle.lists.proofs.Count.{one_eq, times-take, count-take-suc}
use Rattle.lists.proofs.Places.{times-place}
use Rattle.line_lists.specs.Columns.{row_in}
use Rattle.line_lists.specs.Pushing.{Roomy, RowPushing, pushed, row_pushed}
use Rattle.line_lists.proofs.Pushes.{length-row, row_before, row_cursor, row_next}

-- a row is as long as its starts are apart, and has the words there
module _ (a : List ℕ) (node_starts lines v : ℕ) where
  pub length-row_in : lines + get_or a (node_starts + suc v) 0 ≤ length a
      → length (row_in a node_starts lines v) ≡ get_or a (node_starts + suc v) 0 - get_or a (node_starts + v) 0
  unfolding row_in
  length-row_in h =
      omega (arith, length-slice (lines + get_or a (node_starts + v) 0) (lines + get_or a (node_starts + suc v) 0) a h)

  pub get_or-row_in : (j : ℕ) → get_or a (node_starts + v) 0 + j < get_or a (node_starts + suc v) 0
      → get_or (row_in a node_starts lines v) j 0 ≡ get_or a (lines + (get_or a (node_starts + v) 0 + j)) 0
  unfolding row_in
  get_or-row_in j h =
      get_or-drop (lines + get_or a (node_starts + v) 0) (take (lines + get_or a (node_starts + suc v) 0) a) j 0
      ∙ get_or-take (lines + get_or a (node_starts + suc v) 0) a (lines + get_or a (node_starts + v) 0 + j) 0 (omega arith)
      ∙ ap (λ (i : ℕ). get_or a i 0) (over lines (get_or a (node_starts + v) 0))
    where
      over : (m n : ℕ) → m + n + j ≡ m + (n + j)
      over m n = omega arith

module _ {a : List ℕ} {node_starts lines cursors nodes v : ℕ} (ready : RowPushing a node_starts lines cursors nodes v) where
  row : List ℕ
  row = row_in a node_starts lines v

  as_long : {area : List ℕ} (ls : List ℕ) → area ≡ row_pushed a cursors nodes v ls → length area ≡ length a
  as_long ls now = ap length now ∙ length-row cursors nodes a v ls

  -- before the first entry nothing is pushed
  pub none-pushed : (e : ℕ) → a ≡ row_pushed a cursors nodes v (take (e - e) (row_in a node_starts lines v))
  unfolding row_pushed
  none-pushed e = ap (λ (n : ℕ). row_pushed a cursors nodes v (take n (row_in a node_starts lines v))) (nought e)
    where
      nought : (x : ℕ) → 0 ≡ x - x
      nought x = omega arith

  -- the row's entries are those from the node's start to the next one
  module _ {from to : ℕ} (is-from : from ≡ get_or a (node_starts + v) 0) (is-to : to ≡ get_or a (node_starts + (v + 1)) 0) where
    ends : to ≡ get_or a (node_starts + suc v) 0
    ends = is-to ∙ ap (λ (i : ℕ). get_or a (node_starts + i) 0) (add-one v)

    long-row : length row ≡ to - from
    unfolding row
    long-row =
        omega (arith, length-row_in a node_starts lines v (omega (arith, ready.rowed.ends, ready.after, ready.inside)), ends)

    -- every entry is pushed
    pub all-pushed : {e : ℕ} → to ≤ e → row_pushed a cursors nodes v (take (e - from) (row_in a node_starts lines v)) ≡ row_pushed a cursors nodes v (row_in a node_starts lines v)
    unfolding row
    all-pushed {e} h = ap (row_pushed a cursors nodes v) (take_all (e - from) row (omega (arith, long-row)))

    module _ {area : List ℕ} {e : ℕ} (low : from ≤ e) (less : e < to)
        (now : area ≡ row_pushed a cursors nodes v (take (e - from) (row_in a node_starts lines v))) where
      long : length area ≡ length a
      long = as_long (take (e - from) (row_in a node_starts lines v)) now

      within : e - from < length row
      within = omega (arith, long-row)

      entry-is : get_or area (lines + e) 0 ≡ get_or row (e - from) 0
      unfolding row
      entry-is =
          ap (λ (m : List ℕ). get_or m (lines + e) 0) now
          ∙ row_before cursors nodes a v (take (e - from) row) (lines + e) ready.after (omega (arith, ends, ready.rowed.ends))
          ∙ ap (λ (i : ℕ). get_or a (lines + i) 0) there
          ∙ sym (get_or-row_in a node_starts lines v (e - from) (omega (arith, is-from, ends)))
        where
          there : e ≡ get_or a (node_starts + v) 0 + (e - from)
          there = omega (arith, is-from)

      module _ {l : ℕ} (is : l ≡ get_or area (lines + e) 0) where
        line-is : l ≡ get_or row (e - from) 0
        line-is = is ∙ entry-is

        on_row : 1 ≤ times l row
        on_row =
            omega (arith, times-place row (e - from) within, ap (λ (x : ℕ). times x row) line-is)

        roomy : Roomy a cursors nodes l (times l row)
        unfolding row
        roomy = ready.room l on_row

        -- the line's cursor counts the pushes before this one, and there is one more
        cursor_is : get_or area (cursors + l) 0 ≡ get_or a (cursors + l) 0 + times l (take (e - from) row)
        unfolding row
        cursor_is =
            ap (λ (m : List ℕ). get_or m (cursors + l) 0) now
            ∙ row_cursor cursors nodes a v (take (e - from) row) l roomy.before ready.inside

        one_left : times l (take (e - from) row) + 1 ≤ times l row
        one_left =
            omega
            (arith, times-take l (suc (e - from)) row, count-take-suc (eqb l) row (e - from) within, one_eq l (get_or row (e - from) 0) line-is)

        pub cursor_inside : cursors + l < length area
        cursor_inside = omega (arith, long, roomy.before, ready.inside)

        pub spot_room : nodes + get_or area (cursors + l) 0 < length area
        spot_room = omega (arith, long, cursor_is, one_left, roomy.fits)

        pub spot_word : get_or area (cursors + l) 0 + 1 < 65536
        spot_word = omega (arith, cursor_is, one_left, roomy.small)

        -- the node is stored, then the cursor
        pub pushed-on : {s : ℕ} → s ≡ get_or area (cursors + l) 0
            → set (set area (nodes + s) v) (cursors + l) (get_or area (cursors + l) 0 + 1)
            ≡ row_pushed a cursors nodes v (take (e + 1 - from) (row_in a node_starts lines v))
        unfolding row pushed
        pushed-on e-s =
            ap (λ (s : ℕ). set (set area (nodes + s) v) (cursors + l) (get_or area (cursors + l) 0 + 1)) e-s
            ∙ ap (λ (m : List ℕ). pushed m cursors nodes v l) now
            ∙ ap (pushed (row_pushed a cursors nodes v (take (e - from) row)) cursors nodes v) line-is
            ∙ row_next cursors nodes a v row (e - from) within
            ∙ ap (λ (n : ℕ). row_pushed a cursors nodes v (take n row)) over
          where
            over : suc (e - from) ≡ e + 1 - from
            over = omega arith
