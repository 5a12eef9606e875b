-- A turn of all pushes: the order's next node finds what it asks, and its row is pushed after those before it.
-- Rests on Pushes and Row.
use Prim.Native.Nat.{ℕ, suc, ◌+◌, ◌-◌, ◌≤◌, ◌<◌}
use native.Mathlib.Omega.{arith}
use native.Mathlib.Numerals.{add-one}
use mathlib.Core.Path.{◌≡◌, refl, sym, ap, ap₂, ◌∙◌, subst}
use mathlib.Core.List.{List}
use lib.ListN.{length, get_or, take}
use lib.Seq.{ext_get_or}
use Rattle.lists.specs.Lists.{times}
use Rattle.lists.specs.Weight.{total}
use Rattle.lists.proofs.Sections.{part, length_part, get_d_part}
use Rattle.lists.proofs.Laid.{laid-room}
use Rattle.line_lists.specs.Columns.{row_in}
use Rattle.line_lists.specs.Pushing.{Roomy, Rowed, RowPushing, AllPushing, row_pushed, all_pushed}
use Rattle.line_lists.proofs.Pushes.{length-all, all-before, all_cursor, all-next}
use Rattle.line_lists.proofs.Row.{length-row_in, get_or-row_in}

-- two areas with the same words before the cursors have the same rows
module _ {a : List ℕ} {node_starts lines cursors v : ℕ} (rowed : Rowed a node_starts lines cursors v) (inside : cursors ≤ length a) (m : List ℕ)
    (long : length m ≡ length a) (same : (i : ℕ) → i < cursors → get_or m i 0 ≡ get_or a i 0) where
  same_start : get_or m (node_starts + v) 0 ≡ get_or a (node_starts + v) 0
  same_start = same (node_starts + v) (omega (arith, rowed.started, rowed.ends))

  same_end : get_or m (node_starts + suc v) 0 ≡ get_or a (node_starts + suc v) 0
  same_end = same (node_starts + suc v) (omega (arith, rowed.started, rowed.ends))

  pub still_rowed : Rowed m node_starts lines cursors v
  still_rowed =
      record {
        started = rowed.started;
        rises = omega (arith, same_start, same_end, rowed.rises);
        ends = omega (arith, same_end, rowed.ends);
        word = rowed.word;
      }

  pub same_row : row_in m node_starts lines v ≡ row_in a node_starts lines v
  same_row =
      ext_get_or 0 (row_in m node_starts lines v) (row_in a node_starts lines v) (omega (arith, long_m, long_a, same_start, same_end))
      (λ j h. at j (omega (arith, long_m, same_start, same_end)))
    where
      long_m : length (row_in m node_starts lines v) ≡ get_or m (node_starts + suc v) 0 - get_or m (node_starts + v) 0
      long_m = length-row_in m node_starts lines v (omega (arith, same_end, long, rowed.ends))

      long_a : length (row_in a node_starts lines v) ≡ get_or a (node_starts + suc v) 0 - get_or a (node_starts + v) 0
      long_a = length-row_in a node_starts lines v (omega (arith, rowed.ends))

      at : (j : ℕ) → get_or a (node_starts + v) 0 + j < get_or a (node_starts + suc v) 0
          → get_or (row_in m node_starts lines v) j 0 ≡ get_or (row_in a node_starts lines v) j 0
      at j h =
          get_or-row_in m node_starts lines v j (omega (arith, same_start, same_end))
          ∙ ap (λ (i : ℕ). get_or m (lines + (i + j)) 0) same_start
          ∙ same (lines + (get_or a (node_starts + v) 0 + j)) (omega (arith, rowed.ends))
          ∙ sym (get_or-row_in a node_starts lines v j h)

module _ {a : List ℕ} {n order node_starts lines cursors nodes : ℕ} (ready : AllPushing a n order node_starts lines cursors nodes) where
  us : List ℕ
  us = part a order n

  as_long : {area : List ℕ} (t : ℕ) → area ≡ all_pushed a cursors nodes (row_in a node_starts lines) (take t (part a order n)) → length area ≡ length a
  as_long t now = ap length now ∙ length-all cursors nodes (row_in a node_starts lines) a (take t (part a order n))

  pub none-pushed : a ≡ all_pushed a cursors nodes (row_in a node_starts lines) (take 0 (part a order n))
  unfolding all_pushed
  none-pushed = refl

  module _ {area : List ℕ} {t : ℕ} (less : t < n) (now : area ≡ all_pushed a cursors nodes (row_in a node_starts lines) (take t (part a order n))) where
    long : length area ≡ length a
    long = as_long t now

    low-order : order + t < cursors
    low-order = omega (arith, ready.ordered, (ready.rowed t less).started, (ready.rowed t less).ends)

    stands : (i : ℕ) → i < cursors → get_or area i 0 ≡ get_or a i 0
    stands i h =
        ap (λ (m : List ℕ). get_or m i 0) now
        ∙ all-before cursors nodes (row_in a node_starts lines) a (take t (part a order n)) i ready.after h

    many : length us ≡ n
    unfolding us
    many = length_part a order n (omega (arith, ready.ordered, (ready.rowed t less).started, (ready.rowed t less).ends, ready.after, ready.inside))

    module _ {v : ℕ} (is : v ≡ get_or area (order + t) 0) where
      node-is : v ≡ get_or a (order + t) 0
      node-is = is ∙ stands (order + t) low-order

      node-here : v ≡ get_or us t 0
      unfolding us
      node-here = node-is ∙ sym (get_d_part a order n t 0 less)

      rowed-here : Rowed a node_starts lines cursors v
      rowed-here = subst (Rowed a node_starts lines cursors) (sym node-is) (ready.rowed t less)

      row-stands : row_in area node_starts lines v ≡ row_in a node_starts lines v
      row-stands = same_row rowed-here (omega (arith, ready.after, ready.inside)) area long stands

      -- the pushes on a line before this node's, and this node's, are no more than all
      pushes : ℕ → ℕ
      pushes l = total (λ w. times l (row_in a node_starts lines w)) us

      some_left : (l : ℕ) → total (λ w. times l (row_in a node_starts lines w)) (take t us) + times l (row_in a node_starts lines v) ≤ pushes l
      unfolding pushes
      some_left l =
          omega (
            arith,
            laid-room (λ w. times l (row_in a node_starts lines w)) us t 0 (omega (arith, many)),
            ap (λ (w : ℕ). times l (row_in a node_starts lines w)) node-here,
          )

      roomy : (l : ℕ) → 1 ≤ times l (row_in a node_starts lines v) → Roomy area cursors nodes l (times l (row_in a node_starts lines v))
      unfolding us pushes
      roomy l some =
          let whole = ready.room l (omega (arith, some_left l)) in
          let cursor =
          ap (λ (m : List ℕ). get_or m (cursors + l) 0) now
          ∙ all_cursor cursors nodes (row_in a node_starts lines) a (take t us) l whole.before ready.inside in
          record {
            before = whole.before;
            fits = omega (arith, cursor, whole.fits, some_left l, long);
            small = omega (arith, cursor, whole.small, some_left l);
          }

      pub can_push : RowPushing area node_starts lines cursors nodes v
      can_push =
          record {
            rowed = still_rowed rowed-here (omega (arith, ready.after, ready.inside)) area long stands;
            after = ready.after;
            inside = omega (arith, long, ready.inside);
            room = rw row-stands roomy;
          }

      pub pushed-on : {m : List ℕ} → m ≡ row_pushed area cursors nodes v (row_in area node_starts lines v)
          → m ≡ all_pushed a cursors nodes (row_in a node_starts lines) (take (t + 1) (part a order n))
      unfolding us
      pushed-on e =
          e ∙ ap (row_pushed area cursors nodes v) row-stands
          ∙ ap₂ (λ (x : List ℕ) (w : ℕ). row_pushed x cursors nodes w (row_in a node_starts lines w)) now node-here
          ∙ all-next cursors nodes (row_in a node_starts lines) a us t (omega (arith, many))
          ∙ ap (λ (i : ℕ). all_pushed a cursors nodes (row_in a node_starts lines) (take i us)) (sym (add-one t))
