-- A known port's lines are within its node's list, so the part of the area that the view names holds the lines at the port.
-- Rests on Within (a node has a line for each of its links of one direction), Tables and Refusals.
use Prim.Native.Nat.{ℕ, zero, suc, ◌+◌, ◌-◌, ◌≤◌, ◌<◌}
use native.Mathlib.Omega.{arith}
use mathlib.Core.Path.{◌≡◌, refl, sym, ap, ◌∙◌, subst}
use mathlib.Core.Bool.{Bool, true, false, cond}
use mathlib.Core.List.{List, [], ◌∷◌, ◌++◌, map}
use lib.Dec.{ltb}
use lib.ListN.{length, get_or}
use lib.Seq.{slice, length-slice}
use borrow.Author.Tests.{ltb-true, ltb-false, leb-true, leb-false, lt-ltb}
use Rattle.lists.specs.Lists.{from, sum}
use Rattle.lists.specs.Found.{number, first}
use Rattle.lists.proofs.First.{FirstOf, first_at, first_found}
use Rattle.lists.proofs.Laid.{length-laid, slice_is}
use Rattle.lists.proofs.Sections.{length_part, get_d_part}
use Rattle.paper.specs.Map.{N, P, ins, outs, first_port, input, output, inputs, outputs, port_node, is_output, port_links, in_links, out_links}
use Rattle.paper.specs.Area.{Section, start, W, word_of, part as part_of, lines_of}
use Rattle.paper.specs.Accepted.{Accepted}
use Rattle.paper.specs.Ports.{earlier_ports, first_line, line_count_at, lines_at, view_start}
use Rattle.paper.specs.Refusals.{Ruling, passed, refusal, rule14, decide, answer, on_refusal}
use Rattle.paper.specs.Calls.{untouched, opening, port_rule, view_at, part_at, view_of_port}
use Rattle.order_theory.specs.Sound.{Sound}
use Rattle.order_theory.proofs.Refusals.{sound}
use Rattle.accepted_theory.proofs.Tables.{slice_word, lines-room, lines_end}
use Rattle.accepted_theory.proofs.Within.{inputs-within-lines, outputs-within-lines}
use Rattle.accepted_theory.proofs.Refusals.{area-passed, tables-passed, port-known}
use Rattle.accepted_theory.proofs.Alike.{Alike, in_the_end, next, same_kept}

-- a row of ports and the one behind it are within a longer row
row_within : (f : ℕ → ℕ) (s k m : ℕ) → k < m → sum (map f (from s k)) + f (s + k) ≤ sum (map f (from s m))
row_within f s k zero h = absurd (omega arith)
row_within f s zero (suc m) h = omega (arith, ap f (plain s))
  where
    plain : (s : ℕ) → s + zero ≡ s
    plain s = omega arith
row_within f s (suc k) (suc m) h = omega (arith, row_within f (suc s) k m (omega arith), ap f (over s k))
  where
    over : (s k : ℕ) → suc s + k ≡ s + suc k
    over s k = omega arith

-- ---- the node of a known port

module _ (b : List ℕ) (p : ℕ) where
  abbrev ends : ℕ → Bool
  ends v = ltb p (first_port b (suc v))

  found : (n : ℕ) → p < first_port b n → FirstOf ends n (number (first ends n))
  unfolding first_port
  found zero h = absurd (omega arith)
  found (suc n) h =
      let at = first_found ends (suc n) n (omega arith) (lt-ltb p (first_port b (suc n)) h) in
      subst (FirstOf ends (suc n)) (sym (ap number at.found)) (first_at ends (suc n) at.place at.found)

  starts-before : {n : ℕ} (v : ℕ) → FirstOf ends n v → first_port b v ≤ p
  unfolding first_port
  starts-before zero f = omega arith
  starts-before (suc u) f = omega (arith, ltb-false p (first_port b (suc u)) (f.fail u (omega arith)))

  -- it stands among its node's ports
  record Holds (v : ℕ) : Type 0 where
    known : v < N b
    low : first_port b v ≤ p
    high : p < first_port b v + (ins b v + outs b v)

  holds : p < P b → Holds (port_node b p)
  unfolding P port_node first_port
  holds h =
      let f = found (N b) h in
      record { known = f.known; low = starts-before (port_node b p) f; high = ltb-true p (first_port b (suc (port_node b p))) f.passes }

  pub port-passed : rule14 b (p ∷ []) ≡ passed → port_node b p < N b
  port-passed e = (holds (port-known b p e)).known

  -- ---- its links are among its node's links of its direction

  links : ℕ → ℕ
  links q = length (port_links b q)

  links_of : Bool → ℕ → ℕ
  links_of out v = cond out (length (out_links b v)) (length (in_links b v))

  out-links : (v : ℕ) → length (out_links b v) ≡ sum (map links (from (output b v 0) (outs b v)))
  unfolding out_links outputs links
  out-links v = length-laid (port_links b) links (λ q. refl) (from (output b v 0) (outs b v))

  in_links_lem : (v : ℕ) → length (in_links b v) ≡ sum (map links (from (input b v 0) (ins b v)))
  unfolding in_links inputs links
  in_links_lem v = length-laid (port_links b) links (λ q. refl) (from (input b v 0) (ins b v))

  links-within : p < P b → first_line b p + line_count_at b p ≤ links_of (is_output b p) (port_node b p)
  unfolding first_line earlier_ports line_count_at is_output input output links_of links
  links-within h = go (is_output b p) refl
    where
      v : ℕ
      v = port_node b p

      here : (side : ℕ) → side ≤ p → side + (p - side) ≡ p
      here side l = omega arith

      go : (t : Bool) → is_output b p ≡ t
          → sum (map links (from (cond t (output b v 0) (input b v 0)) (p - cond t (output b v 0) (input b v 0)))) + links p ≤ links_of t v
      go true e =
          let behind = leb-true (output b v 0) p e in
          omega (
            arith,
            out-links v,
            row_within links (output b v 0) (p - output b v 0) (outs b v) (omega (arith, (holds h).high)),
            ap links (here (output b v 0) behind),
          )
      go false e =
          omega (
            arith,
            in_links_lem v,
            row_within links (input b v 0) (p - input b v 0) (ins b v) (omega (arith, (holds h).low, leb-false (output b v 0) p e)),
            ap links (here (input b v 0) (omega (arith, (holds h).low))),
          )

-- ---- its lines are within its node's list

module _ {b a : List ℕ} (acc : Accepted b a) (s : Sound b) (room : W b ≤ length a) {p : ℕ} (h : p < P b) where
  pub lines-within : first_line b p + line_count_at b p ≤ length (lines_of b a (port_node b p))
  unfolding links_of
  lines-within = go (is_output b p) (links-within b p h)
    where
      go : (t : Bool) → first_line b p + line_count_at b p ≤ links_of b p t (port_node b p) → first_line b p + line_count_at b p ≤ length (lines_of b a (port_node b p))
      go true few = omega (arith, outputs-within-lines acc s room (port_node b p) (holds b p h).known)
      go false few = omega (arith, inputs-within-lines acc s room (port_node b p) (holds b p h).known)

  -- "the lines themselves as a part of the lent area"
  pub part-lines : slice (view_start b a p) (view_start b a p + line_count_at b p) a ≡ lines_at b a p
  unfolding view_start lines_at lines_of part_of
  part-lines =
      slice_is a (lines_at b a p) (o + (f + k)) (o + (f + k) + c) (omega (arith, long)) (omega (arith, lines-within, whole, ends-within, acc.node_starts.rises v (holds b p h).known))
      (λ i l. let low : i < c = omega (arith, long) in
      ap (λ (j : ℕ). get_or a j 0) (over i)
      ∙ sym (slice_word a o f t (k + i) (omega (arith, lines-within, whole)))
      ∙ sym (get_d_part (lines_of b a v) k c i 0 low))
    where
      v : ℕ
      v = port_node b p

      o : ℕ
      o = start b Section.lines_of_nodes

      f : ℕ
      f = word_of b a Section.node_starts v

      t : ℕ
      t = word_of b a Section.node_starts (suc v)

      k : ℕ
      k = first_line b p

      c : ℕ
      c = line_count_at b p

      ends-within : o + t ≤ length a
      ends-within = omega (arith, lines-room b, lines_end acc v (holds b p h).known, acc.few)

      whole : length (lines_of b a v) ≡ (o + t) - (o + f)
      whole = length-slice (o + f) (o + t) a ends-within

      long : length (lines_at b a p) ≡ c
      long = length_part (lines_of b a v) k c lines-within

      over : (i : ℕ) → o + (f + k) + i ≡ o + (f + (k + i))
      over i = omega arith

-- ---- the view is the lines at the port, "empty on refusal", whatever the area holds

pub view-lines : (b a : List ℕ) (p : ℕ) → view_of_port b a p ≡ on_refusal (decide (opening b a ++ port_rule b p)) [] (lines_at b a p)
unfolding view_of_port view_at part_at opening untouched answer on_refusal
view-lines b a p = shown (decide (opening b a ++ port_rule b p)) ∙ same_kept alike [] (λ ls. ls)
  where
    from-there : List ℕ
    from-there = slice (view_start b a p) (view_start b a p + line_count_at b p) a

    shown : (u : Ruling)
        → slice (part_at (answer u (view_start b a p, line_count_at b p))).0
        ((part_at (answer u (view_start b a p, line_count_at b p))).0 + (part_at (answer u (view_start b a p, line_count_at b p))).1)
        a
        ≡ on_refusal u [] from-there
    shown passed = refl
    shown (refusal n i) = refl

    alike : Alike (opening b a ++ port_rule b p) (opening b a ++ port_rule b p) from-there (lines_at b a p)
    alike =
        next refl (λ e1. next refl (λ e2. next refl (λ e3. next refl (λ e45. next refl (λ e7. next refl (λ e14.
        in_the_end (part-lines (tables-passed b a e7) (sound b e45) (area-passed b a e3) (port-known b p e14))))))))
