-- One node more on its lines, and the links into it: as many as lines on which it comes right after their sources.
-- Rests on Taken, Weighed and Neighbours.
use Prim.Native.Nat.{ℕ, ◌+◌, ◌≤◌, ◌<◌}
use native.Mathlib.Decide.{dec_lt}
use native.Mathlib.Omega.{arith}
use mathlib.Core.Path.{◌≡◌, refl, sym, ap, ◌∙◌}
use mathlib.Core.Bool.{Bool, false, cond, ◌&&◌, ◌||◌, and-true}
use mathlib.Core.List.{List, [], ◌∷◌, ◌++◌, map, append-nil, Memᴰ}
use lib.ListN.{length, length-append}
use lib.Dec.{eqb}
use borrow.Author.Tests.{eq-eqb}
use Rattle.lists.specs.Lists.{from, upto, one, count, member, times}
use Rattle.lists.proofs.Upto.{count-append, keep_append, from-add}
use Rattle.lists.proofs.Count.{count_map, count_same}
use Rattle.paper.specs.Map.{source_port, port_node, in_links}
use Rattle.paper.specs.Lines.{End, Placed, Frontier}
use Rattle.paper.specs.Accepted.{right_after, links_between}
use Rattle.order_theory.specs.Sound.{Sound}
use Rattle.lines_theory.specs.Lined.{on, nodes_on, taking, old_lines, gain, fresh, newcomer, Lined, Next}
use Rattle.lists.proofs.Weight.{count-listed, count-from-none}
use Rattle.lists.proofs.Members.{count_members, member_yes, member_no, times-member, times-kept}
use Rattle.lines_theory.proofs.Neighbours.{after_more, after-apart, after_none}
use Rattle.lines_theory.proofs.Weighed.{links-between}
use Rattle.lines_theory.proofs.Taken.{unused, taken-from, taken_stood, lines-known, lines-apart}

-- ---- one node more on a line

module _ (l : ℕ) (xs : List Placed) (x : Placed) where
  pub on-here : 1 ≤ times l x.lines → on l (xs ++ (x ∷ [])) ≡ on l xs ++ (x ∷ [])
  on-here h =
      keep_append (λ y. member l y.lines) xs (x ∷ [])
      ∙ ap (λ (t : Bool). on l xs ++ cond t (x ∷ []) []) (member_yes l x.lines h)

  pub on_away : times l x.lines ≡ 0 → on l (xs ++ (x ∷ [])) ≡ on l xs
  on_away h =
      keep_append (λ y. member l y.lines) xs (x ∷ [])
      ∙ ap (λ (t : Bool). on l xs ++ cond t (x ∷ []) []) (member_no l x.lines h)
      ∙ append-nil (on l xs)

  pub on_more : length (on l xs) ≤ length (on l (xs ++ (x ∷ [])))
  on_more =
      omega
      (arith, ap length (keep_append (λ y. member l y.lines) xs (x ∷ [])), length-append (on l xs) (on l (x ∷ [])))

-- a node that is not placed is on no line
pub nowhere : {b us : List ℕ} {f : Frontier} → Lined b us f → (v : ℕ) → times v us ≡ 0 → (l : ℕ) → times v (nodes_on l f.placed) ≡ 0
nowhere {f = f} i v new l =
    omega (arith, times-kept (λ x. x.node) (λ x. member l x.lines) v f.placed, ap (times v) i.nodes)

-- the nodes of line l with the new node behind them
abbrev behind : List ℕ → ℕ → Frontier → ℕ → List ℕ
behind b v f l = map (λ x. x.node) (on l f.placed ++ (newcomer b v f ∷ []))

module _ {b us : List ℕ} {f : Frontier} {v : ℕ} (s : Sound b) (i : Lined b us f) (n : Next b us v) (u : ℕ) where
  -- ---- into the new node

  -- on a line of its own it comes after whatever was last there, on any other line after nothing
  new-after : (l : ℕ)
      → right_after u v (nodes_on l (f.placed ++ (newcomer b v f ∷ []))) ≡ (member l (newcomer b v f).lines && right_after u v (behind b v f l))
  new-after l = go (dec_lt 0 (times l (newcomer b v f).lines))
    where
      go : Dec (0 < times l (newcomer b v f).lines)
          → right_after u v (nodes_on l (f.placed ++ (newcomer b v f ∷ []))) ≡ (member l (newcomer b v f).lines && right_after u v (behind b v f l))
      go (yes h) =
          ap (λ (ys : List Placed). right_after u v (map (λ x. x.node) ys)) (on-here l f.placed (newcomer b v f) h)
          ∙ ap (λ (t : Bool). t && right_after u v (behind b v f l)) (sym (member_yes l (newcomer b v f).lines h))
      go (no h) =
          ap (λ (ys : List Placed). right_after u v (map (λ x. x.node) ys)) (on_away l f.placed (newcomer b v f) (omega arith))
          ∙ after_none u v (nodes_on l f.placed) (nowhere i v n.new l)
          ∙ ap (λ (t : Bool). t && right_after u v (behind b v f l)) (sym (member_no l (newcomer b v f).lines (omega arith)))

  -- on a taken line that is the owner of its port
  taken-after : (e : End) → Memᴰ e (taking b v f).taken → right_after u v (behind b v f e.line) ≡ eqb (port_node b e.port) u
  taken-after e m =
      let st = taken_stood s i n e m in
      let before = after_none u v (nodes_on e.line f.placed) (nowhere i v n.new e.line) in
      ap (λ (ys : List Placed). right_after u v (map (λ x. x.node) (ys ++ (newcomer b v f ∷ [])))) st.whole
      ∙ after_more (λ x. x.node) u v st.earlier st.last (newcomer b v f)
      ∙ ap (λ (ys : List Placed). right_after u v (map (λ x. x.node) ys) || (eqb st.last.node u && eqb v v)) (sym st.whole)
      ∙ ap (λ (t : Bool). t || (eqb st.last.node u && eqb v v)) before
      ∙ ap (λ (t : Bool). eqb st.last.node u && t) (eq-eqb v v refl)
      ∙ and-true (eqb st.last.node u)
      ∙ ap (λ (w : ℕ). eqb w u) st.owner

  -- on a line without a node nothing
  fresh-after : (l : ℕ) → f.count ≤ l → right_after u v (behind b v f l) ≡ false
  unfolding right_after
  fresh-after l h = ap (λ (ys : List Placed). right_after u v (map (λ x. x.node) (ys ++ (newcomer b v f ∷ [])))) (unused i l h)

  pub adjacent-new : count (λ l. right_after u v (nodes_on l (f.placed ++ (newcomer b v f ∷ [])))) (upto (f.count + length (fresh b v f))) ≡ links_between b u v
  adjacent-new =
      count_same _ (λ l. member l (newcomer b v f).lines && after l) new-after (upto (f.count + length (fresh b v f)))
      ∙ sym (count-listed (λ l. member l (newcomer b v f).lines) (f.count + length (fresh b v f)) (newcomer b v f).lines (lines-known s i n) listed after)
      ∙ count-append after (old_lines b v f) (fresh b v f)
      ∙ omega (arith, count-from-none after f.count (gain b v f) fresh-after, old)
    where
      after : ℕ → Bool
      after l = right_after u v (behind b v f l)

      listed : (l : ℕ) → l < f.count + length (fresh b v f) → times l (newcomer b v f).lines ≡ one (member l (newcomer b v f).lines)
      listed l h = times-member l (newcomer b v f).lines (omega (arith, lines-apart s i n l))

      old : count after (old_lines b v f) ≡ links_between b u v
      old =
          count_map after (λ e. e.line) (taking b v f).taken
          ∙ count_members (λ e. after e.line) (λ e. eqb (port_node b e.port) u) (taking b v f).taken taken-after
          ∙ sym (count_map (λ p. eqb (port_node b p) u) (λ e. e.port) (taking b v f).taken)
          ∙ ap (count (λ p. eqb (port_node b p) u)) (taken-from s i n)
          ∙ count_map (λ p. eqb (port_node b p) u) (source_port b) (in_links b v)
          ∙ links-between s u v

  -- ---- into a node before it

  old_after : (w : ℕ) → (v ≡ w → ⊥) → (l : ℕ) → right_after u w (nodes_on l (f.placed ++ (newcomer b v f ∷ []))) ≡ right_after u w (nodes_on l f.placed)
  old_after w ne l = go (dec_lt 0 (times l (newcomer b v f).lines))
    where
      go : Dec (0 < times l (newcomer b v f).lines)
          → right_after u w (nodes_on l (f.placed ++ (newcomer b v f ∷ []))) ≡ right_after u w (nodes_on l f.placed)
      go (yes h) =
          ap (λ (ys : List Placed). right_after u w (map (λ x. x.node) ys)) (on-here l f.placed (newcomer b v f) h)
          ∙ after-apart (λ x. x.node) u w (on l f.placed) (newcomer b v f) ne
      go (no h) =
          ap (λ (ys : List Placed). right_after u w (map (λ x. x.node) ys)) (on_away l f.placed (newcomer b v f) (omega arith))

  unused_after : (w l : ℕ) → f.count ≤ l → right_after u w (nodes_on l f.placed) ≡ false
  unfolding right_after
  unused_after w l h = ap (λ (ys : List Placed). right_after u w (map (λ x. x.node) ys)) (unused i l h)

  pub adjacent_old : (w : ℕ) → (v ≡ w → ⊥)
      → count (λ l. right_after u w (nodes_on l (f.placed ++ (newcomer b v f ∷ [])))) (upto (f.count + length (fresh b v f)))
      ≡ count (λ l. right_after u w (nodes_on l f.placed)) (upto f.count)
  adjacent_old w ne =
      count_same _ before (old_after w ne) (upto (f.count + length (fresh b v f)))
      ∙ ap (count before) (from-add 0 f.count (length (fresh b v f)))
      ∙ count-append before (upto f.count) (from (0 + f.count) (length (fresh b v f)))
      ∙ omega (arith, count-from-none before (0 + f.count) (length (fresh b v f)) (λ l h. unused_after w l (omega arith)))
    where
      before : ℕ → Bool
      before l = right_after u w (nodes_on l f.placed)
