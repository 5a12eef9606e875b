-- The single steps over plain lists: a pop, a push, a line taken, a line pushed, new lines numbered.
-- Rests on Steps.
use Prim.Native.Nat.{ℕ, suc, ◌+◌, ◌-◌, ◌≤◌, ◌<◌, max}
use native.Mathlib.Omega.{arith}
use native.Mathlib.Numerals.{add-one}
use mathlib.Core.Path.{◌≡◌, refl, sym, ap, ap₂, ◌∙◌}
use mathlib.Core.Bool.{Bool, cond}
use mathlib.Core.List.{List, [], ◌∷◌}
use lib.ListN.{get_or, set}
use lib.Seq.{sets}
use borrow.Author.Tests.{eq-eqb, ne_eqb}
use Rattle.lists.specs.Lists.{from}
use Rattle.lists.proofs.Sections.{sets-next}
use Rattle.lists.proofs.Upto.{from_snoc, length_from}
use Rattle.paper.specs.Map.{link_from}
use Rattle.paper.specs.Lines.{new_lines}
use Rattle.tables.specs.declared.Layout.{Layout}
use Rattle.line_tables.specs.declared.room.Room.{Room}
use Rattle.line_tables.specs.Steps.{pushed, link_in, link_out, port_of, top_of, line_taken, taken_after, position_met, position_after, line_pushed, pushed_after}

pub push-written : (a : List ℕ) (room : Room) (port line : ℕ) {k : ℕ} → k ≡ top_of a room port
    → set (set a (room.stack + k) line) (room.tops + port) (top_of a room port + 1) ≡ pushed a room port line
unfolding pushed
push-written a room port line e =
    ap (λ (i : ℕ). set (set a (room.stack + i) line) (room.tops + port) (top_of a room port + 1)) e

-- ---- a line taken: what the code reads, and what it leaves

module _ (b a : List ℕ) (at : Layout) (room : Room) (place : ℕ) {k : ℕ} (is-link : k ≡ link_in a room place) {source : ℕ} (is-source : source ≡ link_from b k) where
  met-is : get_or a (at.positions + source) 0 ≡ get_or a (at.positions + link_from b (link_in a room place)) 0
  met-is = ap (λ (v : ℕ). get_or a (at.positions + v) 0) (is-source ∙ ap (link_from b) is-link)

  pub met-said : (position : ℕ) → max position (suc (get_or a (at.positions + source) 0)) ≡ position_met b a at room place position
  unfolding position_met
  met-said position = ap (λ (m : ℕ). max position (suc m)) met-is

module _ (a : List ℕ) (room : Room) (place to : ℕ) {k : ℕ} (is-link : k ≡ link_in a room place) {port : ℕ} (is-port : port ≡ get_or a (room.ports + k) 0) where
  at_port : port ≡ port_of a room (link_in a room place)
  at_port = is-port ∙ ap (λ (j : ℕ). get_or a (room.ports + j) 0) is-link

  pub line_taken_lem : {line : ℕ} {m : List ℕ} → line ≡ get_or a (room.stack + (top_of a room port - 1)) 0
      → m ≡ set a (room.tops + port) (top_of a room port - 1) → set m to line ≡ line_taken a room place to
  unfolding line_taken
  line_taken_lem is-line is-left =
      ap₂ (λ (m : List ℕ) (x : ℕ). set m to x) is-left is-line
      ∙ ap (λ (q : ℕ). set (set a (room.tops + q) (top_of a room q - 1)) to (get_or a (room.stack + (top_of a room q - 1)) 0)) at_port

-- ---- a line pushed

module _ (a : List ℕ) (room : Room) (place here : ℕ) {k : ℕ} (is-link : k ≡ link_out a room place) {port : ℕ} (is-port : port ≡ get_or a (room.ports + k) 0) where
  at_port-out : port ≡ port_of a room (link_out a room place)
  at_port-out = is-port ∙ ap (λ (j : ℕ). get_or a (room.ports + j) 0) is-link

  pub line-pushed : {m : List ℕ} → m ≡ pushed a room port (get_or a here 0) → m ≡ line_pushed a room place here
  unfolding line_pushed
  line-pushed e = e ∙ ap (λ (q : ℕ). pushed a room q (get_or a here 0)) at_port-out

-- ---- new lines

pub more_out : (taken outgoing : ℕ) → taken < outgoing → outgoing - taken ≡ new_lines taken outgoing
unfolding new_lines
more_out taken outgoing h =
    ap (λ (t : Bool). cond t 1 (outgoing - taken)) (sym (ne_eqb (taken + outgoing) 0 (λ e. omega (arith, e))))

pub no_link : (taken outgoing : ℕ) → outgoing ≤ taken → taken ≡ 0 → 1 ≡ new_lines taken outgoing
unfolding new_lines
no_link taken outgoing h e =
    ap (λ (t : Bool). cond t 1 (outgoing - taken)) (sym (eq-eqb (taken + outgoing) 0 (omega (arith, e))))

pub enough_taken : (taken outgoing : ℕ) → outgoing ≤ taken → (taken ≡ 0 → ⊥) → 0 ≡ new_lines taken outgoing
unfolding new_lines
enough_taken taken outgoing h some =
    none ∙ ap (λ (t : Bool). cond t 1 (outgoing - taken)) (sym (ne_eqb (taken + outgoing) 0 (λ e. some (omega (arith, e)))))
  where
    none : 0 ≡ outgoing - taken
    none = omega arith

pub create_again : (area₀ : List ℕ) (at first made : ℕ) {area : List ℕ} → area ≡ sets area₀ at (from first made)
    → set area (at + made) (first + made) ≡ sets area₀ at (from first (made + 1))
create_again area₀ at first made e =
    rw (add-one, from_snoc) (sets-next area₀ at (from first made) ((first + made) ∷ []) e (length_from first made))

-- ---- the steps of a loop

module _ (a : List ℕ) {area : List ℕ} (room : Room) (first list i : ℕ) (now : area ≡ taken_after a room first list i) where
  pub step-taken : {m : List ℕ} → m ≡ line_taken area room (first + i) (list + i) → m ≡ taken_after a room first list (i + 1)
  unfolding taken_after
  step-taken e =
      e ∙ ap (λ (x : List ℕ). line_taken x room (first + i) (list + i)) now ∙ ap (taken_after a room first list) (sym (add-one i))

  pub step-position : (b : List ℕ) (at : Layout) {position r : ℕ} → position ≡ position_after b a at room first list i
      → r ≡ position_met b area at room (first + i) position → r ≡ position_after b a at room first list (i + 1)
  unfolding position_after
  step-position b at is-position e =
      e ∙ ap₂ (λ (x : List ℕ) (y : ℕ). position_met b x at room (first + i) y) now is-position
      ∙ ap (position_after b a at room first list) (sym (add-one i))

module _ (a : List ℕ) {area : List ℕ} (room : Room) (first list i : ℕ) (now : area ≡ pushed_after a room first list i) where
  pub step_pushed : {m : List ℕ} → m ≡ line_pushed area room (first + i) (list + i) → m ≡ pushed_after a room first list (i + 1)
  unfolding pushed_after
  step_pushed e =
      e ∙ ap (λ (x : List ℕ). line_pushed x room (first + i) (list + i)) now ∙ ap (pushed_after a room first list) (sym (add-one i))

-- nothing is done yet
module _ (a : List ℕ) (room : Room) (first list : ℕ) where
  pub none-taken : a ≡ taken_after a room first list 0
  unfolding taken_after
  none-taken = refl

  pub none-met : (b : List ℕ) (at : Layout) → 0 ≡ position_after b a at room first list 0
  unfolding position_after
  none-met b at = refl

  pub none-pushed : a ≡ pushed_after a room first list 0
  unfolding pushed_after
  none-pushed = refl
