-- The pass over the links: after k links an output's mark stands exactly if none of them is at it, and none of them was a conflict.
-- Rests on Conflict, Ends, Written, neighbours' Writing and lists.AllAny.
use Prim.Native.Nat.{ℕ, ◌+◌, ◌≤◌, ◌<◌}
use native.Mathlib.Decide.{ℕ_discrete}
use native.Mathlib.Omega.{arith}
use mathlib.Core.Path.{◌≡◌, sym, ap, ◌∙◌, subst}
use mathlib.Core.Logic.{inl}
use mathlib.Core.Bool.{Bool, true, false, not, ◌&&◌, cond, and-true, and-false}
use mathlib.Core.List.{List}
use lib.ListN.{set, length-set}
use borrow.Author.Count.{below_none, below_more}
use borrow.Author.Tests.{ne_eqb}
use Rattle.lists.proofs.AllAny.{any_true, any_false, any-next_false}
use Rattle.paper.specs.Map.{source_port, target_port}
use Rattle.order_theory.proofs.Refusals.{sound}
use Rattle.neighbours.proofs.Writing.{source-below, target_below}
use Rattle.tables.specs.declared.Layout.{Layout}
use Rattle.tables.specs.Placed.{scratch_size}
use Rattle.tables.specs.Within.{Within}
use Rattle.tables.proofs.Usable.{still_usable}
use Rattle.tables.proofs.Within.{within_none, within-set, within_wider}
use Rattle.port_conflict.specs.declared.room.PortRoom.{PortRoom}
use Rattle.port_conflict.specs.FirstLinks.{touches, unlinked, joined, meets}
use Rattle.port_conflict.specs.Marks.{marked, Laid, LinkPassed, LinksPassed}
use Rattle.port_conflict.proofs.Conflict.{at_source, at_target}
use Rattle.port_conflict.proofs.Ends.{inside}
use Rattle.port_conflict.proofs.Written.{marked-here, marked_elsewhere, marked-outside}

-- ---- tests that agree at two ports

joined_same : (f g f' g' : ℕ → Bool) (s t : ℕ) → f s ≡ f' s → f t ≡ f' t → g s ≡ g' s → g t ≡ g' t → joined f g s t ≡ joined f' g' s t
joined_same f g f' g' s t fs ft gs gt = rw (fs, ft, gs, gt)

pub meets-same : (b : List ℕ) (f g f' g' : ℕ → Bool) (p k : ℕ) → source_port b k < p → target_port b k < p → ((q : ℕ) → q < p → f q ≡ f' q)
    → ((q : ℕ) → q < p → g q ≡ g' q) → meets b f g k ≡ meets b f' g' k
unfolding meets
meets-same b f g f' g' p k s t fs gs =
    joined_same f (λ q. g q && unlinked b k q) f' (λ q. g' q && unlinked b k q) (source_port b k) (target_port b k)
    (fs (source_port b k) s) (fs (target_port b k) t)
    (ap (λ (c : Bool). c && unlinked b k (source_port b k)) (gs (source_port b k) s))
    (ap (λ (c : Bool). c && unlinked b k (target_port b k)) (gs (target_port b k) t))

-- ---- one link more

module _ (b : List ℕ) (k q : ℕ) where
  unlinked-next : touches b q k ≡ false → unlinked b (k + 1) q ≡ unlinked b k q
  unfolding unlinked
  unlinked-next off = ap not (any-next_false (touches b q) k off)

  linked_now : touches b q k ≡ true → unlinked b (k + 1) q ≡ false
  unfolding unlinked
  linked_now on = ap not (any_true (touches b q) (k + 1) k (omega arith) on)

  at_neither : (q ≡ source_port b k → ⊥) → (q ≡ target_port b k → ⊥) → touches b q k ≡ false
  at_neither ns nt = rw (ne_eqb (source_port b k) q (λ e. ns (sym e)), ne_eqb (target_port b k) q (λ e. nt (sym e)))

-- ---- the state after k links, a being the area before the first

pub record Passing (b a m : List ℕ) (at : Layout) (room : PortRoom) (k : ℕ) : Type 0 where
  pub kept : Within room.outputs at.sizes.ports a m
  pub stand : (q : ℕ) → q < at.sizes.ports → marked m room.outputs q ≡ (marked a room.outputs q && unlinked b k q)
  pub none : (j : ℕ) → j < k → meets b (marked a room.inputs) (marked a room.outputs) j ≡ false

pub passing-starts : (b a : List ℕ) (at : Layout) (room : PortRoom) → Passing b a a at room 0
unfolding unlinked
passing-starts b a at room =
    record {
      kept = within_none;
      stand = λ q h. sym (and-true (marked a room.outputs q));
      none = below_none _;
    }

module _ {b a m : List ℕ} {at : Layout} {room : PortRoom} {k : ℕ} (laid : Laid b a at room) (pass : Passing b a m at room k) where
  pub laid_still : Laid b m at room
  laid_still =
      record {
        usable = still_usable laid.usable (within_wider pass.kept at.scratch (scratch_size at.sizes) (omega (arith, laid.fits)) (omega (arith, laid.fits)));
        fits = laid.fits;
        firsts = λ v h. pass.kept.same (room.firsts + v) (inl (omega (arith, laid.fits))) ∙ laid.firsts v h;
      }

  -- no link is left
  pub pass_ends : at.sizes.links ≤ k → LinksPassed b a m at room false
  pass_ends end =
      record {
        says = sym (any_false (meets b (marked a room.inputs) (marked a room.outputs)) at.sizes.links (λ j h. pass.none j (omega arith)));
        kept = pass.kept;
      }

  module _ (more : k < at.sizes.links) where
    abbrev inputs_at : ℕ
    inputs_at = room.inputs

    abbrev outputs_at : ℕ
    outputs_at = room.outputs

    abbrev s : ℕ
    s = source_port b k

    abbrev t : ℕ
    t = target_port b k

    s_below : s < at.sizes.ports
    s_below = source-below laid.usable.read (sound b laid.usable.links) more

    t_below : t < at.sizes.ports
    t_below = target_below laid.usable.read (sound b laid.usable.links) more

    input_still : (q : ℕ) → q < at.sizes.ports → marked m inputs_at q ≡ marked a inputs_at q
    input_still q h = marked-outside pass.kept inputs_at q (inl (omega (arith, laid.fits)))

    -- the marks at the link's ends say whether it is a conflict
    link-says : joined (marked m inputs_at) (marked m outputs_at) s t ≡ meets b (marked a inputs_at) (marked a outputs_at) k
    unfolding meets
    link-says =
        joined_same (marked m inputs_at) (marked m outputs_at) (marked a inputs_at) (λ q. marked a outputs_at q && unlinked b k q) s t
        (input_still s s_below) (input_still t t_below) (pass.stand s s_below) (pass.stand t t_below)

    module _ {after : List ℕ} {met : Bool} (one : LinkPassed b m after room k met) where
      pub pass_meets : met ≡ true → LinksPassed b a after at room true
      pass_meets e =
          record {
            says = sym (any_true (meets b (marked a inputs_at) (marked a outputs_at)) at.sizes.links k more (sym link-says ∙ sym one.says ∙ e));
            kept = subst (Within outputs_at at.sizes.ports a) (sym (one.left ∙ ap (λ (c : Bool). cond c m (set (set m (outputs_at + s) 0) (outputs_at + t) 0)) e)) pass.kept;
          }

      pub pass_on : met ≡ false → Passing b a after at room (k + 1)
      pass_on e = subst (λ (x : List ℕ). Passing b a x at room (k + 1)) (sym written)
          (record {
            kept =
                within-set (within-set pass.kept (outputs_at + s) 0 (omega arith) (omega (arith, s_below))) (outputs_at + t) 0 (omega arith)
                (omega (arith, t_below));
            stand = λ q h. stands q h (ℕ_discrete q t) (ℕ_discrete q s);
            none = below_more _ k pass.none (sym link-says ∙ sym one.says ∙ e);
          })
        where
          source-cleared : List ℕ
          source-cleared = set m (outputs_at + s) 0

          written : after ≡ set source-cleared (outputs_at + t) 0
          written = one.left ∙ ap (λ (c : Bool). cond c m (set source-cleared (outputs_at + t) 0)) e

          closed : (q : ℕ) → touches b q k ≡ true → (marked a outputs_at q && unlinked b (k + 1) q) ≡ false
          closed q on = ap (λ (c : Bool). marked a outputs_at q && c) (linked_now b k q on) ∙ and-false (marked a outputs_at q)

          stands : (q : ℕ) → q < at.sizes.ports → Dec (q ≡ t) → Dec (q ≡ s)
              → marked (set source-cleared (outputs_at + t) 0) outputs_at q ≡ (marked a outputs_at q && unlinked b (k + 1) q)
          stands q h (yes at-t) d =
              marked-here source-cleared outputs_at t 0 q at-t (omega (arith, t_below, inside laid more, pass.kept.long, length-set m (outputs_at + s) 0))
              ∙ sym (closed q (at_target b k q at-t))
          stands q h (no not_t) (yes at-s) =
              marked_elsewhere source-cleared outputs_at t 0 q not_t
              ∙ marked-here m outputs_at s 0 q at-s (omega (arith, s_below, inside laid more, pass.kept.long))
              ∙ sym (closed q (at_source b k q at-s))
          stands q h (no not_t) (no not-s) =
              marked_elsewhere source-cleared outputs_at t 0 q not_t ∙ marked_elsewhere m outputs_at s 0 q not-s ∙ pass.stand q h
              ∙ ap (λ (c : Bool). marked a outputs_at q && c) (sym (unlinked-next b k q (at_neither b k q not-s not_t)))
