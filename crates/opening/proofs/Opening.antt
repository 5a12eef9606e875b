-- What is left of a map that passes 1 and 2, and of any map, put together from the rules' answers.
-- Rests on toposort's Refusing, tables' Placed and paper's Area.
use Prim.Native.Nat.{ℕ, ◌-◌, ◌≤◌, ◌<◌}
use native.Mathlib.Omega.{arith}
use mathlib.Core.Path.{◌≡◌, sym, ap, ap₂, ◌∙◌, subst}
use mathlib.Core.Bool.{Bool, true, false, not}
use mathlib.Core.List.{List, [], ◌∷◌}
use borrow.Author.Tests.{lt-ltb, le-ltb}
use lib.ListN.{length, replicate}
use lib.Seq.{sets}
use Rattle.lists.specs.Found.{placed}
use Rattle.paper.specs.Area.{Section, size, W, scratch_cleared}
use Rattle.paper.specs.Accepted.{accepted}
use Rattle.paper.specs.Calls.{untouched, area_after, opening}
use Rattle.paper.specs.Refusals.{Ruling, passed, refusal, refuse, Answer, answer, on_refusal, refused, answered, decide, rule1, rule2, rule3, rule45, rule7}
use Rattle.paper.proofs.Area.{W-sum}
use Rattle.lines_theory.proofs.Written.{start_is_lem}
use Rattle.std.specs.Prelude.{Result, Err}
use Rattle.refusals.specs.Said.{ruled, refused_by, answer_of}
use Rattle.refusals.specs.declared.Refusal.{Refusal}
use Rattle.refusals.specs.declared.Refusal.TheVariants.{NoRoom}
use Rattle.stepmap.specs.Formed.{ReadWell}
use Rattle.stepmap.specs.declared.read.Sizes.{Sizes}
use Rattle.tables.specs.Placed.{LaidOut, Placed}
use Rattle.tables.specs.declared.Layout.{Layout}
use Rattle.tables.proofs.Placed.{places}
use Rattle.acceptance.specs.Testable.{Testable}
use Rattle.toposort.proofs.Refusing.{refused_said, passed-said, passed-kept, refused_kept, next, here, alone, after, before}
use Rattle.opening.specs.Opened.{Laid, Roomy, PlacedLeft, OpenLeft, layout_of, scratch_zeroed}

-- ---- where the sections stand

pub laid : {b : List ℕ} {s : Sizes} {at : Layout} → ReadWell b s.nodes s.links s.ports → LaidOut s at → Laid b at
laid {b} {s} {at} read out =
    let here = subst (λ (s : Sizes). ReadWell b s.nodes s.links s.ports) (sym out.sizes) read in
    record { read = here; placed = places here (subst (λ (s : Sizes). LaidOut s at) (sym out.sizes) out) }

module _ {b : List ℕ} {at : Layout} (known : Laid b at) where
  pub layout_is : at ≡ layout_of b
  unfolding layout_of
  layout_is i =
      record {
        sizes =
            record { nodes = sym known.read.nodes i; links = sym known.read.links i; ports = sym known.read.ports i };
        order = sym (known.placed.stands Section.order) i;
        positions = sym (known.placed.stands Section.positions) i;
        begins = sym (known.placed.stands Section.node_starts) i;
        lines = sym (known.placed.stands Section.lines_of_nodes) i;
        starts = sym (known.placed.stands Section.line_starts) i;
        along = sym (known.placed.stands Section.nodes_of_lines) i;
        scratch = sym (known.placed.stands Section.scratch) i;
        end = sym known.placed.whole i;
      }

-- the scratch up to its end is 01's
pub zeroed_is : {b : List ℕ} {at : Layout} → Placed b at → (a : List ℕ) → scratch_zeroed a at ≡ scratch_cleared b a
unfolding scratch_zeroed scratch_cleared size
zeroed_is {b} {at} known a = ap₂ (λ (i k : ℕ). sets a i (replicate k 0)) (sym (known.stands Section.scratch)) long
  where
    long : at.end - at.scratch ≡ size b Section.scratch
    long = omega (arith, W-sum b, start_is_lem b Section.scratch, known.whole, known.stands Section.scratch)

-- ---- 4, 5 and 7

-- 4 or 5: a bad link
pub bad_link_lem : (b a : List ℕ) (at : Layout) (x : Refusal) → ruled x ≡ rule45 b → refused_by x ≡ answer (decide (rule45 b ∷ rule7 b a ∷ [])) at
bad_link_lem b a at x e = refused_said (here e (rule7 b a ∷ [])) at

-- sound links let the tables be tested
pub testable : {b a : List ℕ} {at : Layout} → Roomy b a at → passed ≡ rule45 b → Testable b a at
testable ready e = record { read = ready.laid.read; placed = ready.laid.placed; links = sym e; room = ready.room }

module _ (b a : List ℕ) (at : Layout) (sound : passed ≡ rule45 b) {r : Bool} (is : r ≡ accepted b a) where
  ruled_7 : {t : Bool} → not r ≡ t → refuse 7 (placed t 0) ≡ decide (rule45 b ∷ rule7 b a ∷ [])
  unfolding rule7
  ruled_7 e = ap (λ (t : Bool). refuse 7 (placed t 0)) (sym e ∙ ap not is) ∙ alone (rule7 b a) ∙ next sound (rule7 b a ∷ [])

  pub not_accepted : not r ≡ true → refused 7 0 ≡ answer (decide (rule45 b ∷ rule7 b a ∷ [])) at
  unfolding refuse
  not_accepted e = refused_said (ruled_7 e) at

  pub is-accepted : not r ≡ false → answered at ≡ answer (decide (rule45 b ∷ rule7 b a ∷ [])) at
  unfolding refuse
  is-accepted e = passed-said (ruled_7 e) at

-- ---- 3: the room for W words

module _ {b : List ℕ} {at : Layout} (known : Laid b at) (a : List ℕ) where
  short : length a < at.end → refusal 3 0 ≡ rule3 b a
  unfolding rule3 refuse
  short h = ap (λ t. refuse 3 (placed t 0)) (sym (lt-ltb (length a) (W b) (omega (arith, known.placed.whole))))

  roomy : at.end ≤ length a → passed ≡ rule3 b a
  unfolding rule3 refuse
  roomy h = ap (λ t. refuse 3 (placed t 0)) (sym (le-ltb (length a) (W b) (omega (arith, known.placed.whole))))

  pub no_room-said : length a < at.end → ◌≡◌ {A = Answer Layout} (refused 3 0) (answer (decide (rule3 b a ∷ rule45 b ∷ rule7 b a ∷ [])) at)
  no_room-said h = refused_said (here (short h) (rule45 b ∷ rule7 b a ∷ [])) at

  pub room-said : {x : Answer Layout} → at.end ≤ length a → x ≡ answer (decide (rule45 b ∷ rule7 b a ∷ [])) at
      → x ≡ answer (decide (rule3 b a ∷ rule45 b ∷ rule7 b a ∷ [])) at
  room-said h e = e ∙ ap (λ (u : Ruling). answer u at) (next (roomy h) (rule45 b ∷ rule7 b a ∷ []))

  pub no_room : {m : List ℕ} → length a < at.end → m ≡ a → PlacedLeft b a at (Err NoRoom) m
  no_room h e = record { said = no_room-said h; left = refused_kept (short h) (scratch_zeroed a at) e }

  pub room : {r : Result Layout Refusal} {m : List ℕ} → at.end ≤ length a → answer_of r ≡ answer (decide (rule45 b ∷ rule7 b a ∷ [])) at
      → m ≡ scratch_zeroed a at → PlacedLeft b a at r m
  room h e f = record { said = room-said h e; left = passed-kept (roomy h) a f }

-- ---- any map

module _ (b a : List ℕ) where
  -- 1 or 2
  module _ (x : Refusal) (first_two : ruled x ≡ decide (rule1 b ∷ rule2 b ∷ [])) where
    pub unread_said : ◌≡◌ {A = Answer Layout} (refused_by x) (answer (decide (opening b a)) (layout_of b))
    unfolding opening untouched
    unread_said = refused_said (before (rule1 b ∷ rule2 b ∷ []) (rule3 b a ∷ rule45 b ∷ rule7 b a ∷ []) first_two) (layout_of b)

    pub unread : {m : List ℕ} → m ≡ a → OpenLeft b a (Err x) m
    unfolding area_after untouched
    unread f =
        record {
          said = unread_said;
          left = refused_kept (before (rule1 b ∷ rule2 b ∷ []) (rule3 b a ∷ []) first_two) (scratch_cleared b a) f;
        }

  -- .. else what is left of the map with its places
  module _ {at : Layout} (known : Laid b at) (d : passed ≡ decide (rule1 b ∷ rule2 b ∷ [])) where
    pub placed-said : {x : Answer Layout} → x ≡ answer (decide (rule3 b a ∷ rule45 b ∷ rule7 b a ∷ [])) at
        → x ≡ answer (decide (opening b a)) (layout_of b)
    unfolding opening untouched
    placed-said e =
        e ∙ ap (answer (decide (rule3 b a ∷ rule45 b ∷ rule7 b a ∷ []))) (layout_is known)
        ∙ ap (λ (u : Ruling). answer u (layout_of b)) (after (rule1 b ∷ rule2 b ∷ []) (rule3 b a ∷ rule45 b ∷ rule7 b a ∷ []) d)

    pub placed-left : {r : Result Layout Refusal} {m : List ℕ} → PlacedLeft b a at r m → OpenLeft b a r m
    unfolding area_after untouched
    placed-left was =
        record {
          said = placed-said was.said;
          left =
              was.left ∙ ap (λ (z : List ℕ). on_refusal (rule3 b a) a z) (zeroed_is known.placed a)
              ∙ ap (λ (u : Ruling). on_refusal u a (scratch_cleared b a)) (alone (rule3 b a) ∙ after (rule1 b ∷ rule2 b ∷ []) (rule3 b a ∷ []) d);
        }
