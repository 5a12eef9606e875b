-- What is left of a map that passes 1 and 2, and of any map, put together from the rules' answers.
-- Rests on Refusing and tables' Placed.
use Prim.Native.Nat.{ℕ, ◌≤◌, ◌<◌}
use native.Mathlib.Omega.{arith}
use mathlib.Core.Path.{◌≡◌, refl, sym, ap, ◌∙◌, subst}
use mathlib.Core.List.{List, [], ◌∷◌}
use borrow.Author.Tests.{lt-ltb, le-ltb}
use lib.ListN.{length, replicate}
use lib.Seq.{sets, length-sets}
use Rattle.lists.specs.Found.{placed}
use Rattle.lists.proofs.Sections.{sets-sets}
use Rattle.paper.specs.Area.{W, cleared}
use Rattle.paper.specs.Calls.{untouched, unprepared}
use Rattle.paper.specs.Refusals.{Ruling, passed, refusal, refuse, on_refusal, decide, rule1, rule2, rule3, rule45, rule6}
use Rattle.refusals.specs.Said.{ruled}
use Rattle.refusals.specs.declared.Refusal.{Refusal}
use Rattle.refusals.specs.declared.Refusal.TheVariants.{NoRoom}
use Rattle.stepmap.specs.Formed.{ReadWell}
use Rattle.stepmap.specs.declared.read.Sizes.{Sizes}
use Rattle.tables.specs.declared.Layout.{Layout}
use Rattle.tables.specs.Placed.{LaidOut, Placed}
use Rattle.tables.proofs.Placed.{places}
use Rattle.toposort.specs.declared.ordering.Ordered.{Ordered}
use Rattle.std.specs.Prelude.{Result, Ok, Err}
use Rattle.toposort.specs.Laid.{Ready, OrderLaid, Lies, Left, OrderLeft}
use Rattle.toposort.proofs.Refusing.{passed-kept, refused_kept, next, here, alone, after, before}

-- what lies over an area, or as a refusal leaves it, lies so over the same area
lies_so : (b m : List ℕ) {z y kept left : List ℕ} (r : Result Ordered Refusal) → z ≡ y → kept ≡ left → Lies b z kept r m → Lies b y left r m
lies_so b m (Ok o) e f lies = subst (λ (x : List ℕ). OrderLaid b x o.at o.links m) e lies
lies_so b m (Err x) e f lies = lies ∙ f

-- ---- 3: the room for W words

module _ (b a : List ℕ) {words : ℕ} (whole : W b ≡ words) where
  short : length a < words → refusal 3 0 ≡ rule3 b a
  unfolding rule3 refuse
  short h = ap (λ t. refuse 3 (placed t 0)) (sym (lt-ltb (length a) (W b) (omega (arith, whole))))

  roomy : words ≤ length a → passed ≡ rule3 b a
  unfolding rule3 refuse
  roomy h = ap (λ t. refuse 3 (placed t 0)) (sym (le-ltb (length a) (W b) (omega (arith, whole))))

  clears : {z : List ℕ} → z ≡ sets a 0 (replicate words 0) → z ≡ cleared b a
  unfolding cleared
  clears e = e ∙ ap (λ (k : ℕ). sets a 0 (replicate k 0)) (sym whole)

cleared_again : (b a : List ℕ) → cleared b (cleared b a) ≡ cleared b a
unfolding cleared
cleared_again b a = sets-sets a 0 (replicate (W b) 0) (replicate (W b) 0) (omega arith)

-- what is left of a map that passes 1 and 2
abbrev SizedLeft : List ℕ → List ℕ → Result Ordered Refusal → List ℕ → Type 0
SizedLeft b a r m =
    Left b (cleared b a) (on_refusal (rule3 b a) a (cleared b a)) (decide (rule3 b a ∷ rule45 b ∷ rule6 b ∷ [])) r m

module _ {b : List ℕ} {s : Sizes} {at : Layout} (read : ReadWell b s.nodes s.links s.ports) (out : LaidOut s at) where
  read_at : ReadWell b at.sizes.nodes at.sizes.links at.sizes.ports
  read_at = subst (λ (z : Sizes). ReadWell b z.nodes z.links z.ports) (sym out.sizes) read

  placed_at : Placed b at
  placed_at = places read_at (subst (λ (z : Sizes). LaidOut z at) (sym out.sizes) out)

  module _ (a : List ℕ) where
    pub no_room : {m : List ℕ} → length a < at.end → m ≡ a → SizedLeft b a (Err NoRoom) m
    no_room h e =
        let small : refusal 3 0 ≡ rule3 b a = short b a placed_at.whole h in
        record { said = here small (rule45 b ∷ rule6 b ∷ []); lies = refused_kept small (cleared b a) e }

    module _ {z : List ℕ} (room : at.end ≤ length a) (zeros : z ≡ sets a 0 (replicate at.end 0)) where
      passes_3 : passed ≡ rule3 b a
      passes_3 = roomy b a placed_at.whole room

      is-cleared : z ≡ cleared b a
      is-cleared = clears b a placed_at.whole zeros

      -- 4 and 5: a bad link
      pub bad_link_lem : (x : Refusal) → ruled x ≡ rule45 b → SizedLeft b a (Err x) z
      bad_link_lem x e =
          record {
            said = here e (rule6 b ∷ []) ∙ next passes_3 (rule45 b ∷ rule6 b ∷ []);
            lies = passed-kept passes_3 a is-cleared;
          }

      -- sound links
      pub ready_zeroed : passed ≡ rule45 b → Ready b z at
      ready_zeroed f =
          record {
            read = read_at;
            placed = placed_at;
            links = sym f;
            room = omega (arith, ap length zeros, length-sets a 0 (replicate at.end 0));
          }

      pub sound-links : passed ≡ rule45 b → {r : Result Ordered Refusal} {m : List ℕ} → Left b z (cleared b z) (rule6 b) r m → SizedLeft b a r m
      sound-links f {r} {m} known =
          record {
            said = known.said ∙ alone (rule6 b) ∙ next f (rule6 b ∷ []) ∙ next passes_3 (rule45 b ∷ rule6 b ∷ []);
            lies =
                lies_so b m r is-cleared (passed-kept passes_3 a (ap (cleared b) is-cleared ∙ cleared_again b a)) known.lies;
          }

-- ---- any map

module _ (b a : List ℕ) where
  -- 1 or 2
  pub unread : {m : List ℕ} (x : Refusal) → ruled x ≡ decide (rule1 b ∷ rule2 b ∷ []) → m ≡ a → OrderLeft b a (Err x) m
  unfolding untouched unprepared
  unread x d f =
      record {
        said = before (rule1 b ∷ rule2 b ∷ []) (rule3 b a ∷ rule45 b ∷ rule6 b ∷ []) d;
        lies = refused_kept (before (rule1 b ∷ rule2 b ∷ []) (rule3 b a ∷ []) d) (cleared b a) f;
      }

  -- .. else what is left of the map with its sizes
  pub sized-left : {r : Result Ordered Refusal} {m : List ℕ} → passed ≡ decide (rule1 b ∷ rule2 b ∷ []) → SizedLeft b a r m → OrderLeft b a r m
  unfolding untouched unprepared
  sized-left {r} {m} d known =
      record {
        said = known.said ∙ after (rule1 b ∷ rule2 b ∷ []) (rule3 b a ∷ rule45 b ∷ rule6 b ∷ []) d;
        lies =
            lies_so b m r refl
            (ap (λ (u : Ruling). on_refusal u a (cleared b a)) (alone (rule3 b a) ∙ after (rule1 b ∷ rule2 b ∷ []) (rule3 b a ∷ []) d))
            known.lies;
      }
