-- The places near a place: which are in the range and listed or not, one link after the other, while the future's marks are written.
-- Rests on Neighbours, Laying, lists.AllAny and tables.Within.
use Prim.Native.Nat.{ℕ, ◌+◌, ◌≤◌, ◌<◌}
use native.Mathlib.Decide.{ℕ_discrete}
use native.Mathlib.Omega.{arith}
use mathlib.Core.Path.{◌≡◌, refl, sym, ap, ◌∙◌, subst}
use mathlib.Core.Logic.{inl, inr}
use mathlib.Core.Bool.{Bool, true, false, ◌&&◌, not, cond, and-false}
use mathlib.Core.List.{List}
use lib.ListN.{length, get_or, set}
use lib.Seq.{get_or-set_same, get_or-set_other}
use lib.Dec.{eqb, leb}
use borrow.Author.Tests.{le-leb, lt-leb, eq-eqb, ne_eqb}
use Rattle.lists.proofs.AllAny.{any_true, any-next_false}
use Rattle.neighbours.specs.Linked.{out_target}
use Rattle.tables.specs.declared.Layout.{Layout}
use Rattle.tables.specs.Within.{Within}
use Rattle.tables.proofs.Within.{within_none, within-set, within_wider}
use Rattle.topo_checker.specs.Near.{place_reached, is_listed, is_other, leads_out, OthersMarked}
use Rattle.topo_checker.specs.Room.{marks_size, Laid}
use Rattle.topo_checker.specs.declared.layout.OrderRoom.{OrderRoom}
use Rattle.topo_checker.proofs.Laying.{laid_still}
use Rattle.topo_checker.proofs.Neighbours.{target-low, reached-low}

-- ---- one place

module _ (a : List ℕ) (marks first last j : ℕ) where
  pub listed_below : j < first → false ≡ is_listed a marks first last j
  unfolding is_listed
  listed_below h = rw (lt-leb first j h)

  pub listed_above : first ≤ j → last < j → false ≡ is_listed a marks first last j
  unfolding is_listed
  listed_above low h = rw (le-leb first j low, lt-leb j last h)

  pub listed-within : first ≤ j → j ≤ last → {w : ℕ} → w ≡ get_or a (marks + j) 0 → not (eqb w 0) ≡ is_listed a marks first last j
  unfolding is_listed
  listed-within low high e = rw (le-leb first j low, le-leb j last high) (ap (λ (w : ℕ). not (eqb w 0)) e)

  module _ (m : List ℕ) where
    pub other_below : j < first → a ≡ cond (is_other a marks first last j) m a
    unfolding is_other
    other_below h = rw (lt-leb first j h)

    pub other_above : first ≤ j → last < j → a ≡ cond (is_other a marks first last j) m a
    unfolding is_other
    other_above low h = rw (le-leb first j low, lt-leb j last h)

    pub other_listed : first ≤ j → j ≤ last → {w : ℕ} → w ≡ get_or a (marks + j) 0 → (w ≡ 0 → ⊥) → a ≡ cond (is_other a marks first last j) m a
    unfolding is_other
    other_listed low high e ne = rw (le-leb first j low, le-leb j last high, ne_eqb (get_or a (marks + j) 0) 0 (λ z. ne (e ∙ z)))

    pub other_marked : first ≤ j → j ≤ last → {w : ℕ} → w ≡ get_or a (marks + j) 0 → w ≡ 0 → m ≡ cond (is_other a marks first last j) m a
    unfolding is_other
    other_marked low high e z = rw (le-leb first j low, le-leb j last high, eq-eqb (get_or a (marks + j) 0) 0 (sym e ∙ z))

-- ---- several links, while the future's marks are written

module _ {b a : List ℕ} {at : Layout} {room : OrderRoom} (laid : Laid b a at room) where
  -- the place of a node that a link leads to is in the area, and so are its marks
  pub place-fits : {x v : ℕ} → v ≡ out_target b x → x < at.sizes.links → room.places + v < length a
  place-fits {x} e h = omega (arith, e, target-low laid x h, laid.placed)

  module _ {x j : ℕ} (is : j ≡ place_reached b a room x) (h : x < at.sizes.links) where
    pub marks-fit : (room.listed + j < length a) × (room.future + j < length a)
    marks-fit = (omega (arith, is, reached-low laid x h, laid.placed), omega (arith, is, reached-low laid x h, laid.placed))

module _ {b a : List ℕ} {at : Layout} {room : OrderRoom} (laid : Laid b a at room) where
  module _ {m : List ℕ} (kept : Within room.future at.sizes.nodes a m) where
    pub laid_then : Laid b m at room
    laid_then = laid_still laid (within_wider kept room.listed (marks_size room) (omega (arith, laid.placed)) (omega (arith, laid.placed)))

    reached-same : (x : ℕ) → place_reached b m room x ≡ place_reached b a room x
    unfolding place_reached
    reached-same x = kept.same (room.places + out_target b x) (inr (omega (arith, laid.placed)))

    other_same : {j : ℕ} → j < at.sizes.nodes → (first last : ℕ) → is_other m room.listed first last j ≡ is_other a room.listed first last j
    unfolding is_other
    other_same {j} h first last =
        ap (λ (w : ℕ). (leb first j && leb j last) && eqb w 0) (kept.same (room.listed + j) (inl (omega (arith, laid.placed))))

  -- the links from `start` on
  module _ (start : ℕ) where
    abbrev reach : ℕ → ℕ
    reach x = place_reached b a room (start + x)

    module _ {first last : ℕ} where
      pub others-none : OthersMarked b a at room start 0 first last a
      unfolding leads_out
      others-none = record { kept = within_none; marked = λ j h. refl }

      module _ {x : ℕ} {m : List ℕ} (o : OthersMarked b a at room start x first last m) (h : start + x < at.sizes.links) where
        passes : (j : ℕ) → j ≡ reach x → is_other a room.listed first last (reach x) ≡ true
            → leads_out b a room start first last (x + 1) j ≡ true
        unfolding leads_out
        passes j e t =
            any_true
            (λ y. eqb j (reach y) && is_other a room.listed first last (reach y))
            (x + 1) x (omega arith)
            (rw (eq-eqb j (reach x) e) t)

        fails : (j : ℕ) (s t : Bool) → eqb j (reach x) ≡ s → is_other a room.listed first last (reach x) ≡ t
            → (s && t) ≡ false → leads_out b a room start first last (x + 1) j ≡ leads_out b a room start first last x j
        unfolding leads_out
        fails j s t p q e =
            any-next_false
            (λ y. eqb j (reach y) && is_other a room.listed first last (reach y))
            x (rw (p, q) e)

        pub others-next : {j : ℕ} {m' : List ℕ} → j ≡ place_reached b m room (start + x)
            → m' ≡ cond (is_other m room.listed first last j) (set m (room.future + j) 1) m → OthersMarked b a at room start (x + 1) first last m'
        others-next {j} {m'} place left = go (is_other a room.listed first last (reach x)) refl
          where
            is : j ≡ reach x
            is = place ∙ reached-same o.kept (start + x)

            low : reach x < at.sizes.nodes
            low = reached-low laid (start + x) h

            now : m' ≡ cond (is_other a room.listed first last (reach x)) (set m (room.future + reach x) 1) m
            now =
                left ∙ ap (λ (i : ℕ). cond (is_other m room.listed first last i) (set m (room.future + i) 1) m) is
                ∙ ap (λ (t : Bool). cond t (set m (room.future + reach x) 1) m) (other_same o.kept low first last)

            go : (t : Bool) → is_other a room.listed first last (reach x) ≡ t → OthersMarked b a at room start (x + 1) first last m'
            go false e =
                let same : m' ≡ m = now ∙ ap (λ (t : Bool). cond t (set m (room.future + reach x) 1) m) e in
                record {
                  kept = subst (Within room.future at.sizes.nodes a) (sym same) o.kept;
                  marked = λ k l. ap (λ (w : List ℕ). get_or w (room.future + k) 0) same ∙ o.marked k l
                      ∙ ap (λ (t : Bool). cond t 1 (get_or a (room.future + k) 0)) (sym (fails k (eqb k (reach x)) false refl e (and-false (eqb k (reach x)))));
                }
            go true e =
                record {
                  kept = subst (Within room.future at.sizes.nodes a) (sym wrote) (within-set o.kept (room.future + reach x) 1 (omega arith) (omega (arith, low)));
                  marked = λ k l. ap (λ (w : List ℕ). get_or w (room.future + k) 0) wrote ∙ each k l (ℕ_discrete k (reach x));
                }
              where
                wrote : m' ≡ set m (room.future + reach x) 1
                wrote = now ∙ ap (λ (t : Bool). cond t (set m (room.future + reach x) 1) m) e

                each : (k : ℕ) → k < at.sizes.nodes → Dec (k ≡ reach x)
                    → get_or (set m (room.future + reach x) 1) (room.future + k) 0
                    ≡ cond (leads_out b a room start first last (x + 1) k) 1 (get_or a (room.future + k) 0)
                each k l (yes i) =
                    ap (λ (z : ℕ). get_or (set m (room.future + reach x) 1) (room.future + z) 0) i
                    ∙ get_or-set_same m (room.future + reach x) 1 0 (omega (arith, low, laid.placed, o.kept.long))
                    ∙ ap (λ (t : Bool). cond t 1 (get_or a (room.future + k) 0)) (sym (passes k i e))
                each k l (no ne) =
                    get_or-set_other m (room.future + reach x) (room.future + k) 1 0 (λ z. ne (omega arith))
                    ∙ o.marked k l
                    ∙ ap (λ (t : Bool). cond t 1 (get_or a (room.future + k) 0)) (sym (fails k false true (ne_eqb k (reach x) ne) e refl))
