-- A listed or marked place passed neighbour by neighbour is passed as a whole; and the marks as a table of words.
-- Rests on Passing.
use Prim.Native.Nat.{ℕ, zero, suc, ◌≤◌, ◌<◌}
use native.Mathlib.Omega.{arith}
use mathlib.Core.Path.{◌≡◌, refl, sym, ap, ◌∙◌}
use mathlib.Core.Logic.{◌≢◌}
use mathlib.Core.Bool.{Bool, true, false, not, ◌||◌, cond, or-true, or-false, false≢true}
use mathlib.Core.List.{List, [], ◌∷◌, ◌++◌, map, map-append, append-nil, append_assoc}
use lib.ListN.{length, get_or, take, set}
use lib.Seq.{take-suc, take-length}
use lib.Dec.{eqb}
use borrow.Author.Tests.{eq-eqb, ne_eqb}
use Rattle.lists.specs.Lists.{one, any, keep, member}
use Rattle.lists.proofs.Upto.{keep_append, set-table}
use Rattle.paper.specs.Map.{out_neighbours}
use Rattle.paper.specs.OrderCheck.{in_range, neighbour_places}
use Rattle.convexity_theory.specs.places.Passed.{Passed, going, fed_back, pass_place}
use Rattle.convexity_theory.specs.places.Places.{node_at, place_of}
use Rattle.convexity_theory.specs.places.Neighbour.{neighbour_place, pass_neighbour, passed_neighbours, mark_words}
use Rattle.convexity_theory.proofs.places.Later.{later}
use Rattle.convexity_theory.proofs.places.Rows.{any_append}
use Rattle.convexity_theory.proofs.places.Passing.{pass_listed, pass_feeding, pass_marked}

-- ---- the neighbours so far

module _ (places : List ℕ) where
  abbrev listed : ℕ → Bool
  listed j = member j places

  abbrev outside : ℕ → Bool
  outside j = not (member j places)

  -- where the neighbours js leave the marks, from a listed place and from a marked one
  after : Bool → List ℕ → List ℕ → Passed
  after true marked js = going (marked ++ keep outside js)
  after false marked js = cond (any listed js) fed_back (going (marked ++ js))

  after_none : (from_listed : Bool) (marked : List ℕ) → after from_listed marked [] ≡ going marked
  unfolding after
  after_none true marked = ap going (append-nil marked)
  after_none false marked = ap going (append-nil marked)

  outside-next : (js : List ℕ) (j : ℕ) (p : Bool) → listed j ≡ p → keep outside (js ++ (j ∷ [])) ≡ keep outside js ++ cond (not p) (j ∷ []) []
  outside-next js j p q = keep_append outside js (j ∷ []) ∙ ap (λ (t : Bool). keep outside js ++ cond (not t) (j ∷ []) []) q

  listed_next : (marked js : List ℕ) (j : ℕ) (r p : Bool) → in_range places j ≡ r → listed j ≡ p
      → pass_neighbour places true j (going (marked ++ keep outside js)) ≡ going (marked ++ keep outside (js ++ cond r (j ∷ []) []))
  unfolding pass_neighbour
  listed_next marked js j false p e q = rw (e, append-nil js)
  listed_next marked js j true true e q = rw (e, q, outside-next js j true q, append-nil (keep outside js))
  listed_next marked js j true false e q = rw (e, q, outside-next js j false q) (ap going (append_assoc marked (keep outside js) (j ∷ [])))

  marked_next : (marked js : List ℕ) (j : ℕ) (f r p : Bool) → any listed js ≡ f → in_range places j ≡ r → listed j ≡ p
      → pass_neighbour places false j (cond f fed_back (going (marked ++ js))) ≡ after false marked (js ++ cond r (j ∷ []) [])
  unfolding pass_neighbour after
  marked_next marked js j true r p d e q = rw (any_append listed js (cond r (j ∷ []) []), d)
  marked_next marked js j false false p d e q = rw (e, append-nil js, d)
  marked_next marked js j false true true d e q = rw (e, q, any_append listed js (j ∷ []), d, q)
  marked_next marked js j false true false d e q =
      rw (e, q, any_append listed js (j ∷ []), d, q) (ap going (append_assoc marked js (j ∷ [])))

  after_next : (from_listed : Bool) (marked js : List ℕ) (j : ℕ)
      → pass_neighbour places from_listed j (after from_listed marked js) ≡ after from_listed marked (js ++ cond (in_range places j) (j ∷ []) [])
  unfolding after
  after_next true marked js j = listed_next marked js j (in_range places j) (listed j) refl refl
  after_next false marked js j = marked_next marked js j (any listed js) (in_range places j) (listed j) refl refl refl

module _ (b a places : List ℕ) (i : ℕ) where
  abbrev nodes : List ℕ
  nodes = out_neighbours b (node_at b a i)

  -- the places in the range of the first k neighbours
  near : ℕ → List ℕ
  near k = keep (in_range places) (map (place_of b a) (take k nodes))

  near_next : (k : ℕ) → k < length nodes → near (suc k) ≡ near k ++ cond (in_range places (neighbour_place b a i k)) (neighbour_place b a i k ∷ []) []
  unfolding near neighbour_place
  near_next k h =
      ap (λ (vs : List ℕ). keep (in_range places) (map (place_of b a) vs)) (take-suc nodes k 0 h)
      ∙ ap (keep (in_range places)) (map-append (place_of b a) (take k nodes) (get_or nodes k 0 ∷ []))
      ∙ keep_append (in_range places) (map (place_of b a) (take k nodes)) (place_of b a (get_or nodes k 0) ∷ [])

  near-all : near (length nodes) ≡ neighbour_places b a places i
  unfolding near neighbour_places
  near-all = ap (λ (vs : List ℕ). keep (in_range places) (map (place_of b a) vs)) (take-length nodes)

  module _ (marked : List ℕ) where
    so_far : (k : ℕ) → k ≤ length nodes → passed_neighbours b a places i marked k ≡ after places (member i places) marked (near k)
    unfolding passed_neighbours near
    so_far zero h = sym (after_none places (member i places) marked)
    so_far (suc k) h =
        ap (pass_neighbour places (member i places) (neighbour_place b a i k)) (so_far k (omega arith))
        ∙ after_next places (member i places) marked (near k) (neighbour_place b a i k)
        ∙ ap (after places (member i places) marked) (sym (near_next k h))

    -- a no stays
    pub fed_neighbours : (k n : ℕ) → k ≤ n → passed_neighbours b a places i marked k ≡ fed_back → passed_neighbours b a places i marked n ≡ fed_back
    unfolding passed_neighbours pass_neighbour
    fed_neighbours = later (passed_neighbours b a places i marked) (λ n e. ap (pass_neighbour places (member i places) (neighbour_place b a i n)) e)

    -- a place that is listed or marked
    pub pass_neighbours : (member i places || member i marked) ≡ true
        → pass_place b a places i (going marked) ≡ passed_neighbours b a places i marked (length nodes)
    unfolding after
    pass_neighbours on = go (member i places) (member i marked) (any (listed places) (neighbour_places b a places i)) refl refl refl on ∙ sym whole
      where
        whole : passed_neighbours b a places i marked (length nodes) ≡ after places (member i places) marked (neighbour_places b a places i)
        whole = so_far (length nodes) (omega arith) ∙ ap (after places (member i places) marked) near-all

        go : (p m f : Bool) → member i places ≡ p → member i marked ≡ m → any (listed places) (neighbour_places b a places i) ≡ f → (p || m) ≡ true
            → pass_place b a places i (going marked) ≡ after places (member i places) marked (neighbour_places b a places i)
        go true m f p q e on =
            pass_listed b a places i marked p ∙ ap (λ (t : Bool). after places t marked (neighbour_places b a places i)) (sym p)
        go false true true p q e on =
            pass_feeding b a places i marked p q e
            ∙ ap (λ (t : Bool). cond t fed_back (going (marked ++ neighbour_places b a places i))) (sym e)
            ∙ ap (λ (t : Bool). after places t marked (neighbour_places b a places i)) (sym p)
        go false true false p q e on =
            pass_marked b a places i marked p q e
            ∙ ap (λ (t : Bool). cond t fed_back (going (marked ++ neighbour_places b a places i))) (sym e)
            ∙ ap (λ (t : Bool). after places t marked (neighbour_places b a places i)) (sym p)
        go false false f p q e on = absurd (false≢true on)

-- ---- marks as words

pub member-new : (marked : List ℕ) (j : ℕ) → member j (marked ++ (j ∷ [])) ≡ true
member-new marked j = any_append (eqb j) marked (j ∷ []) ∙ ap (λ (t : Bool). member j marked || (t || false)) (eq-eqb j j refl) ∙ or-true (member j marked)

pub member_old : (marked : List ℕ) (j x : ℕ) → x ≢ j → member x (marked ++ (j ∷ [])) ≡ member x marked
member_old marked j x ne =
    any_append (eqb x) marked (j ∷ []) ∙ ap (λ (t : Bool). member x marked || (t || false)) (ne_eqb x j ne) ∙ or-false (member x marked)

pub mark-one : (marked : List ℕ) (n j : ℕ) → j < n → set (mark_words marked n) j 1 ≡ mark_words (marked ++ (j ∷ [])) n
mark-one marked n j h =
    set-table (λ x. one (member x marked)) (λ x. one (member x (marked ++ (j ∷ [])))) n j 1 h (ap one (member-new marked j))
    (λ x l ne. ap one (member_old marked j x ne))
