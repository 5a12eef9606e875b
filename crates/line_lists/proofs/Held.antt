-- What pushes leave: each line's nodes stand from its start on, in the order in which they were pushed, and its cursor behind them.
-- Rests on Pushes and lists.Sections.
use Prim.Native.Nat.{ℕ, suc, ◌+◌, ◌≤◌, ◌<◌}
use native.Mathlib.Decide.{ℕ_discrete, dec_lt}
use native.Mathlib.Omega.{arith}
use mathlib.Core.Path.{◌≡◌, refl, sym, ap, ◌∙◌, subst}
use mathlib.Core.Logic.{inl, inr, ◌≢◌}
use mathlib.Core.List.{List, [], ◌∷◌, ◌++◌, flat_map, append_assoc, append-nil, Memᴰ}
use lib.ListN.{length, get_or, set, replicate, length-set, length-append, length-replicate, replicate-append-replicate}
use lib.Seq.{get_or-set_other}
use lib.Dec.{eqb}
use Rattle.lists.specs.Lists.{one, times}
use Rattle.lists.specs.Bounds.{Below}
use Rattle.lists.specs.Weight.{total}
use Rattle.lists.proofs.Sections.{Apart, Disjoint, part, part-sets-out, part-set-last}
use Rattle.lists.proofs.Count.{one_eq, one_ne}
use Rattle.lists.proofs.Places.{place-known}
use Rattle.line_lists.specs.Pushing.{pushed, row_pushed, all_pushed}
use Rattle.line_lists.proofs.Pushes.{length-pushed, pushed_cursor}

-- line l of k has the nodes `on l`, from start l on; what is neither a cursor nor within the lines' room stands as in a₀
pub record Held (a₀ a : List ℕ) (cursors k nodes : ℕ) (start : ℕ → ℕ) (on : ℕ → List ℕ) : Type 0 where
  pub long : length a ≡ length a₀
  pub cursor : (l : ℕ) → l < k → get_or a (cursors + l) 0 ≡ start l + length (on l)
  pub listed : (l : ℕ) → l < k → part a (nodes + start l) (length (on l)) ≡ on l
  pub rest : (j : ℕ) → Apart j cursors k → Apart j nodes (start k) → get_or a j 0 ≡ get_or a₀ j 0

-- each line has room up to the next one's start
abbrev Fitting : ℕ → (ℕ → ℕ) → (ℕ → ℕ) → Type 0
Fitting k start many = (l : ℕ) → l < k → start l + many l ≤ start (suc l)

-- the same nodes, said in another way
held_same : {a₀ a : List ℕ} {cursors k nodes : ℕ} {start : ℕ → ℕ} {on : ℕ → List ℕ} (on' : ℕ → List ℕ) → Held a₀ a cursors k nodes start on → ((l : ℕ) → on l ≡ on' l)
    → Held a₀ a cursors k nodes start on'
held_same {a = a} {nodes = nodes} {start = start} on' h same =
    record {
      long = h.long;
      cursor = λ l lt. h.cursor l lt ∙ ap (λ (x : List ℕ). start l + length x) (same l);
      listed = λ l lt. subst (λ (x : List ℕ). part a (nodes + start l) (length x) ≡ x) (same l) (h.listed l lt);
      rest = h.rest;
    }

-- ---- one push

-- the lines' nodes, with v pushed on line l
more : (ℕ → List ℕ) → ℕ → ℕ → ℕ → List ℕ
more on v l r = on r ++ replicate (one (eqb r l)) v

more_here : (on : ℕ → List ℕ) (v l : ℕ) → more on v l l ≡ on l ++ (v ∷ [])
unfolding more
more_here on v l = ap (λ (n : ℕ). on l ++ replicate n v) (one_eq l l refl)

more_there : (on : ℕ → List ℕ) (v l r : ℕ) → r ≢ l → more on v l r ≡ on r
unfolding more
more_there on v l r ne = ap (λ (n : ℕ). on r ++ replicate n v) (one_ne r l ne) ∙ append-nil (on r)

length_more : (on : ℕ → List ℕ) (v l r : ℕ) → length (more on v l r) ≡ length (on r) + one (eqb r l)
unfolding more
length_more on v l r =
    length-append (on r) (replicate (one (eqb r l)) v) ∙ ap (λ (n : ℕ). length (on r) + n) (length-replicate (one (eqb r l)) v)

more_is : (on : ℕ → List ℕ) (v l r : ℕ) (rest : List ℕ) → more on v l r ++ rest ≡ on r ++ (replicate (one (eqb r l)) v ++ rest)
unfolding more
more_is on v l r rest = append_assoc (on r) (replicate (one (eqb r l)) v) rest

module _ {a₀ : List ℕ} {cursors k nodes : ℕ} {start : ℕ → ℕ} (rises : (q r : ℕ) → q ≤ r → start q ≤ start r)
    (after : cursors + k ≤ nodes) (room : nodes + start k ≤ length a₀) where
  module _ {a : List ℕ} {on : ℕ → List ℕ} (h : Held a₀ a cursors k nodes start on) (v l : ℕ) (l<k : l < k)
      (fits : Fitting k start (λ r. length (more on v l r))) where
    -- the node goes behind those that the line has, before the next line's start
    spot : ℕ
    spot = get_or a (cursors + l) 0

    spot_free : spot + 1 ≤ start (suc l)
    unfolding spot
    spot_free = omega (arith, h.cursor l l<k, fits l l<k, length_more on v l l, one_eq l l refl)

    spot_room : spot + 1 ≤ start k
    spot_room = omega (arith, spot_free, rises (suc l) k l<k)

    stored : List ℕ
    stored = set a (nodes + spot) v

    -- the cursor stands before the lines
    cursor_aside : (r n : ℕ) → r < k → start r + n ≤ start (suc r) → part (pushed a cursors nodes v l) (nodes + start r) n ≡ part stored (nodes + start r) n
    unfolding pushed stored spot
    cursor_aside r n r<k few =
        part-sets-out stored (cursors + l) ((spot + 1) ∷ []) (nodes + start r) n 0 (inr (omega arith))
        (rw length-set (omega (arith, h.long, rises (suc r) k r<k)))

    listed_here : part (pushed a cursors nodes v l) (nodes + start l) (length (more on v l l)) ≡ more on v l l
    unfolding stored spot
    listed_here =
        cursor_aside l (length (more on v l l)) l<k (fits l l<k)
        ∙ ap (part stored (nodes + start l)) size
        ∙ ap (λ (i : ℕ). part (set a i v) (nodes + start l) (suc (length (on l)))) place
        ∙ part-set-last a (nodes + start l) (length (on l)) v (omega (arith, h.long, h.cursor l l<k, spot_room))
        ∙ ap (λ (x : List ℕ). x ++ (v ∷ [])) (h.listed l l<k)
        ∙ sym (more_here on v l)
      where
        size : length (more on v l l) ≡ suc (length (on l))
        size = omega (arith, length_more on v l l, one_eq l l refl)

        place : nodes + spot ≡ nodes + start l + length (on l)
        place = omega (arith, h.cursor l l<k)

    listed-there : (r : ℕ) → r < k → r ≢ l → part (pushed a cursors nodes v l) (nodes + start r) (length (more on v l r)) ≡ more on v l r
    unfolding stored spot
    listed-there r r<k ne =
        cursor_aside r (length (more on v l r)) r<k (fits r r<k)
        ∙ ap (λ (x : List ℕ). part stored (nodes + start r) (length x)) (more_there on v l r ne)
        ∙ part-sets-out a (nodes + spot) (v ∷ []) (nodes + start r) (length (on r)) 0 (side (dec_lt r l))
        (omega (arith, h.long, few, rises (suc r) k r<k))
        ∙ h.listed r r<k
        ∙ sym (more_there on v l r ne)
      where
        few : start r + length (on r) ≤ start (suc r)
        few = omega (arith, fits r r<k, length_more on v l r)

        side : Dec (r < l) → Disjoint (nodes + start r) (length (on r)) (nodes + spot) 1
        side (yes lt) = inl (omega (arith, few, rises (suc r) l lt, h.cursor l l<k))
        side (no ge) = inr (omega (arith, spot_free, rises (suc l) r (omega arith)))

    rest-stands : (j : ℕ) → Apart j cursors k → Apart j nodes (start k) → get_or (pushed a cursors nodes v l) j 0 ≡ get_or a₀ j 0
    unfolding pushed stored spot
    rest-stands j far away =
        get_or-set_other stored (cursors + l) j (spot + 1) 0 (no_cursor far) ∙ get_or-set_other a (nodes + spot) j v 0 (no_node away)
        ∙ h.rest j far away
      where
        no_cursor : Apart j cursors k → j ≢ cursors + l
        no_cursor (inl x) e = omega arith
        no_cursor (inr x) e = omega arith

        no_node : Apart j nodes (start k) → j ≢ nodes + spot
        no_node (inl x) e = omega arith
        no_node (inr x) e = omega (arith, spot_room)

    held-push : Held a₀ (pushed a cursors nodes v l) cursors k nodes start (more on v l)
    held-push =
        record {
          long = length-pushed cursors nodes a v l ∙ h.long;
          cursor = λ r r<k.
              omega (arith, pushed_cursor cursors nodes a v l r (omega arith) (omega (arith, h.long)), h.cursor r r<k, length_more on v l r);
          listed = λ r r<k. go r r<k (ℕ_discrete r l);
          rest = rest-stands;
        }
      where
        go : (r : ℕ) → r < k → Dec (r ≡ l) → part (pushed a cursors nodes v l) (nodes + start r) (length (more on v l r)) ≡ more on v l r
        go r r<k (yes e) = subst (λ (q : ℕ). part (pushed a cursors nodes v l) (nodes + start q) (length (more on v l q)) ≡ more on v l q) (sym e) listed_here
        go r r<k (no ne) = listed-there r r<k ne

  -- ---- a row of pushes, and the rows of some nodes

  held-row : {a : List ℕ} {on : ℕ → List ℕ} → Held a₀ a cursors k nodes start on → (v : ℕ) (ls : List ℕ) → Below k ls
      → Fitting k start (λ l. length (on l) + times l ls)
      → Held a₀ (row_pushed a cursors nodes v ls) cursors k nodes start (λ l. on l ++ replicate (times l ls) v)
  unfolding row_pushed
  held-row {on = on} h v [] below fits = held_same (λ l. on l ++ []) h (λ l. sym (append-nil (on l)))
  held-row {a = a} {on = on} h v (x ∷ ls) below fits =
      held_same (λ l. on l ++ replicate (one (eqb l x) + times l ls) v)
      (held-row {a = pushed a cursors nodes v x} {on = more on v x} (held-push h v x x<k (λ l lt. omega (arith, length_more on v x l, fits l lt))) v ls (λ l lt. omega (arith, below l lt))
      (λ l lt. omega (arith, length_more on v x l, fits l lt)))
      joined
    where
      x<k : x < k
      x<k = place-known k (x ∷ ls) 0 below (omega arith)

      joined : (l : ℕ) → more on v x l ++ replicate (times l ls) v ≡ on l ++ replicate (one (eqb l x) + times l ls) v
      joined l =
          more_is on v x l (replicate (times l ls) v)
          ∙ ap (λ (y : List ℕ). on l ++ y) (replicate-append-replicate (one (eqb l x)) (times l ls) v)

  pub held_all : {a : List ℕ} {on : ℕ → List ℕ} → Held a₀ a cursors k nodes start on → (row : ℕ → List ℕ) (us : List ℕ)
      → ((u : ℕ) → Memᴰ u us → Below k (row u)) → Fitting k start (λ l. length (on l) + total (λ u. times l (row u)) us)
      → Held a₀ (all_pushed a cursors nodes row us) cursors k nodes start (λ l. on l ++ flat_map (λ u. replicate (times l (row u)) u) us)
  unfolding all_pushed flat_map
  held_all {on = on} h row [] below fits = held_same (λ l. on l ++ []) h (λ l. sym (append-nil (on l)))
  held_all {a = a} {on = on} h row (u ∷ us) below fits =
      held_same (λ l. on l ++ (replicate (times l (row u)) u ++ flat_map (λ w. replicate (times l (row w)) w) us))
      (held_all {a = row_pushed a cursors nodes u (row u)} (held-row h u (row u) (below u (Memᴰ.head refl)) (λ l lt. omega (arith, fits l lt))) row us
      (λ w m. below w (Memᴰ.tail m)) (λ l lt. omega (arith, long l, fits l lt)))
      (λ l. append_assoc (on l) (replicate (times l (row u)) u) (flat_map (λ w. replicate (times l (row w)) w) us))
    where
      long : (l : ℕ) → length (on l ++ replicate (times l (row u)) u) ≡ length (on l) + times l (row u)
      long l =
          length-append (on l) (replicate (times l (row u)) u) ∙ ap (λ (n : ℕ). length (on l) + n) (length-replicate (times l (row u)) u)
