-- Placing the next node keeps the invariant.
-- Rests on PlacingEnds (the ends), Taken (what the node takes) and Adjacent.
use Prim.Native.Nat.{ℕ, ◌+◌, ◌≤◌, ◌<◌}
use native.Mathlib.Decide.{ℕ_discrete, dec_lt}
use native.Mathlib.Omega.{arith}
use mathlib.Core.Path.{◌≡◌, refl, sym, ap, ◌∙◌, subst}
use mathlib.Core.Logic.{◌⊎◌, inl, inr}
use mathlib.Core.List.Memᴰ
use mathlib.Core.List.{List, [], ◌∷◌, ◌++◌, map, map-append, Memᴰ}
use lib.ListN.{length, length-append}
use lib.Dec.{eqb}
use Rattle.lists.specs.Lists.{upto, count, times, Rising}
use Rattle.lists.proofs.Upto.{count-append}
use Rattle.lists.proofs.Count.{one_ne}
use Rattle.paper.specs.Map.{L, link_from, link_to}
use Rattle.paper.specs.Lines.{Placed, Frontier, place}
use Rattle.paper.specs.Accepted.{right_after, links_between}
use Rattle.order_theory.specs.Sound.{Sound}
use Rattle.lists.specs.Weight.{total, weight}
use Rattle.lines_theory.specs.Lined.{on, nodes_on, every, taking, newcomer, grown, Standing, Listed, Lined, Next}
use Rattle.lists.proofs.Weight.{total-append, weight-append}
use Rattle.lists.proofs.Rising.{rising_more}
use Rattle.lines_theory.proofs.Pushing.{above-met}
use Rattle.lines_theory.proofs.Weighed.{in_length, out-length}
use Rattle.lines_theory.proofs.Taken.{taken_stood, old_length, fresh-length, fresh_among, lines-times, lines-known, lines-apart, lines-length, TakenAs, taken_or_new, level-few}
use Rattle.lines_theory.proofs.Adjacent.{on-here, on_away, on_more, adjacent-new, adjacent_old}
use Rattle.lines_theory.proofs.PlacingEnds.{lines_enough, balance-kept, once-kept, standing-kept}

-- placing is growing by one node
pub place-grows : (b : List ℕ) (v : ℕ) (f : Frontier) → place b v f ≡ grown b v f
unfolding place
place-grows b v f = refl

module _ {b us : List ℕ} {f : Frontier} {v : ℕ} (s : Sound b) (i : Lined b us f) (n : Next b us v) where
  -- ---- the nodes placed

  old_listed : (x : Placed) → Memᴰ x f.placed → Listed (grown b v f) x
  old_listed x m =
      let r = i.listed x m in
      record {
        known = λ l h. r.known l (omega arith);
        once = r.once;
        some = r.some;
        shallow = omega (arith, r.shallow, length-append f.placed (newcomer b v f ∷ []));
      }

  new-listed : Listed (grown b v f) (newcomer b v f)
  new-listed =
      record {
        known = lines-known s i n;
        once = λ l. omega (arith, lines-apart s i n l);
        some = omega (arith, (lines_enough s i n).some, lines-length s i n, old_length s i n, fresh-length s i n);
        shallow = omega (arith, level-few s i n, length-append f.placed (newcomer b v f ∷ []));
      }

  listed_kept : (x : Placed) → Memᴰ x (grown b v f).placed → Listed (grown b v f) x
  listed_kept x m = go (Memᴰ.append_cases f.placed m)
    where
      go : Memᴰ x f.placed ⊎ Memᴰ x (newcomer b v f ∷ []) → Listed (grown b v f) x
      go (inl old) = old_listed x old
      go (inr new) = subst (Listed (grown b v f)) (sym (Memᴰ.eq_of_singleton new)) new-listed

  used-kept : (l : ℕ) → l < (grown b v f).count → 1 ≤ length (on l (grown b v f).placed)
  used-kept l h = go (dec_lt l f.count)
    where
      go : Dec (l < f.count) → 1 ≤ length (on l (grown b v f).placed)
      go (yes low) = omega (arith, i.used l low, on_more l f.placed (newcomer b v f))
      go (no low) =
          let here = on-here l f.placed (newcomer b v f) (omega (arith, lines-times s i n l, fresh_among s i n l (omega arith) h)) in
          omega (arith, ap length here, length-append (on l f.placed) (newcomer b v f ∷ []))

  rises-kept : (l : ℕ) → Rising (map (λ x. x.position) (on l (grown b v f).placed))
  rises-kept l = go (dec_lt 0 (times l (newcomer b v f).lines))
    where
      -- behind the last node of a taken line, or on a line of its own
      behind : TakenAs s i n l ⊎ (on l f.placed ≡ []) → Rising (map (λ x. x.position) (on l f.placed ++ (newcomer b v f ∷ [])))
      behind (inl t) =
          subst (λ (ys : List Placed). Rising (map (λ x. x.position) (ys ++ (newcomer b v f ∷ [])))) (sym whole)
          (rising_more (λ x. x.position) st.earlier st.last (newcomer b v f)
          (subst (λ (ys : List Placed). Rising (map (λ x. x.position) ys)) whole (i.rises l))
          (omega (arith, st.height, above-met (taking b v f).taken t.there)))
        where
          st : Standing b f t.end
          st = taken_stood s i n t.end t.there

          whole : on l f.placed ≡ st.earlier ++ (st.last ∷ [])
          whole = ap (λ (k : ℕ). on k f.placed) t.line ∙ st.whole
      behind (inr none) = rw none tt

      go : Dec (0 < times l (newcomer b v f).lines) → Rising (map (λ x. x.position) (on l (grown b v f).placed))
      go (yes h) = rw (on-here l f.placed (newcomer b v f) h) (behind (taken_or_new s i n l h))
      go (no h) = rw (on_away l f.placed (newcomer b v f) (omega arith)) (i.rises l)

  adjacent-kept : (u w : ℕ) → 1 ≤ times w (us ++ (v ∷ []))
      → count (λ l. right_after u w (nodes_on l (grown b v f).placed)) (upto (grown b v f).count) ≡ links_between b u w
  adjacent-kept u w h = go (ℕ_discrete v w)
    where
      go : Dec (v ≡ w) → count (λ l. right_after u w (nodes_on l (grown b v f).placed)) (upto (grown b v f).count) ≡ links_between b u w
      go (yes e) =
          subst (λ (w : ℕ). count (λ l. right_after u w (nodes_on l (grown b v f).placed)) (upto (grown b v f).count) ≡ links_between b u w) e
          (adjacent-new s i n u)
      go (no ne) =
          adjacent_old s i n u w ne
          ∙ i.adjacent u w (omega (arith, count-append (eqb w) us (v ∷ []), one_ne w v (λ e. ne (sym e))))

  -- ---- how many

  entries-kept : total (λ x. length x.lines) (grown b v f).placed ≡ weight every (link_to b) (us ++ (v ∷ [])) (upto (L b)) + (grown b v f).count
  entries-kept =
      omega
      (arith, total-append (λ (x : Placed). length x.lines) f.placed (newcomer b v f ∷ []), lines-length s i n, in_length s v, weight-append every (link_to b) us (v ∷ []) (upto (L b)), i.entries)

  few-kept : (grown b v f).count ≤ length (us ++ (v ∷ [])) + weight every (link_from b) (us ++ (v ∷ [])) (upto (L b))
  few-kept =
      omega
      (arith, fresh-length s i n, (lines_enough s i n).few, out-length s v, weight-append every (link_from b) us (v ∷ []) (upto (L b)), length-append us (v ∷ []), i.few)

  pub grown_lined : Lined b (us ++ (v ∷ [])) (grown b v f)
  grown_lined =
      record {
        nodes = map-append (λ x. x.node) f.placed (newcomer b v f ∷ []) ∙ ap (λ (l : List ℕ). l ++ (v ∷ [])) i.nodes;
        balance = balance-kept s i n;
        once = once-kept s i n;
        standing = standing-kept s i n;
        listed = listed_kept;
        used = used-kept;
        rises = rises-kept;
        adjacent = adjacent-kept;
        entries = entries-kept;
        few = few-kept;
      }
