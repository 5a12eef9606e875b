-- Taking line ends: nothing is lost, and where enough ends stand each port asked gives one.
-- Rests on the definitions of taking (paper.Lines) and on lists.Members.
use Prim.Native.Nat.{ℕ, ◌+◌, ◌≤◌}
use native.Mathlib.Omega.{arith}
use mathlib.Core.Path.{◌≡◌, refl, sym, ap, ◌∙◌}
use mathlib.Core.Logic.{◌⊎◌, inl, inr}
use mathlib.Core.Bool.{Bool, true, false, cond}
use mathlib.Core.List.Memᴰ
use mathlib.Core.List.{List, [], ◌∷◌, ◌++◌, map, append-nil, append_assoc, map-append, Memᴰ}
use lib.ListN.{take}
use lib.Dec.{eqb}
use borrow.Author.Tests.{eqb-true}
use Rattle.lists.specs.Lists.{one, keep, count, times}
use Rattle.lists.proofs.Upto.{count-append}
use Rattle.lists.proofs.Count.{one_eq, eqb_sym, count_map}
use Rattle.paper.specs.Lines.{End, Taking, last_pushed, without, take_from, take_all}

-- ---- one end

module _ (p : ℕ) where
  last_conserved : (f : End → Bool) (ends : List End) → count f (last_pushed p ends) + count f (without p ends) ≡ count f ends
  unfolding last_pushed without
  last_conserved f [] = refl
  last_conserved f (e ∷ ends) = go (eqb e.port p) (last_conserved f ends)
    where
      go : (t : Bool) → count f (take 1 (keep (λ x. eqb x.port p) ends)) + count f (without p ends) ≡ count f ends
          → count f (take 1 (cond t (e ∷ keep (λ x. eqb x.port p) ends) (keep (λ x. eqb x.port p) ends)))
          + count f (cond t ends (e ∷ without p ends))
          ≡ count f (e ∷ ends)
      go true ih = omega arith
      go false ih = omega arith

  -- a port where an end stands gives one
  last-port : (ends : List End) → 1 ≤ times p (map (λ e. e.port) ends) → map (λ e. e.port) (last_pushed p ends) ≡ p ∷ []
  unfolding last_pushed
  last-port [] h = absurd (omega arith)
  last-port (e ∷ ends) h = go (eqb e.port p) refl (last-port ends)
    where
      go : (t : Bool) → eqb e.port p ≡ t
          → (1 ≤ times p (map (λ x. x.port) ends) → map (λ x. x.port) (take 1 (keep (λ x. eqb x.port p) ends)) ≡ p ∷ [])
          → map (λ x. x.port) (take 1 (cond t (e ∷ keep (λ x. eqb x.port p) ends) (keep (λ x. eqb x.port p) ends))) ≡ p ∷ []
      go true q ih = ap (λ (n : ℕ). n ∷ []) (eqb-true e.port p q)
      go false q ih = ih (omega (arith, ap one q, ap one (eqb_sym p e.port)))

  last-there : {e : End} (ends : List End) → Memᴰ e (last_pushed p ends) → Memᴰ e ends
  unfolding last_pushed
  last-there [] m = m
  last-there {e} (x ∷ ends) m = go (eqb x.port p) m (last-there ends)
    where
      go : (t : Bool) → Memᴰ e (take 1 (cond t (x ∷ keep (λ y. eqb y.port p) ends) (keep (λ y. eqb y.port p) ends)))
          → (Memᴰ e (take 1 (keep (λ y. eqb y.port p) ends)) → Memᴰ e ends) → Memᴰ e (x ∷ ends)
      go true m ih = here (Memᴰ.cases_cons m)
        where
          here : (e ≡ x) ⊎ Memᴰ e [] → Memᴰ e (x ∷ ends)
          here (inl q) = Memᴰ.head q
          here (inr n) = absurd (Memᴰ.not-nil n)
      go false m ih = Memᴰ.tail (ih m)

  without-there : {e : End} (ends : List End) → Memᴰ e (without p ends) → Memᴰ e ends
  unfolding without
  without-there [] m = m
  without-there {e} (x ∷ ends) m = go (eqb x.port p) m (without-there ends)
    where
      go : (t : Bool) → Memᴰ e (cond t ends (x ∷ without p ends)) → (Memᴰ e (without p ends) → Memᴰ e ends)
          → Memᴰ e (x ∷ ends)
      go true m ih = Memᴰ.tail m
      go false m ih = there (Memᴰ.cases_cons m)
        where
          there : (e ≡ x) ⊎ Memᴰ e (without p ends) → Memᴰ e (x ∷ ends)
          there (inl q) = Memᴰ.head q
          there (inr n) = Memᴰ.tail (ih n)

-- ---- an end from each of some ports

-- what is taken and what is left is what stood
pub taken_conserved : (f : End → Bool) (ps : List ℕ) (t : Taking)
    → count f (take_all ps t).taken + count f (take_all ps t).ends ≡ count f t.taken + count f t.ends
unfolding take_all take_from
taken_conserved f [] t = refl
taken_conserved f (p ∷ ps) t =
    omega
    (arith, taken_conserved f ps (take_from p t), count-append f t.taken (last_pushed p t.ends), last_conserved p f t.ends)

-- .. by any number of an end
pub taken-times : (g : End → ℕ) (n : ℕ) (ps : List ℕ) (t : Taking)
    → times n (map g (take_all ps t).taken) + times n (map g (take_all ps t).ends) ≡ times n (map g t.taken) + times n (map g t.ends)
taken-times g n ps t =
    omega
    (arith, taken_conserved (λ e. eqb n (g e)) ps t, same (take_all ps t).taken, same (take_all ps t).ends, same t.taken, same t.ends)
  where
    same : (es : List End) → times n (map g es) ≡ count (λ e. eqb n (g e)) es
    same es = count_map (eqb n) g es

-- where enough ends stand, every port asked gives one, in turn
pub taken-ports : (ps : List ℕ) (t : Taking) → ((p : ℕ) → times p ps ≤ times p (map (λ e. e.port) t.ends))
    → map (λ e. e.port) (take_all ps t).taken ≡ map (λ e. e.port) t.taken ++ ps
unfolding take_all take_from
taken-ports [] t h = sym (append-nil (map (λ e. e.port) t.taken))
taken-ports (p ∷ ps) t h =
    taken-ports ps (take_from p t) left
    ∙ ap (λ (l : List ℕ). l ++ ps) (map-append (λ e. e.port) t.taken (last_pushed p t.ends))
    ∙ ap (λ (l : List ℕ). map (λ e. e.port) t.taken ++ l ++ ps) one-taken
    ∙ append_assoc (map (λ e. e.port) t.taken) (p ∷ []) ps
  where
    one-taken : map (λ e. e.port) (last_pushed p t.ends) ≡ p ∷ []
    one-taken = last-port p t.ends (omega (arith, h p, one_eq p p refl))

    left : (q : ℕ) → times q ps ≤ times q (map (λ e. e.port) (without p t.ends))
    left q =
        omega
        (arith, h q, last_conserved p (λ e. eqb q e.port) t.ends, same (last_pushed p t.ends), same (without p t.ends), same t.ends, ap (times q) one-taken)
      where
        same : (es : List End) → times q (map (λ e. e.port) es) ≡ count (λ e. eqb q e.port) es
        same es = count_map (eqb q) (λ e. e.port) es

pub taken-there : {e : End} (ps : List ℕ) (t : Taking) → Memᴰ e (take_all ps t).taken → Memᴰ e t.taken ⊎ Memᴰ e t.ends
unfolding take_all take_from
taken-there [] t m = inl m
taken-there {e} (p ∷ ps) t m = go (taken-there ps (take_from p t) m)
  where
    before : Memᴰ e t.taken ⊎ Memᴰ e (last_pushed p t.ends) → Memᴰ e t.taken ⊎ Memᴰ e t.ends
    before (inl n) = inl n
    before (inr n) = inr (last-there p t.ends n)

    go : Memᴰ e (t.taken ++ last_pushed p t.ends) ⊎ Memᴰ e (without p t.ends)
        → Memᴰ e t.taken ⊎ Memᴰ e t.ends
    go (inl n) = before (Memᴰ.append_cases t.taken n)
    go (inr n) = inr (without-there p t.ends n)

pub left_there : {e : End} (ps : List ℕ) (t : Taking) → Memᴰ e (take_all ps t).ends → Memᴰ e t.ends
unfolding take_all take_from
left_there [] t m = m
left_there (p ∷ ps) t m = without-there p t.ends (left_there ps (take_from p t) m)
