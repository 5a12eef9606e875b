-- The ends at one port: what taking the last one leaves there and elsewhere, and what pushing one more adds.
-- Rests on paper.Lines.
use Prim.Native.Nat.{ℕ, zero, suc, ◌≤◌, ◌<◌}
use native.Mathlib.Omega.{arith}
use mathlib.Core.Path.{◌≡◌, refl, sym, ap, ◌∙◌}
use mathlib.Core.Bool.{Bool, true, false, cond}
use mathlib.Core.List.{List, [], ◌∷◌, ◌++◌, map, Memᴰ}
use lib.ListN.{length, get_or, take}
use lib.Dec.{eqb}
use borrow.Author.Tests.{eq-eqb, ne_eqb, eqb-true, eqb-false}
use Rattle.lists.specs.Lists.{keep}
use Rattle.lists.proofs.Count.{one_eq, one_ne}
use Rattle.paper.specs.Lines.{End, Taking, last_pushed, without, take_from, take_all, push}
use Rattle.line_tables.specs.Frontier.{height, lines_at}

module _ (q : ℕ) (e : End) (ends : List End) where
  height-here : e.port ≡ q → height q (e ∷ ends) ≡ suc (height q ends)
  height-here h = omega (arith, one_eq q e.port (sym h))

  height_past : (e.port ≡ q → ⊥) → height q (e ∷ ends) ≡ height q ends
  height_past h = omega (arith, one_ne q e.port (λ r. h (sym r)))

  lines-here : e.port ≡ q → lines_at q (e ∷ ends) ≡ e.line ∷ lines_at q ends
  lines-here h =
      ap (λ (t : Bool). map (λ x. x.line) (cond t (e ∷ keep (λ x. eqb x.port q) ends) (keep (λ x. eqb x.port q) ends))) (eq-eqb e.port q h)

  lines_past : (e.port ≡ q → ⊥) → lines_at q (e ∷ ends) ≡ lines_at q ends
  lines_past h =
      ap (λ (t : Bool). map (λ x. x.line) (cond t (e ∷ keep (λ x. eqb x.port q) ends) (keep (λ x. eqb x.port q) ends))) (ne_eqb e.port q h)

  without-here : e.port ≡ q → without q (e ∷ ends) ≡ ends
  unfolding without
  without-here h = ap (λ (t : Bool). cond t ends (e ∷ without q ends)) (eq-eqb e.port q h)

  without_past : (e.port ≡ q → ⊥) → without q (e ∷ ends) ≡ e ∷ without q ends
  unfolding without
  without_past h = ap (λ (t : Bool). cond t ends (e ∷ without q ends)) (ne_eqb e.port q h)

  last-here : e.port ≡ q → last_pushed q (e ∷ ends) ≡ e ∷ []
  unfolding last_pushed
  last-here h =
      ap (λ (t : Bool). take 1 (cond t (e ∷ keep (λ x. eqb x.port q) ends) (keep (λ x. eqb x.port q) ends))) (eq-eqb e.port q h)

  last_past : (e.port ≡ q → ⊥) → last_pushed q (e ∷ ends) ≡ last_pushed q ends
  unfolding last_pushed
  last_past h =
      ap (λ (t : Bool). take 1 (cond t (e ∷ keep (λ x. eqb x.port q) ends) (keep (λ x. eqb x.port q) ends))) (ne_eqb e.port q h)

-- a port with an end gives the last pushed there; the others there stay, and so does every other port
pub record Popped (q : ℕ) (ends : List End) : Type 0 where
  pub end : End
  pub last : last_pushed q ends ≡ end ∷ []
  pub at_port : end.port ≡ q
  pub stood : Memᴰ end ends
  pub lower : height q ends ≡ suc (height q (without q ends))
  pub shorter : lines_at q ends ≡ end.line ∷ lines_at q (without q ends)
  pub as_high : (r : ℕ) → (q ≡ r → ⊥) → height r (without q ends) ≡ height r ends
  pub as_long : (r : ℕ) → (q ≡ r → ⊥) → lines_at r (without q ends) ≡ lines_at r ends

module _ (q : ℕ) (e : End) (ends : List End) where
  popped_here : e.port ≡ q → Popped q (e ∷ ends)
  popped_here h =
      record {
        end = e;
        last = last-here q e ends h;
        at_port = h;
        stood = Memᴰ.head refl;
        lower = height-here q e ends h ∙ ap (λ (es : List End). suc (height q es)) (sym (without-here q e ends h));
        shorter = lines-here q e ends h ∙ ap (λ (es : List End). e.line ∷ lines_at q es) (sym (without-here q e ends h));
        as_high = λ r apart. ap (height r) (without-here q e ends h) ∙ sym (height_past r e ends (λ s. apart (sym h ∙ s)));
        as_long = λ r apart. ap (lines_at r) (without-here q e ends h) ∙ sym (lines_past r e ends (λ s. apart (sym h ∙ s)));
      }

  popped_past : (e.port ≡ q → ⊥) → Popped q ends → Popped q (e ∷ ends)
  popped_past h p =
      record {
        end = p.end;
        last = last_past q e ends h ∙ p.last;
        at_port = p.at_port;
        stood = Memᴰ.tail p.stood;
        lower =
            height_past q e ends h ∙ p.lower
            ∙ ap suc (sym (height_past q e (without q ends) h) ∙ ap (height q) (sym (without_past q e ends h)));
        shorter =
            lines_past q e ends h ∙ p.shorter
            ∙ ap (λ (ls : List ℕ). p.end.line ∷ ls) (sym (lines_past q e (without q ends) h) ∙ ap (lines_at q) (sym (without_past q e ends h)));
        as_high = λ r apart. ap (height r) (without_past q e ends h) ∙ same-height r (p.as_high r apart);
        as_long = λ r apart. ap (lines_at r) (without_past q e ends h) ∙ same_lines r (p.as_long r apart);
      }
    where
      same-height : (r : ℕ) → height r (without q ends) ≡ height r ends → height r (e ∷ without q ends) ≡ height r (e ∷ ends)
      same-height r s = omega (arith, s)

      same_lines : (r : ℕ) → lines_at r (without q ends) ≡ lines_at r ends → lines_at r (e ∷ without q ends) ≡ lines_at r (e ∷ ends)
      same_lines r s = go (eqb e.port r) refl
        where
          go : (t : Bool) → eqb e.port r ≡ t → lines_at r (e ∷ without q ends) ≡ lines_at r (e ∷ ends)
          go true t =
              let h = eqb-true e.port r t in
              lines-here r e (without q ends) h ∙ ap (λ (ls : List ℕ). e.line ∷ ls) s ∙ sym (lines-here r e ends h)
          go false t =
              let h = eqb-false e.port r t in
              lines_past r e (without q ends) h ∙ s ∙ sym (lines_past r e ends h)

pub popped : (q : ℕ) (ends : List End) → 1 ≤ height q ends → Popped q ends
popped q [] h = absurd (omega arith)
popped q (e ∷ ends) h = go (eqb e.port q) refl (popped q ends)
  where
    go : (t : Bool) → eqb e.port q ≡ t → (1 ≤ height q ends → Popped q ends) → Popped q (e ∷ ends)
    go true t ih = popped_here q e ends (eqb-true e.port q t)
    go false t ih =
        let past = eqb-false e.port q t in
        popped_past q e ends past (ih (omega (arith, height_past q e ends past)))

-- one end more
module _ (e : End) (ends : List End) where
  pub higher : height e.port (e ∷ ends) ≡ suc (height e.port ends)
  higher = height-here e.port e ends refl

  pub longer : lines_at e.port (e ∷ ends) ≡ e.line ∷ lines_at e.port ends
  longer = lines-here e.port e ends refl

  pub elsewhere_high : (r : ℕ) → (e.port ≡ r → ⊥) → height r (e ∷ ends) ≡ height r ends
  elsewhere_high r h = height_past r e ends h

  pub elsewhere_long : (r : ℕ) → (e.port ≡ r → ⊥) → lines_at r (e ∷ ends) ≡ lines_at r ends
  elsewhere_long r h = lines_past r e ends h

-- ---- turn by turn

pub take-all-next : (ps : List ℕ) (p : ℕ) (t : Taking) → take_all (ps ++ (p ∷ [])) t ≡ take_from p (take_all ps t)
unfolding take_all
take-all-next [] p t = refl
take-all-next (r ∷ ps) p t = take-all-next ps p (take_from r t)

pub push-next : (position : ℕ) (ps ls : List ℕ) (ends : List End) (j : ℕ) → j < length ps → j < length ls
    → push position (take (suc j) ps) ls ends
    ≡ record { port = get_or ps j 0; line = get_or ls j 0; position = position } ∷ push position (take j ps) ls ends
unfolding push
push-next position [] ls ends j h g = absurd (omega arith)
push-next position (p ∷ ps) [] ends j h g = absurd (omega arith)
push-next position (p ∷ ps) (l ∷ ls) ends zero h g = refl
push-next position (p ∷ ps) (l ∷ ls) ends (suc j) h g =
    push-next position ps ls (record { port = p; line = l; position = position } ∷ ends) j (omega arith) (omega arith)
