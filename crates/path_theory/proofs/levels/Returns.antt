-- A way that returns, by one link more from its last step outside the list: just what 02 calls a path back; and the one that is computed returns.
-- Rests on Ways and Bounds.
use Prim.Native.Nat.{ℕ, suc, ◌+◌, ◌≤◌}
use native.Mathlib.Omega.{arith}
use mathlib.Core.Path.{◌≡◌, refl, sym, ap, ◌∙◌, subst}
use mathlib.Core.Logic.{◌⊎◌, inl, inr}
use mathlib.Core.List.{List, [], ◌∷◌, ◌++◌, append_assoc}
use lib.ListN.{length, length-append}
use Rattle.lists.specs.Lists.{In, least}
use Rattle.paper.specs.Plain.{Linked}
use Rattle.paper.specs.Path.{Chain, alone, onward, BackPath, ends_at, step_before, path_to, path, back_path}
use Rattle.convexity_theory.proofs.Memberships.{in_either}
use Rattle.path_theory.proofs.levels.Levels.{step-before}
use Rattle.path_theory.proofs.levels.Bounds.{closes_at, Written, written, path-length}
use Rattle.path_theory.proofs.levels.Ways.{Way, begin, further, way_ends, path_way}

-- a way of some links, and one link more into the list
pub record Return (b list steps : List ℕ) : Type 0 where
  pub away : List ℕ
  pub last : ℕ
  pub end : ℕ
  pub whole : steps ≡ away ++ (end ∷ [])
  pub way : Way b list away last
  pub far : 2 ≤ length away
  pub linked : Linked b last end
  pub listed : In end list

-- ---- chains

pub chain_first : {b steps : List ℕ} {u v : ℕ} → Chain b (u ∷ (v ∷ steps)) → Linked b u v
chain_first (onward r c) = r

pub chain_rest : {b steps : List ℕ} {u v : ℕ} → Chain b (u ∷ (v ∷ steps)) → Chain b (v ∷ steps)
chain_rest (onward r c) = c

chain_snoc : {b : List ℕ} (front : List ℕ) {u v : ℕ} → Chain b (front ++ (u ∷ [])) → Linked b u v → Chain b (front ++ (u ∷ []) ++ (v ∷ []))
chain_snoc [] c r = onward r alone
chain_snoc (x ∷ []) c r = onward (chain_first c) (onward r alone)
chain_snoc (x ∷ (y ∷ front)) c r = onward (chain_first c) (chain_snoc (y ∷ front) (chain_rest c) r)

-- ---- a way's parts: its listed start, and the steps outside

record Parts (b list vs : List ℕ) : Type 0 where
  start : ℕ
  later : List ℕ
  whole : vs ≡ start ∷ later
  starts : In start list
  outside : (v : ℕ) → In v later → In v list → ⊥
  linked : Chain b vs

parts : {b list vs : List ℕ} {v : ℕ} → Way b list vs v → Parts b list vs
parts (begin {v = v} i) =
    record { start = v; later = []; whole = refl; starts = i; outside = λ u j. absurd j; linked = alone }
parts {b} {list} (further {vs} {u} {v} w r out) = grown (parts w) (way_ends w)
  where
    grown : Parts b list vs → (front : List ℕ) × (vs ≡ front ++ (u ∷ [])) → Parts b list (vs ++ (v ∷ []))
    grown p e =
        record {
          start = p.start;
          later = p.later ++ (v ∷ []);
          whole = ap (λ (xs : List ℕ). xs ++ (v ∷ [])) p.whole;
          starts = p.starts;
          outside = λ x i. either x (in_either x p.later (v ∷ []) i);
          linked =
              subst (λ (xs : List ℕ). Chain b (xs ++ (v ∷ []))) (sym e.1)
              (chain_snoc e.0 (subst (Chain b) e.1 p.linked) r);
        }
      where
        either : (x : ℕ) → In x p.later ⊎ In x (v ∷ []) → In x list → ⊥
        either x (inl i) = p.outside x i
        either x (inr (inl e)) = λ i. out (subst (λ (y : ℕ). In y list) e i)
        either x (inr (inr none)) = absurd none

-- ---- what returns is a path back

pub return_path : {b list steps : List ℕ} → Return b list steps → BackPath b list steps
return_path {b} {list} {steps} r = from_parts (parts r.way) (way_ends r.way)
  where
    from_parts : Parts b list r.away → (front : List ℕ) × (r.away ≡ front ++ (r.last ∷ [])) → BackPath b list steps
    from_parts p e =
        record {
          start = p.start;
          between = p.later;
          end = r.end;
          whole = r.whole ∙ ap (λ (xs : List ℕ). xs ++ (r.end ∷ [])) p.whole;
          starts = p.starts;
          ends = r.listed;
          some = omega (arith, r.far, ap length p.whole);
          outside = p.outside;
          linked =
              subst (Chain b) (sym (r.whole ∙ ap (λ (xs : List ℕ). xs ++ (r.end ∷ [])) e.1))
              (chain_snoc e.0 (subst (Chain b) e.1 p.linked) r.linked);
        }

-- ---- and a path back returns

-- a way goes on over the steps between
goes_on : {b list vs : List ℕ} {u : ℕ} → Way b list vs u → (between : List ℕ) (end : ℕ) → Chain b (u ∷ (between ++ (end ∷ [])))
    → ((v : ℕ) → In v between → In v list → ⊥) → In end list → 2 ≤ length vs + length between → Return b list (vs ++ (between ++ (end ∷ [])))
goes_on {vs = vs} {u} w [] end c outside listed far =
    record {
      away = vs;
      last = u;
      end = end;
      whole = refl;
      way = w;
      far = omega arith;
      linked = chain_first c;
      listed = listed;
    }
goes_on {b} {list} {vs} w (x ∷ between) end c outside listed far =
    subst (Return b list) (append_assoc vs (x ∷ []) (between ++ (end ∷ [])))
    (goes_on (further w (chain_first c) (outside x (inl refl))) between end (chain_rest c) (λ v i. outside v (inr i)) listed
    (omega (arith, length-append vs (x ∷ []))))

pub path_return : {b list steps : List ℕ} → BackPath b list steps → Return b list steps
path_return {b} {list} {steps} p =
    subst (Return b list) (sym p.whole)
    (goes_on (begin p.starts) p.between p.end (subst (Chain b) p.whole p.linked) p.outside p.ends (omega (arith, p.some)))

-- ---- 1: what is computed returns

module _ (b list : List ℕ) where
  pub written_return : {vs : List ℕ} → back_path b list ≡ path vs → Return b list vs
  unfolding path_to
  written_return {vs} e = go (written b list e)
    where
      go : Written b list vs → Return b list vs
      go w =
          let d = suc w.distance in
          let end = (closes_at b list w.closed).end in
          let before = step-before b list d (least (ends_at b list d)) end.fed in
          record {
            away = path_to b list d (step_before b list d (least (ends_at b list d)));
            last = step_before b list d (least (ends_at b list d));
            end = least (ends_at b list d);
            whole = w.whole;
            way = path_way b list d (step_before b list d (least (ends_at b list d))) before.there;
            far = omega (arith, path-length b list d (step_before b list d (least (ends_at b list d))));
            linked = before.linked;
            listed = end.listed;
          }

  pub back-path : {vs : List ℕ} → back_path b list ≡ path vs → BackPath b list vs
  back-path e = return_path (written_return e)
