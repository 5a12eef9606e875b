-- 02's sentences leave one path: two that are `ThePath` are equal, so what is computed is `ThePath` and nothing else is.
-- Rests on Shortest.
use Prim.Native.Nat.{ℕ, suc, ◌+◌, ◌-◌, ◌<◌}
use native.Mathlib.Decide.{dec_lt}
use native.Mathlib.Omega.{arith}
use mathlib.Core.Path.{◌≡◌, refl, sym, ap, ◌∙◌}
use mathlib.Core.Logic.{◌⊎◌, inl, inr, ◌↔◌}
use mathlib.Core.List.{List, ◌∷◌, ◌++◌}
use lib.ListN.{length, get_or, length-append}
use lib.Seq.{get_or_at, get_or-append-add}
use Rattle.paper.specs.Path.{Precedes, ThePath, Path, path, no_path, back_path}
use Rattle.order_theory.specs.Sound.{Sound}
use Rattle.path_theory.proofs.levels.Shortest.{path-found, the_path}

-- the place where two of one length differ for the last time
record Differ (steps others : List ℕ) : Type 0 where
  place : ℕ
  smaller : get_or steps place 0 < get_or others place 0
  after : (i : ℕ) → place < i → get_or steps i 0 ≡ get_or others i 0

get_or-behind : (lead : List ℕ) (x : ℕ) (shared : List ℕ) (i : ℕ) → length lead < i → get_or (lead ++ (x ∷ shared)) i 0 ≡ get_or shared (i - suc (length lead)) 0
get_or-behind lead x shared i h =
    ap (λ (j : ℕ). get_or (lead ++ (x ∷ shared)) j 0) far ∙ get_or-append-add lead (x ∷ shared) (suc (i - suc (length lead))) 0
  where
    far : i ≡ length lead + suc (i - suc (length lead))
    far = omega arith

differ : {steps others : List ℕ} → Precedes steps others → length others ≡ length steps → Differ steps others
differ {steps} {others} p q =
    record {
      place = length p.lead;
      smaller =
          omega (
            arith,
            p.smaller,
            ap (λ (xs : List ℕ). get_or xs (length p.lead) 0) p.whole,
            ap (λ (xs : List ℕ). get_or xs (length p.lead) 0) p.other_whole,
            get_or_at p.lead p.step p.shared 0 (length p.lead) refl,
            get_or_at p.other_lead p.other_step p.shared 0 (length p.lead) same,
          );
      after = λ i h.
          ap (λ (xs : List ℕ). get_or xs i 0) p.whole ∙ get_or-behind p.lead p.step p.shared i h
          ∙ ap (λ (n : ℕ). get_or p.shared (i - suc n) 0) (sym same)
          ∙ sym (get_or-behind p.other_lead p.other_step p.shared i (omega (arith, same)))
          ∙ sym (ap (λ (xs : List ℕ). get_or xs i 0) p.other_whole);
    }
  where
    same : length p.other_lead ≡ length p.lead
    same =
        omega (
          arith,
          ap length p.whole,
          ap length p.other_whole,
          length-append p.lead (p.step ∷ p.shared),
          length-append p.other_lead (p.other_step ∷ p.shared),
        )

-- neither comes before the other and behind it
not_both : {steps others : List ℕ} → Differ steps others → Differ others steps → ⊥
not_both {steps} {others} p q = go (dec_lt p.place q.place) (dec_lt q.place p.place)
  where
    go : Dec (p.place < q.place) → Dec (q.place < p.place) → ⊥
    go (yes l) d = omega (arith, p.after q.place l, q.smaller)
    go (no l) (yes h) = omega (arith, q.after p.place h, p.smaller)
    go (no l) (no h) =
        let same : p.place ≡ q.place = omega arith in
        omega (arith, p.smaller, q.smaller, ap (λ (i : ℕ). get_or steps i 0) same, ap (λ (i : ℕ). get_or others i 0) same)

pub the_path-once : {b list steps others : List ℕ} → ThePath b list steps → ThePath b list others → steps ≡ others
the_path-once {steps = steps} {others} p q = go (p.first others q.path long) (q.first steps p.path (sym long))
  where
    long : length others ≡ length steps
    long = omega (arith, p.shortest others q.path, q.shortest steps p.path)

    go : (others ≡ steps) ⊎ Precedes steps others → (steps ≡ others) ⊎ Precedes others steps → steps ≡ others
    go (inl e) d = sym e
    go (inr r) (inl e) = e
    go (inr r) (inr t) = absurd (not_both (differ r long) (differ t (sym long)))

module _ {b : List ℕ} (s : Sound b) (list : List ℕ) where
  pub exactly_the_path : (vs : List ℕ) → (back_path b list ≡ path vs) ↔ ThePath b list vs
  exactly_the_path vs = (the_path s list, λ p. go (back_path b list) refl p)
    where
      go : (found : Path) → back_path b list ≡ found → ThePath b list vs → back_path b list ≡ path vs
      go (path ws) e p = e ∙ ap path (the_path-once (the_path s list e) p)
      go no_path e p = absurd (path-found s list p.path e)
