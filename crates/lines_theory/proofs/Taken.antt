-- What the next node takes: one line from each linked output port, each a line that stands, none twice; and its list of lines.
-- Rests on Taking, Pushing and Weighed; the invariant is Lined.
use Prim.Native.Nat.{ℕ, suc, ◌+◌, ◌≤◌, ◌<◌}
use native.Mathlib.Decide.{dec_lt}
use native.Mathlib.Omega.{arith}
use mathlib.Core.Path.{◌≡◌, refl, sym, ap, ◌∙◌}
use mathlib.Core.Logic.{◌⊎◌, inl, inr}
use mathlib.Core.Bool.{Bool}
use mathlib.Core.List.Memᴰ
use mathlib.Core.List.{List, [], ◌∷◌, ◌++◌, map, Memᴰ}
use lib.ListN.{length, get_or, take, length-append, length-map}
use lib.Dec.{eqb}
use Rattle.lists.specs.Lists.{upto, times}
use Rattle.lists.specs.Bounds.{Below}
use Rattle.lists.proofs.Upto.{count-append, length_from}
use Rattle.lists.proofs.Count.{one_eq, count_map, times-before, times-after, times_among, times-take, count-take-suc}
use Rattle.paper.specs.Map.{L, link_from, link_to, source_port, in_links}
use Rattle.paper.specs.Lines.{End, Frontier, Taking, take_all}
use Rattle.order_theory.specs.Sound.{Sound}
use Rattle.lines_theory.specs.Lined.{on, sources, taking, old_lines, gain, fresh, level, newcomer, Standing, Lined, Next}
use Rattle.lists.proofs.Weight.{weight-append, weight_le}
use Rattle.lists.proofs.Members.{member_for, below_members, keep_nothing, member_no}
use Rattle.lines_theory.proofs.Taking.{taken-times, taken-ports, taken-there, left_there}
use Rattle.lines_theory.proofs.Pushing.{above-few}
use Rattle.lines_theory.proofs.Weighed.{in_weight}

-- a line that was never given has no node
pub unused : {b us : List ℕ} {f : Frontier} → Lined b us f → (l : ℕ) → f.count ≤ l → on l f.placed ≡ []
unused {f = f} i l h = keep_nothing _ f.placed (λ x m. member_no l x.lines ((i.listed x m).known l h))

module _ {b us : List ℕ} {f : Frontier} {v : ℕ} (s : Sound b) (i : Lined b us f) (n : Next b us v) where
  -- ---- every take succeeds

  port_enough : (p : ℕ) → times p (sources b v) ≤ times p (map (λ e. e.port) f.ends)
  port_enough p =
      let into = count_map (eqb p) (source_port b) (in_links b v) ∙ in_weight s v at_port in
      let to = weight-append at_port (link_to b) us (v ∷ []) (upto (L b)) in
      let ready = weight_le at_port (link_to b) (link_from b) (us ++ (v ∷ [])) us (L b) n.ready in
      omega (arith, i.balance p, into, to, ready)
    where
      at_port : ℕ → Bool
      at_port k = eqb p (source_port b k)

  pub taken-from : map (λ e. e.port) (taking b v f).taken ≡ sources b v
  taken-from = taken-ports (sources b v) (record { taken = []; ends = f.ends }) port_enough

  pub taken_so_far : (j : ℕ) → map (λ e. e.port) (take_all (take j (sources b v)) (record { taken = []; ends = f.ends })).taken ≡ take j (sources b v)
  taken_so_far j =
      taken-ports (take j (sources b v)) (record { taken = []; ends = f.ends })
      (λ p. omega (arith, port_enough p, times-take p j (sources b v)))

  -- .. so at each of its linked inputs, in turn, an end stands at the port
  pub port-stands : (j : ℕ) → j < length (sources b v)
      → 1 ≤ times (get_or (sources b v) j 0) (map (λ e. e.port) (take_all (take j (sources b v)) (record { taken = []; ends = f.ends })).ends)
  port-stands j h =
      let all = taken-times (λ e. e.port) p (take j (sources b v)) before in
      let gone = ap (times p) (taken_so_far j) in
      omega
      (arith, all, gone, port_enough p, times-take p (suc j) (sources b v), count-take-suc (eqb p) (sources b v) j h, one_eq p p refl)
    where
      p : ℕ
      p = get_or (sources b v) j 0

      before : Taking
      before = record { taken = []; ends = f.ends }

  pub taken-length : length (taking b v f).taken ≡ length (in_links b v)
  taken-length =
      sym (length-map (taking b v f).taken (λ e. e.port)) ∙ ap length taken-from ∙ length-map (in_links b v) (source_port b)

  pub old_length : length (old_lines b v f) ≡ length (in_links b v)
  old_length = length-map (taking b v f).taken (λ e. e.line) ∙ taken-length

  -- ---- what is taken stood

  pub taken_stood : (e : End) → Memᴰ e (taking b v f).taken → Standing b f e
  taken_stood e m = go (taken-there (sources b v) (record { taken = []; ends = f.ends }) m)
    where
      go : Memᴰ e [] ⊎ Memᴰ e f.ends → Standing b f e
      go (inl no_member) = absurd (Memᴰ.not-nil no_member)
      go (inr there) = i.standing e there

  pub left_stood : (e : End) → Memᴰ e (taking b v f).ends → Standing b f e
  left_stood e m = i.standing e (left_there (sources b v) (record { taken = []; ends = f.ends }) m)

  -- a line that stood was taken or is left
  pub lines_split : (l : ℕ) → times l (old_lines b v f) + times l (map (λ e. e.line) (taking b v f).ends) ≡ times l (map (λ e. e.line) f.ends)
  lines_split l = omega (arith, taken-times (λ e. e.line) l (sources b v) (record { taken = []; ends = f.ends }))

  pub ports-split : (p : ℕ) → times p (sources b v) + times p (map (λ e. e.port) (taking b v f).ends) ≡ times p (map (λ e. e.port) f.ends)
  ports-split p =
      omega (arith, taken-times (λ e. e.port) p (sources b v) (record { taken = []; ends = f.ends }), ap (times p) taken-from)

  -- ---- the new node's lines

  pub old_known : Below f.count (old_lines b v f)
  old_known = below_members (λ e. e.line) f.count (taking b v f).taken (λ e m. (taken_stood e m).low)

  pub left-known : Below f.count (map (λ e. e.line) (taking b v f).ends)
  left-known = below_members (λ e. e.line) f.count (taking b v f).ends (λ e m. (left_stood e m).low)

  pub fresh-low : (l : ℕ) → l < f.count → times l (fresh b v f) ≡ 0
  fresh-low l h = times-before l f.count (gain b v f) h

  pub fresh-length : length (fresh b v f) ≡ gain b v f
  fresh-length = length_from f.count (gain b v f)

  pub fresh-high : (l : ℕ) → f.count + length (fresh b v f) ≤ l → times l (fresh b v f) ≡ 0
  fresh-high l h = times-after l f.count (gain b v f) (omega (arith, fresh-length))

  pub fresh_among : (l : ℕ) → f.count ≤ l → l < f.count + length (fresh b v f) → times l (fresh b v f) ≡ 1
  fresh_among l low high = times_among l f.count (gain b v f) low (omega (arith, fresh-length))

  pub fresh-once : (l : ℕ) → times l (fresh b v f) ≤ 1
  fresh-once l = go (dec_lt l f.count) (dec_lt l (f.count + length (fresh b v f)))
    where
      go : Dec (l < f.count) → Dec (l < f.count + length (fresh b v f)) → times l (fresh b v f) ≤ 1
      go (yes h) d = omega (arith, fresh-low l h)
      go (no h) (yes m) = omega (arith, fresh_among l (omega arith) m)
      go (no h) (no m) = omega (arith, fresh-high l (omega arith))

  pub lines-times : (l : ℕ) → times l (newcomer b v f).lines ≡ times l (old_lines b v f) + times l (fresh b v f)
  lines-times l = count-append (eqb l) (old_lines b v f) (fresh b v f)

  pub lines-known : Below (f.count + length (fresh b v f)) (newcomer b v f).lines
  lines-known l h = omega (arith, lines-times l, old_known l (omega arith), fresh-high l h)

  -- a line of the new node that is left nowhere else, and stands once
  pub lines-apart : (l : ℕ) → times l (newcomer b v f).lines + times l (map (λ e. e.line) (taking b v f).ends) ≤ 1
  lines-apart l = go (dec_lt l f.count)
    where
      go : Dec (l < f.count) → times l (newcomer b v f).lines + times l (map (λ e. e.line) (taking b v f).ends) ≤ 1
      go (yes h) = omega (arith, lines-times l, lines_split l, i.once l, fresh-low l h)
      go (no h) = omega (arith, lines-times l, old_known l (omega arith), left-known l (omega arith), fresh-once l)

  pub lines-length : length (newcomer b v f).lines ≡ length (in_links b v) + length (fresh b v f)
  lines-length = omega (arith, length-append (old_lines b v f) (fresh b v f), old_length)

  -- a line of the new node was taken, or had no node
  pub record TakenAs (l : ℕ) : Type 0 where
    pub end : End
    pub there : Memᴰ end (taking b v f).taken
    pub line : l ≡ end.line

  pub taken_or_new : (l : ℕ) → 1 ≤ times l (newcomer b v f).lines → TakenAs l ⊎ (on l f.placed ≡ [])
  taken_or_new l h = go (dec_lt 0 (times l (old_lines b v f)))
    where
      go : Dec (0 < times l (old_lines b v f)) → TakenAs l ⊎ (on l f.placed ≡ [])
      go (yes t) =
          let m = member_for (λ e. e.line) l (taking b v f).taken t in
          inl (record { end = m.which; there = m.there; line = m.has })
      go (no t) = inr (unused i l (high (dec_lt l f.count)))
        where
          high : Dec (l < f.count) → f.count ≤ l
          high (yes low) = absurd (omega (arith, lines-times l, fresh-low l low))
          high (no low) = omega arith

  pub level-few : level b v f ≤ length f.placed
  level-few = above-few (length f.placed) (taking b v f).taken (λ e m. (taken_stood e m).shallow)
