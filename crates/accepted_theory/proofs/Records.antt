-- Records: extending them, the nodes in them and their refusals are the same for two areas whose tables read the same; and a port's lines.
-- Rests on Every.
use Prim.Native.Nat.{ℕ, ◌<◌}
use native.Mathlib.Decide.{dec_lt}
use native.Mathlib.Omega.{arith}
use mathlib.Core.Path.{◌≡◌, refl, sym, ap, ap₂, ◌∙◌}
use mathlib.Core.Bool.{Bool, not, ◌&&◌, ◌||◌, cond}
use mathlib.Core.List.{List, [], ◌∷◌, map}
use lib.ListN.{take, drop}
use lib.Dec.{eqb, leb, ltb}
use borrow.Author.Tests.{le-leb}
use Rattle.lists.specs.Lists.{upto, any, keep, member, sort_by}
use Rattle.lists.specs.Found.{Found}
use Rattle.lists.proofs.First.{first-same}
use Rattle.paper.specs.Map.{N, port_node}
use Rattle.paper.specs.Area.{K, position, lines_of, nodes_of}
use Rattle.paper.specs.Intervals.{Interval, Records, records, apart, within}
use Rattle.paper.specs.Records.{record_at, along, grow, behind, extend_line, extend_lines, extend, inside_on, inside, nodes_in}
use Rattle.paper.specs.Ports.{line_count_at, first_line, lines_at}
use Rattle.paper.specs.Refusals.{refusal, refuse, on_line, used_before, bad_record, whole_records, rule12, straddles, rule13}
use Rattle.accepted_theory.specs.Every.{Every}
use Rattle.accepted_theory.specs.SameTables.{KnownNode, KnownLine, SameTables}
use Rattle.accepted_theory.proofs.Every.{every-keep, every_upto, map-every, keep-every, sort_by-every}

module _ {b a c : List ℕ} (t : SameTables b a c) where
  -- ---- extend

  pub along-same : (l : ℕ) → l < K b a → along b a l ≡ along b c l
  along-same l h =
      map-every (KnownNode b) (position b a) (position b c) t.positions (nodes_of b a l) (t.nodes_known l h) ∙ ap (map (position b c)) (t.nodes l h)

  pub extend_line-same : (p l : ℕ) (rs : List Interval) → l < K b a → extend_line b a p l rs ≡ extend_line b c p l rs
  unfolding extend_line
  extend_line-same p l [] h = refl
  extend_line-same p l (r ∷ rs) h =
      ap₂ (λ (line : List ℕ) (e : Records). cond (eqb r.line l) (grow line p r rs) (behind r e)) (along-same l h) (extend_line-same p l rs h)

  pub extend_lines-same : (p : ℕ) (ls : List ℕ) (e : Records) → Every (KnownLine b a) ls → extend_lines b a p ls e ≡ extend_lines b c p ls e
  unfolding extend_lines
  extend_lines-same p [] e known = refl
  extend_lines-same p (l ∷ ls) apart known = refl
  extend_lines-same p (l ∷ ls) (records rs) known =
      extend_lines-same p ls (extend_line b a p l rs) known.1 ∙ ap (extend_lines b c p ls) (extend_line-same p l rs known.0)

  module _ (rs : List Interval) where
    pub extend_same : (v : ℕ) → v < N b → extend b a rs v ≡ extend b c rs v
    unfolding extend
    extend_same v h =
        extend_lines-same (position b a v) (lines_of b a v) (records rs) (t.lines_known v h)
        ∙ ap₂ (λ (p : ℕ) (ls : List ℕ). extend_lines b c p ls (records rs)) (t.positions v h) (t.lines v h)

    -- ---- nodes in records

    pub inside_on-same : (v l : ℕ) → v < N b → inside_on b a rs v l ≡ inside_on b c rs v l
    unfolding inside_on
    inside_on-same v l h = ap (λ (p : ℕ). any (λ r. eqb r.line l && within r p) rs) (t.positions v h)

    pub inside-same : (v : ℕ) → v < N b → inside b a rs v ≡ inside b c rs v
    unfolding inside inside_on
    inside-same v h =
        ap₂ (λ (p : ℕ) (ls : List ℕ). any (λ l. any (λ r. eqb r.line l && within r p) rs) ls) (t.positions v h) (t.lines v h)

    pub nodes_in-same : nodes_in b a rs ≡ nodes_in b c rs
    unfolding nodes_in
    nodes_in-same =
        sort_by-every (KnownNode b) (position b a) (position b c) t.positions (keep (inside b a rs) (upto (N b)))
        (every-keep (KnownNode b) (inside b a rs) (upto (N b)) (every_upto (N b)))
        ∙ ap (sort_by (position b c)) (keep-every (KnownNode b) (inside b a rs) (inside b c rs) inside-same (upto (N b)) (every_upto (N b)))

    -- ---- 13

    pub straddles-same : (v : ℕ) → v < N b → straddles b a rs v ≡ straddles b c rs v
    unfolding straddles inside_on
    straddles-same v h =
        ap₂
        (λ (p : ℕ) (ls : List ℕ).
        any (λ l. any (λ r. eqb r.line l && within r p) rs) ls && any (λ l. not (any (λ r. eqb r.line l && within r p) rs)) ls)
        (t.positions v h)
        (t.lines v h)

    pub rule13-same : rule13 b a rs ≡ rule13 b c rs
    unfolding rule13
    rule13-same = ap (refuse 13) (first-same (straddles b a rs) (straddles b c rs) (N b) straddles-same)

  -- ---- 12

  pub on_line-same : (l p : ℕ) → l < K b a → on_line b a l p ≡ on_line b c l p
  unfolding on_line
  on_line-same l p h = ap (member p) (along-same l h)

  -- a record on an unknown line is bad, whatever stands there
  pub bad_record-same : (words : List ℕ) (i : ℕ) → bad_record b a words i ≡ bad_record b c words i
  unfolding bad_record
  bad_record-same words i = go (dec_lt r.line (K b a))
    where
      r : Interval
      r = record_at words i

      bad : Bool → Bool → Bool → Bool
      bad unknown low high = unknown || used_before words i r.line || not (low && high) || ltb r.highest r.lowest

      go : Dec (r.line < K b a)
          → bad (leb (K b a) r.line) (on_line b a r.line r.lowest) (on_line b a r.line r.highest)
          ≡ bad (leb (K b c) r.line) (on_line b c r.line r.lowest) (on_line b c r.line r.highest)
      go (yes h) =
          ap (λ (k : ℕ). bad (leb k r.line) (on_line b a r.line r.lowest) (on_line b a r.line r.highest)) t.count
          ∙ ap₂ (bad (leb (K b c) r.line)) (on_line-same r.line r.lowest h) (on_line-same r.line r.highest h)
      go (no h) =
          ap (λ (u : Bool). bad u (on_line b a r.line r.lowest) (on_line b a r.line r.highest)) (le-leb (K b a) r.line (omega arith))
          ∙ ap (λ (u : Bool). bad u (on_line b c r.line r.lowest) (on_line b c r.line r.highest))
          (sym (le-leb (K b c) r.line (omega (arith, t.count))))

  pub rule12-same : (words : List ℕ) (n : ℕ) → rule12 b a words n ≡ rule12 b c words n
  unfolding rule12
  rule12-same words n =
      ap (λ (f : Found). cond (ltb (whole_records words) n) (refusal 12 (whole_records words)) (refuse 12 f))
      (first-same (bad_record b a words) (bad_record b c words) n (λ i h. bad_record-same words i))

  -- ---- ports

  pub lines_at-same : (p : ℕ) → port_node b p < N b → lines_at b a p ≡ lines_at b c p
  unfolding lines_at
  lines_at-same p h = ap (λ (ls : List ℕ). take (line_count_at b p) (drop (first_line b p) ls)) (t.lines (port_node b p) h)
