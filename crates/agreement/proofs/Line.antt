-- A line as it is handed on, between two line starts: where it stands, what it holds, and what one line more leaves.
-- Rests on Reading and Laying.
use Prim.Native.Nat.{ℕ, suc, ◌+◌, ◌-◌, ◌≤◌, ◌<◌}
use native.Mathlib.Numerals.{add-one}
use native.Mathlib.Omega.{arith}
use borrow.Author.Count.{below_more}
use mathlib.Core.Path.{◌≡◌, sym, ap, ap₂, ◌∙◌, subst}
use mathlib.Core.Bool.{Bool, true, false, not}
use mathlib.Core.List.{List, map}
use lib.ListN.{length, get_or, take, drop, replicate, length-replicate}
use lib.Seq.{sets, slice, take-take, drop-drop}
use Rattle.lists.specs.Lists.{Rising}
use Rattle.lists.proofs.Sections.{part, length_part, get_d_part}
use Rattle.lists.proofs.Members.{map_below}
use Rattle.lists.proofs.Tests.{Says, says_no_lem, granted, denied}
use Rattle.groups.specs.Groups.{Known}
use Rattle.groups.proofs.Bags.{known-below}
use Rattle.groups.proofs.Picking.{part_slice}
use Rattle.tables.specs.declared.Layout.{Layout}
use Rattle.agreement.specs.Tables.{entry_count, line_start, nodes_on, Tables, Rise}
use Rattle.agreement.specs.Lists.{line_numbers, fronts, backs}
use Rattle.agreement.proofs.Laying.{laid_next}
use Rattle.agreement.proofs.Listing.{pair_start, pair_start_lem, pairs_begin, front_long, back_long}
use Rattle.accepted_theory.proofs.Starts.{start-least, start-most}
use Rattle.agreement.proofs.Reading.{line-rises, line-end, line-inside}

module _ {a : List ℕ} {at : Layout} {k : ℕ} (t : Tables a at k) where
  module _ {x : ℕ} (h : x < k) {f e : ℕ} (is_f : f ≡ get_or a (at.starts + x) 0) (is-e : e ≡ get_or a (at.starts + (x + 1)) 0) where
    is-next : e ≡ line_start a at (suc x)
    is-next = is-e ∙ ap (λ (m : ℕ). get_or a (at.starts + m) 0) (add-one x)

    pub rises : f < e
    rises = omega (arith, is_f, is-next, line-rises t h)

    pub ends : e ≤ entry_count at k
    ends = omega (arith, is-next, line-end t h)

    pub inside : at.along + e ≤ length a
    inside = omega (arith, is-next, line-inside t h)

    pub least : x ≤ f
    least = omega (arith, is_f, start-least t.known.line_starts x (omega arith))

    -- each line before has dropped one
    pub most : e ≤ at.sizes.links + (x + 1)
    most = omega (arith, is-next, start-most t.known.line_starts (suc x) h)

    abbrev line : List ℕ
    line = part a (at.along + f) (at.along + e - (at.along + f))

    is-line : line ≡ nodes_on a at x
    is-line =
        part_slice a (at.along + f) (at.along + e) (omega (arith, rises))
        ∙ ap₂ (λ (i j : ℕ). slice (at.along + i) (at.along + j) a) is_f is-next

    long : length line ≡ e - f
    long = length_part a (at.along + f) (at.along + e - (at.along + f)) (omega (arith, rises, inside)) ∙ omega arith

    line_known : Known at.sizes.nodes line
    line_known i hi =
        omega (
          arith,
          get_d_part a (at.along + f) (at.along + e - (at.along + f)) i 0 (omega (arith, long)),
          ap (λ (m : ℕ). get_or a m 0) (assoc at.along f i),
          t.known.nodes_known (f + i) (omega (arith, long, ends)),
        )
      where
        assoc : (o f i : ℕ) → o + f + i ≡ o + (f + i)
        assoc o f i = omega arith

    -- ---- positions

    abbrev positions : List ℕ
    positions = part a at.positions (at.positions + at.sizes.nodes - at.positions)

    positions-long : length positions ≡ at.sizes.nodes
    positions-long = length_part a at.positions (at.positions + at.sizes.nodes - at.positions) (omega (arith, t.sized.positions-fit)) ∙ omega arith

    pub line-placed : Known (length positions) line
    line-placed i hi = omega (arith, line_known i hi, positions-long)

    rising-is : map (λ v. get_or positions v 0) line ≡ map (λ v. get_or a (at.positions + v) 0) (nodes_on a at x)
    rising-is =
        map_below (λ v. get_or positions v 0) (λ v. get_or a (at.positions + v) 0) at.sizes.nodes line (known-below at.sizes.nodes line line_known)
        (λ v hv. get_d_part a at.positions (at.positions + at.sizes.nodes - at.positions) v 0 (omega arith))
        ∙ ap (map (λ v. get_or a (at.positions + v) 0)) is-line

    rising-told : {r : Bool} → Says r (Rising (map (λ v. get_or positions v 0) line)) → Says r (Rising (map (λ v. get_or a (at.positions + v) 0) (nodes_on a at x)))
    rising-told {r} said = subst (λ (xs : List ℕ). Says r (Rising xs)) rising-is said

    pub falls : {r : Bool} → Says r (Rising (map (λ v. get_or positions v 0) line)) → not r ≡ true → Says false (Rise a at k)
    falls said q = says_no_lem (λ rise. denied (rising-told said) q (rise x h))

    pub rise_on : {r : Bool} → Says r (Rising (map (λ v. get_or positions v 0) line)) → not r ≡ false → Rise a at x → Rise a at (x + 1)
    rise_on said q rise = below_more _ x rise (granted (rising-told said) q)

    -- ---- the numbers of the lines

    pub numbers_next : (lines₀ : List ℕ) {lines after : List ℕ} → lines ≡ sets lines₀ 0 (line_numbers a at x) → after ≡ sets lines f (replicate (e - f) x)
        → after ≡ sets lines₀ 0 (line_numbers a at (x + 1))
    unfolding line_numbers
    numbers_next lines₀ now now' =
        now'
        ∙ laid_next (line_start a at) t.known.line_starts.begins (λ y. replicate (line_start a at (suc y) - line_start a at y) y) k
        (λ y hy. omega (arith, length-replicate (line_start a at (suc y) - line_start a at y) y, line-rises t hy)) lines₀ x h now is_f
        (ap₂ (λ (i j : ℕ). replicate (j - i) x) is_f is-next)

    -- ---- neighbours

    abbrev but_last : List ℕ
    but_last = part a (at.along + f) (at.along + e - 1 - (at.along + f))

    abbrev but_first : List ℕ
    but_first = part a (at.along + f + 1) (at.along + e - (at.along + f + 1))

    front-is : but_last ≡ take (length (nodes_on a at x) - 1) (nodes_on a at x)
    front-is =
        sym (take-take (at.along + e - 1 - (at.along + f)) (at.along + e - (at.along + f)) (drop (at.along + f) a) (omega arith))
        ∙ ap₂ (λ (m : ℕ) (xs : List ℕ). take m xs) (count at.along f e ∙ ap (λ (m : ℕ). m - 1) (sym long ∙ ap length is-line)) is-line
      where
        count : (o f e : ℕ) → o + e - 1 - (o + f) ≡ e - f - 1
        count o f e = omega arith

    back_is : but_first ≡ drop 1 (nodes_on a at x)
    back_is =
        part_slice a (at.along + f + 1) (at.along + e) (omega (arith, rises))
        ∙ sym (drop-drop 1 (at.along + f) (take (at.along + e) a))
        ∙ ap₂ (λ (i j : ℕ). drop 1 (slice (at.along + i) (at.along + j) a)) is_f is-next

    pub front_fits : f - x + length but_last ≤ at.sizes.links
    front_fits =
        omega (
          arith,
          length_part a (at.along + f) (at.along + e - 1 - (at.along + f)) (omega (arith, rises, inside)),
          rises,
          least,
          most,
        )

    pub back_fits : f - x + length but_first ≤ at.sizes.links
    back_fits =
        omega (
          arith,
          length_part a (at.along + f + 1) (at.along + e - (at.along + f + 1)) (omega (arith, rises, inside)),
          rises,
          least,
          most,
        )

    pair_start-is : f - x ≡ pair_start t x
    pair_start-is = ap (λ (m : ℕ). m - x) is_f ∙ sym (pair_start_lem t x)

    pub fronts-next : (froms₀ : List ℕ) {froms after : List ℕ} → froms ≡ sets froms₀ 0 (fronts a at x) → after ≡ sets froms (f - x) but_last
        → after ≡ sets froms₀ 0 (fronts a at (x + 1))
    unfolding fronts
    fronts-next froms₀ now now' =
        now'
        ∙ laid_next (pair_start t) (pairs_begin t) (λ y. take (length (nodes_on a at y) - 1) (nodes_on a at y)) k (front_long t) froms₀ x h now pair_start-is front-is

    pub backs-next : (tos₀ : List ℕ) {tos after : List ℕ} → tos ≡ sets tos₀ 0 (backs a at x) → after ≡ sets tos (f - x) but_first
        → after ≡ sets tos₀ 0 (backs a at (x + 1))
    unfolding backs
    backs-next tos₀ now now' =
        now'
        ∙ laid_next (pair_start t) (pairs_begin t) (λ y. drop 1 (nodes_on a at y)) k (back_long t) tos₀ x h now pair_start-is back_is
