-- The loops that write where each node's links start, and where its list starts: what is read stands, and one word more is written.
-- Rests on lists.Sections and lists.Upto.
use Prim.Native.Nat.{ℕ, ◌+◌, ◌-◌, ◌≤◌, ◌<◌}
use native.Mathlib.Omega.{arith}
use native.Mathlib.Numerals.{add-one}
use mathlib.Core.Path.{◌≡◌, refl, ap, ap₂, ◌∙◌}
use mathlib.Core.Logic.{inl, inr}
use mathlib.Core.List.{List, [], ◌∷◌, map}
use lib.ListN.{length, get_or, set}
use lib.Seq.{sets, length-sets}
use Rattle.lists.specs.Lists.{upto}
use Rattle.lists.proofs.Sections.{get_or-sets-out, sets-next}
use Rattle.lists.proofs.Upto.{length-table, table-suc}
use Rattle.paper.specs.Lines.{new_lines}
use Rattle.lines_theory.proofs.Pushing.{enough}
use Rattle.neighbours.specs.declared.Listing.{Listing}
use Rattle.neighbours.specs.Tabled.{Spanned}
use Rattle.line_tables.specs.Widths.{links_from, Starting, width_at, widths_before, Spaced, Widths}

-- one more entry of a table
module _ (a : List ℕ) (into : ℕ) (f : ℕ → ℕ) (v : ℕ) {area : List ℕ} (now : area ≡ sets a into (map f (upto v))) where
  pub table-long : length area ≡ length a
  table-long = ap length now ∙ length-sets a into (map f (upto v))

  pub table_more : {x : ℕ} → x ≡ f v → set area (into + v) x ≡ sets a into (map f (upto (v + 1)))
  table_more {x} e =
      ap (set area (into + v)) e
      ∙ rw (add-one, table-suc f) (sets-next a into (map f (upto v)) (f v ∷ []) now (length-table f v))

  under : (i : ℕ) → i < into → get_or area i 0 ≡ get_or a i 0
  under i h = ap (λ (m : List ℕ). get_or m i 0) now ∙ get_or-sets-out a into (map f (upto v)) i 0 (inl h)

  behind : (i : ℕ) → into + v ≤ i → get_or area i 0 ≡ get_or a i 0
  behind i h =
      ap (λ (m : List ℕ). get_or m i 0) now ∙ get_or-sets-out a into (map f (upto v)) i 0 (inr (omega (arith, length-table f v)))

-- ---- where the links start

module _ {a : List ℕ} {n : ℕ} {links : Listing} {into : ℕ} (s : Starting a n links into) {v : ℕ} (h : v ≤ n) {area : List ℕ}
    (now : area ≡ sets a into (map (links_from a links) (upto v))) where
  first-stands : get_or area (links.firsts + v) 0 ≡ get_or a (links.firsts + v) 0
  first-stands = under a into (links_from a links) v now (links.firsts + v) (s.before v h).0

  pub span-stands : Spanned area links v
  span-stands =
      let long = table-long a into (links_from a links) v now in
      record {
        first-inside = omega (arith, long, (s.spanned v h).first-inside);
        start-inside = omega (arith, long, first-stands, (s.spanned v h).start-inside);
      }

  pub from-stands : links_from area links v ≡ links_from a links v
  from-stands =
      ap (λ (q : ℕ). get_or area (links.starts + q) 0) first-stands
      ∙ under a into (links_from a links) v now (links.starts + get_or a (links.firsts + v) 0) (s.before v h).1

  pub from-small : {x : ℕ} → x ≡ links_from area links v → x < 65536
  from-small e = omega (arith, e, from-stands, s.small v h)

  pub from_more : {x : ℕ} → x ≡ links_from area links v
      → set area (into + v) x ≡ sets a into (map (links_from a links) (upto (v + 1)))
  from_more e = table_more a into (links_from a links) v now (e ∙ from-stands)

-- ---- how many lines

module _ {a : List ℕ} {links : Listing} {outs v : ℕ} (s : Spaced a links outs v) {x y i j : ℕ}
    (is_x : x ≡ links_from a links (v + 1)) (is_y : y ≡ links_from a links v)
    (is-i : i ≡ get_or a (outs + (v + 1)) 0) (is-j : j ≡ get_or a (outs + v) 0) {k : ℕ} (is-k : k ≡ new_lines (x - y) (i - j)) where
  pub width_small : x - y + k ≤ 65536
  width_small = omega (arith, s.few, is_x, is_y, is-i, is-j, is-k, (enough (x - y) (i - j)).few)

  pub width_is : x - y + k ≡ width_at a links outs v
  unfolding width_at
  width_is =
      let taken : x - y ≡ links_from a links (v + 1) - links_from a links v = ap₂ (λ (m w : ℕ). m - w) is_x is_y in
      ap₂ (λ (m w : ℕ). m + w) taken (is-k ∙ ap₂ (λ (m w : ℕ). new_lines m w) taken (ap₂ (λ (m w : ℕ). m - w) is-i is-j))

module _ {a : List ℕ} {n : ℕ} {links : Listing} {outs into : ℕ} (w : Widths a n links outs into) {v : ℕ} (h : v < n) {area : List ℕ}
    (now : area ≡ sets a into (map (widths_before a links outs) (upto v))) {total : ℕ} (is-total : total ≡ widths_before a links outs v) where
  -- the area after this node's start is written
  module _ {next : List ℕ} (is-next : next ≡ set area (into + v) total) where
    written : next ≡ sets a into (map (widths_before a links outs) (upto (v + 1)))
    written = is-next ∙ table_more a into (widths_before a links outs) v now is-total

    stands : (i : ℕ) → into + (n + 1) ≤ i → get_or next i 0 ≡ get_or a i 0
    stands i l = behind a into (widths_before a links outs) (v + 1) written i (omega arith)

    from-same : (u : ℕ) → links_from next links u ≡ links_from a links u
    from-same u =
        ap (λ (q : ℕ). get_or next (links.starts + q) 0) (stands (links.firsts + u) (omega (arith, w.after.0)))
        ∙ stands (links.starts + get_or a (links.firsts + u) 0) (omega (arith, w.after.1))

    out-same : (u : ℕ) → get_or next (outs + u) 0 ≡ get_or a (outs + u) 0
    out-same u = stands (outs + u) (omega (arith, w.after.2))

    long : length next ≡ length a
    long = table-long a into (widths_before a links outs) (v + 1) written

    span_same : (u : ℕ) → Spanned a links u → Spanned next links u
    span_same u s =
        record {
          first-inside = omega (arith, long, s.first-inside);
          start-inside = omega (arith, long, s.start-inside, stands (links.firsts + u) (omega (arith, w.after.0)));
        }

    pub spaced_now : Spaced next links outs v
    spaced_now =
        let s = w.spaced v h in
        record {
          from = span_same v s.from;
          to = span_same (v + 1) s.to;
          rises = omega (arith, s.rises, from-same v, from-same (v + 1));
          inside = omega (arith, s.inside, long);
          rises-out = omega (arith, s.rises-out, out-same v, out-same (v + 1));
          few = omega (arith, s.few, from-same (v + 1), out-same (v + 1));
        }

    width_same : width_at next links outs v ≡ width_at a links outs v
    unfolding width_at
    width_same =
        ap₂ (λ (i j : ℕ). i + new_lines i j) (ap₂ (λ (x y : ℕ). x - y) (from-same (v + 1)) (from-same v))
        (ap₂ (λ (x y : ℕ). x - y) (out-same (v + 1)) (out-same v))

    pub total-next : {x : ℕ} → x ≡ width_at next links outs v → total + x ≡ widths_before a links outs (v + 1)
    unfolding widths_before
    total-next e = rw add-one (ap₂ (λ (i j : ℕ). i + j) is-total (e ∙ width_same))

    pub total-small : {x : ℕ} → x ≡ width_at next links outs v → total + x < 65536
    total-small e = omega (arith, total-next e, w.small (v + 1) (omega arith))

    pub starts-next : next ≡ sets a into (map (widths_before a links outs) (upto (v + 1)))
    starts-next = written

pub no_width : (a : List ℕ) (links : Listing) (outs : ℕ) → 0 ≡ widths_before a links outs 0
unfolding widths_before
no_width a links outs = refl
