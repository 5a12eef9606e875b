-- The links at a row of a node's ports of one direction, summed port by port, are counted in one pass over all links.
-- Rests on order_theory's Ports and lists' Weight.
use Prim.Native.Nat.{ℕ, zero, suc, ◌+◌, ◌≤◌, ◌<◌}
use native.Mathlib.Decide.{ℕ_discrete, dec_lt}
use native.Mathlib.Numerals.{add-one}
use native.Mathlib.Omega.{arith}
use mathlib.Core.Path.{◌≡◌, refl, sym, ap, ◌∙◌}
use mathlib.Core.Bool.{Bool, true, false, ◌&&◌, cond, and-false}
use mathlib.Core.List.{List, [], ◌∷◌}
use lib.Dec.{eqb, leb, ltb}
use lib.ListN.{length}
use Rattle.std.specs.List.{filter, range_with_len}
use borrow.Author.Tests.{lt-ltb, le-ltb, le-leb, lt-leb, eq-eqb, ne_eqb}
use Rattle.lists.specs.Lists.{from, upto, one, count}
use Rattle.lists.specs.Weight.{total}
use Rattle.lists.proofs.Count.{length-keep}
use Rattle.lists.proofs.Upto.{from_snoc}
use Rattle.lists.proofs.Weight.{total-append, total-add, count-total, count-upto-same, count-from-none}
use Rattle.paper.specs.Map.{L, ins, outs, input, output, source_port, target_port, port_links}
use Rattle.order_theory.specs.Sound.{Sound}
use Rattle.order_theory.proofs.Ports.{links_at_output, links_at_input, source-output, target-input}
use Rattle.stepmap.specs.Formed.{port_of}
use Rattle.port_lines.specs.Ends.{end_node, end_offset, is_among, links_among}

-- how many ports of a direction a node has
abbrev pub ports_of : List ℕ → Bool → ℕ → ℕ
ports_of b out v = cond out (outs b v) (ins b v)

-- link k stands at one offset
abbrev is_there : List ℕ → Bool → ℕ → ℕ → ℕ → Bool
is_there b out v o k = eqb (end_node b out k) v && eqb (end_offset b out k) o

-- those of some numbers in a row that pass, counted one by one
pub counted : (f : ℕ → Bool) (m n : ℕ) → length (filter f (range_with_len m n)) ≡ count f (from m n)
counted f m zero = refl
counted f m (suc n) = go (rw add-one (counted f (suc m) n)) (f m)
  where
    go : length (filter f (range_with_len (m + 1) n)) ≡ count f (from (suc m) n) → (t : Bool)
        → length (cond t (m ∷ filter f (range_with_len (m + 1) n)) (filter f (range_with_len (m + 1) n))) ≡ one t + count f (from (suc m) n)
    go rest true = omega (arith, rest)
    go rest false = omega (arith, rest)

-- ---- the links of one port

port-count : {b : List ℕ} → Sound b → (out : Bool) (v o : ℕ) → o < ports_of b out v
    → length (port_links b (port_of b out v o)) ≡ count (is_there b out v o) (upto (L b))
port-count {b} s true v o h =
    ap length (links_at_output s v o h) ∙ length-keep (λ k. eqb (source_port b k) (output b v o)) (upto (L b))
    ∙ count-upto-same (λ k. eqb (source_port b k) (output b v o)) (is_there b true v o) (L b) (λ k l. source-output s k l v o h)
port-count {b} s false v o h =
    ap length (links_at_input s v o h) ∙ length-keep (λ k. eqb (target_port b k) (input b v o)) (upto (L b))
    ∙ count-upto-same (λ k. eqb (target_port b k) (input b v o)) (is_there b false v o) (L b) (λ k l. target-input s k l v o h)

-- ---- one offset more

-- an offset below high, or high itself
one_further : (t : Bool) (x low high : ℕ) → low ≤ high
    → one (t && (leb low x && ltb x (suc high))) ≡ one (t && (leb low x && ltb x high)) + one (t && eqb x high)
one_further false x low high h = refl
one_further true x low high h = go (ℕ_discrete x high) (dec_lt x high)
  where
    go : Dec (x ≡ high) → Dec (x < high) → one (leb low x && ltb x (suc high)) ≡ one (leb low x && ltb x high) + one (eqb x high)
    go (yes e) d =
        rw (le-leb low x (omega arith), lt-ltb x (suc high) (omega arith), le-ltb x high (omega arith), eq-eqb x high e)
    go (no ne) (yes l) = rw (lt-ltb x (suc high) (omega arith), lt-ltb x high l, ne_eqb x high ne) (plain (one (leb low x && true)))
      where
        plain : (k : ℕ) → k ≡ k + 0
        plain k = omega arith
    go (no ne) (no l) = rw (le-ltb x (suc high) (omega arith), le-ltb x high (omega arith), ne_eqb x high ne, and-false (leb low x))

-- none stands below its own lower bound
none_among : (t : Bool) (x low : ℕ) → (t && (leb low x && ltb x low)) ≡ false
none_among t x low = go (dec_lt x low)
  where
    go : Dec (x < low) → (t && (leb low x && ltb x low)) ≡ false
    go (yes l) = rw (lt-leb low x l) (and-false t)
    go (no l) = rw (le-ltb x low (omega arith), and-false (leb low x)) (and-false t)

module _ (b : List ℕ) (out : Bool) (v low : ℕ) where
  among_none : links_among b out v low low ≡ 0
  unfolding links_among
  among_none = count-from-none (is_among b out v low low) 0 (L b) (λ k h. none_among (eqb (end_node b out k) v) (end_offset b out k) low)

  among_suc : (high : ℕ) → low ≤ high → links_among b out v low (suc high) ≡ links_among b out v low high + count (is_there b out v high) (upto (L b))
  unfolding links_among
  among_suc high h =
      omega (
        arith,
        count-total (is_among b out v low (suc high)) (λ k. one (is_among b out v low (suc high) k)) (λ k. refl) (upto (L b)),
        count-total (is_among b out v low high) (λ k. one (is_among b out v low high k)) (λ k. refl) (upto (L b)),
        count-total (is_there b out v high) (λ k. one (is_there b out v high k)) (λ k. refl) (upto (L b)),
        total-add (λ k. one (is_among b out v low (suc high) k)) (λ k. one (is_among b out v low high k)) (λ k. one (is_there b out v high k))
            (λ k. one_further (eqb (end_node b out k) v) (end_offset b out k) low high h) (upto (L b)),
      )

-- ---- the links of a row of ports

-- how many links the m ports from q on have
abbrev pub links_from : List ℕ → ℕ → ℕ → ℕ
links_from b q m = total (λ r. length (port_links b r)) (from q m)

row-suc : (b : List ℕ) (q m : ℕ) → links_from b q (suc m) ≡ links_from b q m + length (port_links b (q + m))
row-suc b q m =
    omega (
      arith,
      ap (total (λ r. length (port_links b r))) (from_snoc q m),
      total-append (λ r. length (port_links b r)) (from q m) ((q + m) ∷ []),
    )

along : (b : List ℕ) (out : Bool) (v low m : ℕ) → port_of b out v low + m ≡ port_of b out v (low + m)
unfolding input output
along b true v low m = omega arith
along b false v low m = omega arith

pub row_among : {b : List ℕ} → Sound b → (out : Bool) (v low m : ℕ) → low + m ≤ ports_of b out v
    → links_from b (port_of b out v low) m ≡ links_among b out v low (low + m)
row_among {b} s out v low zero h = sym (ap (links_among b out v low) (none low) ∙ among_none b out v low)
  where
    none : (low : ℕ) → low + zero ≡ low
    none low = omega arith
row_among {b} s out v low (suc m) h =
    omega (
      arith,
      row-suc b (port_of b out v low) m,
      ap (λ (q : ℕ). length (port_links b q)) (along b out v low m),
      port-count s out v (low + m) (omega arith),
      row_among s out v low m (omega arith),
      among_suc b out v low (low + m) (omega arith),
      ap (links_among b out v low) (further low m),
    )
  where
    further : (low m : ℕ) → low + suc m ≡ suc (low + m)
    further low m = omega arith
