-- The last two sentences, in the pairs that the code compares: given that the tables are known and positions rise, they say the same.
-- Rests on groups.Pairs, lists.Once and lists.Rising.
use Prim.Native.Nat.{ℕ, suc, ◌+◌, ◌-◌, ◌≤◌, ◌<◌}
use native.Mathlib.Omega.{arith}
use mathlib.Core.Path.{◌≡◌, refl, sym, ap, ap₂, ◌∙◌}
use mathlib.Core.Bool.{Bool, true, false, ◌&&◌, ◌||◌, cond}
use mathlib.Core.List.{List, [], ◌∷◌, flat_map}
use lib.Dec.{eqb}
use lib.ListN.{length, get_or, take, drop, replicate, length-drop, length-replicate}
use lib.Seq.{length-take-le}
use Rattle.lists.specs.Lists.{upto, one, any, count, pairs, member, times}
use Rattle.lists.specs.Weight.{total}
use Rattle.lists.proofs.Sections.{part}
use Rattle.lists.proofs.Upto.{flat_map-from, length-table, get_or-table}
use Rattle.lists.proofs.Count.{times-upto, times_past, one-small, eqb_sym}
use Rattle.lists.proofs.Weight.{total-same, count-total, count-upto-same}
use Rattle.lists.proofs.Once.{sum-once, sum-none}
use Rattle.lists.proofs.Members.{times-member}
use Rattle.lists.proofs.Rising.{rising-once}
use Rattle.paper.specs.Map.{L, link_from, link_to}
use Rattle.paper.specs.Accepted.{links_between, right_after}
use Rattle.groups.specs.Groups.{hits}
use Rattle.groups.proofs.Pairs.{hits_places, hits_parts, hits_beside}
use Rattle.tables.specs.declared.Layout.{Layout}
use Rattle.agreement.specs.Tables.{entry_count, line_start, nodes_on, Tables, Rise}
use Rattle.agreement.specs.Lists.{line_numbers, fronts, backs, sources, targets}
use Rattle.agreement.proofs.Laying.{parts_whole}
use Rattle.agreement.proofs.Reading.{line-rises, line-long}

-- ---- pairs that are in neither list

pub hits_few : (u w : ℕ) (xs ys : List ℕ) → hits u w xs ys ≤ times w ys
unfolding hits
hits_few u w [] ys = omega arith
hits_few u w (x ∷ xs) [] = omega arith
hits_few u w (x ∷ xs) (y ∷ ys) = omega (arith, hits_few u w xs ys, less (eqb x u) (eqb y w), ap one (eqb_sym y w))
  where
    less : (s t : Bool) → one (s && t) ≤ one t
    less true t = omega arith
    less false t = omega arith

-- ---- a node and a line

module _ {a : List ℕ} {at : Layout} {k : ℕ} (t : Tables a at k) where
  nodes-whole : part a at.along (entry_count at k) ≡ flat_map (nodes_on a at) (upto k)
  nodes-whole =
      sym
      (parts_whole a at.along (line_start a at) t.known.line_starts.begins k (λ x h. omega (arith, line-rises t h)) k (omega arith)
      ∙ ap (part a at.along) t.known.line_starts.ends)

  numbers_beside : line_numbers a at k ≡ flat_map (λ x. replicate (length (nodes_on a at x)) x) (upto k)
  unfolding line_numbers
  numbers_beside =
      flat_map-from (λ x. replicate (line_start a at (suc x) - line_start a at x) x) (λ x. replicate (length (nodes_on a at x)) x) 0 k
      (λ x h. ap (λ (m : ℕ). replicate m (0 + x)) (sym (long_at x h)))
    where
      long_at : (x : ℕ) → x < k → length (nodes_on a at (0 + x)) ≡ line_start a at (suc (0 + x)) - line_start a at (0 + x)
      long_at x h = line-long t (omega arith)

  on-lines : (v y : ℕ) → hits v y (part a at.along (entry_count at k)) (line_numbers a at k) ≡ total (λ x. cond (eqb y x) (times v (nodes_on a at x)) 0) (upto k)
  on-lines v y =
      ap₂ (hits v y) nodes-whole numbers_beside
      ∙ hits_parts v y (nodes_on a at) (λ x. replicate (length (nodes_on a at x)) x) (λ x. sym (length-replicate (length (nodes_on a at x)) x)) (upto k)
      ∙ total-same (λ x. hits v y (nodes_on a at x) (replicate (length (nodes_on a at x)) x)) (λ x. cond (eqb y x) (times v (nodes_on a at x)) 0) k
      (λ x h. hits_beside v y x (nodes_on a at x))

  pub line-hits : (v : ℕ) {y : ℕ} → y < k → hits v y (part a at.along (entry_count at k)) (line_numbers a at k) ≡ times v (nodes_on a at y)
  line-hits v {y} h = on-lines v y ∙ sum-once (λ x. times v (nodes_on a at x)) y (upto k) (times-upto y k h)

  pub no_line-hits : (v : ℕ) {y : ℕ} → k ≤ y → hits v y (part a at.along (entry_count at k)) (line_numbers a at k) ≡ 0
  no_line-hits v {y} h = on-lines v y ∙ sum-none (λ x. times v (nodes_on a at x)) y (upto k) (times_past y k h)

  module _ (rise : Rise a at k) where
    -- a line lists a node once at most
    once-on-line : (v : ℕ) {x : ℕ} → x < k → times v (nodes_on a at x) ≤ 1
    once-on-line v {x} h = rising-once (λ u. get_or a (at.positions + u) 0) (nodes_on a at x) (rise x h) v

    pub member-hits : (v : ℕ) {y : ℕ} → y < k → hits v y (part a at.along (entry_count at k)) (line_numbers a at k) ≡ one (member v (nodes_on a at y))
    member-hits v {y} h = line-hits v h ∙ times-member v (nodes_on a at y) (once-on-line v h)

-- ---- two neighbours

-- a list but its last beside the list but its first
beside_next : (u w : ℕ) (xs : List ℕ) → hits u w (take (length xs - 1) xs) (drop 1 xs) ≡ count (λ p. eqb p.0 u && eqb p.1 w) (pairs xs)
unfolding hits
beside_next u w [] = refl
beside_next u w (x ∷ []) = refl
beside_next u w (x ∷ (y ∷ ys)) =
    ap (λ (m : ℕ). hits u w (take m (x ∷ (y ∷ ys))) (y ∷ ys)) (one_less (length ys))
    ∙ ap (λ (m : ℕ). one (eqb x u && eqb y w) + m)
    (ap (λ (m : ℕ). hits u w (take m (y ∷ ys)) ys) (sym (same (length ys))) ∙ beside_next u w (y ∷ ys))
  where
    one_less : (m : ℕ) → suc (suc m) - 1 ≡ suc m
    one_less m = omega arith

    same : (m : ℕ) → suc m - 1 ≡ m
    same m = omega arith

-- no more than u stands in the list
pairs-few : (u w : ℕ) (xs : List ℕ) → count (λ p. eqb p.0 u && eqb p.1 w) (pairs xs) ≤ times u xs
pairs-few u w [] = omega arith
pairs-few u w (x ∷ []) = omega arith
pairs-few u w (x ∷ (y ∷ ys)) = omega (arith, pairs-few u w (y ∷ ys), less (eqb x u) (eqb y w), ap one (eqb_sym x u))
  where
    less : (s t : Bool) → one (s && t) ≤ one s
    less true t = one-small t
    less false t = omega arith

any-count : {A : Type 0} (f : A → Bool) (xs : List A) → count f xs ≤ 1 → one (any f xs) ≡ count f xs
any-count f [] h = refl
any-count f (x ∷ xs) h = go (f x) h (any-count f xs)
  where
    go : (t : Bool) → one t + count f xs ≤ 1 → (count f xs ≤ 1 → one (any f xs) ≡ count f xs) → one (t || any f xs) ≡ one t + count f xs
    go true h ih = omega arith
    go false h ih = omega (arith, ih (omega arith))

module _ {a : List ℕ} {at : Layout} {k : ℕ} (t : Tables a at k) (rise : Rise a at k) where
  pub next-hits : (u w : ℕ) → hits u w (fronts a at k) (backs a at k) ≡ count (λ x. right_after u w (nodes_on a at x)) (upto k)
  unfolding fronts backs right_after
  next-hits u w =
      hits_parts u w (λ x. take (length (nodes_on a at x) - 1) (nodes_on a at x)) (λ x. drop 1 (nodes_on a at x)) (λ x. as_long (nodes_on a at x)) (upto k)
      ∙ total-same (λ x. hits u w (take (length (nodes_on a at x) - 1) (nodes_on a at x)) (drop 1 (nodes_on a at x)))
      (λ x. one (right_after u w (nodes_on a at x))) k
      (λ x h. beside_next u w (nodes_on a at x) ∙ sym (any-count (λ p. eqb p.0 u && eqb p.1 w) (pairs (nodes_on a at x)) (few x h)))
      ∙ sym (count-total (λ x. right_after u w (nodes_on a at x)) (λ x. one (right_after u w (nodes_on a at x))) (λ x. refl) (upto k))
    where
      as_long : (xs : List ℕ) → length (take (length xs - 1) xs) ≡ length (drop 1 xs)
      as_long xs = length-take-le (length xs - 1) xs (omega arith) ∙ sym (length-drop 1 xs)

      few : (x : ℕ) → x < k → count (λ p. eqb p.0 u && eqb p.1 w) (pairs (nodes_on a at x)) ≤ 1
      few x h = omega (arith, pairs-few u w (nodes_on a at x), once-on-line t rise u h)

-- ---- a link's two ends

pub link-hits : (b : List ℕ) {l : ℕ} → L b ≡ l → (u w : ℕ) → hits u w (sources b l) (targets b l) ≡ links_between b u w
unfolding links_between
link-hits b {l} e u w =
    hits_places u w (sources b l) (targets b l) (length-table (link_from b) l ∙ sym (length-table (link_to b) l))
    ∙ ap (λ (m : ℕ). count (λ i. eqb (get_or (sources b l) i 0) u && eqb (get_or (targets b l) i 0) w) (upto m)) (length-table (link_from b) l)
    ∙ count-upto-same (λ i. eqb (get_or (sources b l) i 0) u && eqb (get_or (targets b l) i 0) w) (λ i. eqb (link_from b i) u && eqb (link_to b i) w) l
    (λ i h. ap₂ (λ (x y : ℕ). eqb x u && eqb y w) (get_or-table (link_from b) l i 0 h) (get_or-table (link_to b) l i 0 h))
    ∙ ap (λ (m : ℕ). count (λ i. eqb (link_from b i) u && eqb (link_to b i) w) (upto m)) (sym e)
