-- What stands in the area as rows and order: how rows are read there, and how often a line stands in them.
-- Rests on lines_theory.Starts, lists.Laid and lists.Once.
use Prim.Native.Nat.{ℕ, suc, ◌+◌, ◌≤◌, ◌<◌}
use native.Mathlib.Omega.{arith}
use mathlib.Core.Path.{◌≡◌, refl, sym, ap, ap₂, ◌∙◌, subst}
use mathlib.Core.Bool.{Bool, true, false, cond}
use mathlib.Core.List.{List, [], ◌∷◌, ◌++◌, map, flat_map, flatten, Memᴰ}
use lib.ListN.{length, get_or, take, drop, replicate}
use Rattle.lists.specs.Lists.{upto, one, keep, member, times}
use Rattle.lists.specs.Bounds.{Below}
use Rattle.lists.specs.Weight.{total}
use Rattle.lists.proofs.Sections.{part, get_d_part}
use Rattle.lists.proofs.Upto.{table_of, table_same}
use Rattle.lists.proofs.Places.{place-known}
use Rattle.lists.proofs.Members.{keep_members, member_below, times-member}
use Rattle.lists.proofs.Weight.{total-map, times_flatten}
use Rattle.lists.proofs.Once.{total-once}
use Rattle.lists.proofs.Laid.{length_flatten, below_flatten, slice_is}
use Rattle.counting_sort.specs.Keyed.{Sorting}
use Rattle.lines_theory.proofs.Starts.{starts-next, starts-room, get_or_flatten}
use Rattle.paper.specs.Area.{starts}
use Rattle.line_lists.specs.Columns.{row_in, columns, columns_in, Transposing}
use Rattle.line_lists.specs.Pushing.{Rowed}

-- those whose list has n are those that stand for it as often as n stands there
keep-times : (row : ℕ → List ℕ) (n : ℕ) (us : List ℕ) → ((u : ℕ) → Memᴰ u us → times n (row u) ≤ 1)
    → flat_map (λ u. replicate (times n (row u)) u) us ≡ keep (λ u. member n (row u)) us
unfolding flat_map
keep-times row n [] h = refl
keep-times row n (u ∷ us) h =
    ap₂ (λ (m : ℕ) (ys : List ℕ). replicate m u ++ ys) (times-member n (row u) (h u (Memᴰ.head refl)))
    (keep-times row n us (λ w m. h w (Memᴰ.tail m)))
    ∙ choose (member n (row u)) (keep (λ w. member n (row w)) us)
  where
    choose : (t : Bool) (ys : List ℕ) → replicate (one t) u ++ ys ≡ cond t (u ∷ ys) ys
    choose true ys = refl
    choose false ys = refl

-- ---- rows

module _ {a : List ℕ} {n k entries order node_starts lines line_starts nodes : ℕ} (tr : Transposing a n k entries order node_starts lines line_starts nodes) where
  start_is : (v : ℕ) → v ≤ n → get_or a (node_starts + v) 0 ≡ get_or (starts 0 tr.rows) v 0
  start_is v h = sym (get_d_part a node_starts (n + 1) v 0 (omega arith)) ∙ ap (λ (x : List ℕ). get_or x v 0) tr.starts_stand

  entry-is : (e : ℕ) → e < entries → get_or a (lines + e) 0 ≡ get_or (flatten tr.rows) e 0
  entry-is e h = sym (get_d_part a lines entries e 0 h) ∙ ap (λ (x : List ℕ). get_or x e 0) tr.lines_stand

  ends_at : (v : ℕ) → v < n → get_or a (node_starts + suc v) 0 ≡ get_or a (node_starts + v) 0 + length (get_or tr.rows v [])
  ends_at v h =
      omega (arith, start_is v (omega arith), start_is (suc v) h, starts-next 0 tr.rows v (omega (arith, tr.count)))

  ends-within : (v : ℕ) → v < n → get_or a (node_starts + suc v) 0 ≤ entries
  ends-within v h =
      omega (arith, ends_at v h, start_is v (omega arith), starts-room 0 tr.rows v (omega (arith, tr.count)), tr.total)

  pub row_read : (v : ℕ) → v < n → row_in a node_starts lines v ≡ get_or tr.rows v []
  unfolding row_in
  row_read v h =
      slice_is a (get_or tr.rows v []) (lines + get_or a (node_starts + v) 0) (lines + get_or a (node_starts + suc v) 0) (omega (arith, ends_at v h))
      (omega (arith, ends-within v h, tr.after-lines, tr.after-line-starts, tr.room)) at
    where
      over : (m s i : ℕ) → m + s + i ≡ m + (s + i)
      over m s i = omega arith

      at : (i : ℕ) → i < length (get_or tr.rows v []) → get_or a (lines + get_or a (node_starts + v) 0 + i) 0 ≡ get_or (get_or tr.rows v []) i 0
      at i l =
          ap (λ (j : ℕ). get_or a j 0) (over lines (get_or a (node_starts + v) 0) i)
          ∙ entry-is (get_or a (node_starts + v) 0 + i) (omega (arith, ends_at v h, ends-within v h))
          ∙ ap (λ (s : ℕ). get_or (flatten tr.rows) (s + i) 0) (start_is v (omega arith))
          ∙ get_or_flatten tr.rows v i (omega (arith, tr.count)) l

  pub row-stands : (v : ℕ) → v < n → Rowed a node_starts lines line_starts v
  row-stands v h =
      record {
        started = omega (arith, tr.after-starts);
        rises = omega (arith, ends_at v h);
        ends = omega (arith, ends-within v h, tr.after-lines);
        word = omega (arith, tr.few);
      }

  pub ordered-known : {u : ℕ} → Memᴰ u (part a order n) → u < n
  ordered-known m = member_below tr.nodes-known m

  -- ---- all entries

  pub long-entries : length (part a lines entries) ≡ entries
  long-entries = ap length tr.lines_stand ∙ length_flatten tr.rows ∙ sym tr.total

  pub entries_below : Below k (part a lines entries)
  entries_below =
      subst (Below k) (sym tr.lines_stand) (below_flatten k tr.rows (λ v h. tr.known v (omega (arith, tr.count))))

  pub sorting : Sorting a lines entries line_starts k nodes
  sorting =
      record {
        apart = tr.after-lines;
        after = tr.after-line-starts;
        room = tr.room;
        small = tr.small;
        known = λ e h.
            subst (λ (x : ℕ). x < k) (get_d_part a lines entries e 0 h)
            (place-known k (part a lines entries) e entries_below (omega (arith, long-entries)));
      }

  -- a line stands among the entries as often as it is in the rows, in the order's order too
  pub line-times : (l : ℕ) → total (λ u. times l (get_or tr.rows u [])) (part a order n) ≡ times l (part a lines entries)
  line-times l =
      total-once (λ u. times l (get_or tr.rows u [])) n (part a order n) tr.nodes-known tr.nodes-once
      ∙ sym (total-map (times l) (λ u. get_or tr.rows u []) (upto n))
      ∙ ap (λ (m : ℕ). total (times l) (map (λ u. get_or tr.rows u []) (upto m))) (sym tr.count)
      ∙ ap (total (times l)) (table_of tr.rows [])
      ∙ sym (times_flatten l tr.rows)
      ∙ ap (times l) (sym tr.lines_stand)

  -- ---- the columns

  pub column_pushed : (l : ℕ) → flat_map (λ u. replicate (times l (get_or tr.rows u [])) u) (part a order n)
      ≡ keep (λ u. member l (get_or tr.rows u [])) (part a order n)
  column_pushed l =
      keep-times (λ u. get_or tr.rows u []) l (part a order n) (λ u m. tr.once u l (ordered-known m))

  -- the columns read from the area are those of the rows
  pub columns-read : {us : List ℕ} → take n (drop order a) ≡ us → columns_in a n k order node_starts lines ≡ columns (λ v. get_or tr.rows v []) us k
  unfolding columns_in columns
  columns-read is =
      table_same (λ l. keep (λ v. member l (row_in a node_starts lines v)) (part a order n))
      (λ l. keep (λ v. member l (get_or tr.rows v [])) (part a order n)) k
      (λ l h. keep_members (λ v. member l (row_in a node_starts lines v)) (λ v. member l (get_or tr.rows v [])) (part a order n)
      (λ v m. ap (member l) (row_read v (ordered-known m))))
      ∙ ap (λ (us : List ℕ). columns (λ v. get_or tr.rows v []) us k) is
