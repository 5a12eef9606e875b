-- The four steps, one after the other: what each finds ready, and that they come to the columns with their starts.
-- Rests on Reading, Counted, Rows, Held and lines_theory.Starts.
use Prim.Native.Nat.{ℕ, zero, suc, ◌+◌, ◌≤◌, ◌<◌}
use native.Mathlib.Decide.{dec_lt}
use native.Mathlib.Omega.{arith}
use native.Mathlib.Nat.{add-zero}
use mathlib.Core.Path.{◌≡◌, refl, sym, ap, ap₂, ◌∙◌, subst}
use mathlib.Core.Logic.{inl}
use mathlib.Core.List.{List, [], ◌∷◌, ◌++◌, map, flat_map, flatten, Memᴰ}
use lib.ListN.{length, get_or, take, drop, replicate, length-replicate}
use lib.Seq.{sets, take-add, drop-drop}
use Rattle.lists.specs.Lists.{keep, member, times, sum}
use Rattle.lists.specs.Weight.{total}
use Rattle.lists.proofs.Sections.{Apart, part, length_part, get_d_part, part_same, two_stored}
use Rattle.lists.proofs.Upto.{length-table, get_or-table}
use Rattle.lists.proofs.Places.{place-known}
use Rattle.lists.proofs.Once.{total_members}
use Rattle.lists.proofs.Laid.{length_flatten, length-laid}
use Rattle.paper.specs.Area.{starts}
use Rattle.lines_theory.proofs.Starts.{length-starts, starts_first, starts-next, starts-last}
use Rattle.counting_sort.specs.Sorted.{below}
use Rattle.counting_sort.proofs.Counting.{below_zero, below_suc, below_le, below_all, below_length}
use Rattle.line_lists.specs.Columns.{row_in, columns, columns_in, Transposing}
use Rattle.line_lists.specs.Pushing.{Roomy, Rowed, AllPushing, all_pushed}
use Rattle.line_lists.proofs.Pushes.{all_same}
use Rattle.line_lists.proofs.Rows.{still_rowed, same_row}
use Rattle.line_lists.proofs.Held.{Held, held_all}
use Rattle.line_lists.proofs.Reading.{row_read, row-stands, ordered-known, long-entries, entries_below, line-times, column_pushed, columns-read}
use Rattle.line_lists.proofs.Counted.{Counted, behind-first}

-- lists that stand each at its start stand together as one
gathered : (a : List ℕ) (at n : ℕ) (ls : List (List ℕ))
    → ((i : ℕ) → i < length ls → part a (at + get_or (starts n ls) i 0) (length (get_or ls i [])) ≡ get_or ls i [])
    → part a (at + n) (sum (map length ls)) ≡ flatten ls
unfolding flatten starts
gathered a at n [] h = refl
gathered a at n (l ∷ ls) h =
    take-add (length l) (sum (map length ls)) (drop (at + n) a)
    ∙ ap₂ (λ (x y : List ℕ). x ++ y) (h 0 (omega arith))
    (ap (take (sum (map length ls))) (drop-drop (length l) (at + n) a ∙ ap (λ (i : ℕ). drop i a) (over at n (length l)))
    ∙ gathered a at (n + length l) ls (λ i lt. h (suc i) (omega arith)))
  where
    over : (x y z : ℕ) → x + y + z ≡ x + (y + z)
    over x y z = omega arith

module _ {a : List ℕ} {n k entries order node_starts lines line_starts nodes : ℕ} (tr : Transposing a n k entries order node_starts lines line_starts nodes)
    {a₃ : List ℕ} (co : Counted a a₃ line_starts k (part a lines entries)) where
  us : List ℕ
  us = part a order n

  ks : List ℕ
  ks = part a lines entries

  row : ℕ → List ℕ
  row v = get_or tr.rows v []

  -- line l's nodes, as they are pushed
  pushes : ℕ → List ℕ
  pushes l = flat_map (λ u. replicate (times l (row u)) u) us

  -- ---- before the pushes

  stands : (j : ℕ) → j < line_starts → get_or a₃ j 0 ≡ get_or a j 0
  stands j h = co.rest j (inl h)

  same-order : part a₃ order n ≡ us
  unfolding us
  same-order =
      part_same a₃ a order n 0 co.long (omega (arith, tr.after-order, tr.after-starts, tr.after-lines, tr.after-line-starts, tr.room))
      (λ i h. stands (order + i) (omega (arith, tr.after-order, tr.after-starts, tr.after-lines)))

  inside : line_starts ≤ length a
  inside = omega (arith, tr.after-line-starts, tr.room)

  same_rows : (u : ℕ) → Memᴰ u us → row_in a₃ node_starts lines u ≡ row u
  unfolding us row
  same_rows u m =
      same_row (row-stands tr u (ordered-known tr m)) inside a₃ co.long stands ∙ row_read tr u (ordered-known tr m)

  -- every push has its room: a line's pushes are its entries
  same_pushes : (l : ℕ) → total (λ v. times l (row_in a₃ node_starts lines v)) (part a₃ order n) ≡ times l ks
  unfolding us ks row
  same_pushes l =
      ap (total (λ v. times l (row_in a₃ node_starts lines v))) same-order
      ∙ total_members (λ v. times l (row_in a₃ node_starts lines v)) (λ v. times l (row v)) us (λ v m. ap (times l) (same_rows v m))
      ∙ line-times tr l

  line_known : (l : ℕ) → 1 ≤ times l ks → l < k
  unfolding ks
  line_known l some = go (dec_lt l k)
    where
      go : Dec (l < k) → l < k
      go (yes h) = h
      go (no h) = absurd (omega (arith, entries_below tr l (omega arith)))

  ends-within : (l : ℕ) → below ks l + times l ks ≤ entries
  unfolding ks
  ends-within l = omega (arith, below_suc ks l, below_length ks (suc l), long-entries tr)

  pub can_push : AllPushing a₃ n order node_starts lines (line_starts + 1) nodes
  unfolding us ks
  can_push =
      record {
        ordered = tr.after-order;
        rowed = λ t h. rowed t h;
        after = omega (arith, tr.after-line-starts);
        inside = omega (arith, co.long, tr.room);
        room = λ l some. room l (omega (arith, same_pushes l));
      }
    where
      node-known : (t : ℕ) → t < n → get_or a₃ (order + t) 0 < n
      node-known t h =
          omega (
            arith,
            stands (order + t) (omega (arith, tr.after-order, tr.after-starts, tr.after-lines)),
            get_d_part a order n t 0 h,
            place-known n (part a order n) t tr.nodes-known
                (omega (arith, length_part a order n (omega (arith, tr.after-order, tr.after-starts, tr.after-lines, inside)))),
          )

      rowed : (t : ℕ) → t < n → Rowed a₃ node_starts lines (line_starts + 1) (get_or a₃ (order + t) 0)
      rowed t h =
          let r = still_rowed (row-stands tr (get_or a₃ (order + t) 0) (node-known t h)) inside a₃ co.long stands in
          record { started = r.started; rises = r.rises; ends = omega (arith, r.ends); word = r.word }

      room : (l : ℕ) → 1 ≤ times l ks
          → Roomy a₃ (line_starts + 1) nodes l (total (λ v. times l (row_in a₃ node_starts lines v)) (part a₃ order n))
      room l some =
          let l<k = line_known l some in
          record {
            before = omega (arith, tr.after-line-starts);
            fits = omega (arith, same_pushes l, co.cursor l l<k, ends-within l, co.long, tr.room);
            small = omega (arith, same_pushes l, co.cursor l l<k, ends-within l, tr.small);
          }

  -- ---- the columns and their starts

  cols : List (List ℕ)
  cols = columns (λ v. get_or tr.rows v []) (part a order n) k

  many : length cols ≡ k
  unfolding cols columns
  many = length-table (λ l. keep (λ v. member l (get_or tr.rows v [])) (part a order n)) k

  column_is : (l : ℕ) → l < k → get_or cols l [] ≡ pushes l
  unfolding cols columns us row pushes
  column_is l h =
      get_or-table (λ r. keep (λ v. member r (get_or tr.rows v [])) (part a order n)) k l [] h ∙ sym (column_pushed tr l)

  long_pushes : (l : ℕ) → length (pushes l) ≡ times l ks
  unfolding us ks row pushes
  long_pushes l =
      length-laid (λ u. replicate (times l (row u)) u) (λ u. times l (row u)) (λ u. length-replicate (times l (row u)) u) us ∙ line-times tr l

  long_column : (l : ℕ) → l < k → length (get_or cols l []) ≡ times l ks
  long_column l h = ap length (column_is l h) ∙ long_pushes l

  start_is : (l : ℕ) → l ≤ k → get_or (starts 0 cols) l 0 ≡ below ks l
  start_is zero h = starts_first 0 cols ∙ sym (below_zero ks)
  start_is (suc l) h =
      omega
      (arith, starts-next 0 cols l (omega (arith, many)), start_is l (omega arith), long_column l h, below_suc ks l)

  last : below ks k ≡ entries
  unfolding ks
  last = below_all ks k (λ e h. place-known k ks e (entries_below tr) h) ∙ long-entries tr

  whole : sum (map length cols) ≡ entries
  whole =
      omega (arith, starts-last 0 cols, ap (λ (l : ℕ). get_or (starts 0 cols) l 0) many, start_is k (omega arith), last)

  -- ---- after the pushes

  none-pushed : Held a₃ a₃ (line_starts + 1) k nodes (below ks) (λ l. [])
  unfolding ks
  none-pushed =
      record {
        long = refl;
        cursor = λ l h. co.cursor l h ∙ sym (add-zero (below ks l));
        listed = λ l h. refl;
        rest = λ j far away. refl;
      }

  module _ {a₄ : List ℕ} (e₄ : a₄ ≡ all_pushed a₃ (line_starts + 1) nodes (row_in a₃ node_starts lines) (part a₃ order n)) where
    all-pushed : a₄ ≡ all_pushed a₃ (line_starts + 1) nodes row us
    all-pushed =
        e₄ ∙ ap (all_pushed a₃ (line_starts + 1) nodes (row_in a₃ node_starts lines)) same-order
        ∙ all_same (line_starts + 1) nodes (row_in a₃ node_starts lines) row a₃ us same_rows

    held : Held a₃ a₄ (line_starts + 1) k nodes (below ks) pushes
    unfolding us ks row pushes
    held =
        subst (λ (m : List ℕ). Held a₃ m (line_starts + 1) k nodes (below ks) pushes) (sym all-pushed)
        (held_all (below_le ks) (omega (arith, tr.after-line-starts)) (omega (arith, last, co.long, tr.room)) none-pushed row us
        (λ u m. tr.known u (ordered-known tr m)) (λ l h. omega (arith, below_suc ks l, line-times tr l)))

    first_word : (i : ℕ) → i < length (starts 0 cols) → get_or a₄ (line_starts + i) 0 ≡ get_or (starts 0 cols) i 0
    first_word zero h =
        ap (λ (j : ℕ). get_or a₄ j 0) (add-zero line_starts)
        ∙ held.rest line_starts (inl (omega arith)) (inl (omega (arith, tr.after-line-starts)))
        ∙ co.nought
        ∙ sym (starts_first 0 cols)
    first_word (suc l) h =
        ap (λ (j : ℕ). get_or a₄ j 0) (over line_starts l) ∙ held.cursor l l<k
        ∙ ap (λ (m : ℕ). below ks l + m) (long_pushes l)
        ∙ sym (below_suc ks l)
        ∙ sym (start_is (suc l) l<k)
      where
        over : (m l : ℕ) → m + suc l ≡ m + 1 + l
        over m l = omega arith

        l<k : l < k
        l<k = omega (arith, length-starts 0 cols, many)

    gathered-nodes : part a₄ nodes entries ≡ flatten cols
    gathered-nodes =
        ap₂ (λ (i m : ℕ). part a₄ i m) (sym (add-zero nodes)) (sym whole)
        ∙ gathered a₄ nodes 0 cols (λ l h. at l (omega (arith, many)))
      where
        at : (l : ℕ) → l < k → part a₄ (nodes + get_or (starts 0 cols) l 0) (length (get_or cols l [])) ≡ get_or cols l []
        at l h =
            ap₂ (λ (i : ℕ) (x : List ℕ). part a₄ (nodes + i) (length x)) (start_is l (omega arith)) (column_is l h)
            ∙ held.listed l h
            ∙ sym (column_is l h)

    stands_else : (j : ℕ) → Apart j line_starts (k + 1) → Apart j nodes entries → get_or a₄ j 0 ≡ get_or a j 0
    stands_else j far away =
        held.rest j (behind-first j line_starts k far) (subst (Apart j nodes) (sym last) away) ∙ co.rest j far

    laid_as : a₄ ≡ sets (sets a line_starts (starts 0 cols)) nodes (flatten cols)
    laid_as =
        two_stored a₄ a line_starts (starts 0 cols) nodes (flatten cols) 0 (held.long ∙ co.long) (omega (arith, long-starts, tr.after-line-starts))
        (omega (arith, long-nodes, tr.room)) first_word
        (λ i h. sym (get_d_part a₄ nodes entries i 0 (omega (arith, long-nodes))) ∙ ap (λ (x : List ℕ). get_or x i 0) gathered-nodes)
        (λ j far away. stands_else j (subst (Apart j line_starts) long-starts far) (subst (Apart j nodes) long-nodes away))
      where
        long-starts : length (starts 0 cols) ≡ k + 1
        long-starts = omega (arith, length-starts 0 cols, many)

        long-nodes : length (flatten cols) ≡ entries
        long-nodes = length_flatten cols ∙ whole

    pub transposed : a₄ ≡ sets (sets a line_starts (starts 0 (columns_in a n k order node_starts lines))) nodes (flatten (columns_in a n k order node_starts lines))
    unfolding cols
    transposed =
        laid_as ∙ ap (λ (x : List (List ℕ)). sets (sets a line_starts (starts 0 x)) nodes (flatten x)) (sym (columns-read tr refl))
