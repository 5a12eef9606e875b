-- Texts put in their places one after the other, and number by number.
-- Rests on Printed, paper's `decimal` and lists.Sections.
use Prim.Native.Nat.{ℕ, zero, suc, ◌+◌, ◌*◌, ◌/◌, ◌%◌, ◌≤◌, ◌<◌}
use native.Mathlib.Numerals.{add-one}
use native.Mathlib.Omega.{arith}
use borrow.Author.Tests.{lt-ltb, le-ltb}
use mathlib.Core.Path.{◌≡◌, refl, sym, ap, ◌∙◌}
use mathlib.Core.Bool.{Bool, true, false, cond}
use mathlib.Core.List.{List, [], ◌∷◌, ◌++◌, append-nil, append_assoc, flat_map}
use lib.ListN.{length, get_or, take, drop, set, length-append}
use borrow.Rule.Slice.PartMut.{put_mid}
use Rattle.std.proofs.lemmas.Slice.{put_mid-paste}
use lib.Seq.{sets, sets-eq, take_all, take-suc}
use lib.Dec.{ltb}
use Rattle.lists.proofs.Sections.{sets-next}
use Rattle.lists.proofs.Upto.{flat_map-append}
use Rattle.lists.specs.Ascii.{ascii}
use Rattle.paper.specs.Map.{N, L}
use Rattle.paper.specs.Intervals.{Reply, Yes, No}
use Rattle.paper.specs.Refusals.{Answer, refused, answered}
use Rattle.paper.specs.Text.{newline, decimal_in, decimal, show_reply, show_refused, show_line, show_order, first_output}
use Rattle.text.specs.Printed.{Put, reply_of, first_line}

-- ---- one text after another

pub put_then : {l m k us vs : List ℕ} {at e f : ℕ} → Put l at us m e → Put m e vs k f → Put l at (us ++ vs) k f
put_then {l} {m} {k} {us} {vs} {at} p q =
    record {
      stands = q.stands ∙ ap (λ (i : ℕ). sets m i vs) p.ends ∙ sets-next l at us vs p.stands refl;
      ends = omega (arith, length-append us vs, p.ends, q.ends);
    }

-- .. of which the second is two itself
pub put_both : (vs ws : List ℕ) {l m k us : List ℕ} {at e f : ℕ} → Put l at us m e → Put m e (vs ++ ws) k f → Put l at (us ++ vs ++ ws) k f
put_both vs ws {us = us} p q = rw (append_assoc us vs ws) (put_then p q)

-- ---- a text in its place

pub put_here : (out : List ℕ) (at n : ℕ) (text : List ℕ) {written : List ℕ} → at + length text ≤ length out → n ≡ length text → written ≡ text
    → put_mid at n out written ≡ sets out at text
put_here out at n text fits e f =
    put_mid-paste at n out _ text n f refl e
    ∙ ap (λ (i : ℕ). take at out ++ take i text ++ drop (at + i) out) e
    ∙ ap (λ (t : List ℕ). take at out ++ t ++ drop (at + length text) out) (take_all (length text) text (omega arith))
    ∙ sym (sets-eq text out at fits)

-- ---- number by number: each has its text

pub text_more : (f : ℕ → List ℕ) (ns : List ℕ) (i : ℕ) {l m k : List ℕ} {at e end : ℕ} → i < length ns → Put l at (flat_map f (take i ns)) m e → Put m e (f (get_or ns i 0)) k end
    → Put l at (flat_map f (take (i + 1) ns)) k end
unfolding flat_map
text_more f ns i h p q = rw one_more (put_then p q)
  where
    one_more : flat_map f (take (i + 1) ns) ≡ flat_map f (take i ns) ++ f (get_or ns i 0)
    one_more =
        ap (λ (n : ℕ). flat_map f (take n ns)) (add-one i)
        ∙ ap (flat_map f) (take-suc ns i 0 h)
        ∙ flat_map-append f (take i ns) (get_or ns i 0 ∷ [])
        ∙ ap (λ (l : List ℕ). flat_map f (take i ns) ++ l) (append-nil (f (get_or ns i 0)))

-- ---- a number in decimal

decimal_in-short : (d n : ℕ) → length (decimal_in d n) ≤ suc d
unfolding decimal_in
decimal_in-short zero n = omega arith
decimal_in-short (suc d) n = go (ltb n 10) (decimal_in-short d (n / 10))
  where
    go : (t : Bool) → length (decimal_in d (n / 10)) ≤ suc d
        → length (cond t ((48 + n) ∷ []) (decimal_in d (n / 10) ++ ((48 + n % 10) ∷ []))) ≤ suc (suc d)
    go true h = omega arith
    go false h = omega (arith, length-append (decimal_in d (n / 10)) ((48 + n % 10) ∷ []))

pub decimal-short : (n : ℕ) → length (decimal n) ≤ 20
unfolding decimal
decimal-short n = decimal_in-short 19 n

-- the least number of more than d + 1 digits
tens : ℕ → ℕ
tens zero = 10
tens (suc d) = 10 * tens d

few_digits : (d e n : ℕ) → n < tens d → length (decimal_in e n) ≤ suc d
unfolding decimal_in tens
few_digits d zero n h = omega arith
few_digits zero (suc e) n h =
    omega (arith, ap (λ (t : Bool). length (cond t ((48 + n) ∷ []) (decimal_in e (n / 10) ++ ((48 + n % 10) ∷ [])))) (lt-ltb n 10 h))
few_digits (suc d) (suc e) n h = go (ltb n 10) (few_digits d e (n / 10) (omega arith))
  where
    go : (t : Bool) → length (decimal_in e (n / 10)) ≤ suc d
        → length (cond t ((48 + n) ∷ []) (decimal_in e (n / 10) ++ ((48 + n % 10) ∷ []))) ≤ suc (suc d)
    go true h = omega arith
    go false h = omega (arith, length-append (decimal_in e (n / 10)) ((48 + n % 10) ∷ []))

-- a word takes five digits at most
pub word-short : (n : ℕ) → n < 65536 → length (decimal n) ≤ 5
unfolding decimal tens
word-short n h = few_digits 4 19 n (omega arith)

-- room for one digit more changes nothing where there is room already
room_more : (d n : ℕ) → n < tens d → decimal_in (suc d) n ≡ decimal_in d n
unfolding decimal_in tens
room_more zero n h =
    ap (λ (t : Bool). cond t ((48 + n) ∷ []) (((48 + n / 10 % 10) ∷ []) ++ ((48 + n % 10) ∷ []))) (lt-ltb n 10 h)
    ∙ ap (λ (k : ℕ). (48 + k) ∷ []) (small h)
  where
    small : {n : ℕ} → n < 10 → n ≡ n % 10
    small h = omega arith
room_more (suc d) n h =
    ap (λ (ds : List ℕ). cond (ltb n 10) ((48 + n) ∷ []) (ds ++ ((48 + n % 10) ∷ []))) (room_more d (n / 10) (omega arith))

decimal_digit : (n : ℕ) → n < 10 → decimal n ≡ (48 + n) ∷ []
unfolding decimal decimal_in
decimal_digit n h =
    ap (λ (t : Bool). cond t ((48 + n) ∷ []) (decimal_in 18 (n / 10) ++ ((48 + n % 10) ∷ []))) (lt-ltb n 10 h)

decimal_more : (n : ℕ) → 10 ≤ n → n < 18446744073709551616 → decimal n ≡ decimal (n / 10) ++ ((48 + n % 10) ∷ [])
unfolding decimal decimal_in tens
decimal_more n h fits =
    ap (λ (t : Bool). cond t ((48 + n) ∷ []) (decimal_in 18 (n / 10) ++ ((48 + n % 10) ∷ []))) (le-ltb n 10 h)
    ∙ ap (λ (ds : List ℕ). ds ++ ((48 + n % 10) ∷ [])) (sym (room_more 18 (n / 10) (omega arith)))

-- a number of one digit put, and the last digit put after the others
pub put_digit : (out : List ℕ) (at n : ℕ) → n < 10 → Put out at (decimal n) (set out at (48 + n)) (at + 1)
put_digit out at n h =
    record {
      stands = ap (sets out at) (sym (decimal_digit n h));
      ends = omega (arith, ap length (decimal_digit n h));
    }

pub put_last : {out m : List ℕ} {at n e : ℕ} → 10 ≤ n → n < 18446744073709551616 → Put out at (decimal (n / 10)) m e
    → Put out at (decimal n) (set m e (48 + n % 10)) (e + 1)
put_last {out} {m} {at} {n} {e} h fits p =
    rw (decimal_more n h fits) (put_then p (record { stands = refl; ends = refl }))

pub decimal-room : (n : ℕ) → 10 ≤ n → n < 18446744073709551616 → length (decimal (n / 10)) < 20
decimal-room n h fits =
    omega (arith, decimal-short n, ap length (decimal_more n h fits), length-append (decimal (n / 10)) ((48 + n % 10) ∷ []))

-- ---- replies and lines

-- a reply by the test that led to it
pub reply-put : {out m : List ℕ} {at e : ℕ} {r s : Bool} → r ≡ s → Put out at (show_reply (reply_of s)) m e → Put out at (show_reply (reply_of r)) m e
reply-put q p = rw q p

-- the first line, of a map's own N and L
pub first-is : (b : List ℕ) (k : ℕ) → first_output b k ≡ first_line (N b) (L b) k
unfolding first_output first_line
first-is b k = refl

-- ---- how much room the program's texts take

pub reply-short : (r : Reply) → length (show_reply r) ≤ 3
unfolding show_reply
reply-short Yes = omega arith
reply-short No = omega arith

pub refused_short : (n p : ℕ) → length (show_refused n p) ≤ 49
unfolding show_refused
refused_short n p =
    omega (
      arith,
      decimal-short n,
      decimal-short p,
      length-append (ascii "refused " ++ decimal n ++ ascii " ") (decimal p),
      length-append (ascii "refused " ++ decimal n) (ascii " "),
      length-append (ascii "refused ") (decimal n),
    )

pub line-short : (a : Answer (Reply × ℕ)) → length (show_line a) ≤ 49
unfolding show_line
line-short (refused n p) = refused_short n p
line-short (answered r) =
    omega (
      arith,
      reply-short r.0,
      decimal-short r.1,
      length-append (show_reply r.0 ++ ascii " ") (decimal r.1),
      length-append (show_reply r.0) (ascii " "),
    )

pub order-short : (a : Answer Reply) → length (show_order a) ≤ 49
unfolding show_order
order-short (refused n p) = refused_short n p
order-short (answered r) = omega (arith, reply-short r)

pub first_short : (n l k : ℕ) → length (first_line n l k) ≤ 81
unfolding first_line
first_short n l k =
    omega (
      arith,
      decimal-short n,
      decimal-short l,
      decimal-short k,
      length-append (ascii "steps " ++ decimal n ++ ascii " links " ++ decimal l ++ ascii " lines " ++ decimal k) (newline ∷ []),
      length-append (ascii "steps " ++ decimal n ++ ascii " links " ++ decimal l ++ ascii " lines ") (decimal k),
      length-append (ascii "steps " ++ decimal n ++ ascii " links " ++ decimal l) (ascii " lines "),
      length-append (ascii "steps " ++ decimal n ++ ascii " links ") (decimal l),
      length-append (ascii "steps " ++ decimal n) (ascii " links "),
      length-append (ascii "steps ") (decimal n),
    )
