-- What each call leaves of a whole area, by what it leaves of the words that cross; and which bytes are read and put back.
-- Rests on Cut and on words.
use Prim.Native.Nat.{ℕ, ◌/◌, ◌≤◌, ◌<◌}
use native.Mathlib.Decide.{dec_lt}
use native.Mathlib.Omega.{arith}
use mathlib.Core.Path.{◌≡◌, refl, sym, ap, ◌∙◌}
use mathlib.Core.List.{List, ◌++◌}
use lib.ListN.{length, take, drop, replicate, length-take, drop_of_length-le}
use lib.Seq.{sets, length-sets, take_all}
use Rattle.paper.specs.Area.{Section, size, start, W, cleared, prepared, scratch_cleared, written}
use Rattle.paper.specs.Refusals.{Ruling, passed, refusal, on_refusal, decide}
use Rattle.paper.specs.Calls.{
  Left,
  LeftWith,
  untouched,
  unprepared,
  area_after,
  call,
  call_into,
  prepare,
  is_node_convex,
  topo_is_node_convex,
  is_convex,
  topo_is_convex,
  get_intervals_from_nodes,
  is_convex_by_intervals,
  try_extend_intervals,
  nodes_in_intervals,
  show_path,
  lines_at_port,
}
use Rattle.paper.specs.Words.{words_from, put_words}
use Rattle.words.proofs.Turns.{length-words_from}
use Rattle.words.proofs.RoundTrip.{Below}
use Rattle.words.proofs.Buffers.{put_longer, take_words}
use Rattle.crossing.proofs.Cut.{cut, rest, outcomes_cut, after-cut, prepared-cut}

pub record Crosses {A : Type 0} (a : List ℕ) (whole part : Left A) : Type 0 where
  pub answers : part.answer ≡ whole.answer
  pub areas : whole.area ≡ part.area ++ rest a
  pub long : length part.area ≡ length (cut a)

-- a call that writes a buffer, as far as its answer and the area go
abbrev pub in_area : {A : Type 0} → LeftWith A → Left A
in_area left = record { answer = left.answer; area = left.area }

pub record CrossesWith {A : Type 0} (a : List ℕ) (whole part : LeftWith A) : Type 0 where
  pub inside : Crosses a (in_area whole) (in_area part)
  pub buffers : part.buffer ≡ whole.buffer

-- ---- no call changes how many words there are

kept-long : (u : Ruling) (a m : List ℕ) → length m ≡ length a → length (on_refusal u a m) ≡ length a
unfolding on_refusal
kept-long passed a m e = e
kept-long (refusal n p) a m e = refl

after-long : (b a : List ℕ) → length (area_after b a) ≡ length a
unfolding area_after scratch_cleared
after-long b a =
    kept-long (decide (untouched b a)) a (scratch_cleared b a) (length-sets a (start b Section.scratch) (replicate (size b Section.scratch) 0))

prepared-long : (b a : List ℕ) → length (prepare b a).area ≡ length a
unfolding prepare cleared prepared on_refusal
prepared-long b a = kept-long (decide (untouched b a)) a _ (go (decide (unprepared b)))
  where
    go : (u : Ruling) → length (on_refusal u (cleared b a) (prepared b a)) ≡ length a
    go passed = length-sets a 0 (written b)
    go (refusal n p) = length-sets a 0 (replicate (W b) 0)

-- ---- every call

module _ (b a : List ℕ) where
  pub prepare_crosses : Crosses a (prepare b a) (prepare b (cut a))
  prepare_crosses = record { answers = sym (outcomes_cut b a).preparing; areas = prepared-cut b a; long = prepared-long b (cut a) }

  pub line_crosses : (list : List ℕ) → Crosses a (is_node_convex b a list) (is_node_convex b (cut a) list)
  unfolding is_node_convex call
  line_crosses list = record { answers = sym ((outcomes_cut b a).line_check list); areas = after-cut b a; long = after-long b (cut a) }

  pub line-ports_cross : (list inputs outputs : List ℕ) → Crosses a (is_convex b a list inputs outputs) (is_convex b (cut a) list inputs outputs)
  unfolding is_convex call
  line-ports_cross list inputs outputs =
      record { answers = sym ((outcomes_cut b a).line_check_with_ports list inputs outputs); areas = after-cut b a; long = after-long b (cut a) }

  pub order_crosses : (list : List ℕ) → Crosses a (topo_is_node_convex b a list) (topo_is_node_convex b (cut a) list)
  unfolding topo_is_node_convex call
  order_crosses list = record { answers = sym ((outcomes_cut b a).order_check list); areas = after-cut b a; long = after-long b (cut a) }

  pub order-ports_cross : (list inputs outputs : List ℕ)
      → Crosses a (topo_is_convex b a list inputs outputs) (topo_is_convex b (cut a) list inputs outputs)
  unfolding topo_is_convex call
  order-ports_cross list inputs outputs =
      record { answers = sym ((outcomes_cut b a).order_check_with_ports list inputs outputs); areas = after-cut b a; long = after-long b (cut a) }

  pub records_cross : (words : List ℕ) (n : ℕ) → Crosses a (is_convex_by_intervals b a words n) (is_convex_by_intervals b (cut a) words n)
  unfolding is_convex_by_intervals call
  records_cross words n =
      record { answers = sym ((outcomes_cut b a).check_by_records words n); areas = after-cut b a; long = after-long b (cut a) }

  pub port_crosses : (p : ℕ) → Crosses a (lines_at_port b a p) (lines_at_port b (cut a) p)
  unfolding lines_at_port call
  port_crosses p = record { answers = sym ((outcomes_cut b a).lines_at_one p); areas = after-cut b a; long = after-long b (cut a) }

  pub intervals_cross : (list buffer : List ℕ) → CrossesWith a (get_intervals_from_nodes b a list buffer) (get_intervals_from_nodes b (cut a) list buffer)
  unfolding get_intervals_from_nodes call_into
  intervals_cross list buffer =
      let same = (outcomes_cut b a).intervals list buffer in
      record { inside = record { answers = sym same.0; areas = after-cut b a; long = after-long b (cut a) }; buffers = sym same.1 }

  pub extension_crosses : (words : List ℕ) (n v : ℕ) → CrossesWith a (try_extend_intervals b a words n v) (try_extend_intervals b (cut a) words n v)
  unfolding try_extend_intervals call_into
  extension_crosses words n v =
      let same = (outcomes_cut b a).extending words n v in
      record { inside = record { answers = sym same.0; areas = after-cut b a; long = after-long b (cut a) }; buffers = sym same.1 }

  pub nodes_cross : (words : List ℕ) (n : ℕ) (buffer : List ℕ)
      → CrossesWith a (nodes_in_intervals b a words n buffer) (nodes_in_intervals b (cut a) words n buffer)
  unfolding nodes_in_intervals call_into
  nodes_cross words n buffer =
      let same = (outcomes_cut b a).nodes_in_records words n buffer in
      record { inside = record { answers = sym same.0; areas = after-cut b a; long = after-long b (cut a) }; buffers = sym same.1 }

  pub path_crosses : (list buffer : List ℕ) → CrossesWith a (show_path b a list buffer) (show_path b (cut a) list buffer)
  unfolding show_path call_into
  path_crosses list buffer =
      let same = (outcomes_cut b a).path_shown list buffer in
      record { inside = record { answers = sym same.0; areas = after-cut b a; long = after-long b (cut a) }; buffers = sym same.1 }

-- ---- the bytes

-- what is read of them
module _ {m : List ℕ} (room bytes : List ℕ) where
  pub read_first : m ≡ sets room 0 (words_from (take 63502 bytes)) → m ≡ sets room 0 (cut (words_from bytes))
  read_first e = e ∙ ap (sets room 0) (sym (take_words 31751 bytes))

  pub read_all : length bytes / 2 ≤ 31751 → m ≡ sets room 0 (words_from bytes) → m ≡ sets room 0 (cut (words_from bytes))
  read_all few e = e ∙ ap (sets room 0) (sym (take_all 31751 (words_from bytes) (omega (arith, length-words_from bytes))))

-- putting back the words that crossed is putting back all
pub put_back : (bytes m whole : List ℕ) → Below 256 bytes → whole ≡ m ++ rest (words_from bytes) → length m ≡ length (cut (words_from bytes))
    → put_words bytes m ≡ put_words bytes whole
put_back bytes m whole below e long =
    sym
    (ap (put_words bytes) (e ∙ ap (λ (r : List ℕ). m ++ r) (stays (dec_lt 31751 (length a))))
    ∙ put_longer bytes m below (omega (arith, long, length-take 31751 a, length-words_from bytes)))
  where
    a : List ℕ
    a = words_from bytes

    stays : Dec (31751 < length a) → rest a ≡ drop (length m) a
    stays (yes h) = let all : 31751 ≡ length m = omega (arith, long, length-take 31751 a) in ap (λ (n : ℕ). drop n a) all
    stays (no h) =
        drop_of_length-le a {i = 31751} (omega arith)
        ∙ sym (drop_of_length-le a {i = length m} (omega (arith, long, length-take 31751 a)))
