-- The line of output for a line of input: a bad text's refusal, or what is said of its list; and what `ask` says.
-- Rests on Areas, text's Printed and paper's `say_line`.
use Prim.Native.Nat.{ℕ, ◌≤◌, ◌<◌}
use native.Mathlib.Omega.{arith}
use mathlib.Core.Path.{◌≡◌, sym, ap, ap₂, ◌∙◌}
use mathlib.Core.List.{List, [], ◌∷◌, ◌++◌}
use lib.ListN.{length, take}
use lib.Seq.{length-sets}
use Rattle.paper.specs.Intervals.{Reply}
use Rattle.paper.specs.Refusals.{Answer}
use Rattle.paper.specs.Calls.{is_node_convex, topo_is_node_convex}
use Rattle.paper.specs.Text.{newline, Read, list, bad, read_list, show_refused, say_line, ask_says}
use Rattle.text.specs.Printed.{Put}
use Rattle.std.proofs.Common.{Option, None, Some}
use Rattle.text.specs.Lists.{read_said, how_many, ReadInto}
use Rattle.text.proofs.Printed.{put_then}
use Rattle.wording.specs.Shown.{both_checks}
use Rattle.wording.proofs.Texts.{put_as, refused_line-short, both_short}
use Rattle.asking.specs.Standing.{prepared_area, Standing}
use Rattle.asking.specs.Says.{Says}
use Rattle.asking.specs.Printed.{Shown, Printed}
use Rattle.asking.proofs.Areas.{line_asked, order_asked}

-- a text put by another name, and its place in the lent bytes
pub shown_as : {l m us vs : List ℕ} {e : ℕ} → us ≡ vs → Put l 0 vs m e → length vs ≤ length l → Shown us l m e
shown_as {l} {m} {us} {vs} q p short =
    record { put = put_as q p; within = omega (arith, p.ends, ap length p.stands, length-sets l 0 vs) }

pub printed_as : {b a us vs l m : List ℕ} {e : ℕ} → us ≡ vs → Printed b a vs l m e → Printed b a us l m e
printed_as q p = rw q p

-- ---- the checks and the reader

-- both checks, one after the other
pub both_asked : (b a ns : List ℕ) {m o before after : List ℕ} {x : Answer (Reply × ℕ)} {y : Answer Reply} {end : ℕ} → Standing b a
    → record { answer = x; area = m } ≡ is_node_convex b a ns
    → record { answer = y; area = o } ≡ topo_is_node_convex b m ns
    → Put before 0 (both_checks x y) after end
    → 110 ≤ length before
    → Printed b o (ask_says b (prepared_area b) ns) before after end
unfolding ask_says both_checks
both_asked b a ns {x = x} {y = y} standing line order put room =
    let first = line_asked standing ns line in
    let second = order_asked first.1 ns order in
    record { shown = shown_as (sym (ap₂ both_checks first.0 second.0)) put (omega (arith, both_short x y)); standing = second.1 }

-- the newline after what is said of a list
pub then_newline : {b a text before middle after : List ℕ} {end last : ℕ} → Printed b a text before middle end → Put middle end (newline ∷ []) after last → end < length middle
    → Printed b a (text ++ (newline ∷ [])) before after last
then_newline {middle = middle} {end = end} printed put room =
    record {
      shown =
          record {
            put = put_then printed.shown.put put;
            within = omega (arith, put.ends, ap length put.stands, length-sets middle end (newline ∷ []));
          };
      standing = printed.standing;
    }

module _ (says : Says) {b a before after : List ℕ} (i : ℕ) {end : ℕ} where
  -- "A bad text line prints `refused 15` and its line number from 0, and the program goes on."
  pub bad_text : {r : Read} → Standing b a → bad ≡ r → Put before 0 (show_refused 15 i ++ (newline ∷ [])) after end → 50 ≤ length before
      → Printed b a (say_line says b (prepared_area b) i r) before after end
  unfolding say_line
  bad_text standing e put room =
      record { shown = shown_as (sym (ap (say_line says b (prepared_area b) i) e)) put (omega (arith, refused_line-short 15 i)); standing = standing }

  pub good_text : {ns : List ℕ} {r : Read} → list ns ≡ r → Printed b a (says b (prepared_area b) ns ++ (newline ∷ [])) before after end
      → Printed b a (say_line says b (prepared_area b) i r) before after end
  unfolding say_line
  good_text e printed = printed_as (sym (ap (say_line says b (prepared_area b) i) e)) printed

-- what the reader answered of the line

module _ {line before after : List ℕ} {r : Option ℕ} (read : ReadInto line before after r) where
  pub read_bad : r ≡ None → bad ≡ read_list line
  read_bad e = ap (λ (s : Option ℕ). read_said s after) (sym e) ∙ read.said

  module _ {count : ℕ} (e : r ≡ Some count) where
    -- .. the words up to the count
    pub read-good : list (take count after) ≡ read_list line
    read-good = ap (λ (s : Option ℕ). read_said s after) (sym e) ∙ read.said

    pub read-few : count ≤ length after
    read-few = omega (arith, ap how_many e, read.within)
