-- A list's path stands in a room for the longest one, and from there its steps go into the bytes if they fit.
-- Rests on path_theory's Bounds, convexity_theory's Rules, and line_checker's Out.
use Prim.Native.Nat.{ℕ, ◌/◌, ◌≤◌, ◌<◌}
use native.Mathlib.Omega.{arith}
use mathlib.Core.Path.{◌≡◌, refl, sym, ap, ◌∙◌, subst}
use mathlib.Core.List.{List, [], ◌∷◌, ◌++◌}
use lib.ListN.{length, take}
use lib.Seq.{sets}
use Rattle.lists.proofs.Sections.{part-sets_in}
use Rattle.paper.specs.Calls.{line_rules}
use Rattle.paper.specs.Path.{Path, path, no_path, Shown, steps, no_steps, back_path, steps_of, shown_of}
use Rattle.paper.specs.Refusals.{Ruling, passed, refusal, rule8, rule9, rule10, rule11, Answer, answered, answer, refused, decide, on_refusal}
use Rattle.paper.specs.Words.{words_from, put_words}
use Rattle.convexity_theory.proofs.trust.Rules.{rule9_passes}
use Rattle.path_theory.proofs.levels.Bounds.{back-path-room}
use Rattle.refusals.proofs.Rulings.{no_refusal, head_passed, first_decides, then_decides}
use Rattle.words.proofs.RoundTrip.{Below}
use Rattle.words.proofs.Turns.{length-words_from}
use Rattle.tables.specs.declared.Layout.{Layout}
use Rattle.tables.specs.Answered.{AnsweredInto, AnsweredBytes}
use Rattle.tables.specs.Usable.{Usable}
use Rattle.take_in.proofs.Into.{short_enough}
use Rattle.line_checker.specs.InRoom.{InRoom}
use Rattle.line_checker.proofs.Out.{answer-told, none_out, long-out, fit-out, bytes-kept, bytes-put, cut_fits}
use Rattle.line_checker.proofs.Records.{begun_long}

-- ---- in the room

-- a path of known nodes has at most one step more than the map has nodes
short-path : {b a : List ℕ} {at : Layout} → Usable b a at → (list : List ℕ) → passed ≡ decide (line_rules b list)
    → length (steps_of (back_path b list)) ≤ 513
unfolding steps_of line_rules
short-path {b} usable list fine = go (back_path b list) refl
  where
    known : rule9 b list ≡ passed
    known = sym (head_passed (rule9 b list) (rule10 list ∷ []) (head_passed (rule8 (length list)) (rule9 b list ∷ rule10 list ∷ []) fine).1).0

    go : (f : Path) → back_path b list ≡ f → length (steps_of f) ≤ 513
    go (path vs) e = omega (arith, back-path-room b list ((rule9_passes b list).0 known) e, usable.read.nodes, usable.read.few-nodes)
    go no_path e = omega arith

-- so 11 does not refuse it there
pub path_in : {b a : List ℕ} {at : Layout} → Usable b a at → (list : List ℕ) {x : Answer Shown} {m room after : List ℕ} → length room ≡ 513
    → AnsweredInto at a m x (line_rules b list ++ (rule11 (length room) (length (steps_of (back_path b list))) ∷ [])) (shown_of (back_path b list)) room after
    (steps_of (back_path b list))
    → InRoom shown_of steps_of at a m x (line_rules b list) (back_path b list) after
unfolding on_refusal
path_in {b} {a} usable list {x} {room = room} {after} long got =
    record {
      says = got.says ∙ ap (λ (u : Ruling). answer u (shown_of (back_path b list))) (so (decide (line_rules b list)) refl);
      kept = got.kept;
      written = stands;
    }
  where
    found : List ℕ
    found = steps_of (back_path b list)

    fits : passed ≡ decide (line_rules b list) → passed ≡ decide (rule11 (length room) (length found) ∷ [])
    fits fine = short_enough (length room) (length found) (omega (arith, long, short-path usable list fine))

    so : (u : Ruling) → decide (line_rules b list) ≡ u → decide (line_rules b list ++ (rule11 (length room) (length found) ∷ [])) ≡ decide (line_rules b list)
    so passed e = then_decides (line_rules b list) _ (sym e) ∙ sym (fits (sym e)) ∙ sym e
    so (refusal n v) e = first_decides (line_rules b list) _ (λ f. no_refusal (sym f ∙ e))

    stands : passed ≡ decide (line_rules b list) → take (length found) after ≡ found
    stands fine =
        ap (take (length found))
        (got.written ∙ ap (λ (u : Ruling). on_refusal u room (sets room 0 found)) (so (decide (line_rules b list)) refl ∙ sym fine))
        ∙ part-sets_in room 0 found 0 (omega (arith, long, short-path usable list fine))

-- ---- into the bytes

-- no path is none of any steps
pub never_steps : (k : ℕ) → answered no_steps ≡ answered (steps k) → ⊥
never_steps k e = let z : ◌≡◌ {A = ℕ} 0 1 = cc in omega arith

-- what is no path leaves the bytes as they stand
module _ {at : Layout} {a m : List ℕ} {x : Answer Shown} {rules : List Ruling} {found : Path} {room : List ℕ}
    (got : InRoom shown_of steps_of at a m x rules found room) (bytes : List ℕ) (small : Below 256 bytes) where
  pub no_path_lem : ((k : ℕ) → x ≡ answered (steps k) → ⊥)
      → AnsweredBytes at a m x (rules ++ (rule11 (length (words_from bytes)) (length (steps_of found)) ∷ [])) (shown_of found) bytes bytes (steps_of found)
  unfolding answer shown_of steps_of
  no_path_lem none =
      bytes-kept small
      (none_out got (length (words_from bytes)) (length (steps_of found)) (words_from bytes)
      (λ fine. go found (got.says ∙ ap (λ (u : Ruling). answer u (shown_of found)) (sym fine))))
    where
      go : (f : Path) → x ≡ answered (shown_of f) → (steps_of f ≡ []) × (length (steps_of f) ≡ 0)
      go (path vs) e = absurd (none (length vs) e)
      go no_path e = (refl, refl)

-- a path of k steps
module _ {at : Layout} {a m : List ℕ} {k : ℕ} {rules : List Ruling} {found : Path} {room : List ℕ}
    (got : InRoom shown_of steps_of at a m (answered (steps k)) rules found room) where
  so : (passed ≡ decide rules) × (k ≡ length (steps_of found))
  unfolding shown_of steps_of
  so = let told = answer-told (decide rules) got.says in (told.0, many found told.1)
    where
      counted : Shown → ℕ
      counted (steps i) = i
      counted no_steps = 0

      many : (f : Path) → steps k ≡ shown_of f → k ≡ length (steps_of f)
      many (path vs) q = ap counted q
      many no_path q = ap counted q

  pub path_inside : k ≤ length room
  path_inside = omega (arith, so.1, begun_long room (steps_of found) (got.written so.0))

  module _ (bytes : List ℕ) (small : Below 256 bytes) where
    pub path-long : length bytes / 2 < k
        → AnsweredBytes at a m (refused 11 k) (rules ++ (rule11 (length (words_from bytes)) (length (steps_of found)) ∷ [])) (shown_of found) bytes bytes
        (steps_of found)
    path-long h =
        bytes-kept small
        (subst
        (λ (i : ℕ). AnsweredInto at a m (refused 11 i) (rules ++ (rule11 (length (words_from bytes)) (length (steps_of found)) ∷ [])) (shown_of found)
        (words_from bytes) (words_from bytes) (steps_of found))
        (sym so.1)
        (long-out got (length (words_from bytes)) (length (steps_of found)) (words_from bytes) so.0 (omega (arith, so.1, length-words_from bytes))))

    pub path-put : k ≤ length bytes / 2 → {after : List ℕ} → after ≡ put_words bytes (take k room)
        → AnsweredBytes at a m (answered (steps k)) (rules ++ (rule11 (length (words_from bytes)) (length (steps_of found)) ∷ [])) (shown_of found) bytes after
        (steps_of found)
    path-put h f =
        bytes-put small (take k room)
        (fit-out got (length (words_from bytes)) (length (steps_of found)) (words_from bytes) so.0 (omega (arith, so.1, length-words_from bytes))
        (ap (λ (i : ℕ). sets (words_from bytes) 0 (take i room)) so.1))
        (cut_fits bytes room k (omega arith)) f
