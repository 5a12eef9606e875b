-- A question that was asked: the line's rest against the call's answer; and a line too short for its question, which is never right.
-- Rests on Same, Parts and Answers.
use Prim.Native.Nat.{ℕ, ◌+◌, ◌-◌, ◌≤◌, ◌<◌}
use native.Mathlib.Omega.{arith}
use mathlib.Core.Path.{◌≡◌, sym, subst, ap, ◌∙◌}
use mathlib.Core.Bool.{Bool, true, false, ◌&&◌, and-false}
use mathlib.Core.List.{List, ◌∷◌, ◌++◌}
use lib.ListN.{length, get_or, take, drop, length-drop, drop_of_length-le}
use lib.Seq.{sets, sets-eq, take_all, take-append_seam, length-take-le}
use lib.Dec.{leb}
use borrow.Author.Tests.{lt-leb, le-leb}
use Rattle.std.proofs.Common.{Option, None, Some}
use Rattle.lists.specs.Lists.{one, same}
use Rattle.paper.specs.Refusals.{Answer}
use Rattle.paper.specs.Intervals.{Reply}
use Rattle.paper.specs.Calls.{Left, LeftWith, Written, area_after, call, lines_at_port, view_of_port}
use Rattle.paper.specs.Exports.{Told}
use Rattle.recorded.specs.Parts.{ListAt, list_at, behind}
use Rattle.recorded.specs.Answers.{told_words, line_words, order_words, written_words, count_words, pair_words, with_list}
use Rattle.recorded.specs.Questions.{same_port_lines}
use Rattle.recorded.specs.declared.line_parts.Part.{Part}

-- what is never true asks nothing
pub not-true : {A : Type 0} → false ≡ true → A
not-true e = let impossible : ◌≡◌ {A = ℕ} 0 1 = ap one e in absurd (omega arith)

-- ---- past the line's end there is no answer

past : (line : List ℕ) (at x : ℕ) (xs : List ℕ) → length line ≤ at → false ≡ same (drop at line) (x ∷ xs)
past line at x xs h = sym (ap (λ (r : List ℕ). same r (x ∷ xs)) (drop_of_length-le line h))

module _ (line : List ℕ) (at : ℕ) where
  past_told : (t : Told) → length line ≤ at → false ≡ same (drop at line) (told_words t)
  unfolding told_words
  past_told t h = past line at _ _ h

  past_list : (t : Told) (list : List ℕ) → length line ≤ at → false ≡ same (drop at line) (with_list (told_words t) list)
  unfolding told_words with_list
  past_list t list h = past line at _ _ h

  pub no_count : (x : Answer ℕ) → length line ≤ at → false ≡ same (drop at line) (count_words x)
  unfolding count_words
  no_count x h = past_told _ h

  pub no_line : (x : Answer (Reply × ℕ)) → length line ≤ at → false ≡ same (drop at line) (line_words x)
  unfolding line_words
  no_line x h = past_told _ h

  pub no_order : (x : Answer Reply) → length line ≤ at → false ≡ same (drop at line) (order_words x)
  unfolding order_words
  no_order x h = past_told _ h

  pub no_records : (x : Answer Written) (list : List ℕ) → length line ≤ at → false ≡ same (drop at line) (with_list (written_words x) list)
  unfolding written_words
  no_records x list h = past_list _ list h

  pub no_nodes : (x : Answer ℕ) (list : List ℕ) → length line ≤ at → false ≡ same (drop at line) (with_list (count_words x) list)
  unfolding count_words
  no_nodes x list h = past_list _ list h

  pub no_lines : (x : Answer (ℕ × ℕ)) (list : List ℕ) → length line ≤ at → false ≡ same (drop at line) (with_list (pair_words x) list)
  unfolding pair_words
  no_lines x list h = past_list _ list h

-- ---- the parts of a question

-- a list's part of the line is the list
pub as_list : (line : List ℕ) (at : ℕ) {answer : Option Part} {part : Part} → ListAt answer line at → answer ≡ Some part
    → take (part.to - part.from) (drop part.from line) ≡ list_at line at
unfolding ListAt list_at
as_list line at {answer} {part} h e =
    let found : ListAt (Some part) line at = subst (λ (p : Option Part). ListAt p line at) e h in
    let size : part.to - part.from ≡ get_or line at 0 = omega (arith, found.0, found.1) in
    ap (λ (n : ℕ). take n (drop part.from line)) size ∙ ap (λ (n : ℕ). take (get_or line at 0) (drop n line)) found.0

-- .. and ends where it ends
pub ends : (line : List ℕ) (at : ℕ) {answer : Option Part} {part : Part} → ListAt answer line at → answer ≡ Some part → part.to ≡ behind line at
unfolding ListAt
ends line at {answer} {part} h e = (subst (λ (p : Option Part). ListAt p line at) e h).1

pub lacks : (line : List ℕ) (at : ℕ) {answer : Option Part} → ListAt answer line at → answer ≡ None → length line < behind line at
unfolding ListAt
lacks line at h e = subst (λ (p : Option Part). ListAt p line at) e h

-- ---- the answer is the call's

module _ {A : Type 0} (line : List ℕ) (said : Answer A → List ℕ) where
  pub asked : {at at' : ℕ} {x y : Left A} {r : Bool} → x ≡ y → r ≡ same (drop at line) (said x.answer) → at ≡ at'
      → r ≡ same (drop at' line) (said y.answer)
  asked {at} {at'} {x} {y} e f p =
      f ∙ ap (λ (n : ℕ). same (drop n line) (said x.answer)) p ∙ ap (λ (l : Left A). same (drop at' line) (said l.answer)) e

  pub asked_with : {at at' : ℕ} {x y : LeftWith A} {r : Bool} → x ≡ y → r ≡ same (drop at line) (with_list (said x.answer) x.buffer) → at ≡ at'
      → r ≡ same (drop at' line) (with_list (said y.answer) y.buffer)
  asked_with {at} {at'} {x} {y} e f p =
      f ∙ ap (λ (n : ℕ). same (drop n line) (with_list (said x.answer) x.buffer)) p
      ∙ ap (λ (l : LeftWith A). same (drop at' line) (with_list (said l.answer) l.buffer)) e

-- ---- questions of one list, of two and of three, each behind the other

module _ (line : List ℕ) (at : ℕ) {o₁ : Option Part} {p₁ : Part} (h₁ : ListAt o₁ line at) (q₁ : o₁ ≡ Some p₁) where
  pub one_list : {A : Type 0} (said : Answer A → List ℕ) (ask : List ℕ → Left A) {left : Left A} {r : Bool}
      → left ≡ ask (take (p₁.to - p₁.from) (drop p₁.from line)) → r ≡ same (drop p₁.to line) (said left.answer)
      → r ≡ same (drop (behind line at) line) (said (ask (list_at line at)).answer)
  one_list said ask e f = asked line said (e ∙ ap ask (as_list line at h₁ q₁)) f (ends line at h₁ q₁)

  pub lacks_second : {o₂ : Option Part} → ListAt o₂ line p₁.to → o₂ ≡ None → length line < behind line (behind line at)
  lacks_second h₂ q₂ =
      subst (λ (n : ℕ). length line < behind line n) (ends line at h₁ q₁) (lacks line p₁.to h₂ q₂)

  module _ {o₂ : Option Part} {p₂ : Part} (h₂ : ListAt o₂ line p₁.to) (q₂ : o₂ ≡ Some p₂) where
    pub second : take (p₂.to - p₂.from) (drop p₂.from line) ≡ list_at line (behind line at)
    second = as_list line p₁.to h₂ q₂ ∙ ap (list_at line) (ends line at h₁ q₁)

    pub second-ends : p₂.to ≡ behind line (behind line at)
    second-ends = ends line p₁.to h₂ q₂ ∙ ap (λ (n : ℕ). behind line n) (ends line at h₁ q₁)

    pub lacks_third : {o₃ : Option Part} → ListAt o₃ line p₂.to → o₃ ≡ None → length line < behind line (behind line (behind line at))
    lacks_third h₃ q₃ = subst (λ (n : ℕ). length line < behind line n) second-ends (lacks line p₂.to h₃ q₃)

    pub three_lists : {A : Type 0} (said : Answer A → List ℕ) (ask : List ℕ → List ℕ → List ℕ → Left A) {o₃ : Option Part} {p₃ : Part} {left : Left A} {r : Bool}
        → ListAt o₃ line p₂.to → o₃ ≡ Some p₃
        → left ≡ ask (take (p₁.to - p₁.from) (drop p₁.from line)) (take (p₂.to - p₂.from) (drop p₂.from line)) (take (p₃.to - p₃.from) (drop p₃.from line))
        → r ≡ same (drop p₃.to line) (said left.answer)
        → r
        ≡ same (drop (behind line (behind line (behind line at))) line)
        (said (ask (list_at line at) (list_at line (behind line at)) (list_at line (behind line (behind line at)))).answer)
    three_lists {A} said ask {o₃} {p₃} h₃ q₃ e f =
        let third = as_list line p₂.to h₃ q₃ ∙ ap (list_at line) second-ends in
        let there : p₃.to ≡ behind line (behind line (behind line at)) = ends line p₂.to h₃ q₃ ∙ ap (λ (n : ℕ). behind line n) second-ends in
        asked line said
        (
        e ∙ ap (λ (l : List ℕ). ask l (take (p₂.to - p₂.from) (drop p₂.from line)) (take (p₃.to - p₃.from) (drop p₃.from line))) (as_list line at h₁ q₁)
        ∙ ap (λ (l : List ℕ). ask (list_at line at) l (take (p₃.to - p₃.from) (drop p₃.from line))) second
        ∙ ap (ask (list_at line at) (list_at line (behind line at))) third
        )
        f there

-- ---- a buffer's words stand in a room, and the whole buffer is compared

-- the part of the room that is lent
roomed : (room₀ part : List ℕ) (n : ℕ) {room : List ℕ} → room ≡ sets room₀ 0 (take n part) → length part ≡ n → n ≤ length room₀
    → take n room ≡ part
roomed room₀ part n {room} e long fits =
    let whole = take_all n part (omega arith) in
    let room-is = e ∙ ap (sets room₀ 0) whole ∙ sets-eq part room₀ 0 (omega arith) in
    ap (take n) room-is ∙ ap (λ (k : ℕ). take k (part ++ drop (0 + length part) room₀)) (sym long) ∙ take-append_seam part (drop (0 + length part) room₀)

pub part_length : (line : List ℕ) (at : ℕ) {answer : Option Part} {part : Part} → ListAt answer line at → answer ≡ Some part
    → length (take (part.to - part.from) (drop part.from line)) ≡ part.to - part.from
unfolding ListAt
part_length line at {answer} {part} h e =
    let found : ListAt (Some part) line at = subst (λ (p : Option Part). ListAt p line at) e h in
    length-take-le (part.to - part.from) (drop part.from line) (omega (arith, length-drop part.from line, found.0, found.1, found.2))

pub part-size : (line : List ℕ) (at : ℕ) {answer : Option Part} {part : Part} → ListAt answer line at → answer ≡ Some part → part.to - part.from ≡ get_or line at 0
unfolding ListAt
part-size line at {answer} {part} h e =
    let found : ListAt (Some part) line at = subst (λ (p : Option Part). ListAt p line at) e h in omega (arith, found.0, found.1)

-- what is lent of the room holds the list's words
pub lent : (line : List ℕ) (at : ℕ) {answer : Option Part} {part : Part} → ListAt answer line at → answer ≡ Some part → (room₀ : List ℕ) {room : List ℕ}
    → length room₀ ≡ 7680 → part.to - part.from ≤ 7680 → room ≡ sets room₀ 0 (take (part.to - part.from) (take (part.to - part.from) (drop part.from line)))
    → take (part.to - part.from - 0) room ≡ take (part.to - part.from) (drop part.from line)
lent line at {answer} {part} h e room₀ {room} long fits r =
    let whole : part.to - part.from - 0 ≡ part.to - part.from = omega arith in
    ap (λ (n : ℕ). take n room) whole
    ∙ roomed room₀ (take (part.to - part.from) (drop part.from line)) (part.to - part.from) r (part_length line at h e) (omega arith)

module _ (n m : ℕ) (t : Bool) where
  -- too long for the program's room
  pub no_room : m < n → false ≡ (leb n m && t)
  no_room h = sym (rw (lt-leb _ _ h))

  pub has_room : {r : Bool} → n ≤ m → r ≡ t → r ≡ (leb n m && t)
  has_room h e = e ∙ sym (rw (le-leb n m h))

  -- past the line's end, whatever room there is
  pub nowhere : false ≡ t → false ≡ (leb n m && t)
  nowhere e = sym (ap (λ (u : Bool). leb n m && u) (sym e) ∙ and-false (leb n m))

-- ---- the buffer is the question's one list, or its second

module _ (line : List ℕ) (at : ℕ) {o₁ : Option Part} {p₁ : Part} (h₁ : ListAt o₁ line at) (q₁ : o₁ ≡ Some p₁) where
  pub one_with : {A : Type 0} (said : Answer A → List ℕ) (ask : List ℕ → LeftWith A) {buffer : List ℕ} {r : Bool}
      → buffer ≡ take (p₁.to - p₁.from) (drop p₁.from line)
      → r ≡ same (drop p₁.to line) (with_list (said (ask buffer).answer) (ask buffer).buffer)
      → r ≡ same (drop (behind line at) line) (with_list (said (ask (list_at line at)).answer) (ask (list_at line at)).buffer)
  one_with said ask e f = asked_with line said (ap ask (e ∙ as_list line at h₁ q₁)) f (ends line at h₁ q₁)

  module _ {o₂ : Option Part} {p₂ : Part} (h₂ : ListAt o₂ line p₁.to) (q₂ : o₂ ≡ Some p₂) where
    pub second-size : p₂.to - p₂.from ≡ get_or line (behind line at) 0
    second-size = part-size line p₁.to h₂ q₂ ∙ ap (λ (n : ℕ). get_or line n 0) (ends line at h₁ q₁)

    pub two_with : {A : Type 0} (said : Answer A → List ℕ) (ask : List ℕ → List ℕ → LeftWith A) {buffer : List ℕ} {r : Bool}
        → buffer ≡ take (p₂.to - p₂.from) (drop p₂.from line)
        → r
        ≡ same (drop p₂.to line)
        (with_list (said (ask (take (p₁.to - p₁.from) (drop p₁.from line)) buffer).answer) (ask (take (p₁.to - p₁.from) (drop p₁.from line)) buffer).buffer)
        → r
        ≡ same (drop (behind line (behind line at)) line)
        (with_list (said (ask (list_at line at) (list_at line (behind line at))).answer) (ask (list_at line at) (list_at line (behind line at))).buffer)
    two_with said ask {buffer} e f =
        asked_with line said
        (
        ap (λ (l : List ℕ). ask l buffer) (as_list line at h₁ q₁)
        ∙ ap (ask (list_at line at)) (e ∙ second line at h₁ q₁ h₂ q₂)
        )
        f
        (second-ends line at h₁ q₁ h₂ q₂)

-- ---- both calls about a port

pub port-lines : (line b a : List ℕ) {port : ℕ} {x : Answer (ℕ × ℕ)} {m view : List ℕ} {r : Bool} → port ≡ get_or line 1 0
    → record { answer = x; area = m } ≡ lines_at_port b a port → view ≡ view_of_port b m port → r ≡ same (drop 2 line) (with_list (pair_words x) view)
    → r ≡ same_port_lines line b a
unfolding same_port_lines lines_at_port call
port-lines line b a {port} {x} {m} {view} {r} p e v f =
    let left : m ≡ area_after b a = ap (λ (l : Left (ℕ × ℕ)). l.area) e in
    f ∙ ap (λ (s : List ℕ). same (drop 2 line) (with_list (pair_words x) s)) (v ∙ ap (λ (s : List ℕ). view_of_port b s port) left)
    ∙ ap (λ (l : Left (ℕ × ℕ)). same (drop 2 line) (with_list (pair_words l.answer) (view_of_port b (area_after b a) port))) e
    ∙ ap (λ (n : ℕ). same (drop 2 line) (with_list (pair_words (lines_at_port b a n).answer) (view_of_port b (area_after b a) n))) p
