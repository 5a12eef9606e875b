-- A call whose buffer is one of bytes, from the word call on the words read from them: what stands in the words then is put back.
-- Rests on tables' Answered and words' RoundTrip.
use Prim.Native.Nat.{ℕ}
use mathlib.Core.Path.{◌≡◌, refl, sym, ap, ◌∙◌}
use mathlib.Core.List.{List}
use lib.Seq.{sets}
use Rattle.paper.specs.Refusals.{Ruling, Answer, decide, on_refusal}
use Rattle.paper.specs.Calls.{LeftWith}
use Rattle.paper.specs.Words.{words_from, put_words}
use Rattle.words.proofs.RoundTrip.{Below, read_and_put}
use Rattle.tables.specs.declared.Layout.{Layout}
use Rattle.tables.specs.Answered.{AnsweredInto, AnsweredBytes}
use Rattle.byte_calls.specs.Buffered.{buffered}

module _ {A : Type 0} {said : Answer A} where
  put_back : (bytes : List ℕ) {m words after : List ℕ} {left : LeftWith A} → after ≡ put_words bytes words
      → record { answer = said; area = m; buffer = words } ≡ left
      → record { answer = said; area = m; buffer = after } ≡ buffered bytes left
  unfolding buffered
  put_back bytes {m} e same = ap (λ (z : List ℕ). record { answer = said; area = m; buffer = z }) e ∙ ap (buffered bytes) same

  -- a refusal leaves the words, and so the bytes
  pub refused_bytes : (bytes : List ℕ) → Below 256 bytes → {m : List ℕ} {left : LeftWith A}
      → record { answer = said; area = m; buffer = words_from bytes } ≡ left
      → record { answer = said; area = m; buffer = bytes } ≡ buffered bytes left
  refused_bytes bytes below = put_back bytes (sym (read_and_put bytes below))

  -- a question on bytes is the same question on their words
  pub answered_bytes : {at : Layout} {a z : List ℕ} {rules : List Ruling} {x : A} {bytes after result m : List ℕ} {left : LeftWith A}
      → AnsweredBytes at a z said rules x bytes after result
      → (AnsweredInto at a z said rules x (words_from bytes) (on_refusal (decide rules) (words_from bytes) (sets (words_from bytes) 0 result)) result
      → record { answer = said; area = m; buffer = on_refusal (decide rules) (words_from bytes) (sets (words_from bytes) 0 result) } ≡ left)
      → record { answer = said; area = m; buffer = after } ≡ buffered bytes left
  answered_bytes {bytes = bytes} asked same =
      put_back bytes asked.written (same (record { says = asked.says; kept = asked.kept; written = refl }))
