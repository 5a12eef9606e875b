-- What a question comes to on an opened area: its answer by its own rules, the scratch as the one place written, and the lent buffer.
-- Rests on paper's Refusals and Words.
use Rattle.std.specs.Prelude.{ℕ, ◌≡◌, List}
use Rattle.std.proofs.lemmas.List.Edits.{sets}
use Rattle.paper.specs.Refusals.{Ruling, Answer, decide, answer, on_refusal}
use Rattle.paper.specs.Words.{words_from, put_words}
use Rattle.tables.specs.declared.Layout.{Layout}
use Rattle.tables.specs.Usable.{Scratched}

pub record Answered {A : Type 0} (at : Layout) (a m : List ℕ) (said : Answer A) (rules : List Ruling) (x : A) : Type 0 where
  pub says : said ≡ answer (decide rules) x
  pub kept : Scratched at a m

-- "A refusal never writes result buffers; success writes only the result's length."
pub record AnsweredInto {A : Type 0} (at : Layout) (a m : List ℕ) (said : Answer A) (rules : List Ruling) (x : A) (buffer after result : List ℕ)
    : Type 0 where
  pub says : said ≡ answer (decide rules) x
  pub kept : Scratched at a m
  pub written : after ≡ on_refusal (decide rules) buffer (sets buffer 0 result)

-- the same of a buffer of bytes: its words are read from them, and what stands then is put back
pub record AnsweredBytes {A : Type 0} (at : Layout) (a m : List ℕ) (said : Answer A) (rules : List Ruling) (x : A) (bytes after result : List ℕ)
    : Type 0 where
  pub says : said ≡ answer (decide rules) x
  pub kept : Scratched at a m
  pub written : after ≡ put_words bytes (on_refusal (decide rules) (words_from bytes) (sets (words_from bytes) 0 result))
