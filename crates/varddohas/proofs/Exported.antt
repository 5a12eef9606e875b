-- What an export returns and leaves, from what its call said and left of the words that crossed.
-- Rests on crossing's Cut and Crossed.
use Prim.Native.Nat.{ℕ, ◌/◌, min}
use native.Mathlib.Omega.{arith}
use mathlib.Core.Path.{◌≡◌, sym, ap, ap₂, ◌∙◌}
use mathlib.Core.List.{List, ◌++◌}
use lib.ListN.{length, take, drop, length-take}
use lib.Seq.{sets, take_at}
use Rattle.lists.proofs.Sections.{part-sets_in}
use Rattle.paper.specs.Refusals.{Answer}
use Rattle.paper.specs.Calls.{Left, LeftWith, view_at}
use Rattle.paper.specs.Exports.{Told, Export, tell, in_pair, export, export_with}
use Rattle.paper.specs.Words.{words_from, put_words}
use Rattle.byte_calls.specs.Buffered.{buffered}
use Rattle.words.proofs.RoundTrip.{Below}
use Rattle.words.proofs.Turns.{length-words_from}
use Rattle.crossing.proofs.Cut.{cut, outcomes_cut}
use Rattle.crossing.proofs.Crossed.{Crosses, CrossesWith, in_area, put_back}

-- ---- a room whose first k words are those that cross

pub record Held (bytes held : List ℕ) (k : ℕ) : Type 0 where
  pub long : length (cut (words_from bytes)) ≡ k
  pub words : take k held ≡ cut (words_from bytes)

pub held-read : (bytes room : List ℕ) {held : List ℕ} {k : ℕ} → length room ≡ 31751
    → (k ≡ min (length bytes / 2) 31751) × (held ≡ sets room 0 (cut (words_from bytes)))
    → Held bytes held k
held-read bytes room {held} {k} long read = record { long = all; words = lent }
  where
    all : length (cut (words_from bytes)) ≡ k
    all = omega (arith, read.0, length-words_from bytes, length-take 31751 (words_from bytes))

    lent : take k held ≡ cut (words_from bytes)
    lent =
        ap₂ (λ (n : ℕ) (l : List ℕ). take n l) (sym all) read.1
        ∙ part-sets_in room 0 (cut (words_from bytes)) 0 (omega (arith, long, length-take 31751 (words_from bytes)))

-- ---- what is lent of it is asked, and comes back

module _ {bytes held : List ℕ} {k : ℕ} (room : Held bytes held k) where
  module _ {A : Type 0} (ask : List ℕ → Left A) (crosses : Crosses (words_from bytes) (ask (words_from bytes)) (ask (cut (words_from bytes))))
      {said : Answer A} {m : List ℕ} (asked : record { answer = said; area = m } ≡ ask (take k held)) where
    asked_cut : record { answer = said; area = m } ≡ ask (cut (words_from bytes))
    asked_cut = asked ∙ ap ask room.words

    left-long : length m ≡ length (cut (words_from bytes))
    left-long = ap (λ (l : Left A). length l.area) asked_cut ∙ crosses.long

    words_back : take k (m ++ drop k held) ≡ m
    words_back = take_at m (drop k held) k (left-long ∙ room.long)

    pub room_back : k ≡ length (take k (m ++ drop k held))
    room_back = sym (ap length words_back ∙ left-long ∙ room.long)

    said_so : said ≡ (ask (words_from bytes)).answer
    said_so = ap (λ (l : Left A). l.answer) asked_cut ∙ crosses.answers

    module _ (below : Below 256 bytes) {after : List ℕ} (put : after ≡ put_words bytes (take k (m ++ drop k held))) where
      left_so : after ≡ put_words bytes (ask (words_from bytes)).area
      left_so =
          put ∙ ap (put_words bytes) (words_back ∙ ap (λ (l : Left A). l.area) asked_cut)
          ∙ put_back bytes (ask (cut (words_from bytes))).area (ask (words_from bytes)).area below crosses.areas crosses.long

      pub exported : (numbers : A → ℕ × List ℕ) (values : List ℕ) (number place : ℕ) {told : Told} → told ≡ tell numbers said values number place
          → record { told = told; area = after } ≡ export numbers values number place bytes (ask (words_from bytes))
      unfolding export
      exported numbers values number place e =
          ap₂ (λ (t : Told) (l : List ℕ). record { told = t; area = l }) (e ∙ ap (λ (x : Answer A). tell numbers x values number place) said_so) left_so

  -- ---- the same with a buffer of bytes, which the call has put back

  module _ {A : Type 0} (ask : List ℕ → LeftWith A)
      (crosses : CrossesWith (words_from bytes) (ask (words_from bytes)) (ask (cut (words_from bytes))))
      (buffer : List ℕ) {said : Answer A} {m left : List ℕ}
      (asked : record { answer = said; area = m; buffer = left } ≡ buffered buffer (ask (take k held))) where
    asked_area : record { answer = said; area = m } ≡ in_area (ask (take k held))
    unfolding buffered
    asked_area = ap in_area asked

    pub room-back_with : k ≡ length (take k (m ++ drop k held))
    room-back_with = room_back (λ a. in_area (ask a)) crosses.inside asked_area

    buffer_so : left ≡ put_words buffer (ask (words_from bytes)).buffer
    unfolding buffered
    buffer_so =
        ap (λ (l : LeftWith A). l.buffer) asked
        ∙ ap (λ (a : List ℕ). put_words buffer (ask a).buffer) room.words
        ∙ ap (put_words buffer) crosses.buffers

    pub exported_with : Below 256 bytes → {after : List ℕ} → after ≡ put_words bytes (take k (m ++ drop k held))
        → (numbers : A → ℕ × List ℕ) (values : List ℕ) (number place : ℕ) {told : Told} → told ≡ tell numbers said values number place
        → record { told = told; area = after; buffer = left } ≡ export_with numbers values number place bytes buffer (ask (words_from bytes))
    unfolding export_with export
    exported_with below put numbers values number place e =
        ap₂ (λ (x : Export) (l : List ℕ). record { told = x.told; area = x.area; buffer = l })
        (exported (λ a. in_area (ask a)) crosses.inside asked_area below put numbers values number place e)
        buffer_so

  -- ---- and with nothing but an answer

  pub view_exported : (b : List ℕ) (p : ℕ) {said : Answer (ℕ × ℕ)} → said ≡ view_at b (take k held) p
      → (values : List ℕ) (number place : ℕ) {told : Told} → told ≡ tell in_pair said values number place
      → told ≡ tell in_pair (view_at b (words_from bytes) p) values number place
  view_exported b p asked values number place e =
      e
      ∙ ap (λ (x : Answer (ℕ × ℕ)). tell in_pair x values number place)
      (asked ∙ ap (λ (a : List ℕ). view_at b a p) room.words ∙ sym ((outcomes_cut b (words_from bytes)).view_place p))
