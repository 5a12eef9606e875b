-- What collecting a list's intervals comes to: 01's records at the buffer's start, or that there are none.
-- Rests on paper's Intervals and Calls, and take_in's Listed.
use Rattle.std.specs.Prelude.{ℕ, ◌≡◌, List, Option, Some, None, length, take}
use Rattle.paper.specs.Intervals.{intervals}
use Rattle.paper.specs.Calls.{Written, wrote, found_apart, said, words_of}
use Rattle.tables.specs.declared.Layout.{Layout}
use Rattle.tables.specs.Usable.{Scratched}
use Rattle.take_in.specs.Listed.{list_in}

abbrev pub intervals_said : Option ℕ → Written
intervals_said (Some c) = wrote c
intervals_said None = found_apart

pub record Collected (b a : List ℕ) (at : Layout) (count : ℕ) (rs : List ℕ) (r : Option ℕ) (ws m : List ℕ) : Type 0 where
  pub says : intervals_said r ≡ said (intervals b a (list_in a at count))
  pub written : take (length (words_of (intervals b a (list_in a at count)))) ws ≡ words_of (intervals b a (list_in a at count))
  pub long : length ws ≡ length rs
  pub kept : Scratched at a m
