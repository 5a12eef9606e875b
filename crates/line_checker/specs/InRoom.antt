-- What a question comes to before anything goes out to its caller: an answer by its own rules, and a result at the start of a room.
-- Rests on paper's Refusals and tables' Usable.
use Rattle.std.specs.Prelude.{ℕ, ◌≡◌, List, length, take}
use Rattle.paper.specs.Refusals.{Ruling, passed, Answer, answer, decide}
use Rattle.tables.specs.declared.Layout.{Layout}
use Rattle.tables.specs.Usable.{Scratched}

-- `found` is told, and where no rule refuses its words stand in the room
pub record InRoom {A R : Type 0} (told : R → A) (words : R → List ℕ) (at : Layout) (a m : List ℕ) (said : Answer A) (rules : List Ruling) (found : R)
    (room : List ℕ)
    : Type 0 where
  pub says : said ≡ answer (decide rules) (told found)
  pub kept : Scratched at a m
  pub written : passed ≡ decide rules → take (length (words found)) room ≡ words found

-- nodes are words themselves
abbrev pub itself : List ℕ → List ℕ
itself nodes = nodes
