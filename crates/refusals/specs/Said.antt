-- The number and the place that 01's table gives for each reason.
-- Rests on paper's Refusals.
use Rattle.std.specs.Prelude.{ℕ, Result, Ok, Err}
use Rattle.paper.specs.Refusals.{Ruling, passed, refusal, Answer, refused, answered}
use Rattle.refusals.specs.declared.Refusal.{Refusal}
use Rattle.refusals.specs.declared.Refusal.TheVariants.{
  Malformed,
  TooLarge,
  NoRoom,
  Missing,
  Second,
  Cycle,
  NotAccepted,
  Empty,
  Unknown,
  Repeated,
  UnknownPort,
  BadRecord,
  Straddling,
  TooLong,
}

abbrev pub number_of : Refusal → ℕ
number_of Malformed = 1
number_of TooLarge = 2
number_of NoRoom = 3
number_of (Missing k) = 4
number_of (Second k) = 5
number_of (Cycle v) = 6
number_of NotAccepted = 7
number_of Empty = 8
number_of (Unknown i) = 9
number_of (Repeated i) = 10
number_of (UnknownPort i) = 14
number_of (BadRecord i) = 12
number_of (Straddling v) = 13
number_of (TooLong n) = 11

abbrev pub place_of : Refusal → ℕ
place_of Malformed = 0
place_of TooLarge = 0
place_of NoRoom = 0
place_of (Missing k) = k
place_of (Second k) = k
place_of (Cycle v) = v
place_of NotAccepted = 0
place_of Empty = 0
place_of (Unknown i) = i
place_of (Repeated i) = i
place_of (UnknownPort i) = i
place_of (BadRecord i) = i
place_of (Straddling v) = v
place_of (TooLong n) = n

-- the rule that a refusal comes of
abbrev pub ruled : Refusal → Ruling
ruled x = refusal (number_of x) (place_of x)

-- .. and the answer that it is
module _ {A : Type 0} where
  abbrev pub refused_by : Refusal → Answer A
  refused_by x = refused (number_of x) (place_of x)

  -- the refusal that an answer is, if it is one
  unfoldable pub ruling : Answer A → Ruling
  ruling (refused n v) = refusal n v
  ruling (answered x) = passed

  -- what a step that may refuse comes to: its value, or its refusal's number and place
  abbrev pub answer_of : Result A Refusal → Answer A
  answer_of (Ok x) = answered x
  answer_of (Err x) = refused_by x

  -- .. and what it says of its rules alone
  abbrev pub ruling_of : Result A Refusal → Ruling
  ruling_of (Ok x) = passed
  ruling_of (Err x) = ruled x
