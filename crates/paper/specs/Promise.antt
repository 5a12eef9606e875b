-- Demand 3 as a promise about each check's answer: what is asked of the caller, and what the answer then says.
-- Rests on Plain (directed paths, `Convex`, the steps ahead), Path, Accepted, and Ports (the first-link rule).
use Rattle.std.specs.Prelude.{ℕ, ◌≤◌, ◌<◌, ◌≡◌, ◌↔◌, true, false, List, length, take}
use Rattle.lists.specs.Lists.{In, Distinct}
use Rattle.paper.specs.Map.{N, L, P, well_formed, within_limits, missing, second}
use Rattle.paper.specs.Area.{W}
use Rattle.paper.specs.Accepted.{Accepted}
use Rattle.paper.specs.Intervals.{Reply, Yes}
use Rattle.paper.specs.Ports.{conflict}
use Rattle.paper.specs.Refusals.{Answer, refused, answered}
use Rattle.paper.specs.Plain.{Convex, Ahead, Number}
use Rattle.paper.specs.Path.{ThePath, Shown, steps, no_steps}

-- ---- "For an accepted map with accepted tables (any accepted tables, not only prepared ones)"

-- a map that 1, 2, 4 and 5 let pass; 6 needs no word, as no tables of a map with a cycle are accepted
pub record AcceptedMap (b : List ℕ) : Type 0 where
  pub formed : well_formed b ≡ true
  pub limited : within_limits b ≡ true
  pub nothing_missing : (k : ℕ) → k < L b → missing b k ≡ false
  pub no_second : (k : ℕ) → k < L b → second b k ≡ false

-- b is the map's bytes, a the lent area
pub record Trusted (b a : List ℕ) : Type 0 where
  pub accepted_map : AcceptedMap b
  pub accepted_tables : Accepted b a
  pub room : W b ≤ length a

-- ---- "and a non-empty list of known steps without repeats"

abbrev pub KnownSteps : List ℕ → List ℕ → Type 0
KnownSteps b list = (v : ℕ) → In v list → v < N b

pub record StepList (b list : List ℕ) : Type 0 where
  pub not_empty : 0 < length list
  pub known : KnownSteps b list
  pub once : Distinct list

abbrev pub KnownPorts : List ℕ → List ℕ → Type 0
KnownPorts b ports = (p : ℕ) → In p ports → p < P b

-- ---- "both checkers say yes exactly when no directed path starts in the list, passes a step outside it and ends in it.
-- On a yes the count is exactly the number of steps outside the list that some directed path from it reaches and that stand
-- no higher than the highest of its lines' lowest listed positions."

pub record LinePromise (b a list : List ℕ) (said : Answer (Reply × ℕ)) : Type 0 where
  pub reply : Reply
  pub count : ℕ
  pub is : said ≡ answered (reply, count)
  pub exactly : (reply ≡ Yes) ↔ Convex b list
  pub number : reply ≡ Yes → Number (Ahead b a list) count

pub record OrderPromise (b list : List ℕ) (said : Answer Reply) : Type 0 where
  pub reply : Reply
  pub is : said ≡ answered reply
  pub exactly : (reply ≡ Yes) ↔ Convex b list

-- ---- with ports: "no (count 0) if any listed input is the other end of the FIRST link of a listed output; else the check chosen"

pub record LinePortsPromise (b a list inputs outputs : List ℕ) (said : Answer (Reply × ℕ)) : Type 0 where
  pub reply : Reply
  pub count : ℕ
  pub is : said ≡ answered (reply, count)
  pub exactly : (reply ≡ Yes) ↔ ((conflict b inputs outputs ≡ false) × Convex b list)
  pub number : reply ≡ Yes → Number (Ahead b a list) count
  pub on_conflict : conflict b inputs outputs ≡ true → count ≡ 0

pub record OrderPortsPromise (b list inputs outputs : List ℕ) (said : Answer Reply) : Type 0 where
  pub reply : Reply
  pub is : said ≡ answered reply
  pub exactly : (reply ≡ Yes) ↔ ((conflict b inputs outputs ≡ false) × Convex b list)

-- ---- 02, No. 1: the path stands in the buffer, "no path" is said of a convex list alone, or the buffer has no room for the path

pub data PathPromise (b list before after : List ℕ) (said : Answer Shown) : Type 0 where
  given : (vs : List ℕ) → ThePath b list vs → said ≡ answered (steps (length vs)) → take (length vs) after ≡ vs
      → PathPromise b list before after said
  none : Convex b list → said ≡ answered no_steps → PathPromise b list before after said
  no_room : (vs : List ℕ) → ThePath b list vs → said ≡ refused 11 (length vs) → length before < length vs
      → PathPromise b list before after said
