-- What the check of the links knows of its two rooms: the nodes' first ports, and one mark for each port.
-- Rests on paper's Map and Formed.
use Rattle.std.specs.Prelude.{ℕ, ◌≤◌, ◌<◌, false, List, ◌≡◌, eqb, length, get_or}
use Rattle.lists.specs.Lists.{upto, any, one}
use Rattle.paper.specs.Map.{first_port, target_port, missing}
use Rattle.stepmap.specs.Formed.{HasLink}

-- a room of n words, all 0
pub record Blank (n : ℕ) (room : List ℕ) : Type 0 where
  pub size : length room ≡ n
  pub zeros : (i : ℕ) → get_or room i 0 ≡ 0

-- each node's first port stands at the node's place
pub record Firsts (b : List ℕ) (n : ℕ) (firsts : List ℕ) : Type 0 where
  pub room : n ≤ length firsts
  pub port : (v : ℕ) → v < n → get_or firsts v 0 ≡ first_port b v

-- none of the first k links is missing a node or a port, and a port's mark is 1 exactly if one of them ends there
pub record Marked (b : List ℕ) (k : ℕ) (marks : List ℕ) : Type 0 where
  pub sound : (j : ℕ) → j < k → missing b j ≡ false
  pub mark : (q : ℕ) → get_or marks q 0 ≡ one (any (λ j. eqb (target_port b j) q) (upto k))

-- link k can be checked
pub record LinkReady (b : List ℕ) (n k : ℕ) (firsts marks : List ℕ) : Type 0 where
  pub link : HasLink b n k
  pub firsts_stand : Firsts b n firsts
  pub marked : Marked b k marks
  pub room : first_port b n ≤ length marks
