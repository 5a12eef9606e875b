-- The queue and the counters as sections of the area: what each step asks of it, and what it leaves.
-- Rests on lists.
use Rattle.std.specs.Prelude.{ℕ, ◌+◌, ◌-◌, ◌≤◌, ◌<◌, cond, List, length, get_or, set, eqb}
use Rattle.lists.specs.Lists.{upto, keep}

-- room for n nodes at `order`, and a counter for each at `counts`, after it
pub record Counters (a : List ℕ) (order counts n : ℕ) : Type 0 where
  pub apart : order + n ≤ counts
  pub fits : counts + n ≤ length a
  pub small : n < 65536

-- the nodes whose counter is 0, by number
unfoldable pub zero_counters : List ℕ → ℕ → ℕ → List ℕ
zero_counters a counts n = keep (λ v. eqb (get_or a (counts + v) 0) 0) (upto n)

-- the queue at `order` has room for one node more, and node v has a counter
pub record Joining (a : List ℕ) (order counts joined v : ℕ) : Type 0 where
  pub room : order + joined < counts
  pub fits : counts + v < length a
  pub small : v < 65536

-- the same, and the counter of node w is not 0
pub record Following (a : List ℕ) (order counts joined w : ℕ) : Type 0 where
  pub room : order + joined < counts
  pub fits : counts + w < length a
  pub small : w < 65536
  pub some : 1 ≤ get_or a (counts + w) 0

-- a link to node w is followed
unfoldable pub lowered : List ℕ → ℕ → ℕ → List ℕ
lowered a counts w = set a (counts + w) (get_or a (counts + w) 0 - 1)

-- and w joins the queue, if that was its last
unfoldable pub followed : List ℕ → ℕ → ℕ → ℕ → ℕ → List ℕ
followed a order counts joined w =
    cond (eqb (get_or a (counts + w) 0) 1) (set (lowered a counts w) (order + joined) w) (lowered a counts w)
