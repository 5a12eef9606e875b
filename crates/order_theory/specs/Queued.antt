-- What holds of the queue at every turn and after every link of a turn, and the state within a turn.
-- Rests on paper.Order.
use Rattle.std.specs.Prelude.{ℕ, ◌≤◌, ◌<◌, ◌≡◌, List, length, get_or, take, eqb}
use Rattle.lists.specs.Lists.{one, count, times}
use Rattle.paper.specs.Map.{N, L, link_from, link_to, in_links, out_links}
use Rattle.paper.specs.Order.{Queue, follow_all, queue_after}
use Rattle.lists.specs.Bounds.{Below}

-- how many of the links lead to w
abbrev pub filled : List ℕ → List ℕ → ℕ → ℕ
filled b links w = count (λ j. eqb (link_to b j) w) links

pub record Queued (b : List ℕ) (q : Queue) : Type 0 where
  -- only known nodes join, and only known links are followed, each once
  pub joined_known : Below (N b) q.joined
  pub followed_known : Below (L b) q.followed
  pub followed_once : (k : ℕ) → times k q.followed ≤ 1
  -- a node has joined, and once, exactly if all its incoming links are followed
  pub joins : (w : ℕ) → w < N b → times w q.joined ≡ one (eqb (filled b q.followed w) (length (in_links b w)))
  -- the source of a followed link has joined
  pub sourced : (k : ℕ) → k < L b → 1 ≤ times k q.followed → 1 ≤ times (link_from b k) q.joined
  -- a node stands behind the source of every link to it
  pub behind : (k : ℕ) → k < L b → (i : ℕ) → i < length q.joined → get_or q.joined i 0 ≡ link_to b k
      → 1 ≤ times (link_from b k) (take i q.joined)

-- the node that turn t takes from the queue
unfoldable pub front_at : List ℕ → ℕ → ℕ
front_at b t = get_or (queue_after b t).joined t 0

-- link j of that node's outgoing links
abbrev pub next_link : List ℕ → ℕ → ℕ → ℕ
next_link b t j = get_or (out_links b (front_at b t)) j 0

-- the state within turn t, after j links of its front
unfoldable pub mid_turn : List ℕ → ℕ → ℕ → Queue
mid_turn b t j = follow_all b (take j (out_links b (front_at b t))) (queue_after b t)

-- After turn t a link was followed exactly if its source is one of the first t who joined.
pub record Turned (b : List ℕ) (t : ℕ) : Type 0 where
  pub queued : Queued b (queue_after b t)
  pub taken : (k : ℕ) → k < L b → times k (queue_after b t).followed ≡ times (link_from b k) (take t (queue_after b t).joined)
