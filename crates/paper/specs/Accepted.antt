-- 01, "Accepted tables": sentence by sentence as a proposition, and as a test that computes. proofs/Accepted.antt shows that they say the same.
-- Rests on Map, Area and Order (a node's place in an order).
use Rattle.std.specs.Prelude.{ℕ, suc, ◌+◌, ◌≤◌, ◌<◌, ◌≡◌, Bool, false, ◌&&◌, List, map, leb, ltb, eqb}
use Rattle.lists.specs.Lists.{upto, one, all, any, count, pairs, member, times, rising, Rising}
use Rattle.lists.specs.Found.{Found, absent, at}
use Rattle.paper.specs.Map.{N, L, link_from, link_to}
use Rattle.paper.specs.Order.{place_in}
use Rattle.paper.specs.Area.{Section, word_of, K, order_of, position, lines_of, nodes_of}

-- how many links run from u to v
unfoldable pub links_between : List ℕ → ℕ → ℕ → ℕ
links_between b u v = count (λ k. eqb (link_from b k) u && eqb (link_to b k) v) (upto (L b))

-- v comes right after u on a line
unfoldable pub right_after : ℕ → ℕ → List ℕ → Bool
right_after u v nodes = any (λ p. eqb p.0 u && eqb p.1 v) (pairs nodes)

-- on how many lines v comes right after u
unfoldable pub lines_between : List ℕ → List ℕ → ℕ → ℕ → ℕ
lines_between b a u v = count (λ l. right_after u v (nodes_of b a l)) (upto (K b a))

-- one place stands before another
abbrev pub GoesBefore : Found → Found → Type 0
GoesBefore absent later = ⊥
GoesBefore (at i) absent = ⊥
GoesBefore (at i) (at j) = i < j

abbrev pub goes_before : Found → Found → Bool
goes_before absent later = false
goes_before (at i) absent = false
goes_before (at i) (at j) = ltb i j

-- a start list with n entries after the first
pub record Starts (start : ℕ → ℕ) (n end : ℕ) : Type 0 where
  pub begins : start 0 ≡ 0
  pub rises : (i : ℕ) → i < n → start i < start (suc i)
  pub ends : start n ≡ end

unfoldable pub starts_well : (ℕ → ℕ) → ℕ → ℕ → Bool
starts_well start n end = eqb (start 0) 0 && all (λ i. ltb (start i) (start (suc i))) (upto n) && eqb (start n) end

pub record Accepted (b a : List ℕ) : Type 0 where
  -- "K ≤ L+N."
  pub few : K b a ≤ L b + N b
  -- "The order holds each node once."
  pub each_once : (v : ℕ) → v < N b → times v (order_of b a) ≡ 1
  -- "Both start lists begin at 0, strictly rise and end at L+K."
  pub node_starts : Starts (word_of b a Section.node_starts) (N b) (L b + K b a)
  pub line_starts : Starts (word_of b a Section.line_starts) (K b a) (L b + K b a)
  -- "Entries are below K and N."
  pub lines_known : (i : ℕ) → i < L b + K b a → word_of b a Section.lines_of_nodes i < K b a
  pub nodes_known : (i : ℕ) → i < L b + K b a → word_of b a Section.nodes_of_lines i < N b
  -- "Positions strictly rise along a line."
  pub rises : (l : ℕ) → l < K b a → Rising (map (position b a) (nodes_of b a l))
  -- "A node lists a line once exactly if the line lists it."
  pub listed : (v : ℕ) → v < N b → (l : ℕ) → l < K b a → times l (lines_of b a v) ≡ one (member v (nodes_of b a l))
  -- "For two nodes a and b, as many links run from a to b as there are lines on which b comes right after a."
  pub adjacent : (u : ℕ) → u < N b → (v : ℕ) → v < N b → links_between b u v ≡ lines_between b a u v
  -- "Every link goes forward in the order."
  pub forward : (k : ℕ) → k < L b → GoesBefore (place_in (order_of b a) (link_from b k)) (place_in (order_of b a) (link_to b k))

unfoldable pub accepted : List ℕ → List ℕ → Bool
accepted b a =
    leb (K b a) (L b + N b)
    && all (λ v. eqb (times v (order_of b a)) 1) (upto (N b))
    && starts_well (word_of b a Section.node_starts) (N b) (L b + K b a)
    && starts_well (word_of b a Section.line_starts) (K b a) (L b + K b a)
    && all (λ i. ltb (word_of b a Section.lines_of_nodes i) (K b a)) (upto (L b + K b a))
    && all (λ i. ltb (word_of b a Section.nodes_of_lines i) (N b)) (upto (L b + K b a))
    && all (λ l. rising (map (position b a) (nodes_of b a l))) (upto (K b a))
    && all (λ v. all (λ l. eqb (times l (lines_of b a v)) (one (member v (nodes_of b a l)))) (upto (K b a))) (upto (N b))
    && all (λ u. all (λ v. eqb (links_between b u v) (lines_between b a u v)) (upto (N b))) (upto (N b))
    && all (λ k. goes_before (place_in (order_of b a) (link_from b k)) (place_in (order_of b a) (link_to b k))) (upto (L b))
