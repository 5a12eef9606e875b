-- What is known of a map's bytes where its records are read: how many nodes, links and ports, and that they stand within the bytes.
-- Rests on paper's Map.
use Rattle.std.specs.Prelude.{ℕ, ◌+◌, ◌*◌, ◌≤◌, ◌<◌, Bool, ◌&&◌, cond, List, ◌≡◌, leb, length}
use Rattle.paper.specs.Map.{N, L, P, ins, outs, first_port, input, output}
use Rattle.stepmap.specs.declared.read.Sizes.{Sizes}

-- n is the number of nodes, and link k's record stands within the bytes
pub record HasLink (b : List ℕ) (n k : ℕ) : Type 0 where
  pub nodes : N b ≡ n
  pub inside : 4 * n + 8 * k + 8 ≤ length b

-- "at most 255 inputs and 255 outputs on a node"
abbrev pub few_ports : List ℕ → ℕ → Bool
few_ports b v = leb (ins b v) 255 && leb (outs b v) 255

-- the records of n nodes stand within the bytes, and their ports are within the limit
pub record Numbered (b : List ℕ) (n : ℕ) : Type 0 where
  pub inside : 4 * n ≤ length b
  pub few : first_port b n ≤ 4096

-- n is the number of nodes, their records stand within the bytes, and p is a port of one of them
pub record HasPort (b : List ℕ) (n p : ℕ) : Type 0 where
  pub nodes : N b ≡ n
  pub inside : 4 * n ≤ length b
  pub known : p < P b

-- the port of node v at an offset among its outputs or its inputs
abbrev pub port_of : List ℕ → Bool → ℕ → ℕ → ℕ
port_of b out v offset = cond out (output b v offset) (input b v offset)

-- a map of n nodes, l links and p ports that refusals 1 and 2 let pass
pub record ReadWell (b : List ℕ) (n l p : ℕ) : Type 0 where
  pub nodes : N b ≡ n
  pub links : L b ≡ l
  pub ports : P b ≡ p
  pub size : length b ≡ 4 * n + 8 * l + 12
  pub few-nodes : n ≤ 512
  pub few-links : l ≤ 2048
  pub few-ports : p ≤ 4096

-- how many nodes, links and ports the map's bytes say
abbrev pub sizes_of : List ℕ → Sizes
sizes_of b = record { nodes = N b; links = L b; ports = P b }
