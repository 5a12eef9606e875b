-- What holds of the frontier after each node of the order, and the parts of placing one node by name.
-- Rests on paper.Lines and Weight.
use Rattle.std.specs.Prelude.{ℕ, ◌+◌, ◌≤◌, ◌<◌, ◌≡◌, Bool, true, length, eqb}
use mathlib.Core.List.{List, [], ◌∷◌, ◌++◌, map, Memᴰ}
use Rattle.lists.specs.Lists.{from, upto, keep, count, member, times, Rising}
use Rattle.lists.specs.Bounds.{Below}
use Rattle.paper.specs.Map.{L, link_from, link_to, source_port, port_node, in_links, out_links}
use Rattle.paper.specs.Lines.{End, Placed, Frontier, Taking, take_all, position_above, new_lines, push}
use Rattle.paper.specs.Accepted.{right_after, links_between}
use Rattle.lists.specs.Weight.{total, weight}

-- the placed nodes that list a line, in order
abbrev pub on : ℕ → List Placed → List Placed
on l xs = keep (λ x. member l x.lines) xs

-- .. by their numbers
abbrev pub nodes_on : ℕ → List Placed → List ℕ
nodes_on l xs = map (λ x. x.node) (on l xs)

-- every link
abbrev pub every : ℕ → Bool
every k = true

-- ---- one node placed, by its parts

-- the output ports that a node takes lines from, and those that it pushes lines at
abbrev pub sources : List ℕ → ℕ → List ℕ
sources b v = map (source_port b) (in_links b v)

abbrev pub targets : List ℕ → ℕ → List ℕ
targets b v = map (source_port b) (out_links b v)

abbrev pub taking : List ℕ → ℕ → Frontier → Taking
taking b v f = take_all (sources b v) (record { taken = []; ends = f.ends })

abbrev pub old_lines : List ℕ → ℕ → Frontier → List ℕ
old_lines b v f = map (λ e. e.line) (taking b v f).taken

abbrev pub gain : List ℕ → ℕ → Frontier → ℕ
gain b v f = new_lines (length (old_lines b v f)) (length (out_links b v))

abbrev pub fresh : List ℕ → ℕ → Frontier → List ℕ
fresh b v f = from f.count (gain b v f)

abbrev pub level : List ℕ → ℕ → Frontier → ℕ
level b v f = position_above (taking b v f).taken

abbrev pub newcomer : List ℕ → ℕ → Frontier → Placed
newcomer b v f = record { node = v; position = level b v f; lines = old_lines b v f ++ fresh b v f }

-- the ends that are pushed: the ports in turn, with a line each
abbrev pub made : ℕ → List ℕ → List ℕ → List End
made position [] lines = []
made position (p ∷ ps) [] = []
made position (p ∷ ps) (l ∷ lines) = record { port = p; line = l; position = position } ∷ made position ps lines

-- the frontier with one node more
abbrev pub grown : List ℕ → ℕ → Frontier → Frontier
grown b v f =
    record {
      ends = push (level b v f) (targets b v) (newcomer b v f).lines (taking b v f).ends;
      placed = f.placed ++ (newcomer b v f ∷ []);
      count = f.count + length (fresh b v f);
    }

-- ---- the invariant, after the nodes us

-- an end that stands: its line is known, and the last node on it is the owner of its port, at the position it holds
pub record Standing (b : List ℕ) (f : Frontier) (e : End) : Type 0 where
  pub low : e.line < f.count
  pub shallow : e.position < length f.placed
  pub earlier : List Placed
  pub last : Placed
  pub whole : on e.line f.placed ≡ earlier ++ (last ∷ [])
  pub owner : last.node ≡ port_node b e.port
  pub height : last.position ≡ e.position

-- a node that is placed: its lines are known, none twice, at least one; its position is below the number placed
pub record Listed (f : Frontier) (x : Placed) : Type 0 where
  pub known : Below f.count x.lines
  pub once : (l : ℕ) → times l x.lines ≤ 1
  pub some : 1 ≤ length x.lines
  pub shallow : x.position < length f.placed

pub record Lined (b us : List ℕ) (f : Frontier) : Type 0 where
  pub nodes : map (λ x. x.node) f.placed ≡ us
  -- at every port: the ends that stand and those taken are those pushed
  pub balance : (p : ℕ)
      → times p (map (λ e. e.port) f.ends) + weight (λ k. eqb p (source_port b k)) (link_to b) us (upto (L b))
      ≡ weight (λ k. eqb p (source_port b k)) (link_from b) us (upto (L b))
  -- a line stands at most once
  pub once : (l : ℕ) → times l (map (λ e. e.line) f.ends) ≤ 1
  pub standing : (e : End) → Memᴰ e f.ends → Standing b f e
  pub listed : (x : Placed) → Memᴰ x f.placed → Listed f x
  -- a known line has a node
  pub used : (l : ℕ) → l < f.count → 1 ≤ length (on l f.placed)
  pub rises : (l : ℕ) → Rising (map (λ x. x.position) (on l f.placed))
  -- the links into a placed node are the lines on which it comes right after their sources
  pub adjacent : (u w : ℕ) → 1 ≤ times w us → count (λ l. right_after u w (nodes_on l f.placed)) (upto f.count) ≡ links_between b u w
  -- entries: one for each link taken, one for each line
  pub entries : total (λ x. length x.lines) f.placed ≡ weight every (link_to b) us (upto (L b)) + f.count
  pub few : f.count ≤ length us + weight every (link_from b) us (upto (L b))

-- a node that may come next: it is new, and every link into it or into a node before it comes from a node before it
pub record Next (b us : List ℕ) (v : ℕ) : Type 0 where
  pub new : times v us ≡ 0
  pub ready : (k : ℕ) → k < L b → times (link_to b k) (us ++ (v ∷ [])) ≤ times (link_from b k) us
