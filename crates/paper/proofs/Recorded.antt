-- Answers of the given Rust (portgraph 88172a3c8e) on random maps, computed by the definitions too. Made with
-- `differential/record --antt --maps 36 --steps 6`, seed 1, and laid out by `rt fmt`. Rests on Recording.
use mathlib.Core.List.{List, [], ◌∷◌}
use lib.Dec.{T}
use Rattle.lists.specs.Lists.{all}
use Rattle.paper.specs.Intervals.{Yes, No}
use Rattle.paper.proofs.Everything.{everything}
use Rattle.paper.proofs.Recording.{
  Recording,
  node,
  link,
  line,
  order,
  intervals,
  by_records,
  extend,
  nodes_in,
  port,
  line_ports,
  order_ports,
  given,
  none,
  holds,
}

map_0 : Recording
map_0 = record {
  nodes = node 1 1 ∷ node 0 2 ∷ node 1 0 ∷ node 0 1 ∷ node 2 1 ∷ node 2 2 ∷ [];
  links = link 0 0 2 0 ∷ link 5 1 4 0 ∷ link 1 1 5 1 ∷ [];
  lines = 3;
  order = 0 ∷ 1 ∷ 3 ∷ 2 ∷ 5 ∷ 4 ∷ [];
  positions = 0 ∷ 0 ∷ 1 ∷ 0 ∷ 2 ∷ 1 ∷ [];
  lines_of_nodes = (0 ∷ []) ∷ (1 ∷ []) ∷ (0 ∷ []) ∷ (2 ∷ []) ∷ (1 ∷ []) ∷ (1 ∷ []) ∷ [];
  nodes_of_lines = (0 ∷ 2 ∷ []) ∷ (1 ∷ 5 ∷ 4 ∷ []) ∷ (3 ∷ []) ∷ [];
  asked = line (1 ∷ 2 ∷ []) Yes 1 ∷ order (1 ∷ 2 ∷ []) Yes ∷
      intervals (1 ∷ 2 ∷ []) (given (1 ∷ 0 ∷ 0 ∷ 0 ∷ 1 ∷ 1 ∷ [])) ∷ by_records (1 ∷ 0 ∷ 0 ∷ 0 ∷ 1 ∷ 1 ∷ []) Yes 1 ∷
      nodes_in (1 ∷ 0 ∷ 0 ∷ 0 ∷ 1 ∷ 1 ∷ []) (1 ∷ 2 ∷ []) ∷
      extend (1 ∷ 0 ∷ 0 ∷ 0 ∷ 1 ∷ 1 ∷ []) 3 (given (1 ∷ 0 ∷ 0 ∷ 0 ∷ 1 ∷ 1 ∷ 2 ∷ 0 ∷ 0 ∷ [])) ∷
      extend (1 ∷ 0 ∷ 0 ∷ 0 ∷ 1 ∷ 1 ∷ 2 ∷ 0 ∷ 0 ∷ []) 0 (given (1 ∷ 0 ∷ 0 ∷ 0 ∷ 0 ∷ 1 ∷ 2 ∷ 0 ∷ 0 ∷ [])) ∷
      by_records (1 ∷ 0 ∷ 0 ∷ 0 ∷ 0 ∷ 1 ∷ 2 ∷ 0 ∷ 0 ∷ []) Yes 0 ∷
      nodes_in (1 ∷ 0 ∷ 0 ∷ 0 ∷ 0 ∷ 1 ∷ 2 ∷ 0 ∷ 0 ∷ []) (0 ∷ 1 ∷ 3 ∷ 2 ∷ []) ∷ line (0 ∷ 5 ∷ 4 ∷ []) Yes 1 ∷
      order (0 ∷ 5 ∷ 4 ∷ []) Yes ∷ intervals (0 ∷ 5 ∷ 4 ∷ []) (given (0 ∷ 0 ∷ 0 ∷ 1 ∷ 1 ∷ 2 ∷ [])) ∷
      by_records (0 ∷ 0 ∷ 0 ∷ 1 ∷ 1 ∷ 2 ∷ []) Yes 1 ∷ nodes_in (0 ∷ 0 ∷ 0 ∷ 1 ∷ 1 ∷ 2 ∷ []) (0 ∷ 5 ∷ 4 ∷ []) ∷
      extend (0 ∷ 0 ∷ 0 ∷ 1 ∷ 1 ∷ 2 ∷ []) 2 (given (0 ∷ 0 ∷ 1 ∷ 1 ∷ 1 ∷ 2 ∷ [])) ∷
      extend (0 ∷ 0 ∷ 1 ∷ 1 ∷ 1 ∷ 2 ∷ []) 3 (given (0 ∷ 0 ∷ 1 ∷ 1 ∷ 1 ∷ 2 ∷ 2 ∷ 0 ∷ 0 ∷ [])) ∷
      by_records (0 ∷ 0 ∷ 1 ∷ 1 ∷ 1 ∷ 2 ∷ 2 ∷ 0 ∷ 0 ∷ []) Yes 0 ∷
      nodes_in (0 ∷ 0 ∷ 1 ∷ 1 ∷ 1 ∷ 2 ∷ 2 ∷ 0 ∷ 0 ∷ []) (0 ∷ 3 ∷ 2 ∷ 5 ∷ 4 ∷ []) ∷ order (5 ∷ 5 ∷ 1 ∷ []) Yes ∷
      line_ports (0 ∷ 5 ∷ []) (5 ∷ 5 ∷ []) (6 ∷ 2 ∷ []) Yes 1 ∷ order_ports (1 ∷ 2 ∷ []) (5 ∷ 5 ∷ []) (6 ∷ 2 ∷ []) Yes ∷
      line_ports (0 ∷ 5 ∷ []) (1 ∷ 4 ∷ []) (1 ∷ 5 ∷ 1 ∷ []) No 0 ∷
      order_ports (0 ∷ 5 ∷ []) (1 ∷ 4 ∷ []) (1 ∷ 5 ∷ 1 ∷ []) No ∷ port 3 0 1 (1 ∷ []) ∷ port 4 0 1 (0 ∷ []) ∷
      port 8 0 0 [] ∷ port 11 0 0 [] ∷ [];
}

map_1 : Recording
map_1 = record {
  nodes = node 2 2 ∷ node 3 0 ∷ node 0 2 ∷ node 0 2 ∷ node 0 3 ∷ node 4 1 ∷ [];
  links = link 5 0 0 1 ∷ link 0 1 1 2 ∷ link 3 1 5 0 ∷ link 2 1 1 1 ∷ link 4 1 5 3 ∷ link 4 0 5 1 ∷ link 4 2 0 0 ∷
      link 0 0 1 0 ∷ [];
  lines = 5;
  order = 2 ∷ 3 ∷ 4 ∷ 5 ∷ 0 ∷ 1 ∷ [];
  positions = 2 ∷ 3 ∷ 0 ∷ 0 ∷ 0 ∷ 1 ∷ [];
  lines_of_nodes = (4 ∷ 1 ∷ []) ∷ (4 ∷ 0 ∷ 1 ∷ []) ∷ (0 ∷ []) ∷ (1 ∷ []) ∷ (2 ∷ 3 ∷ 4 ∷ []) ∷ (1 ∷ 2 ∷ 3 ∷ []) ∷ [];
  nodes_of_lines = (2 ∷ 1 ∷ []) ∷ (3 ∷ 5 ∷ 0 ∷ 1 ∷ []) ∷ (4 ∷ 5 ∷ []) ∷ (4 ∷ 5 ∷ []) ∷ (4 ∷ 0 ∷ 1 ∷ []) ∷ [];
  asked = line (4 ∷ []) Yes 0 ∷ order (4 ∷ []) Yes ∷
      intervals (4 ∷ []) (given (2 ∷ 0 ∷ 0 ∷ 3 ∷ 0 ∷ 0 ∷ 4 ∷ 0 ∷ 0 ∷ [])) ∷
      by_records (2 ∷ 0 ∷ 0 ∷ 3 ∷ 0 ∷ 0 ∷ 4 ∷ 0 ∷ 0 ∷ []) Yes 0 ∷
      nodes_in (2 ∷ 0 ∷ 0 ∷ 3 ∷ 0 ∷ 0 ∷ 4 ∷ 0 ∷ 0 ∷ []) (4 ∷ []) ∷
      extend (2 ∷ 0 ∷ 0 ∷ 3 ∷ 0 ∷ 0 ∷ 4 ∷ 0 ∷ 0 ∷ []) 5 (given (2 ∷ 0 ∷ 1 ∷ 3 ∷ 0 ∷ 1 ∷ 4 ∷ 0 ∷ 0 ∷ 1 ∷ 1 ∷ 1 ∷ [])) ∷
      extend (2 ∷ 0 ∷ 1 ∷ 3 ∷ 0 ∷ 1 ∷ 4 ∷ 0 ∷ 0 ∷ 1 ∷ 1 ∷ 1 ∷ []) 1 none ∷
      by_records (2 ∷ 0 ∷ 1 ∷ 3 ∷ 0 ∷ 1 ∷ 4 ∷ 0 ∷ 0 ∷ 1 ∷ 1 ∷ 1 ∷ []) Yes 0 ∷
      nodes_in (2 ∷ 0 ∷ 1 ∷ 3 ∷ 0 ∷ 1 ∷ 4 ∷ 0 ∷ 0 ∷ 1 ∷ 1 ∷ 1 ∷ []) (4 ∷ 5 ∷ []) ∷
      line (3 ∷ 4 ∷ 0 ∷ 1 ∷ 2 ∷ 5 ∷ []) Yes 0 ∷ order (3 ∷ 4 ∷ 0 ∷ 1 ∷ 2 ∷ 5 ∷ []) Yes ∷
      intervals (3 ∷ 4 ∷ 0 ∷ 1 ∷ 2 ∷ 5 ∷ []) (given (1 ∷ 0 ∷ 3 ∷ 2 ∷ 0 ∷ 1 ∷ 3 ∷ 0 ∷ 1 ∷ 4 ∷ 0 ∷ 3 ∷ 0 ∷ 0 ∷ 3 ∷ [])) ∷
      by_records (1 ∷ 0 ∷ 3 ∷ 2 ∷ 0 ∷ 1 ∷ 3 ∷ 0 ∷ 1 ∷ 4 ∷ 0 ∷ 3 ∷ 0 ∷ 0 ∷ 3 ∷ []) Yes 0 ∷
      nodes_in (1 ∷ 0 ∷ 3 ∷ 2 ∷ 0 ∷ 1 ∷ 3 ∷ 0 ∷ 1 ∷ 4 ∷ 0 ∷ 3 ∷ 0 ∷ 0 ∷ 3 ∷ []) (2 ∷ 3 ∷ 4 ∷ 5 ∷ 0 ∷ 1 ∷ []) ∷
      order [] Yes ∷ line_ports (5 ∷ 1 ∷ []) (6 ∷ 4 ∷ []) [] No 0 ∷ order_ports (5 ∷ 1 ∷ []) (6 ∷ 4 ∷ []) [] No ∷
      line_ports (1 ∷ []) (3 ∷ 11 ∷ []) (6 ∷ 14 ∷ []) No 0 ∷ order_ports (4 ∷ []) (3 ∷ 11 ∷ []) (6 ∷ 14 ∷ []) No ∷
      port 1 1 1 (1 ∷ []) ∷ port 2 0 1 (4 ∷ []) ∷ port 12 1 1 (3 ∷ []) ∷ port 14 0 1 (1 ∷ []) ∷ [];
}

map_2 : Recording
map_2 = record {
  nodes = node 2 1 ∷ node 0 2 ∷ node 2 0 ∷ node 0 0 ∷ node 0 2 ∷ [];
  links = link 4 1 2 0 ∷ link 1 1 0 0 ∷ link 1 0 0 1 ∷ link 0 0 2 1 ∷ [];
  lines = 4;
  order = 1 ∷ 3 ∷ 4 ∷ 0 ∷ 2 ∷ [];
  positions = 1 ∷ 0 ∷ 2 ∷ 0 ∷ 0 ∷ [];
  lines_of_nodes = (1 ∷ 0 ∷ []) ∷ (0 ∷ 1 ∷ []) ∷ (3 ∷ 1 ∷ []) ∷ (2 ∷ []) ∷ (3 ∷ []) ∷ [];
  nodes_of_lines = (1 ∷ 0 ∷ []) ∷ (1 ∷ 0 ∷ 2 ∷ []) ∷ (3 ∷ []) ∷ (4 ∷ 2 ∷ []) ∷ [];
  asked = line (1 ∷ 2 ∷ []) No 0 ∷ order (1 ∷ 2 ∷ []) No ∷ intervals (1 ∷ 2 ∷ []) none ∷ line (2 ∷ 1 ∷ []) No 0 ∷
      order (2 ∷ 1 ∷ []) No ∷ intervals (2 ∷ 1 ∷ []) none ∷ order [] Yes ∷
      line_ports (3 ∷ 2 ∷ []) (6 ∷ 2 ∷ 1 ∷ []) (2 ∷ 5 ∷ 7 ∷ []) No 0 ∷
      order_ports (3 ∷ 2 ∷ []) (6 ∷ 2 ∷ 1 ∷ []) (2 ∷ 5 ∷ 7 ∷ []) No ∷ line_ports (2 ∷ 1 ∷ []) (8 ∷ []) (1 ∷ 8 ∷ []) No 0 ∷
      order_ports (2 ∷ 1 ∷ []) (8 ∷ []) (1 ∷ 8 ∷ []) No ∷ port 2 0 1 (1 ∷ []) ∷ port 4 1 1 (1 ∷ []) ∷
      port 5 0 1 (3 ∷ []) ∷ port 8 0 1 (3 ∷ []) ∷ [];
}

map_3 : Recording
map_3 = record {
  nodes = node 2 0 ∷ node 2 1 ∷ node 0 1 ∷ [];
  links = link 2 0 1 0 ∷ link 2 0 0 1 ∷ [];
  lines = 2;
  order = 2 ∷ 1 ∷ 0 ∷ [];
  positions = 1 ∷ 1 ∷ 0 ∷ [];
  lines_of_nodes = (0 ∷ []) ∷ (1 ∷ []) ∷ (0 ∷ 1 ∷ []) ∷ [];
  nodes_of_lines = (2 ∷ 0 ∷ []) ∷ (2 ∷ 1 ∷ []) ∷ [];
  asked = line (1 ∷ 2 ∷ []) Yes 0 ∷ order (1 ∷ 2 ∷ []) Yes ∷
      intervals (1 ∷ 2 ∷ []) (given (1 ∷ 0 ∷ 1 ∷ 0 ∷ 0 ∷ 0 ∷ [])) ∷ by_records (1 ∷ 0 ∷ 1 ∷ 0 ∷ 0 ∷ 0 ∷ []) Yes 0 ∷
      nodes_in (1 ∷ 0 ∷ 1 ∷ 0 ∷ 0 ∷ 0 ∷ []) (2 ∷ 1 ∷ []) ∷
      extend (1 ∷ 0 ∷ 1 ∷ 0 ∷ 0 ∷ 0 ∷ []) 0 (given (1 ∷ 0 ∷ 1 ∷ 0 ∷ 0 ∷ 1 ∷ [])) ∷
      by_records (1 ∷ 0 ∷ 1 ∷ 0 ∷ 0 ∷ 1 ∷ []) Yes 0 ∷ nodes_in (1 ∷ 0 ∷ 1 ∷ 0 ∷ 0 ∷ 1 ∷ []) (2 ∷ 0 ∷ 1 ∷ []) ∷
      line (1 ∷ []) Yes 0 ∷ order (1 ∷ []) Yes ∷ intervals (1 ∷ []) (given (1 ∷ 1 ∷ 1 ∷ [])) ∷
      by_records (1 ∷ 1 ∷ 1 ∷ []) Yes 0 ∷ nodes_in (1 ∷ 1 ∷ 1 ∷ []) (1 ∷ []) ∷
      extend (1 ∷ 1 ∷ 1 ∷ []) 2 (given (1 ∷ 0 ∷ 1 ∷ 0 ∷ 0 ∷ 0 ∷ [])) ∷
      extend (1 ∷ 0 ∷ 1 ∷ 0 ∷ 0 ∷ 0 ∷ []) 0 (given (1 ∷ 0 ∷ 1 ∷ 0 ∷ 0 ∷ 1 ∷ [])) ∷
      by_records (1 ∷ 0 ∷ 1 ∷ 0 ∷ 0 ∷ 1 ∷ []) Yes 0 ∷ nodes_in (1 ∷ 0 ∷ 1 ∷ 0 ∷ 0 ∷ 1 ∷ []) (2 ∷ 0 ∷ 1 ∷ []) ∷
      order (1 ∷ []) Yes ∷ line_ports (1 ∷ 2 ∷ []) (3 ∷ 1 ∷ []) (4 ∷ 0 ∷ []) Yes 0 ∷
      order_ports (1 ∷ 2 ∷ []) (3 ∷ 1 ∷ []) (4 ∷ 0 ∷ []) Yes ∷ line_ports (0 ∷ []) (4 ∷ 5 ∷ []) (5 ∷ 4 ∷ []) Yes 0 ∷
      order_ports (0 ∷ []) (4 ∷ 5 ∷ []) (5 ∷ 4 ∷ []) Yes ∷ port 2 0 1 (1 ∷ []) ∷ port 3 1 0 [] ∷ port 4 0 0 [] ∷
      port 5 0 2 (0 ∷ 1 ∷ []) ∷ [];
}

map_4 : Recording
map_4 = record {
  nodes = node 1 1 ∷ node 6 0 ∷ node 1 4 ∷ node 1 2 ∷ node 1 0 ∷ [];
  links = link 2 3 1 1 ∷ link 2 2 1 4 ∷ link 2 1 1 5 ∷ link 0 0 1 2 ∷ link 2 0 1 0 ∷ link 3 1 0 0 ∷ [];
  lines = 6;
  order = 2 ∷ 3 ∷ 4 ∷ 0 ∷ 1 ∷ [];
  positions = 1 ∷ 2 ∷ 0 ∷ 0 ∷ 0 ∷ [];
  lines_of_nodes = (4 ∷ []) ∷ (0 ∷ 3 ∷ 4 ∷ 2 ∷ 1 ∷ []) ∷ (0 ∷ 1 ∷ 2 ∷ 3 ∷ []) ∷ (4 ∷ []) ∷ (5 ∷ []) ∷ [];
  nodes_of_lines = (2 ∷ 1 ∷ []) ∷ (2 ∷ 1 ∷ []) ∷ (2 ∷ 1 ∷ []) ∷ (2 ∷ 1 ∷ []) ∷ (3 ∷ 0 ∷ 1 ∷ []) ∷ (4 ∷ []) ∷ [];
  asked = line (1 ∷ 0 ∷ 3 ∷ 2 ∷ []) Yes 0 ∷ order (1 ∷ 0 ∷ 3 ∷ 2 ∷ []) Yes ∷
      intervals (1 ∷ 0 ∷ 3 ∷ 2 ∷ []) (given (0 ∷ 0 ∷ 2 ∷ 3 ∷ 0 ∷ 2 ∷ 4 ∷ 0 ∷ 2 ∷ 2 ∷ 0 ∷ 2 ∷ 1 ∷ 0 ∷ 2 ∷ [])) ∷
      by_records (0 ∷ 0 ∷ 2 ∷ 3 ∷ 0 ∷ 2 ∷ 4 ∷ 0 ∷ 2 ∷ 2 ∷ 0 ∷ 2 ∷ 1 ∷ 0 ∷ 2 ∷ []) Yes 0 ∷
      nodes_in (0 ∷ 0 ∷ 2 ∷ 3 ∷ 0 ∷ 2 ∷ 4 ∷ 0 ∷ 2 ∷ 2 ∷ 0 ∷ 2 ∷ 1 ∷ 0 ∷ 2 ∷ []) (2 ∷ 3 ∷ 0 ∷ 1 ∷ []) ∷
      extend (0 ∷ 0 ∷ 2 ∷ 3 ∷ 0 ∷ 2 ∷ 4 ∷ 0 ∷ 2 ∷ 2 ∷ 0 ∷ 2 ∷ 1 ∷ 0 ∷ 2 ∷ []) 4 (given (0 ∷ 0 ∷ 2 ∷ 3 ∷ 0 ∷ 2 ∷ 4 ∷ 0 ∷
      2 ∷ 2 ∷ 0 ∷ 2 ∷ 1 ∷ 0 ∷ 2 ∷ 5 ∷ 0 ∷ 0 ∷ [])) ∷
      by_records (0 ∷ 0 ∷ 2 ∷ 3 ∷ 0 ∷ 2 ∷ 4 ∷ 0 ∷ 2 ∷ 2 ∷ 0 ∷ 2 ∷ 1 ∷ 0 ∷ 2 ∷ 5 ∷ 0 ∷ 0 ∷ []) Yes 0 ∷
      nodes_in (0 ∷ 0 ∷ 2 ∷ 3 ∷ 0 ∷ 2 ∷ 4 ∷ 0 ∷ 2 ∷ 2 ∷ 0 ∷ 2 ∷ 1 ∷ 0 ∷ 2 ∷ 5 ∷ 0 ∷ 0 ∷ []) (2 ∷ 3 ∷ 4 ∷ 0 ∷ 1 ∷ []) ∷
      line (2 ∷ 0 ∷ []) Yes 0 ∷ order (2 ∷ 0 ∷ []) Yes ∷
      intervals (2 ∷ 0 ∷ []) (given (0 ∷ 0 ∷ 0 ∷ 1 ∷ 0 ∷ 0 ∷ 2 ∷ 0 ∷ 0 ∷ 3 ∷ 0 ∷ 0 ∷ 4 ∷ 1 ∷ 1 ∷ [])) ∷
      by_records (0 ∷ 0 ∷ 0 ∷ 1 ∷ 0 ∷ 0 ∷ 2 ∷ 0 ∷ 0 ∷ 3 ∷ 0 ∷ 0 ∷ 4 ∷ 1 ∷ 1 ∷ []) Yes 0 ∷
      nodes_in (0 ∷ 0 ∷ 0 ∷ 1 ∷ 0 ∷ 0 ∷ 2 ∷ 0 ∷ 0 ∷ 3 ∷ 0 ∷ 0 ∷ 4 ∷ 1 ∷ 1 ∷ []) (2 ∷ 0 ∷ []) ∷
      extend (0 ∷ 0 ∷ 0 ∷ 1 ∷ 0 ∷ 0 ∷ 2 ∷ 0 ∷ 0 ∷ 3 ∷ 0 ∷ 0 ∷ 4 ∷ 1 ∷ 1 ∷ []) 1 (given (0 ∷ 0 ∷ 2 ∷ 1 ∷ 0 ∷ 2 ∷ 2 ∷ 0 ∷
      2 ∷ 3 ∷ 0 ∷ 2 ∷ 4 ∷ 1 ∷ 2 ∷ [])) ∷
      extend (0 ∷ 0 ∷ 2 ∷ 1 ∷ 0 ∷ 2 ∷ 2 ∷ 0 ∷ 2 ∷ 3 ∷ 0 ∷ 2 ∷ 4 ∷ 1 ∷ 2 ∷ []) 4 (given (0 ∷ 0 ∷ 2 ∷ 1 ∷ 0 ∷ 2 ∷ 2 ∷ 0 ∷
      2 ∷ 3 ∷ 0 ∷ 2 ∷ 4 ∷ 1 ∷ 2 ∷ 5 ∷ 0 ∷ 0 ∷ [])) ∷
      by_records (0 ∷ 0 ∷ 2 ∷ 1 ∷ 0 ∷ 2 ∷ 2 ∷ 0 ∷ 2 ∷ 3 ∷ 0 ∷ 2 ∷ 4 ∷ 1 ∷ 2 ∷ 5 ∷ 0 ∷ 0 ∷ []) Yes 0 ∷
      nodes_in (0 ∷ 0 ∷ 2 ∷ 1 ∷ 0 ∷ 2 ∷ 2 ∷ 0 ∷ 2 ∷ 3 ∷ 0 ∷ 2 ∷ 4 ∷ 1 ∷ 2 ∷ 5 ∷ 0 ∷ 0 ∷ []) (2 ∷ 4 ∷ 0 ∷ 1 ∷ []) ∷
      order [] Yes ∷ line_ports (4 ∷ 3 ∷ 1 ∷ []) [] (14 ∷ []) No 0 ∷ order_ports (4 ∷ 3 ∷ 1 ∷ []) [] (14 ∷ []) No ∷
      line_ports (0 ∷ 2 ∷ 3 ∷ 4 ∷ []) [] [] Yes 0 ∷ order_ports (0 ∷ 2 ∷ 3 ∷ 4 ∷ []) [] [] Yes ∷ port 0 0 1 (4 ∷ []) ∷
      port 12 3 1 (3 ∷ []) ∷ port 15 0 1 (4 ∷ []) ∷ port 16 0 0 [] ∷ [];
}

map_5 : Recording
map_5 = record {
  nodes = node 1 2 ∷ node 1 2 ∷ node 3 1 ∷ [];
  links = link 0 1 2 1 ∷ link 1 1 2 2 ∷ [];
  lines = 2;
  order = 0 ∷ 1 ∷ 2 ∷ [];
  positions = 0 ∷ 0 ∷ 1 ∷ [];
  lines_of_nodes = (0 ∷ []) ∷ (1 ∷ []) ∷ (0 ∷ 1 ∷ []) ∷ [];
  nodes_of_lines = (0 ∷ 2 ∷ []) ∷ (1 ∷ 2 ∷ []) ∷ [];
  asked = line (2 ∷ []) Yes 0 ∷ order (2 ∷ []) Yes ∷ intervals (2 ∷ []) (given (0 ∷ 1 ∷ 1 ∷ 1 ∷ 1 ∷ 1 ∷ [])) ∷
      by_records (0 ∷ 1 ∷ 1 ∷ 1 ∷ 1 ∷ 1 ∷ []) Yes 0 ∷ nodes_in (0 ∷ 1 ∷ 1 ∷ 1 ∷ 1 ∷ 1 ∷ []) (2 ∷ []) ∷
      extend (0 ∷ 1 ∷ 1 ∷ 1 ∷ 1 ∷ 1 ∷ []) 1 (given (0 ∷ 1 ∷ 1 ∷ 1 ∷ 0 ∷ 1 ∷ [])) ∷
      extend (0 ∷ 1 ∷ 1 ∷ 1 ∷ 0 ∷ 1 ∷ []) 0 (given (0 ∷ 0 ∷ 1 ∷ 1 ∷ 0 ∷ 1 ∷ [])) ∷
      by_records (0 ∷ 0 ∷ 1 ∷ 1 ∷ 0 ∷ 1 ∷ []) Yes 0 ∷ nodes_in (0 ∷ 0 ∷ 1 ∷ 1 ∷ 0 ∷ 1 ∷ []) (0 ∷ 1 ∷ 2 ∷ []) ∷
      line (1 ∷ 0 ∷ 2 ∷ []) Yes 0 ∷ order (1 ∷ 0 ∷ 2 ∷ []) Yes ∷
      intervals (1 ∷ 0 ∷ 2 ∷ []) (given (1 ∷ 0 ∷ 1 ∷ 0 ∷ 0 ∷ 1 ∷ [])) ∷ by_records (1 ∷ 0 ∷ 1 ∷ 0 ∷ 0 ∷ 1 ∷ []) Yes 0 ∷
      nodes_in (1 ∷ 0 ∷ 1 ∷ 0 ∷ 0 ∷ 1 ∷ []) (0 ∷ 1 ∷ 2 ∷ []) ∷
      extend (1 ∷ 0 ∷ 1 ∷ 0 ∷ 0 ∷ 1 ∷ []) 2 (given (1 ∷ 0 ∷ 1 ∷ 0 ∷ 0 ∷ 1 ∷ [])) ∷ order (0 ∷ 1 ∷ []) Yes ∷
      line_ports (1 ∷ 0 ∷ 2 ∷ []) (7 ∷ 4 ∷ 3 ∷ []) (2 ∷ 7 ∷ []) No 0 ∷
      order_ports (1 ∷ 0 ∷ 2 ∷ []) (7 ∷ 4 ∷ 3 ∷ []) (2 ∷ 7 ∷ []) No ∷ line_ports (1 ∷ []) [] (4 ∷ 4 ∷ []) Yes 0 ∷
      order_ports (2 ∷ 1 ∷ 0 ∷ 1 ∷ []) [] (4 ∷ 4 ∷ []) Yes ∷ port 2 0 1 (0 ∷ []) ∷ port 3 0 0 [] ∷ port 4 0 0 [] ∷
      port 8 1 1 (1 ∷ []) ∷ [];
}

map_6 : Recording
map_6 = record {
  nodes = node 0 1 ∷ node 0 2 ∷ node 0 0 ∷ node 0 1 ∷ node 3 1 ∷ node 2 1 ∷ [];
  links = link 0 0 4 1 ∷ link 1 1 5 0 ∷ link 0 0 4 2 ∷ link 5 0 4 0 ∷ link 1 1 5 1 ∷ [];
  lines = 6;
  order = 0 ∷ 1 ∷ 2 ∷ 3 ∷ 5 ∷ 4 ∷ [];
  positions = 0 ∷ 0 ∷ 0 ∷ 0 ∷ 2 ∷ 1 ∷ [];
  lines_of_nodes = (0 ∷ 1 ∷ []) ∷ (2 ∷ 3 ∷ []) ∷ (4 ∷ []) ∷ (5 ∷ []) ∷ (3 ∷ 1 ∷ 0 ∷ []) ∷ (3 ∷ 2 ∷ []) ∷ [];
  nodes_of_lines = (0 ∷ 4 ∷ []) ∷ (0 ∷ 4 ∷ []) ∷ (1 ∷ 5 ∷ []) ∷ (1 ∷ 5 ∷ 4 ∷ []) ∷ (2 ∷ []) ∷ (3 ∷ []) ∷ [];
  asked = line (1 ∷ 4 ∷ []) No 0 ∷ order (1 ∷ 4 ∷ []) No ∷ intervals (1 ∷ 4 ∷ []) none ∷ line (0 ∷ 4 ∷ []) Yes 0 ∷
      order (0 ∷ 4 ∷ []) Yes ∷ intervals (0 ∷ 4 ∷ []) (given (0 ∷ 0 ∷ 2 ∷ 1 ∷ 0 ∷ 2 ∷ 3 ∷ 2 ∷ 2 ∷ [])) ∷
      by_records (0 ∷ 0 ∷ 2 ∷ 1 ∷ 0 ∷ 2 ∷ 3 ∷ 2 ∷ 2 ∷ []) Yes 0 ∷
      nodes_in (0 ∷ 0 ∷ 2 ∷ 1 ∷ 0 ∷ 2 ∷ 3 ∷ 2 ∷ 2 ∷ []) (0 ∷ 4 ∷ []) ∷
      extend (0 ∷ 0 ∷ 2 ∷ 1 ∷ 0 ∷ 2 ∷ 3 ∷ 2 ∷ 2 ∷ []) 2 (given (0 ∷ 0 ∷ 2 ∷ 1 ∷ 0 ∷ 2 ∷ 3 ∷ 2 ∷ 2 ∷ 4 ∷ 0 ∷ 0 ∷ [])) ∷
      extend (0 ∷ 0 ∷ 2 ∷ 1 ∷ 0 ∷ 2 ∷ 3 ∷ 2 ∷ 2 ∷ 4 ∷ 0 ∷ 0 ∷ []) 3 (given (0 ∷ 0 ∷ 2 ∷ 1 ∷ 0 ∷ 2 ∷ 3 ∷ 2 ∷ 2 ∷ 4 ∷ 0 ∷
      0 ∷ 5 ∷ 0 ∷ 0 ∷ [])) ∷ by_records (0 ∷ 0 ∷ 2 ∷ 1 ∷ 0 ∷ 2 ∷ 3 ∷ 2 ∷ 2 ∷ 4 ∷ 0 ∷ 0 ∷ 5 ∷ 0 ∷ 0 ∷ []) Yes 0 ∷
      nodes_in (0 ∷ 0 ∷ 2 ∷ 1 ∷ 0 ∷ 2 ∷ 3 ∷ 2 ∷ 2 ∷ 4 ∷ 0 ∷ 0 ∷ 5 ∷ 0 ∷ 0 ∷ []) (0 ∷ 2 ∷ 3 ∷ 4 ∷ []) ∷
      order (0 ∷ 5 ∷ 1 ∷ 2 ∷ 1 ∷ 2 ∷ []) Yes ∷ line_ports (0 ∷ 3 ∷ []) (9 ∷ []) (2 ∷ []) Yes 0 ∷
      order_ports (0 ∷ 3 ∷ []) (9 ∷ []) (2 ∷ []) Yes ∷ line_ports (1 ∷ 4 ∷ 3 ∷ []) (9 ∷ 2 ∷ []) (6 ∷ 5 ∷ []) No 0 ∷
      order_ports (1 ∷ 4 ∷ 3 ∷ []) (9 ∷ 2 ∷ []) (6 ∷ 5 ∷ []) No ∷ port 0 0 2 (0 ∷ 1 ∷ []) ∷ port 2 0 2 (2 ∷ 3 ∷ []) ∷
      port 6 2 1 (0 ∷ []) ∷ port 9 1 1 (2 ∷ []) ∷ [];
}

map_7 : Recording
map_7 = record {
  nodes = node 1 0 ∷ node 4 1 ∷ node 0 2 ∷ node 0 2 ∷ node 1 2 ∷ [];
  links = link 2 0 1 0 ∷ link 3 0 0 0 ∷ link 4 0 1 1 ∷ link 3 0 1 2 ∷ link 2 1 1 3 ∷ [];
  lines = 5;
  order = 2 ∷ 3 ∷ 4 ∷ 0 ∷ 1 ∷ [];
  positions = 1 ∷ 1 ∷ 0 ∷ 0 ∷ 0 ∷ [];
  lines_of_nodes = (3 ∷ []) ∷ (0 ∷ 4 ∷ 2 ∷ 1 ∷ []) ∷ (0 ∷ 1 ∷ []) ∷ (2 ∷ 3 ∷ []) ∷ (4 ∷ []) ∷ [];
  nodes_of_lines = (2 ∷ 1 ∷ []) ∷ (2 ∷ 1 ∷ []) ∷ (3 ∷ 1 ∷ []) ∷ (3 ∷ 0 ∷ []) ∷ (4 ∷ 1 ∷ []) ∷ [];
  asked = line (4 ∷ 0 ∷ []) Yes 1 ∷ order (4 ∷ 0 ∷ []) Yes ∷
      intervals (4 ∷ 0 ∷ []) (given (4 ∷ 0 ∷ 0 ∷ 3 ∷ 1 ∷ 1 ∷ [])) ∷ by_records (4 ∷ 0 ∷ 0 ∷ 3 ∷ 1 ∷ 1 ∷ []) Yes 1 ∷
      nodes_in (4 ∷ 0 ∷ 0 ∷ 3 ∷ 1 ∷ 1 ∷ []) (4 ∷ 0 ∷ []) ∷
      extend (4 ∷ 0 ∷ 0 ∷ 3 ∷ 1 ∷ 1 ∷ []) 2 (given (4 ∷ 0 ∷ 0 ∷ 3 ∷ 1 ∷ 1 ∷ 0 ∷ 0 ∷ 0 ∷ 1 ∷ 0 ∷ 0 ∷ [])) ∷
      extend (4 ∷ 0 ∷ 0 ∷ 3 ∷ 1 ∷ 1 ∷ 0 ∷ 0 ∷ 0 ∷ 1 ∷ 0 ∷ 0 ∷ []) 3 (given (4 ∷ 0 ∷ 0 ∷ 3 ∷ 0 ∷ 1 ∷ 0 ∷ 0 ∷ 0 ∷ 1 ∷ 0 ∷
      0 ∷ 2 ∷ 0 ∷ 0 ∷ [])) ∷ by_records (4 ∷ 0 ∷ 0 ∷ 3 ∷ 0 ∷ 1 ∷ 0 ∷ 0 ∷ 0 ∷ 1 ∷ 0 ∷ 0 ∷ 2 ∷ 0 ∷ 0 ∷ []) Yes 0 ∷
      nodes_in (4 ∷ 0 ∷ 0 ∷ 3 ∷ 0 ∷ 1 ∷ 0 ∷ 0 ∷ 0 ∷ 1 ∷ 0 ∷ 0 ∷ 2 ∷ 0 ∷ 0 ∷ []) (2 ∷ 3 ∷ 4 ∷ 0 ∷ []) ∷
      line (4 ∷ []) Yes 0 ∷ order (4 ∷ []) Yes ∷ intervals (4 ∷ []) (given (4 ∷ 0 ∷ 0 ∷ [])) ∷
      by_records (4 ∷ 0 ∷ 0 ∷ []) Yes 0 ∷ nodes_in (4 ∷ 0 ∷ 0 ∷ []) (4 ∷ []) ∷
      extend (4 ∷ 0 ∷ 0 ∷ []) 1 (given (4 ∷ 0 ∷ 1 ∷ 0 ∷ 1 ∷ 1 ∷ 2 ∷ 1 ∷ 1 ∷ 1 ∷ 1 ∷ 1 ∷ [])) ∷
      extend (4 ∷ 0 ∷ 1 ∷ 0 ∷ 1 ∷ 1 ∷ 2 ∷ 1 ∷ 1 ∷ 1 ∷ 1 ∷ 1 ∷ []) 0 (given (4 ∷ 0 ∷ 1 ∷ 0 ∷ 1 ∷ 1 ∷ 2 ∷ 1 ∷ 1 ∷ 1 ∷ 1 ∷
      1 ∷ 3 ∷ 1 ∷ 1 ∷ [])) ∷ by_records (4 ∷ 0 ∷ 1 ∷ 0 ∷ 1 ∷ 1 ∷ 2 ∷ 1 ∷ 1 ∷ 1 ∷ 1 ∷ 1 ∷ 3 ∷ 1 ∷ 1 ∷ []) Yes 0 ∷
      nodes_in (4 ∷ 0 ∷ 1 ∷ 0 ∷ 1 ∷ 1 ∷ 2 ∷ 1 ∷ 1 ∷ 1 ∷ 1 ∷ 1 ∷ 3 ∷ 1 ∷ 1 ∷ []) (4 ∷ 0 ∷ 1 ∷ []) ∷
      order (2 ∷ 4 ∷ 4 ∷ 4 ∷ 4 ∷ []) Yes ∷ line_ports (0 ∷ 4 ∷ []) (11 ∷ []) [] Yes 1 ∷
      order_ports (0 ∷ 4 ∷ []) (11 ∷ []) [] Yes ∷ line_ports (3 ∷ 1 ∷ []) [] [] Yes 1 ∷
      order_ports (4 ∷ 3 ∷ 0 ∷ 1 ∷ 2 ∷ 4 ∷ []) [] [] Yes ∷ port 2 1 1 (4 ∷ []) ∷ port 3 2 1 (2 ∷ []) ∷
      port 6 0 1 (0 ∷ []) ∷ port 11 0 1 (4 ∷ []) ∷ [];
}

map_8 : Recording
map_8 = record {
  nodes = node 2 0 ∷ node 1 1 ∷ node 1 0 ∷ node 0 0 ∷ node 0 1 ∷ node 1 1 ∷ [];
  links = link 1 0 0 0 ∷ link 4 0 5 0 ∷ link 1 0 2 0 ∷ [];
  lines = 4;
  order = 1 ∷ 3 ∷ 4 ∷ 0 ∷ 2 ∷ 5 ∷ [];
  positions = 1 ∷ 0 ∷ 1 ∷ 0 ∷ 0 ∷ 1 ∷ [];
  lines_of_nodes = (1 ∷ []) ∷ (0 ∷ 1 ∷ []) ∷ (0 ∷ []) ∷ (2 ∷ []) ∷ (3 ∷ []) ∷ (3 ∷ []) ∷ [];
  nodes_of_lines = (1 ∷ 2 ∷ []) ∷ (1 ∷ 0 ∷ []) ∷ (3 ∷ []) ∷ (4 ∷ 5 ∷ []) ∷ [];
  asked = line (0 ∷ 4 ∷ 2 ∷ []) Yes 1 ∷ order (0 ∷ 4 ∷ 2 ∷ []) Yes ∷
      intervals (0 ∷ 4 ∷ 2 ∷ []) (given (1 ∷ 1 ∷ 1 ∷ 3 ∷ 0 ∷ 0 ∷ 0 ∷ 1 ∷ 1 ∷ [])) ∷
      by_records (1 ∷ 1 ∷ 1 ∷ 3 ∷ 0 ∷ 0 ∷ 0 ∷ 1 ∷ 1 ∷ []) Yes 1 ∷
      nodes_in (1 ∷ 1 ∷ 1 ∷ 3 ∷ 0 ∷ 0 ∷ 0 ∷ 1 ∷ 1 ∷ []) (4 ∷ 0 ∷ 2 ∷ []) ∷
      extend (1 ∷ 1 ∷ 1 ∷ 3 ∷ 0 ∷ 0 ∷ 0 ∷ 1 ∷ 1 ∷ []) 5 (given (1 ∷ 1 ∷ 1 ∷ 3 ∷ 0 ∷ 1 ∷ 0 ∷ 1 ∷ 1 ∷ [])) ∷
      extend (1 ∷ 1 ∷ 1 ∷ 3 ∷ 0 ∷ 1 ∷ 0 ∷ 1 ∷ 1 ∷ []) 3 (given (1 ∷ 1 ∷ 1 ∷ 3 ∷ 0 ∷ 1 ∷ 0 ∷ 1 ∷ 1 ∷ 2 ∷ 0 ∷ 0 ∷ [])) ∷
      by_records (1 ∷ 1 ∷ 1 ∷ 3 ∷ 0 ∷ 1 ∷ 0 ∷ 1 ∷ 1 ∷ 2 ∷ 0 ∷ 0 ∷ []) Yes 0 ∷
      nodes_in (1 ∷ 1 ∷ 1 ∷ 3 ∷ 0 ∷ 1 ∷ 0 ∷ 1 ∷ 1 ∷ 2 ∷ 0 ∷ 0 ∷ []) (3 ∷ 4 ∷ 0 ∷ 2 ∷ 5 ∷ []) ∷ line (4 ∷ 0 ∷ []) Yes 1 ∷
      order (4 ∷ 0 ∷ []) Yes ∷ intervals (4 ∷ 0 ∷ []) (given (3 ∷ 0 ∷ 0 ∷ 1 ∷ 1 ∷ 1 ∷ [])) ∷
      by_records (3 ∷ 0 ∷ 0 ∷ 1 ∷ 1 ∷ 1 ∷ []) Yes 1 ∷ nodes_in (3 ∷ 0 ∷ 0 ∷ 1 ∷ 1 ∷ 1 ∷ []) (4 ∷ 0 ∷ []) ∷
      extend (3 ∷ 0 ∷ 0 ∷ 1 ∷ 1 ∷ 1 ∷ []) 3 (given (3 ∷ 0 ∷ 0 ∷ 1 ∷ 1 ∷ 1 ∷ 2 ∷ 0 ∷ 0 ∷ [])) ∷
      extend (3 ∷ 0 ∷ 0 ∷ 1 ∷ 1 ∷ 1 ∷ 2 ∷ 0 ∷ 0 ∷ []) 5 (given (3 ∷ 0 ∷ 1 ∷ 1 ∷ 1 ∷ 1 ∷ 2 ∷ 0 ∷ 0 ∷ [])) ∷
      by_records (3 ∷ 0 ∷ 1 ∷ 1 ∷ 1 ∷ 1 ∷ 2 ∷ 0 ∷ 0 ∷ []) Yes 0 ∷
      nodes_in (3 ∷ 0 ∷ 1 ∷ 1 ∷ 1 ∷ 1 ∷ 2 ∷ 0 ∷ 0 ∷ []) (3 ∷ 4 ∷ 0 ∷ 5 ∷ []) ∷ order (0 ∷ 4 ∷ 3 ∷ 5 ∷ 0 ∷ []) Yes ∷
      line_ports (2 ∷ 5 ∷ 1 ∷ []) (6 ∷ 7 ∷ 4 ∷ []) (5 ∷ 3 ∷ []) No 0 ∷
      order_ports (0 ∷ 5 ∷ []) (6 ∷ 7 ∷ 4 ∷ []) (5 ∷ 3 ∷ []) No ∷
      line_ports (0 ∷ 2 ∷ 3 ∷ 4 ∷ []) (4 ∷ 1 ∷ []) (6 ∷ 2 ∷ []) Yes 1 ∷
      order_ports (0 ∷ 2 ∷ 3 ∷ 4 ∷ []) (4 ∷ 1 ∷ []) (6 ∷ 2 ∷ []) Yes ∷ port 0 0 1 (1 ∷ []) ∷ port 2 0 0 [] ∷
      port 5 0 1 (3 ∷ []) ∷ port 6 0 1 (3 ∷ []) ∷ [];
}

map_9 : Recording
map_9 = record {
  nodes = node 2 2 ∷ node 1 1 ∷ node 1 2 ∷ node 4 0 ∷ node 0 0 ∷ node 0 0 ∷ [];
  links = link 0 0 3 2 ∷ link 2 1 3 3 ∷ link 2 1 3 0 ∷ link 1 0 0 1 ∷ link 0 0 2 0 ∷ [];
  lines = 5;
  order = 1 ∷ 4 ∷ 5 ∷ 0 ∷ 2 ∷ 3 ∷ [];
  positions = 1 ∷ 0 ∷ 2 ∷ 3 ∷ 0 ∷ 0 ∷ [];
  lines_of_nodes = (0 ∷ 3 ∷ []) ∷ (0 ∷ []) ∷ (3 ∷ 4 ∷ []) ∷ (4 ∷ 0 ∷ 3 ∷ []) ∷ (1 ∷ []) ∷ (2 ∷ []) ∷ [];
  nodes_of_lines = (1 ∷ 0 ∷ 3 ∷ []) ∷ (4 ∷ []) ∷ (5 ∷ []) ∷ (0 ∷ 2 ∷ 3 ∷ []) ∷ (2 ∷ 3 ∷ []) ∷ [];
  asked = line (4 ∷ 5 ∷ 1 ∷ 2 ∷ []) No 1 ∷ order (4 ∷ 5 ∷ 1 ∷ 2 ∷ []) No ∷
      intervals (4 ∷ 5 ∷ 1 ∷ 2 ∷ []) (given (1 ∷ 0 ∷ 0 ∷ 2 ∷ 0 ∷ 0 ∷ 0 ∷ 0 ∷ 0 ∷ 3 ∷ 2 ∷ 2 ∷ 4 ∷ 2 ∷ 2 ∷ [])) ∷
      by_records (1 ∷ 0 ∷ 0 ∷ 2 ∷ 0 ∷ 0 ∷ 0 ∷ 0 ∷ 0 ∷ 3 ∷ 2 ∷ 2 ∷ 4 ∷ 2 ∷ 2 ∷ []) No 1 ∷
      nodes_in (1 ∷ 0 ∷ 0 ∷ 2 ∷ 0 ∷ 0 ∷ 0 ∷ 0 ∷ 0 ∷ 3 ∷ 2 ∷ 2 ∷ 4 ∷ 2 ∷ 2 ∷ []) (1 ∷ 4 ∷ 5 ∷ 2 ∷ []) ∷
      extend (1 ∷ 0 ∷ 0 ∷ 2 ∷ 0 ∷ 0 ∷ 0 ∷ 0 ∷ 0 ∷ 3 ∷ 2 ∷ 2 ∷ 4 ∷ 2 ∷ 2 ∷ []) 3 none ∷
      extend (1 ∷ 0 ∷ 0 ∷ 2 ∷ 0 ∷ 0 ∷ 0 ∷ 0 ∷ 0 ∷ 3 ∷ 2 ∷ 2 ∷ 4 ∷ 2 ∷ 2 ∷ []) 0 (given (1 ∷ 0 ∷ 0 ∷ 2 ∷ 0 ∷ 0 ∷ 0 ∷ 0 ∷
      1 ∷ 3 ∷ 1 ∷ 2 ∷ 4 ∷ 2 ∷ 2 ∷ [])) ∷
      by_records (1 ∷ 0 ∷ 0 ∷ 2 ∷ 0 ∷ 0 ∷ 0 ∷ 0 ∷ 1 ∷ 3 ∷ 1 ∷ 2 ∷ 4 ∷ 2 ∷ 2 ∷ []) Yes 0 ∷
      nodes_in (1 ∷ 0 ∷ 0 ∷ 2 ∷ 0 ∷ 0 ∷ 0 ∷ 0 ∷ 1 ∷ 3 ∷ 1 ∷ 2 ∷ 4 ∷ 2 ∷ 2 ∷ []) (1 ∷ 4 ∷ 5 ∷ 0 ∷ 2 ∷ []) ∷
      line (5 ∷ 3 ∷ 4 ∷ 1 ∷ []) No 0 ∷ order (5 ∷ 3 ∷ 4 ∷ 1 ∷ []) No ∷ intervals (5 ∷ 3 ∷ 4 ∷ 1 ∷ []) none ∷
      order (1 ∷ 3 ∷ []) No ∷ line_ports (5 ∷ 0 ∷ 3 ∷ []) [] (6 ∷ 9 ∷ []) No 0 ∷
      order_ports (1 ∷ 5 ∷ []) [] (6 ∷ 9 ∷ []) Yes ∷ line_ports (1 ∷ 3 ∷ []) (1 ∷ []) (5 ∷ 3 ∷ []) No 0 ∷
      order_ports (1 ∷ 3 ∷ []) (1 ∷ []) (5 ∷ 3 ∷ []) No ∷ port 3 2 0 [] ∷ port 7 0 0 [] ∷ port 11 1 1 (0 ∷ []) ∷
      port 12 2 1 (3 ∷ []) ∷ [];
}

map_10 : Recording
map_10 = record {
  nodes = node 0 5 ∷ node 7 1 ∷ node 2 1 ∷ node 1 2 ∷ node 3 3 ∷ node 0 1 ∷ [];
  links = link 3 1 4 1 ∷ link 0 3 4 0 ∷ link 4 1 1 3 ∷ link 0 4 1 6 ∷ link 4 1 1 5 ∷ link 0 0 1 0 ∷ link 5 0 2 1 ∷
      link 0 1 1 2 ∷ link 4 2 1 4 ∷ [];
  lines = 7;
  order = 0 ∷ 3 ∷ 5 ∷ 4 ∷ 2 ∷ 1 ∷ [];
  positions = 0 ∷ 2 ∷ 1 ∷ 0 ∷ 1 ∷ 0 ∷ [];
  lines_of_nodes = (0 ∷ 1 ∷ 2 ∷ 3 ∷ []) ∷ (0 ∷ 1 ∷ 4 ∷ 6 ∷ 2 ∷ 3 ∷ []) ∷ (5 ∷ []) ∷ (4 ∷ []) ∷ (2 ∷ 4 ∷ 6 ∷ []) ∷
      (5 ∷ []) ∷ [];
  nodes_of_lines = (0 ∷ 1 ∷ []) ∷ (0 ∷ 1 ∷ []) ∷ (0 ∷ 4 ∷ 1 ∷ []) ∷ (0 ∷ 1 ∷ []) ∷ (3 ∷ 4 ∷ 1 ∷ []) ∷ (5 ∷ 2 ∷ []) ∷
      (4 ∷ 1 ∷ []) ∷ [];
  asked = line (5 ∷ 1 ∷ 0 ∷ []) No 0 ∷ order (5 ∷ 1 ∷ 0 ∷ []) No ∷ intervals (5 ∷ 1 ∷ 0 ∷ []) none ∷
      line (0 ∷ 2 ∷ 5 ∷ 1 ∷ []) No 0 ∷ order (0 ∷ 2 ∷ 5 ∷ 1 ∷ []) No ∷ intervals (0 ∷ 2 ∷ 5 ∷ 1 ∷ []) none ∷
      order (1 ∷ []) Yes ∷ line_ports (3 ∷ 1 ∷ []) [] [] No 0 ∷ order_ports (0 ∷ 2 ∷ []) [] [] Yes ∷
      line_ports (1 ∷ 4 ∷ []) [] [] Yes 0 ∷ order_ports (4 ∷ 2 ∷ 1 ∷ 4 ∷ 3 ∷ 5 ∷ []) [] [] Yes ∷ port 1 1 1 (1 ∷ []) ∷
      port 7 1 1 (1 ∷ []) ∷ port 8 2 1 (4 ∷ []) ∷ port 20 1 1 (4 ∷ []) ∷ [];
}

map_11 : Recording
map_11 = record {
  nodes = node 1 0 ∷ node 2 0 ∷ node 0 0 ∷ node 1 0 ∷ node 0 1 ∷ node 1 3 ∷ [];
  links = link 5 0 1 0 ∷ link 5 1 1 1 ∷ link 4 0 0 0 ∷ [];
  lines = 5;
  order = 2 ∷ 3 ∷ 4 ∷ 5 ∷ 0 ∷ 1 ∷ [];
  positions = 1 ∷ 1 ∷ 0 ∷ 0 ∷ 0 ∷ 0 ∷ [];
  lines_of_nodes = (2 ∷ []) ∷ (3 ∷ 4 ∷ []) ∷ (0 ∷ []) ∷ (1 ∷ []) ∷ (2 ∷ []) ∷ (3 ∷ 4 ∷ []) ∷ [];
  nodes_of_lines = (2 ∷ []) ∷ (3 ∷ []) ∷ (4 ∷ 0 ∷ []) ∷ (5 ∷ 1 ∷ []) ∷ (5 ∷ 1 ∷ []) ∷ [];
  asked = line (2 ∷ []) Yes 0 ∷ order (2 ∷ []) Yes ∷ intervals (2 ∷ []) (given (0 ∷ 0 ∷ 0 ∷ [])) ∷
      by_records (0 ∷ 0 ∷ 0 ∷ []) Yes 0 ∷ nodes_in (0 ∷ 0 ∷ 0 ∷ []) (2 ∷ []) ∷
      extend (0 ∷ 0 ∷ 0 ∷ []) 0 (given (0 ∷ 0 ∷ 0 ∷ 2 ∷ 1 ∷ 1 ∷ [])) ∷
      extend (0 ∷ 0 ∷ 0 ∷ 2 ∷ 1 ∷ 1 ∷ []) 5 (given (0 ∷ 0 ∷ 0 ∷ 2 ∷ 1 ∷ 1 ∷ 3 ∷ 0 ∷ 0 ∷ 4 ∷ 0 ∷ 0 ∷ [])) ∷
      by_records (0 ∷ 0 ∷ 0 ∷ 2 ∷ 1 ∷ 1 ∷ 3 ∷ 0 ∷ 0 ∷ 4 ∷ 0 ∷ 0 ∷ []) Yes 1 ∷
      nodes_in (0 ∷ 0 ∷ 0 ∷ 2 ∷ 1 ∷ 1 ∷ 3 ∷ 0 ∷ 0 ∷ 4 ∷ 0 ∷ 0 ∷ []) (2 ∷ 5 ∷ 0 ∷ []) ∷ line (4 ∷ 1 ∷ []) Yes 1 ∷
      order (4 ∷ 1 ∷ []) Yes ∷ intervals (4 ∷ 1 ∷ []) (given (2 ∷ 0 ∷ 0 ∷ 3 ∷ 1 ∷ 1 ∷ 4 ∷ 1 ∷ 1 ∷ [])) ∷
      by_records (2 ∷ 0 ∷ 0 ∷ 3 ∷ 1 ∷ 1 ∷ 4 ∷ 1 ∷ 1 ∷ []) Yes 1 ∷
      nodes_in (2 ∷ 0 ∷ 0 ∷ 3 ∷ 1 ∷ 1 ∷ 4 ∷ 1 ∷ 1 ∷ []) (4 ∷ 1 ∷ []) ∷
      extend (2 ∷ 0 ∷ 0 ∷ 3 ∷ 1 ∷ 1 ∷ 4 ∷ 1 ∷ 1 ∷ []) 5 (given (2 ∷ 0 ∷ 0 ∷ 3 ∷ 0 ∷ 1 ∷ 4 ∷ 0 ∷ 1 ∷ [])) ∷
      extend (2 ∷ 0 ∷ 0 ∷ 3 ∷ 0 ∷ 1 ∷ 4 ∷ 0 ∷ 1 ∷ []) 3 (given (2 ∷ 0 ∷ 0 ∷ 3 ∷ 0 ∷ 1 ∷ 4 ∷ 0 ∷ 1 ∷ 1 ∷ 0 ∷ 0 ∷ [])) ∷
      by_records (2 ∷ 0 ∷ 0 ∷ 3 ∷ 0 ∷ 1 ∷ 4 ∷ 0 ∷ 1 ∷ 1 ∷ 0 ∷ 0 ∷ []) Yes 0 ∷
      nodes_in (2 ∷ 0 ∷ 0 ∷ 3 ∷ 0 ∷ 1 ∷ 4 ∷ 0 ∷ 1 ∷ 1 ∷ 0 ∷ 0 ∷ []) (3 ∷ 4 ∷ 5 ∷ 1 ∷ []) ∷
      order (0 ∷ 5 ∷ 1 ∷ 4 ∷ 0 ∷ []) Yes ∷ line_ports (5 ∷ 0 ∷ []) (3 ∷ 6 ∷ []) (5 ∷ 5 ∷ []) Yes 1 ∷
      order_ports (5 ∷ 0 ∷ []) (3 ∷ 6 ∷ []) (5 ∷ 5 ∷ []) Yes ∷
      line_ports (2 ∷ 3 ∷ 4 ∷ 1 ∷ []) (4 ∷ 5 ∷ []) (8 ∷ []) Yes 1 ∷
      order_ports (2 ∷ 3 ∷ 4 ∷ 1 ∷ []) (4 ∷ 5 ∷ []) (8 ∷ []) Yes ∷ port 1 0 1 (3 ∷ []) ∷ port 4 0 1 (2 ∷ []) ∷
      port 7 1 1 (4 ∷ []) ∷ port 8 2 0 [] ∷ [];
}

map_12 : Recording
map_12 = record {
  nodes = node 1 0 ∷ node 1 3 ∷ node 0 2 ∷ node 2 0 ∷ node 1 2 ∷ [];
  links = link 4 0 3 1 ∷ link 2 1 1 0 ∷ link 1 2 0 0 ∷ link 1 0 3 0 ∷ [];
  lines = 3;
  order = 2 ∷ 4 ∷ 1 ∷ 3 ∷ 0 ∷ [];
  positions = 2 ∷ 1 ∷ 0 ∷ 2 ∷ 0 ∷ [];
  lines_of_nodes = (2 ∷ []) ∷ (0 ∷ 2 ∷ []) ∷ (0 ∷ []) ∷ (0 ∷ 1 ∷ []) ∷ (1 ∷ []) ∷ [];
  nodes_of_lines = (2 ∷ 1 ∷ 3 ∷ []) ∷ (4 ∷ 3 ∷ []) ∷ (1 ∷ 0 ∷ []) ∷ [];
  asked = line (3 ∷ 4 ∷ []) Yes 0 ∷ order (3 ∷ 4 ∷ []) Yes ∷
      intervals (3 ∷ 4 ∷ []) (given (0 ∷ 2 ∷ 2 ∷ 1 ∷ 0 ∷ 2 ∷ [])) ∷ by_records (0 ∷ 2 ∷ 2 ∷ 1 ∷ 0 ∷ 2 ∷ []) Yes 0 ∷
      nodes_in (0 ∷ 2 ∷ 2 ∷ 1 ∷ 0 ∷ 2 ∷ []) (4 ∷ 3 ∷ []) ∷
      extend (0 ∷ 2 ∷ 2 ∷ 1 ∷ 0 ∷ 2 ∷ []) 0 (given (0 ∷ 2 ∷ 2 ∷ 1 ∷ 0 ∷ 2 ∷ 2 ∷ 2 ∷ 2 ∷ [])) ∷
      extend (0 ∷ 2 ∷ 2 ∷ 1 ∷ 0 ∷ 2 ∷ 2 ∷ 2 ∷ 2 ∷ []) 1 (given (0 ∷ 1 ∷ 2 ∷ 1 ∷ 0 ∷ 2 ∷ 2 ∷ 1 ∷ 2 ∷ [])) ∷
      by_records (0 ∷ 1 ∷ 2 ∷ 1 ∷ 0 ∷ 2 ∷ 2 ∷ 1 ∷ 2 ∷ []) Yes 0 ∷
      nodes_in (0 ∷ 1 ∷ 2 ∷ 1 ∷ 0 ∷ 2 ∷ 2 ∷ 1 ∷ 2 ∷ []) (4 ∷ 1 ∷ 0 ∷ 3 ∷ []) ∷ line (0 ∷ 2 ∷ []) No 1 ∷
      order (0 ∷ 2 ∷ []) No ∷ intervals (0 ∷ 2 ∷ []) (given (2 ∷ 2 ∷ 2 ∷ 0 ∷ 0 ∷ 0 ∷ [])) ∷
      by_records (2 ∷ 2 ∷ 2 ∷ 0 ∷ 0 ∷ 0 ∷ []) No 1 ∷ nodes_in (2 ∷ 2 ∷ 2 ∷ 0 ∷ 0 ∷ 0 ∷ []) (2 ∷ 0 ∷ []) ∷
      extend (2 ∷ 2 ∷ 2 ∷ 0 ∷ 0 ∷ 0 ∷ []) 3 none ∷
      extend (2 ∷ 2 ∷ 2 ∷ 0 ∷ 0 ∷ 0 ∷ []) 1 (given (2 ∷ 1 ∷ 2 ∷ 0 ∷ 0 ∷ 1 ∷ [])) ∷
      by_records (2 ∷ 1 ∷ 2 ∷ 0 ∷ 0 ∷ 1 ∷ []) Yes 0 ∷ nodes_in (2 ∷ 1 ∷ 2 ∷ 0 ∷ 0 ∷ 1 ∷ []) (2 ∷ 1 ∷ 0 ∷ []) ∷
      order (1 ∷ 0 ∷ 3 ∷ []) Yes ∷ line_ports (0 ∷ 4 ∷ []) (4 ∷ 1 ∷ 11 ∷ []) (0 ∷ 5 ∷ 8 ∷ []) No 0 ∷
      order_ports (0 ∷ 4 ∷ []) (4 ∷ 1 ∷ 11 ∷ []) (0 ∷ 5 ∷ 8 ∷ []) No ∷
      line_ports (4 ∷ 0 ∷ []) (8 ∷ 10 ∷ []) (11 ∷ 2 ∷ 10 ∷ []) No 0 ∷
      order_ports (1 ∷ 3 ∷ 3 ∷ 3 ∷ 2 ∷ []) (8 ∷ 10 ∷ []) (11 ∷ 2 ∷ 10 ∷ []) No ∷ port 1 0 1 (0 ∷ []) ∷
      port 2 0 1 (0 ∷ []) ∷ port 7 0 1 (0 ∷ []) ∷ port 9 0 0 [] ∷ [];
}

map_13 : Recording
map_13 = record {
  nodes = node 2 4 ∷ node 0 1 ∷ node 4 0 ∷ node 1 1 ∷ [];
  links = link 3 0 2 2 ∷ link 0 2 3 0 ∷ link 3 0 2 3 ∷ link 0 1 2 0 ∷ link 1 0 0 0 ∷ link 0 3 2 1 ∷ [];
  lines = 4;
  order = 1 ∷ 0 ∷ 3 ∷ 2 ∷ [];
  positions = 1 ∷ 0 ∷ 3 ∷ 2 ∷ [];
  lines_of_nodes = (0 ∷ 1 ∷ 2 ∷ []) ∷ (0 ∷ []) ∷ (0 ∷ 2 ∷ 3 ∷ 1 ∷ []) ∷ (1 ∷ 3 ∷ []) ∷ [];
  nodes_of_lines = (1 ∷ 0 ∷ 2 ∷ []) ∷ (0 ∷ 3 ∷ 2 ∷ []) ∷ (0 ∷ 2 ∷ []) ∷ (3 ∷ 2 ∷ []) ∷ [];
  asked = line (3 ∷ 1 ∷ []) No 1 ∷ order (3 ∷ 1 ∷ []) No ∷
      intervals (3 ∷ 1 ∷ []) (given (1 ∷ 2 ∷ 2 ∷ 3 ∷ 2 ∷ 2 ∷ 0 ∷ 0 ∷ 0 ∷ [])) ∷
      by_records (1 ∷ 2 ∷ 2 ∷ 3 ∷ 2 ∷ 2 ∷ 0 ∷ 0 ∷ 0 ∷ []) No 1 ∷
      nodes_in (1 ∷ 2 ∷ 2 ∷ 3 ∷ 2 ∷ 2 ∷ 0 ∷ 0 ∷ 0 ∷ []) (1 ∷ 3 ∷ []) ∷
      extend (1 ∷ 2 ∷ 2 ∷ 3 ∷ 2 ∷ 2 ∷ 0 ∷ 0 ∷ 0 ∷ []) 0 (given (1 ∷ 1 ∷ 2 ∷ 3 ∷ 2 ∷ 2 ∷ 0 ∷ 0 ∷ 1 ∷ 2 ∷ 1 ∷ 1 ∷ [])) ∷
      extend (1 ∷ 1 ∷ 2 ∷ 3 ∷ 2 ∷ 2 ∷ 0 ∷ 0 ∷ 1 ∷ 2 ∷ 1 ∷ 1 ∷ []) 2 (given (1 ∷ 1 ∷ 3 ∷ 3 ∷ 2 ∷ 3 ∷ 0 ∷ 0 ∷ 3 ∷ 2 ∷ 1 ∷
      3 ∷ [])) ∷ by_records (1 ∷ 1 ∷ 3 ∷ 3 ∷ 2 ∷ 3 ∷ 0 ∷ 0 ∷ 3 ∷ 2 ∷ 1 ∷ 3 ∷ []) Yes 0 ∷
      nodes_in (1 ∷ 1 ∷ 3 ∷ 3 ∷ 2 ∷ 3 ∷ 0 ∷ 0 ∷ 3 ∷ 2 ∷ 1 ∷ 3 ∷ []) (1 ∷ 0 ∷ 3 ∷ 2 ∷ []) ∷ line (2 ∷ 0 ∷ 1 ∷ []) No 0 ∷
      order (2 ∷ 0 ∷ 1 ∷ []) No ∷ intervals (2 ∷ 0 ∷ 1 ∷ []) none ∷ order (0 ∷ 0 ∷ 2 ∷ []) No ∷
      line_ports (1 ∷ 3 ∷ []) [] (10 ∷ []) No 1 ∷ order_ports (1 ∷ 3 ∷ []) [] (10 ∷ []) No ∷
      line_ports (2 ∷ 1 ∷ []) (6 ∷ 6 ∷ []) (0 ∷ []) No 0 ∷ order_ports (2 ∷ 1 ∷ []) (6 ∷ 6 ∷ []) (0 ∷ []) No ∷
      port 4 1 1 (1 ∷ []) ∷ port 6 0 1 (0 ∷ []) ∷ port 7 0 1 (0 ∷ []) ∷ port 9 2 1 (3 ∷ []) ∷ [];
}

map_14 : Recording
map_14 = record {
  nodes = node 0 3 ∷ node 1 1 ∷ node 2 0 ∷ node 3 4 ∷ node 0 0 ∷ node 5 0 ∷ [];
  links = link 3 2 5 2 ∷ link 0 2 3 1 ∷ link 3 0 2 0 ∷ link 1 0 3 0 ∷ link 3 2 2 1 ∷ link 3 2 5 3 ∷ link 0 2 1 0 ∷
      link 0 0 3 2 ∷ link 1 0 5 1 ∷ link 3 1 5 4 ∷ [];
  lines = 7;
  order = 0 ∷ 4 ∷ 1 ∷ 3 ∷ 2 ∷ 5 ∷ [];
  positions = 0 ∷ 1 ∷ 3 ∷ 2 ∷ 0 ∷ 3 ∷ [];
  lines_of_nodes = (0 ∷ 1 ∷ 2 ∷ []) ∷ (2 ∷ 4 ∷ []) ∷ (4 ∷ 6 ∷ []) ∷ (4 ∷ 1 ∷ 0 ∷ 5 ∷ 6 ∷ []) ∷ (3 ∷ []) ∷
      (2 ∷ 5 ∷ 0 ∷ 1 ∷ []) ∷ [];
  nodes_of_lines = (0 ∷ 3 ∷ 5 ∷ []) ∷ (0 ∷ 3 ∷ 5 ∷ []) ∷ (0 ∷ 1 ∷ 5 ∷ []) ∷ (4 ∷ []) ∷ (1 ∷ 3 ∷ 2 ∷ []) ∷ (3 ∷ 5 ∷ []) ∷
      (3 ∷ 2 ∷ []) ∷ [];
  asked = line (3 ∷ 2 ∷ 0 ∷ []) No 1 ∷ order (3 ∷ 2 ∷ 0 ∷ []) No ∷
      intervals (3 ∷ 2 ∷ 0 ∷ []) (given (4 ∷ 2 ∷ 3 ∷ 1 ∷ 0 ∷ 2 ∷ 0 ∷ 0 ∷ 2 ∷ 5 ∷ 2 ∷ 2 ∷ 6 ∷ 2 ∷ 3 ∷ 2 ∷ 0 ∷ 0 ∷ [])) ∷
      by_records (4 ∷ 2 ∷ 3 ∷ 1 ∷ 0 ∷ 2 ∷ 0 ∷ 0 ∷ 2 ∷ 5 ∷ 2 ∷ 2 ∷ 6 ∷ 2 ∷ 3 ∷ 2 ∷ 0 ∷ 0 ∷ []) No 1 ∷
      nodes_in (4 ∷ 2 ∷ 3 ∷ 1 ∷ 0 ∷ 2 ∷ 0 ∷ 0 ∷ 2 ∷ 5 ∷ 2 ∷ 2 ∷ 6 ∷ 2 ∷ 3 ∷ 2 ∷ 0 ∷ 0 ∷ []) (0 ∷ 3 ∷ 2 ∷ []) ∷
      extend (4 ∷ 2 ∷ 3 ∷ 1 ∷ 0 ∷ 2 ∷ 0 ∷ 0 ∷ 2 ∷ 5 ∷ 2 ∷ 2 ∷ 6 ∷ 2 ∷ 3 ∷ 2 ∷ 0 ∷ 0 ∷ []) 1 (given (4 ∷ 1 ∷ 3 ∷ 1 ∷ 0 ∷
      2 ∷ 0 ∷ 0 ∷ 2 ∷ 5 ∷ 2 ∷ 2 ∷ 6 ∷ 2 ∷ 3 ∷ 2 ∷ 0 ∷ 1 ∷ [])) ∷
      extend (4 ∷ 1 ∷ 3 ∷ 1 ∷ 0 ∷ 2 ∷ 0 ∷ 0 ∷ 2 ∷ 5 ∷ 2 ∷ 2 ∷ 6 ∷ 2 ∷ 3 ∷ 2 ∷ 0 ∷ 1 ∷ []) 4 (given (4 ∷ 1 ∷ 3 ∷ 1 ∷ 0 ∷
      2 ∷ 0 ∷ 0 ∷ 2 ∷ 5 ∷ 2 ∷ 2 ∷ 6 ∷ 2 ∷ 3 ∷ 2 ∷ 0 ∷ 1 ∷ 3 ∷ 0 ∷ 0 ∷ [])) ∷
      by_records (4 ∷ 1 ∷ 3 ∷ 1 ∷ 0 ∷ 2 ∷ 0 ∷ 0 ∷ 2 ∷ 5 ∷ 2 ∷ 2 ∷ 6 ∷ 2 ∷ 3 ∷ 2 ∷ 0 ∷ 1 ∷ 3 ∷ 0 ∷ 0 ∷ []) Yes 0 ∷
      nodes_in (4 ∷ 1 ∷ 3 ∷ 1 ∷ 0 ∷ 2 ∷ 0 ∷ 0 ∷ 2 ∷ 5 ∷ 2 ∷ 2 ∷ 6 ∷ 2 ∷ 3 ∷ 2 ∷ 0 ∷ 1 ∷ 3 ∷ 0 ∷ 0 ∷ []) (0 ∷ 4 ∷ 1 ∷ 3 ∷
      2 ∷ []) ∷ line (4 ∷ 1 ∷ 2 ∷ 0 ∷ []) No 0 ∷ order (4 ∷ 1 ∷ 2 ∷ 0 ∷ []) No ∷ intervals (4 ∷ 1 ∷ 2 ∷ 0 ∷ []) none ∷
      order (2 ∷ []) Yes ∷ line_ports (1 ∷ 5 ∷ []) (3 ∷ []) (9 ∷ 17 ∷ 2 ∷ []) No 1 ∷
      order_ports (1 ∷ 5 ∷ []) (3 ∷ []) (9 ∷ 17 ∷ 2 ∷ []) No ∷ line_ports (5 ∷ 3 ∷ []) (12 ∷ []) (14 ∷ 2 ∷ []) Yes 1 ∷
      order_ports (5 ∷ 3 ∷ []) (12 ∷ []) (14 ∷ 2 ∷ []) Yes ∷ port 1 1 0 [] ∷ port 4 0 2 (2 ∷ 4 ∷ []) ∷
      port 8 1 1 (1 ∷ []) ∷ port 14 0 0 [] ∷ [];
}

map_15 : Recording
map_15 = record {
  nodes = node 0 0 ∷ node 3 1 ∷ node 0 2 ∷ [];
  links = link 2 0 1 0 ∷ link 2 0 1 1 ∷ [];
  lines = 3;
  order = 0 ∷ 2 ∷ 1 ∷ [];
  positions = 0 ∷ 1 ∷ 0 ∷ [];
  lines_of_nodes = (0 ∷ []) ∷ (2 ∷ 1 ∷ []) ∷ (1 ∷ 2 ∷ []) ∷ [];
  nodes_of_lines = (0 ∷ []) ∷ (2 ∷ 1 ∷ []) ∷ (2 ∷ 1 ∷ []) ∷ [];
  asked = line (0 ∷ []) Yes 0 ∷ order (0 ∷ []) Yes ∷ intervals (0 ∷ []) (given (0 ∷ 0 ∷ 0 ∷ [])) ∷
      by_records (0 ∷ 0 ∷ 0 ∷ []) Yes 0 ∷ nodes_in (0 ∷ 0 ∷ 0 ∷ []) (0 ∷ []) ∷
      extend (0 ∷ 0 ∷ 0 ∷ []) 1 (given (0 ∷ 0 ∷ 0 ∷ 2 ∷ 1 ∷ 1 ∷ 1 ∷ 1 ∷ 1 ∷ [])) ∷
      extend (0 ∷ 0 ∷ 0 ∷ 2 ∷ 1 ∷ 1 ∷ 1 ∷ 1 ∷ 1 ∷ []) 2 (given (0 ∷ 0 ∷ 0 ∷ 2 ∷ 0 ∷ 1 ∷ 1 ∷ 0 ∷ 1 ∷ [])) ∷
      by_records (0 ∷ 0 ∷ 0 ∷ 2 ∷ 0 ∷ 1 ∷ 1 ∷ 0 ∷ 1 ∷ []) Yes 0 ∷
      nodes_in (0 ∷ 0 ∷ 0 ∷ 2 ∷ 0 ∷ 1 ∷ 1 ∷ 0 ∷ 1 ∷ []) (0 ∷ 2 ∷ 1 ∷ []) ∷ line (2 ∷ 1 ∷ []) Yes 0 ∷
      order (2 ∷ 1 ∷ []) Yes ∷ intervals (2 ∷ 1 ∷ []) (given (1 ∷ 0 ∷ 1 ∷ 2 ∷ 0 ∷ 1 ∷ [])) ∷
      by_records (1 ∷ 0 ∷ 1 ∷ 2 ∷ 0 ∷ 1 ∷ []) Yes 0 ∷ nodes_in (1 ∷ 0 ∷ 1 ∷ 2 ∷ 0 ∷ 1 ∷ []) (2 ∷ 1 ∷ []) ∷
      extend (1 ∷ 0 ∷ 1 ∷ 2 ∷ 0 ∷ 1 ∷ []) 0 (given (1 ∷ 0 ∷ 1 ∷ 2 ∷ 0 ∷ 1 ∷ 0 ∷ 0 ∷ 0 ∷ [])) ∷
      by_records (1 ∷ 0 ∷ 1 ∷ 2 ∷ 0 ∷ 1 ∷ 0 ∷ 0 ∷ 0 ∷ []) Yes 0 ∷
      nodes_in (1 ∷ 0 ∷ 1 ∷ 2 ∷ 0 ∷ 1 ∷ 0 ∷ 0 ∷ 0 ∷ []) (0 ∷ 2 ∷ 1 ∷ []) ∷ order [] Yes ∷
      line_ports (1 ∷ 0 ∷ []) (0 ∷ 3 ∷ []) [] Yes 0 ∷ order_ports (1 ∷ 0 ∷ []) (0 ∷ 3 ∷ []) [] Yes ∷
      line_ports (0 ∷ 2 ∷ []) (0 ∷ 2 ∷ 2 ∷ []) (4 ∷ 5 ∷ []) No 0 ∷
      order_ports (0 ∷ 2 ∷ []) (0 ∷ 2 ∷ 2 ∷ []) (4 ∷ 5 ∷ []) No ∷ port 2 2 0 [] ∷ port 3 0 0 [] ∷
      port 4 0 2 (1 ∷ 2 ∷ []) ∷ port 5 2 0 [] ∷ [];
}

map_16 : Recording
map_16 = record {
  nodes = node 1 1 ∷ node 0 1 ∷ node 2 2 ∷ node 3 1 ∷ node 0 1 ∷ [];
  links = link 2 0 3 0 ∷ link 0 0 3 2 ∷ link 4 0 2 1 ∷ link 0 0 3 1 ∷ link 4 0 2 0 ∷ [];
  lines = 5;
  order = 0 ∷ 1 ∷ 4 ∷ 2 ∷ 3 ∷ [];
  positions = 0 ∷ 0 ∷ 1 ∷ 2 ∷ 0 ∷ [];
  lines_of_nodes = (0 ∷ 1 ∷ []) ∷ (2 ∷ []) ∷ (4 ∷ 3 ∷ []) ∷ (4 ∷ 1 ∷ 0 ∷ []) ∷ (3 ∷ 4 ∷ []) ∷ [];
  nodes_of_lines = (0 ∷ 3 ∷ []) ∷ (0 ∷ 3 ∷ []) ∷ (1 ∷ []) ∷ (4 ∷ 2 ∷ []) ∷ (4 ∷ 2 ∷ 3 ∷ []) ∷ [];
  asked = line (4 ∷ 0 ∷ 3 ∷ 2 ∷ []) Yes 0 ∷ order (4 ∷ 0 ∷ 3 ∷ 2 ∷ []) Yes ∷
      intervals (4 ∷ 0 ∷ 3 ∷ 2 ∷ []) (given (3 ∷ 0 ∷ 1 ∷ 4 ∷ 0 ∷ 2 ∷ 0 ∷ 0 ∷ 2 ∷ 1 ∷ 0 ∷ 2 ∷ [])) ∷
      by_records (3 ∷ 0 ∷ 1 ∷ 4 ∷ 0 ∷ 2 ∷ 0 ∷ 0 ∷ 2 ∷ 1 ∷ 0 ∷ 2 ∷ []) Yes 0 ∷
      nodes_in (3 ∷ 0 ∷ 1 ∷ 4 ∷ 0 ∷ 2 ∷ 0 ∷ 0 ∷ 2 ∷ 1 ∷ 0 ∷ 2 ∷ []) (0 ∷ 4 ∷ 2 ∷ 3 ∷ []) ∷
      extend (3 ∷ 0 ∷ 1 ∷ 4 ∷ 0 ∷ 2 ∷ 0 ∷ 0 ∷ 2 ∷ 1 ∷ 0 ∷ 2 ∷ []) 1 (given (3 ∷ 0 ∷ 1 ∷ 4 ∷ 0 ∷ 2 ∷ 0 ∷ 0 ∷ 2 ∷ 1 ∷ 0 ∷
      2 ∷ 2 ∷ 0 ∷ 0 ∷ [])) ∷
      extend (3 ∷ 0 ∷ 1 ∷ 4 ∷ 0 ∷ 2 ∷ 0 ∷ 0 ∷ 2 ∷ 1 ∷ 0 ∷ 2 ∷ 2 ∷ 0 ∷ 0 ∷ []) 3 (given (3 ∷ 0 ∷ 1 ∷ 4 ∷ 0 ∷ 2 ∷ 0 ∷ 0 ∷
      2 ∷ 1 ∷ 0 ∷ 2 ∷ 2 ∷ 0 ∷ 0 ∷ [])) ∷
      by_records (3 ∷ 0 ∷ 1 ∷ 4 ∷ 0 ∷ 2 ∷ 0 ∷ 0 ∷ 2 ∷ 1 ∷ 0 ∷ 2 ∷ 2 ∷ 0 ∷ 0 ∷ []) Yes 0 ∷
      nodes_in (3 ∷ 0 ∷ 1 ∷ 4 ∷ 0 ∷ 2 ∷ 0 ∷ 0 ∷ 2 ∷ 1 ∷ 0 ∷ 2 ∷ 2 ∷ 0 ∷ 0 ∷ []) (0 ∷ 1 ∷ 4 ∷ 2 ∷ 3 ∷ []) ∷
      line (4 ∷ 2 ∷ []) Yes 0 ∷ order (4 ∷ 2 ∷ []) Yes ∷ intervals (4 ∷ 2 ∷ []) (given (3 ∷ 0 ∷ 1 ∷ 4 ∷ 0 ∷ 1 ∷ [])) ∷
      by_records (3 ∷ 0 ∷ 1 ∷ 4 ∷ 0 ∷ 1 ∷ []) Yes 0 ∷ nodes_in (3 ∷ 0 ∷ 1 ∷ 4 ∷ 0 ∷ 1 ∷ []) (4 ∷ 2 ∷ []) ∷
      extend (3 ∷ 0 ∷ 1 ∷ 4 ∷ 0 ∷ 1 ∷ []) 3 (given (3 ∷ 0 ∷ 1 ∷ 4 ∷ 0 ∷ 2 ∷ 1 ∷ 2 ∷ 2 ∷ 0 ∷ 2 ∷ 2 ∷ [])) ∷
      extend (3 ∷ 0 ∷ 1 ∷ 4 ∷ 0 ∷ 2 ∷ 1 ∷ 2 ∷ 2 ∷ 0 ∷ 2 ∷ 2 ∷ []) 0 (given (3 ∷ 0 ∷ 1 ∷ 4 ∷ 0 ∷ 2 ∷ 1 ∷ 0 ∷ 2 ∷ 0 ∷ 0 ∷
      2 ∷ [])) ∷ by_records (3 ∷ 0 ∷ 1 ∷ 4 ∷ 0 ∷ 2 ∷ 1 ∷ 0 ∷ 2 ∷ 0 ∷ 0 ∷ 2 ∷ []) Yes 0 ∷
      nodes_in (3 ∷ 0 ∷ 1 ∷ 4 ∷ 0 ∷ 2 ∷ 1 ∷ 0 ∷ 2 ∷ 0 ∷ 0 ∷ 2 ∷ []) (0 ∷ 4 ∷ 2 ∷ 3 ∷ []) ∷
      order (0 ∷ 2 ∷ 0 ∷ 0 ∷ 0 ∷ []) Yes ∷ line_ports (4 ∷ 3 ∷ 1 ∷ []) (8 ∷ 8 ∷ []) (1 ∷ 2 ∷ 0 ∷ []) No 0 ∷
      order_ports (0 ∷ 1 ∷ 3 ∷ 3 ∷ []) (8 ∷ 8 ∷ []) (1 ∷ 2 ∷ 0 ∷ []) Yes ∷
      line_ports (1 ∷ 3 ∷ 4 ∷ []) (9 ∷ []) (9 ∷ []) No 0 ∷ order_ports (1 ∷ 3 ∷ 4 ∷ []) (9 ∷ []) (9 ∷ []) No ∷
      port 3 0 1 (4 ∷ []) ∷ port 5 0 1 (4 ∷ []) ∷ port 9 2 1 (0 ∷ []) ∷ port 11 0 2 (3 ∷ 4 ∷ []) ∷ [];
}

map_17 : Recording
map_17 = record {
  nodes = node 2 0 ∷ node 1 1 ∷ node 1 1 ∷ node 0 1 ∷ node 1 1 ∷ [];
  links = link 3 0 0 1 ∷ link 2 0 4 0 ∷ link 3 0 0 0 ∷ [];
  lines = 4;
  order = 1 ∷ 2 ∷ 3 ∷ 4 ∷ 0 ∷ [];
  positions = 1 ∷ 0 ∷ 0 ∷ 0 ∷ 1 ∷ [];
  lines_of_nodes = (3 ∷ 2 ∷ []) ∷ (0 ∷ []) ∷ (1 ∷ []) ∷ (2 ∷ 3 ∷ []) ∷ (1 ∷ []) ∷ [];
  nodes_of_lines = (1 ∷ []) ∷ (2 ∷ 4 ∷ []) ∷ (3 ∷ 0 ∷ []) ∷ (3 ∷ 0 ∷ []) ∷ [];
  asked = line (1 ∷ []) Yes 0 ∷ order (1 ∷ []) Yes ∷ intervals (1 ∷ []) (given (0 ∷ 0 ∷ 0 ∷ [])) ∷
      by_records (0 ∷ 0 ∷ 0 ∷ []) Yes 0 ∷ nodes_in (0 ∷ 0 ∷ 0 ∷ []) (1 ∷ []) ∷
      extend (0 ∷ 0 ∷ 0 ∷ []) 4 (given (0 ∷ 0 ∷ 0 ∷ 1 ∷ 1 ∷ 1 ∷ [])) ∷
      extend (0 ∷ 0 ∷ 0 ∷ 1 ∷ 1 ∷ 1 ∷ []) 2 (given (0 ∷ 0 ∷ 0 ∷ 1 ∷ 0 ∷ 1 ∷ [])) ∷
      by_records (0 ∷ 0 ∷ 0 ∷ 1 ∷ 0 ∷ 1 ∷ []) Yes 0 ∷ nodes_in (0 ∷ 0 ∷ 0 ∷ 1 ∷ 0 ∷ 1 ∷ []) (1 ∷ 2 ∷ 4 ∷ []) ∷
      line (3 ∷ 0 ∷ []) Yes 0 ∷ order (3 ∷ 0 ∷ []) Yes ∷ intervals (3 ∷ 0 ∷ []) (given (2 ∷ 0 ∷ 1 ∷ 3 ∷ 0 ∷ 1 ∷ [])) ∷
      by_records (2 ∷ 0 ∷ 1 ∷ 3 ∷ 0 ∷ 1 ∷ []) Yes 0 ∷ nodes_in (2 ∷ 0 ∷ 1 ∷ 3 ∷ 0 ∷ 1 ∷ []) (3 ∷ 0 ∷ []) ∷
      extend (2 ∷ 0 ∷ 1 ∷ 3 ∷ 0 ∷ 1 ∷ []) 1 (given (2 ∷ 0 ∷ 1 ∷ 3 ∷ 0 ∷ 1 ∷ 0 ∷ 0 ∷ 0 ∷ [])) ∷
      extend (2 ∷ 0 ∷ 1 ∷ 3 ∷ 0 ∷ 1 ∷ 0 ∷ 0 ∷ 0 ∷ []) 2 (given (2 ∷ 0 ∷ 1 ∷ 3 ∷ 0 ∷ 1 ∷ 0 ∷ 0 ∷ 0 ∷ 1 ∷ 0 ∷ 0 ∷ [])) ∷
      by_records (2 ∷ 0 ∷ 1 ∷ 3 ∷ 0 ∷ 1 ∷ 0 ∷ 0 ∷ 0 ∷ 1 ∷ 0 ∷ 0 ∷ []) Yes 0 ∷
      nodes_in (2 ∷ 0 ∷ 1 ∷ 3 ∷ 0 ∷ 1 ∷ 0 ∷ 0 ∷ 0 ∷ 1 ∷ 0 ∷ 0 ∷ []) (1 ∷ 2 ∷ 3 ∷ 0 ∷ []) ∷
      order (0 ∷ 2 ∷ 0 ∷ 2 ∷ 3 ∷ 0 ∷ []) Yes ∷ line_ports (3 ∷ 4 ∷ []) (7 ∷ []) (7 ∷ []) Yes 1 ∷
      order_ports (3 ∷ 4 ∷ []) (7 ∷ []) (7 ∷ []) Yes ∷ line_ports (4 ∷ 3 ∷ []) (7 ∷ []) (4 ∷ []) Yes 1 ∷
      order_ports (0 ∷ 0 ∷ 3 ∷ 4 ∷ 4 ∷ []) (7 ∷ []) (4 ∷ []) Yes ∷ port 1 1 1 (2 ∷ []) ∷ port 2 0 0 [] ∷ port 4 0 0 [] ∷
      port 8 0 0 [] ∷ [];
}

map_18 : Recording
map_18 = record {
  nodes = node 1 0 ∷ node 3 2 ∷ node 0 1 ∷ node 1 2 ∷ node 0 3 ∷ node 4 0 ∷ [];
  links = link 4 1 5 1 ∷ link 4 2 1 0 ∷ link 3 0 1 1 ∷ link 3 1 5 0 ∷ link 3 1 5 3 ∷ link 4 0 1 2 ∷ link 4 0 5 2 ∷
      link 1 1 0 0 ∷ [];
  lines = 8;
  order = 2 ∷ 3 ∷ 4 ∷ 5 ∷ 1 ∷ 0 ∷ [];
  positions = 2 ∷ 1 ∷ 0 ∷ 0 ∷ 0 ∷ 1 ∷ [];
  lines_of_nodes = (7 ∷ []) ∷ (7 ∷ 1 ∷ 4 ∷ []) ∷ (0 ∷ []) ∷ (1 ∷ 2 ∷ 3 ∷ []) ∷ (4 ∷ 5 ∷ 6 ∷ 7 ∷ []) ∷
      (3 ∷ 6 ∷ 5 ∷ 2 ∷ []) ∷ [];
  nodes_of_lines = (2 ∷ []) ∷ (3 ∷ 1 ∷ []) ∷ (3 ∷ 5 ∷ []) ∷ (3 ∷ 5 ∷ []) ∷ (4 ∷ 1 ∷ []) ∷ (4 ∷ 5 ∷ []) ∷ (4 ∷ 5 ∷ []) ∷
      (4 ∷ 1 ∷ 0 ∷ []) ∷ [];
  asked = line (0 ∷ 3 ∷ 2 ∷ []) No 1 ∷ order (0 ∷ 3 ∷ 2 ∷ []) No ∷
      intervals (0 ∷ 3 ∷ 2 ∷ []) (given (7 ∷ 2 ∷ 2 ∷ 1 ∷ 0 ∷ 0 ∷ 2 ∷ 0 ∷ 0 ∷ 3 ∷ 0 ∷ 0 ∷ 0 ∷ 0 ∷ 0 ∷ [])) ∷
      by_records (7 ∷ 2 ∷ 2 ∷ 1 ∷ 0 ∷ 0 ∷ 2 ∷ 0 ∷ 0 ∷ 3 ∷ 0 ∷ 0 ∷ 0 ∷ 0 ∷ 0 ∷ []) No 1 ∷
      nodes_in (7 ∷ 2 ∷ 2 ∷ 1 ∷ 0 ∷ 0 ∷ 2 ∷ 0 ∷ 0 ∷ 3 ∷ 0 ∷ 0 ∷ 0 ∷ 0 ∷ 0 ∷ []) (2 ∷ 3 ∷ 0 ∷ []) ∷
      extend (7 ∷ 2 ∷ 2 ∷ 1 ∷ 0 ∷ 0 ∷ 2 ∷ 0 ∷ 0 ∷ 3 ∷ 0 ∷ 0 ∷ 0 ∷ 0 ∷ 0 ∷ []) 1 (given (7 ∷ 1 ∷ 2 ∷ 1 ∷ 0 ∷ 1 ∷ 2 ∷ 0 ∷
      0 ∷ 3 ∷ 0 ∷ 0 ∷ 0 ∷ 0 ∷ 0 ∷ 4 ∷ 1 ∷ 1 ∷ [])) ∷
      extend (7 ∷ 1 ∷ 2 ∷ 1 ∷ 0 ∷ 1 ∷ 2 ∷ 0 ∷ 0 ∷ 3 ∷ 0 ∷ 0 ∷ 0 ∷ 0 ∷ 0 ∷ 4 ∷ 1 ∷ 1 ∷ []) 2 (given (7 ∷ 1 ∷ 2 ∷ 1 ∷ 0 ∷
      1 ∷ 2 ∷ 0 ∷ 0 ∷ 3 ∷ 0 ∷ 0 ∷ 0 ∷ 0 ∷ 0 ∷ 4 ∷ 1 ∷ 1 ∷ [])) ∷
      by_records (7 ∷ 1 ∷ 2 ∷ 1 ∷ 0 ∷ 1 ∷ 2 ∷ 0 ∷ 0 ∷ 3 ∷ 0 ∷ 0 ∷ 0 ∷ 0 ∷ 0 ∷ 4 ∷ 1 ∷ 1 ∷ []) Yes 1 ∷
      nodes_in (7 ∷ 1 ∷ 2 ∷ 1 ∷ 0 ∷ 1 ∷ 2 ∷ 0 ∷ 0 ∷ 3 ∷ 0 ∷ 0 ∷ 0 ∷ 0 ∷ 0 ∷ 4 ∷ 1 ∷ 1 ∷ []) (2 ∷ 3 ∷ 1 ∷ 0 ∷ []) ∷
      line (3 ∷ 0 ∷ 2 ∷ []) No 1 ∷ order (3 ∷ 0 ∷ 2 ∷ []) No ∷
      intervals (3 ∷ 0 ∷ 2 ∷ []) (given (1 ∷ 0 ∷ 0 ∷ 2 ∷ 0 ∷ 0 ∷ 3 ∷ 0 ∷ 0 ∷ 7 ∷ 2 ∷ 2 ∷ 0 ∷ 0 ∷ 0 ∷ [])) ∷
      by_records (1 ∷ 0 ∷ 0 ∷ 2 ∷ 0 ∷ 0 ∷ 3 ∷ 0 ∷ 0 ∷ 7 ∷ 2 ∷ 2 ∷ 0 ∷ 0 ∷ 0 ∷ []) No 1 ∷
      nodes_in (1 ∷ 0 ∷ 0 ∷ 2 ∷ 0 ∷ 0 ∷ 3 ∷ 0 ∷ 0 ∷ 7 ∷ 2 ∷ 2 ∷ 0 ∷ 0 ∷ 0 ∷ []) (2 ∷ 3 ∷ 0 ∷ []) ∷
      extend (1 ∷ 0 ∷ 0 ∷ 2 ∷ 0 ∷ 0 ∷ 3 ∷ 0 ∷ 0 ∷ 7 ∷ 2 ∷ 2 ∷ 0 ∷ 0 ∷ 0 ∷ []) 4 none ∷
      extend (1 ∷ 0 ∷ 0 ∷ 2 ∷ 0 ∷ 0 ∷ 3 ∷ 0 ∷ 0 ∷ 7 ∷ 2 ∷ 2 ∷ 0 ∷ 0 ∷ 0 ∷ []) 0 (given (1 ∷ 0 ∷ 0 ∷ 2 ∷ 0 ∷ 0 ∷ 3 ∷ 0 ∷
      0 ∷ 7 ∷ 2 ∷ 2 ∷ 0 ∷ 0 ∷ 0 ∷ [])) ∷ order (5 ∷ 4 ∷ 1 ∷ 0 ∷ 5 ∷ 0 ∷ 3 ∷ []) Yes ∷
      line_ports (4 ∷ 0 ∷ []) (8 ∷ []) [] No 0 ∷ order_ports (4 ∷ 1 ∷ []) (8 ∷ []) [] Yes ∷
      line_ports (1 ∷ 3 ∷ []) (0 ∷ 7 ∷ []) (10 ∷ []) Yes 1 ∷
      order_ports (2 ∷ 1 ∷ 3 ∷ 5 ∷ 5 ∷ 1 ∷ 0 ∷ []) (0 ∷ 7 ∷ []) (10 ∷ []) Yes ∷ port 2 1 1 (1 ∷ []) ∷ port 7 0 0 [] ∷
      port 8 0 1 (1 ∷ []) ∷ port 13 0 1 (3 ∷ []) ∷ [];
}

map_19 : Recording
map_19 = record {
  nodes = node 0 2 ∷ node 2 0 ∷ [];
  links = link 0 1 1 1 ∷ link 0 0 1 0 ∷ [];
  lines = 2;
  order = 0 ∷ 1 ∷ [];
  positions = 0 ∷ 1 ∷ [];
  lines_of_nodes = (0 ∷ 1 ∷ []) ∷ (0 ∷ 1 ∷ []) ∷ [];
  nodes_of_lines = (0 ∷ 1 ∷ []) ∷ (0 ∷ 1 ∷ []) ∷ [];
  asked = line (1 ∷ 0 ∷ []) Yes 0 ∷ order (1 ∷ 0 ∷ []) Yes ∷
      intervals (1 ∷ 0 ∷ []) (given (0 ∷ 0 ∷ 1 ∷ 1 ∷ 0 ∷ 1 ∷ [])) ∷ by_records (0 ∷ 0 ∷ 1 ∷ 1 ∷ 0 ∷ 1 ∷ []) Yes 0 ∷
      nodes_in (0 ∷ 0 ∷ 1 ∷ 1 ∷ 0 ∷ 1 ∷ []) (0 ∷ 1 ∷ []) ∷ line (1 ∷ 0 ∷ []) Yes 0 ∷ order (1 ∷ 0 ∷ []) Yes ∷
      intervals (1 ∷ 0 ∷ []) (given (0 ∷ 0 ∷ 1 ∷ 1 ∷ 0 ∷ 1 ∷ [])) ∷ by_records (0 ∷ 0 ∷ 1 ∷ 1 ∷ 0 ∷ 1 ∷ []) Yes 0 ∷
      nodes_in (0 ∷ 0 ∷ 1 ∷ 1 ∷ 0 ∷ 1 ∷ []) (0 ∷ 1 ∷ []) ∷
      extend (0 ∷ 0 ∷ 1 ∷ 1 ∷ 0 ∷ 1 ∷ []) 0 (given (0 ∷ 0 ∷ 1 ∷ 1 ∷ 0 ∷ 1 ∷ [])) ∷ order (0 ∷ []) Yes ∷
      line_ports (0 ∷ 1 ∷ []) (1 ∷ []) [] Yes 0 ∷ order_ports (0 ∷ 1 ∷ []) (1 ∷ []) [] Yes ∷
      line_ports (0 ∷ 1 ∷ []) [] [] Yes 0 ∷ order_ports (0 ∷ 1 ∷ []) [] [] Yes ∷ port 0 0 1 (0 ∷ []) ∷
      port 1 1 1 (1 ∷ []) ∷ port 2 0 1 (0 ∷ []) ∷ port 3 1 1 (1 ∷ []) ∷ [];
}

map_20 : Recording
map_20 = record {
  nodes = node 2 1 ∷ node 1 1 ∷ node 1 1 ∷ node 1 2 ∷ node 1 0 ∷ node 1 1 ∷ [];
  links = link 1 0 0 0 ∷ link 3 1 2 0 ∷ link 3 1 1 0 ∷ [];
  lines = 4;
  order = 3 ∷ 4 ∷ 5 ∷ 2 ∷ 1 ∷ 0 ∷ [];
  positions = 2 ∷ 1 ∷ 1 ∷ 0 ∷ 0 ∷ 0 ∷ [];
  lines_of_nodes = (0 ∷ []) ∷ (0 ∷ []) ∷ (1 ∷ []) ∷ (0 ∷ 1 ∷ []) ∷ (2 ∷ []) ∷ (3 ∷ []) ∷ [];
  nodes_of_lines = (3 ∷ 1 ∷ 0 ∷ []) ∷ (3 ∷ 2 ∷ []) ∷ (4 ∷ []) ∷ (5 ∷ []) ∷ [];
  asked = line (0 ∷ 3 ∷ []) No 0 ∷ order (0 ∷ 3 ∷ []) No ∷ intervals (0 ∷ 3 ∷ []) none ∷ line (0 ∷ 3 ∷ []) No 0 ∷
      order (0 ∷ 3 ∷ []) No ∷ intervals (0 ∷ 3 ∷ []) none ∷ order [] Yes ∷
      line_ports (4 ∷ 1 ∷ 0 ∷ 3 ∷ 5 ∷ 2 ∷ []) (10 ∷ 11 ∷ []) (7 ∷ 5 ∷ []) Yes 0 ∷
      order_ports (3 ∷ []) (10 ∷ 11 ∷ []) (7 ∷ 5 ∷ []) Yes ∷ line_ports (3 ∷ 0 ∷ 4 ∷ []) (3 ∷ 5 ∷ []) (9 ∷ 8 ∷ []) No 0 ∷
      order_ports (3 ∷ 1 ∷ 0 ∷ 0 ∷ 4 ∷ []) (3 ∷ 5 ∷ []) (9 ∷ 8 ∷ []) No ∷ port 1 1 0 [] ∷ port 5 0 1 (1 ∷ []) ∷
      port 6 0 0 [] ∷ port 12 0 0 [] ∷ [];
}

map_21 : Recording
map_21 = record {
  nodes = node 1 1 ∷ node 2 3 ∷ node 0 0 ∷ node 2 0 ∷ node 1 1 ∷ node 0 0 ∷ [];
  links = link 4 0 1 1 ∷ link 1 2 3 1 ∷ link 1 1 3 0 ∷ [];
  lines = 5;
  order = 0 ∷ 2 ∷ 4 ∷ 5 ∷ 1 ∷ 3 ∷ [];
  positions = 0 ∷ 1 ∷ 0 ∷ 2 ∷ 0 ∷ 0 ∷ [];
  lines_of_nodes = (0 ∷ []) ∷ (2 ∷ 4 ∷ []) ∷ (1 ∷ []) ∷ (2 ∷ 4 ∷ []) ∷ (2 ∷ []) ∷ (3 ∷ []) ∷ [];
  nodes_of_lines = (0 ∷ []) ∷ (2 ∷ []) ∷ (4 ∷ 1 ∷ 3 ∷ []) ∷ (5 ∷ []) ∷ (1 ∷ 3 ∷ []) ∷ [];
  asked = line (0 ∷ 3 ∷ []) Yes 0 ∷ order (0 ∷ 3 ∷ []) Yes ∷
      intervals (0 ∷ 3 ∷ []) (given (0 ∷ 0 ∷ 0 ∷ 2 ∷ 2 ∷ 2 ∷ 4 ∷ 2 ∷ 2 ∷ [])) ∷
      by_records (0 ∷ 0 ∷ 0 ∷ 2 ∷ 2 ∷ 2 ∷ 4 ∷ 2 ∷ 2 ∷ []) Yes 0 ∷
      nodes_in (0 ∷ 0 ∷ 0 ∷ 2 ∷ 2 ∷ 2 ∷ 4 ∷ 2 ∷ 2 ∷ []) (0 ∷ 3 ∷ []) ∷
      extend (0 ∷ 0 ∷ 0 ∷ 2 ∷ 2 ∷ 2 ∷ 4 ∷ 2 ∷ 2 ∷ []) 2 (given (0 ∷ 0 ∷ 0 ∷ 2 ∷ 2 ∷ 2 ∷ 4 ∷ 2 ∷ 2 ∷ 1 ∷ 0 ∷ 0 ∷ [])) ∷
      extend (0 ∷ 0 ∷ 0 ∷ 2 ∷ 2 ∷ 2 ∷ 4 ∷ 2 ∷ 2 ∷ 1 ∷ 0 ∷ 0 ∷ []) 5 (given (0 ∷ 0 ∷ 0 ∷ 2 ∷ 2 ∷ 2 ∷ 4 ∷ 2 ∷ 2 ∷ 1 ∷ 0 ∷
      0 ∷ 3 ∷ 0 ∷ 0 ∷ [])) ∷ by_records (0 ∷ 0 ∷ 0 ∷ 2 ∷ 2 ∷ 2 ∷ 4 ∷ 2 ∷ 2 ∷ 1 ∷ 0 ∷ 0 ∷ 3 ∷ 0 ∷ 0 ∷ []) Yes 0 ∷
      nodes_in (0 ∷ 0 ∷ 0 ∷ 2 ∷ 2 ∷ 2 ∷ 4 ∷ 2 ∷ 2 ∷ 1 ∷ 0 ∷ 0 ∷ 3 ∷ 0 ∷ 0 ∷ []) (0 ∷ 2 ∷ 5 ∷ 3 ∷ []) ∷
      line (5 ∷ []) Yes 0 ∷ order (5 ∷ []) Yes ∷ intervals (5 ∷ []) (given (3 ∷ 0 ∷ 0 ∷ [])) ∷
      by_records (3 ∷ 0 ∷ 0 ∷ []) Yes 0 ∷ nodes_in (3 ∷ 0 ∷ 0 ∷ []) (5 ∷ []) ∷
      extend (3 ∷ 0 ∷ 0 ∷ []) 1 (given (3 ∷ 0 ∷ 0 ∷ 2 ∷ 1 ∷ 1 ∷ 4 ∷ 1 ∷ 1 ∷ [])) ∷
      extend (3 ∷ 0 ∷ 0 ∷ 2 ∷ 1 ∷ 1 ∷ 4 ∷ 1 ∷ 1 ∷ []) 0 (given (3 ∷ 0 ∷ 0 ∷ 2 ∷ 1 ∷ 1 ∷ 4 ∷ 1 ∷ 1 ∷ 0 ∷ 0 ∷ 0 ∷ [])) ∷
      by_records (3 ∷ 0 ∷ 0 ∷ 2 ∷ 1 ∷ 1 ∷ 4 ∷ 1 ∷ 1 ∷ 0 ∷ 0 ∷ 0 ∷ []) Yes 0 ∷
      nodes_in (3 ∷ 0 ∷ 0 ∷ 2 ∷ 1 ∷ 1 ∷ 4 ∷ 1 ∷ 1 ∷ 0 ∷ 0 ∷ 0 ∷ []) (0 ∷ 5 ∷ 1 ∷ []) ∷ order (3 ∷ []) Yes ∷
      line_ports (2 ∷ 4 ∷ 0 ∷ 5 ∷ []) (3 ∷ 8 ∷ []) [] Yes 0 ∷ order_ports (2 ∷ 4 ∷ 0 ∷ 5 ∷ []) (3 ∷ 8 ∷ []) [] Yes ∷
      line_ports (3 ∷ 0 ∷ 2 ∷ 4 ∷ []) (6 ∷ 3 ∷ []) (2 ∷ 2 ∷ []) No 0 ∷
      order_ports (3 ∷ 5 ∷ 1 ∷ 3 ∷ []) (6 ∷ 3 ∷ []) (2 ∷ 2 ∷ []) Yes ∷ port 0 0 0 [] ∷ port 4 0 0 [] ∷
      port 5 0 1 (2 ∷ []) ∷ port 6 1 1 (4 ∷ []) ∷ [];
}

map_22 : Recording
map_22 = record {
  nodes = node 2 0 ∷ node 1 3 ∷ node 6 1 ∷ node 1 3 ∷ node 1 1 ∷ node 0 2 ∷ [];
  links = link 1 1 2 2 ∷ link 5 1 2 4 ∷ link 3 2 4 0 ∷ link 5 0 2 1 ∷ link 3 1 2 0 ∷ link 1 0 3 0 ∷ link 5 0 2 5 ∷
      link 1 2 0 0 ∷ link 4 0 2 3 ∷ link 3 0 0 1 ∷ [];
  lines = 8;
  order = 1 ∷ 5 ∷ 3 ∷ 0 ∷ 4 ∷ 2 ∷ [];
  positions = 2 ∷ 0 ∷ 3 ∷ 1 ∷ 2 ∷ 0 ∷ [];
  lines_of_nodes = (2 ∷ 0 ∷ []) ∷ (0 ∷ 1 ∷ 2 ∷ []) ∷ (6 ∷ 4 ∷ 1 ∷ 7 ∷ 5 ∷ 3 ∷ []) ∷ (0 ∷ 6 ∷ 7 ∷ []) ∷ (7 ∷ []) ∷
      (3 ∷ 4 ∷ 5 ∷ []) ∷ [];
  nodes_of_lines = (1 ∷ 3 ∷ 0 ∷ []) ∷ (1 ∷ 2 ∷ []) ∷ (1 ∷ 0 ∷ []) ∷ (5 ∷ 2 ∷ []) ∷ (5 ∷ 2 ∷ []) ∷ (5 ∷ 2 ∷ []) ∷
      (3 ∷ 2 ∷ []) ∷ (3 ∷ 4 ∷ 2 ∷ []) ∷ [];
  asked = line (0 ∷ 3 ∷ []) Yes 1 ∷ order (0 ∷ 3 ∷ []) Yes ∷
      intervals (0 ∷ 3 ∷ []) (given (2 ∷ 2 ∷ 2 ∷ 0 ∷ 1 ∷ 2 ∷ 6 ∷ 1 ∷ 1 ∷ 7 ∷ 1 ∷ 1 ∷ [])) ∷
      by_records (2 ∷ 2 ∷ 2 ∷ 0 ∷ 1 ∷ 2 ∷ 6 ∷ 1 ∷ 1 ∷ 7 ∷ 1 ∷ 1 ∷ []) Yes 1 ∷
      nodes_in (2 ∷ 2 ∷ 2 ∷ 0 ∷ 1 ∷ 2 ∷ 6 ∷ 1 ∷ 1 ∷ 7 ∷ 1 ∷ 1 ∷ []) (3 ∷ 0 ∷ []) ∷
      extend (2 ∷ 2 ∷ 2 ∷ 0 ∷ 1 ∷ 2 ∷ 6 ∷ 1 ∷ 1 ∷ 7 ∷ 1 ∷ 1 ∷ []) 5 (given (2 ∷ 2 ∷ 2 ∷ 0 ∷ 1 ∷ 2 ∷ 6 ∷ 1 ∷ 1 ∷ 7 ∷ 1 ∷
      1 ∷ 3 ∷ 0 ∷ 0 ∷ 4 ∷ 0 ∷ 0 ∷ 5 ∷ 0 ∷ 0 ∷ [])) ∷
      extend (2 ∷ 2 ∷ 2 ∷ 0 ∷ 1 ∷ 2 ∷ 6 ∷ 1 ∷ 1 ∷ 7 ∷ 1 ∷ 1 ∷ 3 ∷ 0 ∷ 0 ∷ 4 ∷ 0 ∷ 0 ∷ 5 ∷ 0 ∷ 0 ∷ []) 1 (given (2 ∷ 0 ∷
      2 ∷ 0 ∷ 0 ∷ 2 ∷ 6 ∷ 1 ∷ 1 ∷ 7 ∷ 1 ∷ 1 ∷ 3 ∷ 0 ∷ 0 ∷ 4 ∷ 0 ∷ 0 ∷ 5 ∷ 0 ∷ 0 ∷ 1 ∷ 0 ∷ 0 ∷ [])) ∷
      by_records (2 ∷ 0 ∷ 2 ∷ 0 ∷ 0 ∷ 2 ∷ 6 ∷ 1 ∷ 1 ∷ 7 ∷ 1 ∷ 1 ∷ 3 ∷ 0 ∷ 0 ∷ 4 ∷ 0 ∷ 0 ∷ 5 ∷ 0 ∷ 0 ∷ 1 ∷ 0 ∷ 0 ∷
      []) Yes 0 ∷
      nodes_in (2 ∷ 0 ∷ 2 ∷ 0 ∷ 0 ∷ 2 ∷ 6 ∷ 1 ∷ 1 ∷ 7 ∷ 1 ∷ 1 ∷ 3 ∷ 0 ∷ 0 ∷ 4 ∷ 0 ∷ 0 ∷ 5 ∷ 0 ∷ 0 ∷ 1 ∷ 0 ∷ 0 ∷ []) (1 ∷
      5 ∷ 3 ∷ 0 ∷ []) ∷ line (4 ∷ 0 ∷ 2 ∷ 5 ∷ 3 ∷ 1 ∷ []) Yes 0 ∷ order (4 ∷ 0 ∷ 2 ∷ 5 ∷ 3 ∷ 1 ∷ []) Yes ∷
      intervals (4 ∷ 0 ∷ 2 ∷ 5 ∷ 3 ∷ 1 ∷ []) (given (7 ∷ 1 ∷ 3 ∷ 2 ∷ 0 ∷ 2 ∷ 0 ∷ 0 ∷ 2 ∷ 6 ∷ 1 ∷ 3 ∷ 4 ∷ 0 ∷ 3 ∷ 1 ∷ 0 ∷
      3 ∷ 5 ∷ 0 ∷ 3 ∷ 3 ∷ 0 ∷ 3 ∷ [])) ∷
      by_records (7 ∷ 1 ∷ 3 ∷ 2 ∷ 0 ∷ 2 ∷ 0 ∷ 0 ∷ 2 ∷ 6 ∷ 1 ∷ 3 ∷ 4 ∷ 0 ∷ 3 ∷ 1 ∷ 0 ∷ 3 ∷ 5 ∷ 0 ∷ 3 ∷ 3 ∷ 0 ∷ 3 ∷
      []) Yes 0 ∷
      nodes_in (7 ∷ 1 ∷ 3 ∷ 2 ∷ 0 ∷ 2 ∷ 0 ∷ 0 ∷ 2 ∷ 6 ∷ 1 ∷ 3 ∷ 4 ∷ 0 ∷ 3 ∷ 1 ∷ 0 ∷ 3 ∷ 5 ∷ 0 ∷ 3 ∷ 3 ∷ 0 ∷ 3 ∷ []) (1 ∷
      5 ∷ 3 ∷ 0 ∷ 4 ∷ 2 ∷ []) ∷
      extend (7 ∷ 1 ∷ 3 ∷ 2 ∷ 0 ∷ 2 ∷ 0 ∷ 0 ∷ 2 ∷ 6 ∷ 1 ∷ 3 ∷ 4 ∷ 0 ∷ 3 ∷ 1 ∷ 0 ∷ 3 ∷ 5 ∷ 0 ∷ 3 ∷ 3 ∷ 0 ∷ 3 ∷
      []) 3 (given (7 ∷ 1 ∷ 3 ∷ 2 ∷ 0 ∷ 2 ∷ 0 ∷ 0 ∷ 2 ∷ 6 ∷ 1 ∷ 3 ∷ 4 ∷ 0 ∷ 3 ∷ 1 ∷ 0 ∷ 3 ∷ 5 ∷ 0 ∷ 3 ∷ 3 ∷ 0 ∷ 3 ∷
      [])) ∷
      extend (7 ∷ 1 ∷ 3 ∷ 2 ∷ 0 ∷ 2 ∷ 0 ∷ 0 ∷ 2 ∷ 6 ∷ 1 ∷ 3 ∷ 4 ∷ 0 ∷ 3 ∷ 1 ∷ 0 ∷ 3 ∷ 5 ∷ 0 ∷ 3 ∷ 3 ∷ 0 ∷ 3 ∷
      []) 1 (given (7 ∷ 1 ∷ 3 ∷ 2 ∷ 0 ∷ 2 ∷ 0 ∷ 0 ∷ 2 ∷ 6 ∷ 1 ∷ 3 ∷ 4 ∷ 0 ∷ 3 ∷ 1 ∷ 0 ∷ 3 ∷ 5 ∷ 0 ∷ 3 ∷ 3 ∷ 0 ∷ 3 ∷
      [])) ∷ order [] Yes ∷ line_ports (4 ∷ 0 ∷ []) (20 ∷ []) (20 ∷ []) Yes 0 ∷
      order_ports (4 ∷ 0 ∷ []) (20 ∷ []) (20 ∷ []) Yes ∷ line_ports (4 ∷ 5 ∷ 1 ∷ 2 ∷ []) (11 ∷ []) (7 ∷ 0 ∷ []) No 1 ∷
      order_ports (2 ∷ 4 ∷ 1 ∷ 2 ∷ 3 ∷ []) (11 ∷ []) (7 ∷ 0 ∷ []) Yes ∷ port 5 2 1 (2 ∷ []) ∷ port 8 2 1 (1 ∷ []) ∷
      port 10 4 1 (5 ∷ []) ∷ port 16 2 1 (7 ∷ []) ∷ [];
}

map_23 : Recording
map_23 = record {
  nodes = node 4 1 ∷ node 3 2 ∷ node 0 3 ∷ node 1 1 ∷ node 2 4 ∷ [];
  links = link 3 0 0 0 ∷ link 4 2 0 2 ∷ link 2 2 1 1 ∷ link 4 3 0 1 ∷ link 1 1 4 0 ∷ link 1 0 3 0 ∷ link 2 1 1 2 ∷
      link 4 1 0 3 ∷ [];
  lines = 4;
  order = 2 ∷ 1 ∷ 3 ∷ 4 ∷ 0 ∷ [];
  positions = 3 ∷ 1 ∷ 0 ∷ 2 ∷ 2 ∷ [];
  lines_of_nodes = (1 ∷ 3 ∷ 2 ∷ 0 ∷ []) ∷ (1 ∷ 0 ∷ []) ∷ (0 ∷ 1 ∷ []) ∷ (1 ∷ []) ∷ (0 ∷ 2 ∷ 3 ∷ []) ∷ [];
  nodes_of_lines = (2 ∷ 1 ∷ 4 ∷ 0 ∷ []) ∷ (2 ∷ 1 ∷ 3 ∷ 0 ∷ []) ∷ (4 ∷ 0 ∷ []) ∷ (4 ∷ 0 ∷ []) ∷ [];
  asked = line (4 ∷ 2 ∷ []) No 0 ∷ order (4 ∷ 2 ∷ []) No ∷ intervals (4 ∷ 2 ∷ []) none ∷ line (2 ∷ 0 ∷ 4 ∷ []) No 0 ∷
      order (2 ∷ 0 ∷ 4 ∷ []) No ∷ intervals (2 ∷ 0 ∷ 4 ∷ []) none ∷ order (4 ∷ []) Yes ∷
      line_ports (4 ∷ 1 ∷ []) (8 ∷ 15 ∷ []) (13 ∷ []) No 0 ∷ order_ports (4 ∷ 1 ∷ []) (8 ∷ 15 ∷ []) (13 ∷ []) No ∷
      line_ports (0 ∷ 3 ∷ 4 ∷ 2 ∷ []) [] (20 ∷ []) No 0 ∷ order_ports (0 ∷ 3 ∷ 4 ∷ 2 ∷ []) [] (20 ∷ []) No ∷
      port 1 1 1 (3 ∷ []) ∷ port 2 2 1 (2 ∷ []) ∷ port 3 3 1 (0 ∷ []) ∷ port 8 0 1 (1 ∷ []) ∷ [];
}

map_24 : Recording
map_24 = record {
  nodes = node 1 4 ∷ node 1 1 ∷ node 0 2 ∷ node 5 0 ∷ node 0 0 ∷ node 0 0 ∷ [];
  links = link 2 0 1 0 ∷ link 0 0 3 0 ∷ link 0 1 3 4 ∷ link 0 3 3 2 ∷ link 0 2 3 1 ∷ link 1 0 3 3 ∷ [];
  lines = 7;
  order = 0 ∷ 2 ∷ 4 ∷ 5 ∷ 1 ∷ 3 ∷ [];
  positions = 0 ∷ 1 ∷ 0 ∷ 2 ∷ 0 ∷ 0 ∷ [];
  lines_of_nodes = (0 ∷ 1 ∷ 2 ∷ 3 ∷ []) ∷ (4 ∷ []) ∷ (4 ∷ []) ∷ (0 ∷ 2 ∷ 3 ∷ 4 ∷ 1 ∷ []) ∷ (5 ∷ []) ∷ (6 ∷ []) ∷ [];
  nodes_of_lines = (0 ∷ 3 ∷ []) ∷ (0 ∷ 3 ∷ []) ∷ (0 ∷ 3 ∷ []) ∷ (0 ∷ 3 ∷ []) ∷ (2 ∷ 1 ∷ 3 ∷ []) ∷ (4 ∷ []) ∷ (5 ∷ []) ∷
      [];
  asked = line (2 ∷ 4 ∷ 3 ∷ []) No 0 ∷ order (2 ∷ 4 ∷ 3 ∷ []) No ∷ intervals (2 ∷ 4 ∷ 3 ∷ []) none ∷
      line (2 ∷ 3 ∷ 5 ∷ 1 ∷ 4 ∷ 0 ∷ []) Yes 0 ∷ order (2 ∷ 3 ∷ 5 ∷ 1 ∷ 4 ∷ 0 ∷ []) Yes ∷
      intervals (2 ∷ 3 ∷ 5 ∷ 1 ∷ 4 ∷ 0 ∷ []) (given (4 ∷ 0 ∷ 2 ∷ 0 ∷ 0 ∷ 2 ∷ 2 ∷ 0 ∷ 2 ∷ 3 ∷ 0 ∷ 2 ∷ 1 ∷ 0 ∷ 2 ∷ 6 ∷ 0 ∷
      0 ∷ 5 ∷ 0 ∷ 0 ∷ [])) ∷
      by_records (4 ∷ 0 ∷ 2 ∷ 0 ∷ 0 ∷ 2 ∷ 2 ∷ 0 ∷ 2 ∷ 3 ∷ 0 ∷ 2 ∷ 1 ∷ 0 ∷ 2 ∷ 6 ∷ 0 ∷ 0 ∷ 5 ∷ 0 ∷ 0 ∷ []) Yes 0 ∷
      nodes_in (4 ∷ 0 ∷ 2 ∷ 0 ∷ 0 ∷ 2 ∷ 2 ∷ 0 ∷ 2 ∷ 3 ∷ 0 ∷ 2 ∷ 1 ∷ 0 ∷ 2 ∷ 6 ∷ 0 ∷ 0 ∷ 5 ∷ 0 ∷ 0 ∷ []) (0 ∷ 2 ∷ 4 ∷ 5 ∷
      1 ∷ 3 ∷ []) ∷
      extend (4 ∷ 0 ∷ 2 ∷ 0 ∷ 0 ∷ 2 ∷ 2 ∷ 0 ∷ 2 ∷ 3 ∷ 0 ∷ 2 ∷ 1 ∷ 0 ∷ 2 ∷ 6 ∷ 0 ∷ 0 ∷ 5 ∷ 0 ∷ 0 ∷ []) 4 (given (4 ∷ 0 ∷
      2 ∷ 0 ∷ 0 ∷ 2 ∷ 2 ∷ 0 ∷ 2 ∷ 3 ∷ 0 ∷ 2 ∷ 1 ∷ 0 ∷ 2 ∷ 6 ∷ 0 ∷ 0 ∷ 5 ∷ 0 ∷ 0 ∷ [])) ∷
      extend (4 ∷ 0 ∷ 2 ∷ 0 ∷ 0 ∷ 2 ∷ 2 ∷ 0 ∷ 2 ∷ 3 ∷ 0 ∷ 2 ∷ 1 ∷ 0 ∷ 2 ∷ 6 ∷ 0 ∷ 0 ∷ 5 ∷ 0 ∷ 0 ∷ []) 0 (given (4 ∷ 0 ∷
      2 ∷ 0 ∷ 0 ∷ 2 ∷ 2 ∷ 0 ∷ 2 ∷ 3 ∷ 0 ∷ 2 ∷ 1 ∷ 0 ∷ 2 ∷ 6 ∷ 0 ∷ 0 ∷ 5 ∷ 0 ∷ 0 ∷ [])) ∷
      order (0 ∷ 4 ∷ 4 ∷ 4 ∷ []) Yes ∷ line_ports (3 ∷ 2 ∷ []) (9 ∷ []) (12 ∷ []) No 0 ∷
      order_ports [] (9 ∷ []) (12 ∷ []) Yes ∷ line_ports (5 ∷ 3 ∷ 2 ∷ []) [] (1 ∷ []) No 0 ∷
      order_ports (5 ∷ 3 ∷ 2 ∷ []) [] (1 ∷ []) No ∷ port 2 1 1 (1 ∷ []) ∷ port 6 0 1 (4 ∷ []) ∷ port 9 0 1 (0 ∷ []) ∷
      port 12 3 1 (4 ∷ []) ∷ [];
}

map_25 : Recording
map_25 = record {
  nodes = node 0 1 ∷ node 0 2 ∷ node 6 1 ∷ node 2 3 ∷ [];
  links = link 0 0 3 1 ∷ link 3 0 2 2 ∷ link 3 2 2 3 ∷ link 3 1 2 4 ∷ link 1 0 2 5 ∷ link 3 0 2 0 ∷ [];
  lines = 5;
  order = 0 ∷ 1 ∷ 3 ∷ 2 ∷ [];
  positions = 0 ∷ 0 ∷ 2 ∷ 1 ∷ [];
  lines_of_nodes = (0 ∷ []) ∷ (1 ∷ []) ∷ (2 ∷ 0 ∷ 4 ∷ 3 ∷ 1 ∷ []) ∷ (0 ∷ 2 ∷ 3 ∷ 4 ∷ []) ∷ [];
  nodes_of_lines = (0 ∷ 3 ∷ 2 ∷ []) ∷ (1 ∷ 2 ∷ []) ∷ (3 ∷ 2 ∷ []) ∷ (3 ∷ 2 ∷ []) ∷ (3 ∷ 2 ∷ []) ∷ [];
  asked = line (3 ∷ 1 ∷ []) Yes 0 ∷ order (3 ∷ 1 ∷ []) Yes ∷
      intervals (3 ∷ 1 ∷ []) (given (0 ∷ 1 ∷ 1 ∷ 2 ∷ 1 ∷ 1 ∷ 3 ∷ 1 ∷ 1 ∷ 4 ∷ 1 ∷ 1 ∷ 1 ∷ 0 ∷ 0 ∷ [])) ∷
      by_records (0 ∷ 1 ∷ 1 ∷ 2 ∷ 1 ∷ 1 ∷ 3 ∷ 1 ∷ 1 ∷ 4 ∷ 1 ∷ 1 ∷ 1 ∷ 0 ∷ 0 ∷ []) Yes 0 ∷
      nodes_in (0 ∷ 1 ∷ 1 ∷ 2 ∷ 1 ∷ 1 ∷ 3 ∷ 1 ∷ 1 ∷ 4 ∷ 1 ∷ 1 ∷ 1 ∷ 0 ∷ 0 ∷ []) (1 ∷ 3 ∷ []) ∷
      extend (0 ∷ 1 ∷ 1 ∷ 2 ∷ 1 ∷ 1 ∷ 3 ∷ 1 ∷ 1 ∷ 4 ∷ 1 ∷ 1 ∷ 1 ∷ 0 ∷ 0 ∷ []) 0 (given (0 ∷ 0 ∷ 1 ∷ 2 ∷ 1 ∷ 1 ∷ 3 ∷ 1 ∷
      1 ∷ 4 ∷ 1 ∷ 1 ∷ 1 ∷ 0 ∷ 0 ∷ [])) ∷
      extend (0 ∷ 0 ∷ 1 ∷ 2 ∷ 1 ∷ 1 ∷ 3 ∷ 1 ∷ 1 ∷ 4 ∷ 1 ∷ 1 ∷ 1 ∷ 0 ∷ 0 ∷ []) 2 (given (0 ∷ 0 ∷ 2 ∷ 2 ∷ 1 ∷ 2 ∷ 3 ∷ 1 ∷
      2 ∷ 4 ∷ 1 ∷ 2 ∷ 1 ∷ 0 ∷ 2 ∷ [])) ∷
      by_records (0 ∷ 0 ∷ 2 ∷ 2 ∷ 1 ∷ 2 ∷ 3 ∷ 1 ∷ 2 ∷ 4 ∷ 1 ∷ 2 ∷ 1 ∷ 0 ∷ 2 ∷ []) Yes 0 ∷
      nodes_in (0 ∷ 0 ∷ 2 ∷ 2 ∷ 1 ∷ 2 ∷ 3 ∷ 1 ∷ 2 ∷ 4 ∷ 1 ∷ 2 ∷ 1 ∷ 0 ∷ 2 ∷ []) (0 ∷ 1 ∷ 3 ∷ 2 ∷ []) ∷
      line (1 ∷ 2 ∷ 0 ∷ []) No 0 ∷ order (1 ∷ 2 ∷ 0 ∷ []) No ∷ intervals (1 ∷ 2 ∷ 0 ∷ []) none ∷ order (0 ∷ []) Yes ∷
      line_ports (0 ∷ 2 ∷ []) [] (5 ∷ 9 ∷ []) No 0 ∷ order_ports (3 ∷ []) [] (5 ∷ 9 ∷ []) Yes ∷
      line_ports (0 ∷ 1 ∷ 2 ∷ 3 ∷ []) (8 ∷ 4 ∷ []) [] Yes 0 ∷ order_ports (0 ∷ []) (8 ∷ 4 ∷ []) [] Yes ∷
      port 1 0 1 (1 ∷ []) ∷ port 4 1 0 [] ∷ port 5 1 1 (0 ∷ []) ∷ port 13 2 1 (3 ∷ []) ∷ [];
}

map_26 : Recording
map_26 = record {
  nodes = node 1 0 ∷ node 0 4 ∷ node 1 3 ∷ node 1 1 ∷ node 5 1 ∷ node 2 1 ∷ [];
  links = link 3 0 4 0 ∷ link 1 3 4 4 ∷ link 2 0 5 1 ∷ link 2 2 3 0 ∷ link 2 1 0 0 ∷ link 1 2 4 3 ∷ link 1 1 4 1 ∷
      link 2 0 5 0 ∷ [];
  lines = 7;
  order = 1 ∷ 2 ∷ 5 ∷ 0 ∷ 3 ∷ 4 ∷ [];
  positions = 1 ∷ 0 ∷ 0 ∷ 1 ∷ 2 ∷ 1 ∷ [];
  lines_of_nodes = (5 ∷ []) ∷ (0 ∷ 1 ∷ 2 ∷ []) ∷ (3 ∷ 4 ∷ 5 ∷ 6 ∷ []) ∷ (6 ∷ []) ∷ (6 ∷ 0 ∷ 1 ∷ 2 ∷ []) ∷ (4 ∷ 3 ∷ []) ∷
      [];
  nodes_of_lines = (1 ∷ 4 ∷ []) ∷ (1 ∷ 4 ∷ []) ∷ (1 ∷ 4 ∷ []) ∷ (2 ∷ 5 ∷ []) ∷ (2 ∷ 5 ∷ []) ∷ (2 ∷ 0 ∷ []) ∷
      (2 ∷ 3 ∷ 4 ∷ []) ∷ [];
  asked = line (2 ∷ 4 ∷ []) No 0 ∷ order (2 ∷ 4 ∷ []) No ∷ intervals (2 ∷ 4 ∷ []) none ∷ line (1 ∷ 4 ∷ []) Yes 0 ∷
      order (1 ∷ 4 ∷ []) Yes ∷ intervals (1 ∷ 4 ∷ []) (given (0 ∷ 0 ∷ 2 ∷ 1 ∷ 0 ∷ 2 ∷ 2 ∷ 0 ∷ 2 ∷ 6 ∷ 2 ∷ 2 ∷ [])) ∷
      by_records (0 ∷ 0 ∷ 2 ∷ 1 ∷ 0 ∷ 2 ∷ 2 ∷ 0 ∷ 2 ∷ 6 ∷ 2 ∷ 2 ∷ []) Yes 0 ∷
      nodes_in (0 ∷ 0 ∷ 2 ∷ 1 ∷ 0 ∷ 2 ∷ 2 ∷ 0 ∷ 2 ∷ 6 ∷ 2 ∷ 2 ∷ []) (1 ∷ 4 ∷ []) ∷
      extend (0 ∷ 0 ∷ 2 ∷ 1 ∷ 0 ∷ 2 ∷ 2 ∷ 0 ∷ 2 ∷ 6 ∷ 2 ∷ 2 ∷ []) 5 (given (0 ∷ 0 ∷ 2 ∷ 1 ∷ 0 ∷ 2 ∷ 2 ∷ 0 ∷ 2 ∷ 6 ∷ 2 ∷
      2 ∷ 4 ∷ 1 ∷ 1 ∷ 3 ∷ 1 ∷ 1 ∷ [])) ∷
      extend (0 ∷ 0 ∷ 2 ∷ 1 ∷ 0 ∷ 2 ∷ 2 ∷ 0 ∷ 2 ∷ 6 ∷ 2 ∷ 2 ∷ 4 ∷ 1 ∷ 1 ∷ 3 ∷ 1 ∷ 1 ∷ []) 0 (given (0 ∷ 0 ∷ 2 ∷ 1 ∷ 0 ∷
      2 ∷ 2 ∷ 0 ∷ 2 ∷ 6 ∷ 2 ∷ 2 ∷ 4 ∷ 1 ∷ 1 ∷ 3 ∷ 1 ∷ 1 ∷ 5 ∷ 1 ∷ 1 ∷ [])) ∷
      by_records (0 ∷ 0 ∷ 2 ∷ 1 ∷ 0 ∷ 2 ∷ 2 ∷ 0 ∷ 2 ∷ 6 ∷ 2 ∷ 2 ∷ 4 ∷ 1 ∷ 1 ∷ 3 ∷ 1 ∷ 1 ∷ 5 ∷ 1 ∷ 1 ∷ []) Yes 0 ∷
      nodes_in (0 ∷ 0 ∷ 2 ∷ 1 ∷ 0 ∷ 2 ∷ 2 ∷ 0 ∷ 2 ∷ 6 ∷ 2 ∷ 2 ∷ 4 ∷ 1 ∷ 1 ∷ 3 ∷ 1 ∷ 1 ∷ 5 ∷ 1 ∷ 1 ∷ []) (1 ∷ 0 ∷ 5 ∷ 4 ∷
      []) ∷ order (2 ∷ 3 ∷ 3 ∷ 5 ∷ 3 ∷ 0 ∷ []) Yes ∷ line_ports (2 ∷ 4 ∷ []) (0 ∷ []) (7 ∷ []) No 0 ∷
      order_ports (2 ∷ 4 ∷ []) (0 ∷ []) (7 ∷ []) No ∷ line_ports (0 ∷ 4 ∷ 2 ∷ 5 ∷ []) (12 ∷ []) (12 ∷ 13 ∷ []) No 0 ∷
      order_ports (0 ∷ 4 ∷ 2 ∷ 5 ∷ []) (12 ∷ []) (12 ∷ 13 ∷ []) No ∷ port 7 2 1 (5 ∷ []) ∷ port 10 0 1 (6 ∷ []) ∷
      port 12 1 1 (0 ∷ []) ∷ port 18 1 1 (3 ∷ []) ∷ [];
}

map_27 : Recording
map_27 = record {
  nodes = node 1 1 ∷ node 1 3 ∷ node 0 1 ∷ node 0 1 ∷ node 5 1 ∷ node 3 0 ∷ [];
  links = link 2 0 5 2 ∷ link 1 2 4 1 ∷ link 2 0 5 0 ∷ link 0 0 5 1 ∷ link 1 0 4 2 ∷ link 1 1 4 3 ∷ link 1 2 4 0 ∷ [];
  lines = 8;
  order = 0 ∷ 1 ∷ 2 ∷ 3 ∷ 4 ∷ 5 ∷ [];
  positions = 0 ∷ 0 ∷ 0 ∷ 0 ∷ 1 ∷ 1 ∷ [];
  lines_of_nodes = (0 ∷ []) ∷ (1 ∷ 2 ∷ 3 ∷ 4 ∷ []) ∷ (5 ∷ 6 ∷ []) ∷ (7 ∷ []) ∷ (4 ∷ 3 ∷ 1 ∷ 2 ∷ []) ∷ (6 ∷ 0 ∷ 5 ∷ []) ∷
      [];
  nodes_of_lines = (0 ∷ 5 ∷ []) ∷ (1 ∷ 4 ∷ []) ∷ (1 ∷ 4 ∷ []) ∷ (1 ∷ 4 ∷ []) ∷ (1 ∷ 4 ∷ []) ∷ (2 ∷ 5 ∷ []) ∷
      (2 ∷ 5 ∷ []) ∷ (3 ∷ []) ∷ [];
  asked = line (5 ∷ 1 ∷ []) Yes 1 ∷ order (5 ∷ 1 ∷ []) Yes ∷
      intervals (5 ∷ 1 ∷ []) (given (6 ∷ 1 ∷ 1 ∷ 0 ∷ 1 ∷ 1 ∷ 5 ∷ 1 ∷ 1 ∷ 1 ∷ 0 ∷ 0 ∷ 2 ∷ 0 ∷ 0 ∷ 3 ∷ 0 ∷ 0 ∷ 4 ∷ 0 ∷ 0 ∷
      [])) ∷ by_records (6 ∷ 1 ∷ 1 ∷ 0 ∷ 1 ∷ 1 ∷ 5 ∷ 1 ∷ 1 ∷ 1 ∷ 0 ∷ 0 ∷ 2 ∷ 0 ∷ 0 ∷ 3 ∷ 0 ∷ 0 ∷ 4 ∷ 0 ∷ 0 ∷ []) Yes 1 ∷
      nodes_in (6 ∷ 1 ∷ 1 ∷ 0 ∷ 1 ∷ 1 ∷ 5 ∷ 1 ∷ 1 ∷ 1 ∷ 0 ∷ 0 ∷ 2 ∷ 0 ∷ 0 ∷ 3 ∷ 0 ∷ 0 ∷ 4 ∷ 0 ∷ 0 ∷ []) (1 ∷ 5 ∷ []) ∷
      extend (6 ∷ 1 ∷ 1 ∷ 0 ∷ 1 ∷ 1 ∷ 5 ∷ 1 ∷ 1 ∷ 1 ∷ 0 ∷ 0 ∷ 2 ∷ 0 ∷ 0 ∷ 3 ∷ 0 ∷ 0 ∷ 4 ∷ 0 ∷ 0 ∷ []) 0 (given (6 ∷ 1 ∷
      1 ∷ 0 ∷ 0 ∷ 1 ∷ 5 ∷ 1 ∷ 1 ∷ 1 ∷ 0 ∷ 0 ∷ 2 ∷ 0 ∷ 0 ∷ 3 ∷ 0 ∷ 0 ∷ 4 ∷ 0 ∷ 0 ∷ [])) ∷
      extend (6 ∷ 1 ∷ 1 ∷ 0 ∷ 0 ∷ 1 ∷ 5 ∷ 1 ∷ 1 ∷ 1 ∷ 0 ∷ 0 ∷ 2 ∷ 0 ∷ 0 ∷ 3 ∷ 0 ∷ 0 ∷ 4 ∷ 0 ∷ 0 ∷ []) 4 (given (6 ∷ 1 ∷
      1 ∷ 0 ∷ 0 ∷ 1 ∷ 5 ∷ 1 ∷ 1 ∷ 1 ∷ 0 ∷ 1 ∷ 2 ∷ 0 ∷ 1 ∷ 3 ∷ 0 ∷ 1 ∷ 4 ∷ 0 ∷ 1 ∷ [])) ∷
      by_records (6 ∷ 1 ∷ 1 ∷ 0 ∷ 0 ∷ 1 ∷ 5 ∷ 1 ∷ 1 ∷ 1 ∷ 0 ∷ 1 ∷ 2 ∷ 0 ∷ 1 ∷ 3 ∷ 0 ∷ 1 ∷ 4 ∷ 0 ∷ 1 ∷ []) Yes 0 ∷
      nodes_in (6 ∷ 1 ∷ 1 ∷ 0 ∷ 0 ∷ 1 ∷ 5 ∷ 1 ∷ 1 ∷ 1 ∷ 0 ∷ 1 ∷ 2 ∷ 0 ∷ 1 ∷ 3 ∷ 0 ∷ 1 ∷ 4 ∷ 0 ∷ 1 ∷ []) (0 ∷ 1 ∷ 4 ∷ 5 ∷
      []) ∷ line (3 ∷ 1 ∷ 5 ∷ []) Yes 1 ∷ order (3 ∷ 1 ∷ 5 ∷ []) Yes ∷
      intervals (3 ∷ 1 ∷ 5 ∷ []) (given (7 ∷ 0 ∷ 0 ∷ 1 ∷ 0 ∷ 0 ∷ 2 ∷ 0 ∷ 0 ∷ 3 ∷ 0 ∷ 0 ∷ 4 ∷ 0 ∷ 0 ∷ 6 ∷ 1 ∷ 1 ∷ 0 ∷ 1 ∷
      1 ∷ 5 ∷ 1 ∷ 1 ∷ [])) ∷
      by_records (7 ∷ 0 ∷ 0 ∷ 1 ∷ 0 ∷ 0 ∷ 2 ∷ 0 ∷ 0 ∷ 3 ∷ 0 ∷ 0 ∷ 4 ∷ 0 ∷ 0 ∷ 6 ∷ 1 ∷ 1 ∷ 0 ∷ 1 ∷ 1 ∷ 5 ∷ 1 ∷ 1 ∷
      []) Yes 1 ∷
      nodes_in (7 ∷ 0 ∷ 0 ∷ 1 ∷ 0 ∷ 0 ∷ 2 ∷ 0 ∷ 0 ∷ 3 ∷ 0 ∷ 0 ∷ 4 ∷ 0 ∷ 0 ∷ 6 ∷ 1 ∷ 1 ∷ 0 ∷ 1 ∷ 1 ∷ 5 ∷ 1 ∷ 1 ∷ []) (1 ∷
      3 ∷ 5 ∷ []) ∷
      extend (7 ∷ 0 ∷ 0 ∷ 1 ∷ 0 ∷ 0 ∷ 2 ∷ 0 ∷ 0 ∷ 3 ∷ 0 ∷ 0 ∷ 4 ∷ 0 ∷ 0 ∷ 6 ∷ 1 ∷ 1 ∷ 0 ∷ 1 ∷ 1 ∷ 5 ∷ 1 ∷ 1 ∷
      []) 4 (given (7 ∷ 0 ∷ 0 ∷ 1 ∷ 0 ∷ 1 ∷ 2 ∷ 0 ∷ 1 ∷ 3 ∷ 0 ∷ 1 ∷ 4 ∷ 0 ∷ 1 ∷ 6 ∷ 1 ∷ 1 ∷ 0 ∷ 1 ∷ 1 ∷ 5 ∷ 1 ∷ 1 ∷
      [])) ∷
      extend (7 ∷ 0 ∷ 0 ∷ 1 ∷ 0 ∷ 1 ∷ 2 ∷ 0 ∷ 1 ∷ 3 ∷ 0 ∷ 1 ∷ 4 ∷ 0 ∷ 1 ∷ 6 ∷ 1 ∷ 1 ∷ 0 ∷ 1 ∷ 1 ∷ 5 ∷ 1 ∷ 1 ∷
      []) 0 (given (7 ∷ 0 ∷ 0 ∷ 1 ∷ 0 ∷ 1 ∷ 2 ∷ 0 ∷ 1 ∷ 3 ∷ 0 ∷ 1 ∷ 4 ∷ 0 ∷ 1 ∷ 6 ∷ 1 ∷ 1 ∷ 0 ∷ 0 ∷ 1 ∷ 5 ∷ 1 ∷ 1 ∷
      [])) ∷
      by_records (7 ∷ 0 ∷ 0 ∷ 1 ∷ 0 ∷ 1 ∷ 2 ∷ 0 ∷ 1 ∷ 3 ∷ 0 ∷ 1 ∷ 4 ∷ 0 ∷ 1 ∷ 6 ∷ 1 ∷ 1 ∷ 0 ∷ 0 ∷ 1 ∷ 5 ∷ 1 ∷ 1 ∷
      []) Yes 0 ∷
      nodes_in (7 ∷ 0 ∷ 0 ∷ 1 ∷ 0 ∷ 1 ∷ 2 ∷ 0 ∷ 1 ∷ 3 ∷ 0 ∷ 1 ∷ 4 ∷ 0 ∷ 1 ∷ 6 ∷ 1 ∷ 1 ∷ 0 ∷ 0 ∷ 1 ∷ 5 ∷ 1 ∷ 1 ∷ []) (0 ∷
      1 ∷ 3 ∷ 4 ∷ 5 ∷ []) ∷ order (0 ∷ 4 ∷ 5 ∷ 3 ∷ []) Yes ∷ line_ports (4 ∷ 0 ∷ []) (2 ∷ []) (4 ∷ []) Yes 1 ∷
      order_ports (4 ∷ 0 ∷ []) (2 ∷ []) (4 ∷ []) Yes ∷ line_ports (5 ∷ 1 ∷ []) (4 ∷ []) (15 ∷ 11 ∷ []) No 0 ∷
      order_ports (2 ∷ 3 ∷ 3 ∷ 1 ∷ 3 ∷ 4 ∷ []) (4 ∷ []) (15 ∷ 11 ∷ []) No ∷ port 3 0 1 (1 ∷ []) ∷
      port 6 0 2 (5 ∷ 6 ∷ []) ∷ port 15 1 1 (0 ∷ []) ∷ port 16 2 1 (5 ∷ []) ∷ [];
}

map_28 : Recording
map_28 = record {
  nodes = node 1 0 ∷ node 1 1 ∷ node 0 2 ∷ node 1 0 ∷ [];
  links = link 2 1 3 0 ∷ link 2 0 1 0 ∷ [];
  lines = 3;
  order = 0 ∷ 2 ∷ 1 ∷ 3 ∷ [];
  positions = 0 ∷ 1 ∷ 0 ∷ 1 ∷ [];
  lines_of_nodes = (0 ∷ []) ∷ (1 ∷ []) ∷ (1 ∷ 2 ∷ []) ∷ (2 ∷ []) ∷ [];
  nodes_of_lines = (0 ∷ []) ∷ (2 ∷ 1 ∷ []) ∷ (2 ∷ 3 ∷ []) ∷ [];
  asked = line (0 ∷ []) Yes 0 ∷ order (0 ∷ []) Yes ∷ intervals (0 ∷ []) (given (0 ∷ 0 ∷ 0 ∷ [])) ∷
      by_records (0 ∷ 0 ∷ 0 ∷ []) Yes 0 ∷ nodes_in (0 ∷ 0 ∷ 0 ∷ []) (0 ∷ []) ∷
      extend (0 ∷ 0 ∷ 0 ∷ []) 2 (given (0 ∷ 0 ∷ 0 ∷ 1 ∷ 0 ∷ 0 ∷ 2 ∷ 0 ∷ 0 ∷ [])) ∷
      extend (0 ∷ 0 ∷ 0 ∷ 1 ∷ 0 ∷ 0 ∷ 2 ∷ 0 ∷ 0 ∷ []) 3 (given (0 ∷ 0 ∷ 0 ∷ 1 ∷ 0 ∷ 0 ∷ 2 ∷ 0 ∷ 1 ∷ [])) ∷
      by_records (0 ∷ 0 ∷ 0 ∷ 1 ∷ 0 ∷ 0 ∷ 2 ∷ 0 ∷ 1 ∷ []) Yes 0 ∷
      nodes_in (0 ∷ 0 ∷ 0 ∷ 1 ∷ 0 ∷ 0 ∷ 2 ∷ 0 ∷ 1 ∷ []) (0 ∷ 2 ∷ 3 ∷ []) ∷ line (3 ∷ []) Yes 0 ∷ order (3 ∷ []) Yes ∷
      intervals (3 ∷ []) (given (2 ∷ 1 ∷ 1 ∷ [])) ∷ by_records (2 ∷ 1 ∷ 1 ∷ []) Yes 0 ∷
      nodes_in (2 ∷ 1 ∷ 1 ∷ []) (3 ∷ []) ∷ extend (2 ∷ 1 ∷ 1 ∷ []) 1 (given (2 ∷ 1 ∷ 1 ∷ 1 ∷ 1 ∷ 1 ∷ [])) ∷
      extend (2 ∷ 1 ∷ 1 ∷ 1 ∷ 1 ∷ 1 ∷ []) 0 (given (2 ∷ 1 ∷ 1 ∷ 1 ∷ 1 ∷ 1 ∷ 0 ∷ 0 ∷ 0 ∷ [])) ∷
      by_records (2 ∷ 1 ∷ 1 ∷ 1 ∷ 1 ∷ 1 ∷ 0 ∷ 0 ∷ 0 ∷ []) Yes 0 ∷
      nodes_in (2 ∷ 1 ∷ 1 ∷ 1 ∷ 1 ∷ 1 ∷ 0 ∷ 0 ∷ 0 ∷ []) (0 ∷ 1 ∷ 3 ∷ []) ∷ order (2 ∷ []) Yes ∷
      line_ports (0 ∷ 3 ∷ []) (2 ∷ 3 ∷ []) (3 ∷ 1 ∷ []) No 0 ∷ order_ports (0 ∷ 3 ∷ []) (2 ∷ 3 ∷ []) (3 ∷ 1 ∷ []) No ∷
      line_ports (1 ∷ 2 ∷ 3 ∷ []) (3 ∷ []) (2 ∷ 2 ∷ 1 ∷ []) No 0 ∷
      order_ports (1 ∷ 2 ∷ 3 ∷ []) (3 ∷ []) (2 ∷ 2 ∷ 1 ∷ []) No ∷ port 1 0 1 (1 ∷ []) ∷ port 2 0 0 [] ∷
      port 3 0 1 (1 ∷ []) ∷ port 4 1 1 (2 ∷ []) ∷ [];
}

map_29 : Recording
map_29 = record {
  nodes = node 1 2 ∷ node 1 2 ∷ node 1 0 ∷ node 1 0 ∷ node 0 0 ∷ node 4 2 ∷ [];
  links = link 1 1 0 0 ∷ link 0 0 5 3 ∷ link 1 1 5 2 ∷ link 0 1 5 1 ∷ link 5 0 3 0 ∷ [];
  lines = 5;
  order = 1 ∷ 2 ∷ 4 ∷ 0 ∷ 5 ∷ 3 ∷ [];
  positions = 1 ∷ 0 ∷ 0 ∷ 3 ∷ 0 ∷ 2 ∷ [];
  lines_of_nodes = (1 ∷ 4 ∷ []) ∷ (0 ∷ 1 ∷ []) ∷ (2 ∷ []) ∷ (4 ∷ []) ∷ (3 ∷ []) ∷ (4 ∷ 0 ∷ 1 ∷ []) ∷ [];
  nodes_of_lines = (1 ∷ 5 ∷ []) ∷ (1 ∷ 0 ∷ 5 ∷ []) ∷ (2 ∷ []) ∷ (4 ∷ []) ∷ (0 ∷ 5 ∷ 3 ∷ []) ∷ [];
  asked = line (3 ∷ 1 ∷ []) No 1 ∷ order (3 ∷ 1 ∷ []) No ∷
      intervals (3 ∷ 1 ∷ []) (given (4 ∷ 3 ∷ 3 ∷ 0 ∷ 0 ∷ 0 ∷ 1 ∷ 0 ∷ 0 ∷ [])) ∷
      by_records (4 ∷ 3 ∷ 3 ∷ 0 ∷ 0 ∷ 0 ∷ 1 ∷ 0 ∷ 0 ∷ []) No 1 ∷
      nodes_in (4 ∷ 3 ∷ 3 ∷ 0 ∷ 0 ∷ 0 ∷ 1 ∷ 0 ∷ 0 ∷ []) (1 ∷ 3 ∷ []) ∷
      extend (4 ∷ 3 ∷ 3 ∷ 0 ∷ 0 ∷ 0 ∷ 1 ∷ 0 ∷ 0 ∷ []) 0 none ∷ extend (4 ∷ 3 ∷ 3 ∷ 0 ∷ 0 ∷ 0 ∷ 1 ∷ 0 ∷ 0 ∷ []) 5 none ∷
      line (5 ∷ 1 ∷ []) No 0 ∷ order (5 ∷ 1 ∷ []) No ∷ intervals (5 ∷ 1 ∷ []) none ∷ order [] Yes ∷
      line_ports (2 ∷ 5 ∷ 4 ∷ 1 ∷ 3 ∷ []) [] [] No 0 ∷ order_ports (5 ∷ 2 ∷ 2 ∷ 1 ∷ 5 ∷ 1 ∷ 3 ∷ []) [] [] No ∷
      line_ports (4 ∷ 3 ∷ []) (7 ∷ []) (2 ∷ 12 ∷ []) No 0 ∷ order_ports (4 ∷ 3 ∷ []) (7 ∷ []) (2 ∷ 12 ∷ []) No ∷
      port 0 0 1 (1 ∷ []) ∷ port 2 1 1 (4 ∷ []) ∷ port 7 0 1 (4 ∷ []) ∷ port 12 0 1 (4 ∷ []) ∷ [];
}

map_30 : Recording
map_30 = record {
  nodes = node 0 0 ∷ node 1 1 ∷ node 1 0 ∷ [];
  links = link 1 0 2 0 ∷ [];
  lines = 2;
  order = 0 ∷ 1 ∷ 2 ∷ [];
  positions = 0 ∷ 0 ∷ 1 ∷ [];
  lines_of_nodes = (0 ∷ []) ∷ (1 ∷ []) ∷ (1 ∷ []) ∷ [];
  nodes_of_lines = (0 ∷ []) ∷ (1 ∷ 2 ∷ []) ∷ [];
  asked = line (0 ∷ 2 ∷ 1 ∷ []) Yes 0 ∷ order (0 ∷ 2 ∷ 1 ∷ []) Yes ∷
      intervals (0 ∷ 2 ∷ 1 ∷ []) (given (0 ∷ 0 ∷ 0 ∷ 1 ∷ 0 ∷ 1 ∷ [])) ∷ by_records (0 ∷ 0 ∷ 0 ∷ 1 ∷ 0 ∷ 1 ∷ []) Yes 0 ∷
      nodes_in (0 ∷ 0 ∷ 0 ∷ 1 ∷ 0 ∷ 1 ∷ []) (0 ∷ 1 ∷ 2 ∷ []) ∷ line (0 ∷ 1 ∷ []) Yes 0 ∷ order (0 ∷ 1 ∷ []) Yes ∷
      intervals (0 ∷ 1 ∷ []) (given (0 ∷ 0 ∷ 0 ∷ 1 ∷ 0 ∷ 0 ∷ [])) ∷ by_records (0 ∷ 0 ∷ 0 ∷ 1 ∷ 0 ∷ 0 ∷ []) Yes 0 ∷
      nodes_in (0 ∷ 0 ∷ 0 ∷ 1 ∷ 0 ∷ 0 ∷ []) (0 ∷ 1 ∷ []) ∷
      extend (0 ∷ 0 ∷ 0 ∷ 1 ∷ 0 ∷ 0 ∷ []) 2 (given (0 ∷ 0 ∷ 0 ∷ 1 ∷ 0 ∷ 1 ∷ [])) ∷
      by_records (0 ∷ 0 ∷ 0 ∷ 1 ∷ 0 ∷ 1 ∷ []) Yes 0 ∷ nodes_in (0 ∷ 0 ∷ 0 ∷ 1 ∷ 0 ∷ 1 ∷ []) (0 ∷ 1 ∷ 2 ∷ []) ∷
      order (2 ∷ 1 ∷ 2 ∷ []) Yes ∷ line_ports (1 ∷ 2 ∷ []) (1 ∷ 2 ∷ 1 ∷ []) (2 ∷ []) No 0 ∷
      order_ports (1 ∷ 2 ∷ []) (1 ∷ 2 ∷ 1 ∷ []) (2 ∷ []) No ∷ line_ports (1 ∷ 2 ∷ []) (1 ∷ 2 ∷ 2 ∷ []) (2 ∷ 0 ∷ []) No 0 ∷
      order_ports (1 ∷ 2 ∷ []) (1 ∷ 2 ∷ 2 ∷ []) (2 ∷ 0 ∷ []) No ∷ port 0 0 0 [] ∷ port 1 0 1 (1 ∷ []) ∷
      port 2 0 1 (1 ∷ []) ∷ [];
}

map_31 : Recording
map_31 = record {
  nodes = node 2 0 ∷ node 1 1 ∷ node 0 0 ∷ node 1 3 ∷ node 2 1 ∷ node 0 2 ∷ [];
  links = link 5 1 0 1 ∷ link 5 1 0 0 ∷ link 3 2 1 0 ∷ link 3 1 4 0 ∷ [];
  lines = 5;
  order = 2 ∷ 3 ∷ 5 ∷ 4 ∷ 1 ∷ 0 ∷ [];
  positions = 1 ∷ 1 ∷ 0 ∷ 0 ∷ 1 ∷ 0 ∷ [];
  lines_of_nodes = (4 ∷ 3 ∷ []) ∷ (2 ∷ []) ∷ (0 ∷ []) ∷ (1 ∷ 2 ∷ []) ∷ (1 ∷ []) ∷ (3 ∷ 4 ∷ []) ∷ [];
  nodes_of_lines = (2 ∷ []) ∷ (3 ∷ 4 ∷ []) ∷ (3 ∷ 1 ∷ []) ∷ (5 ∷ 0 ∷ []) ∷ (5 ∷ 0 ∷ []) ∷ [];
  asked = line (2 ∷ 1 ∷ []) Yes 0 ∷ order (2 ∷ 1 ∷ []) Yes ∷
      intervals (2 ∷ 1 ∷ []) (given (0 ∷ 0 ∷ 0 ∷ 2 ∷ 1 ∷ 1 ∷ [])) ∷ by_records (0 ∷ 0 ∷ 0 ∷ 2 ∷ 1 ∷ 1 ∷ []) Yes 0 ∷
      nodes_in (0 ∷ 0 ∷ 0 ∷ 2 ∷ 1 ∷ 1 ∷ []) (2 ∷ 1 ∷ []) ∷
      extend (0 ∷ 0 ∷ 0 ∷ 2 ∷ 1 ∷ 1 ∷ []) 3 (given (0 ∷ 0 ∷ 0 ∷ 2 ∷ 0 ∷ 1 ∷ 1 ∷ 0 ∷ 0 ∷ [])) ∷
      extend (0 ∷ 0 ∷ 0 ∷ 2 ∷ 0 ∷ 1 ∷ 1 ∷ 0 ∷ 0 ∷ []) 5 (given (0 ∷ 0 ∷ 0 ∷ 2 ∷ 0 ∷ 1 ∷ 1 ∷ 0 ∷ 0 ∷ 3 ∷ 0 ∷ 0 ∷ 4 ∷ 0 ∷
      0 ∷ [])) ∷ by_records (0 ∷ 0 ∷ 0 ∷ 2 ∷ 0 ∷ 1 ∷ 1 ∷ 0 ∷ 0 ∷ 3 ∷ 0 ∷ 0 ∷ 4 ∷ 0 ∷ 0 ∷ []) Yes 0 ∷
      nodes_in (0 ∷ 0 ∷ 0 ∷ 2 ∷ 0 ∷ 1 ∷ 1 ∷ 0 ∷ 0 ∷ 3 ∷ 0 ∷ 0 ∷ 4 ∷ 0 ∷ 0 ∷ []) (2 ∷ 3 ∷ 5 ∷ 1 ∷ []) ∷
      line (2 ∷ 0 ∷ 3 ∷ 1 ∷ []) Yes 1 ∷ order (2 ∷ 0 ∷ 3 ∷ 1 ∷ []) Yes ∷
      intervals (2 ∷ 0 ∷ 3 ∷ 1 ∷ []) (given (0 ∷ 0 ∷ 0 ∷ 4 ∷ 1 ∷ 1 ∷ 3 ∷ 1 ∷ 1 ∷ 1 ∷ 0 ∷ 0 ∷ 2 ∷ 0 ∷ 1 ∷ [])) ∷
      by_records (0 ∷ 0 ∷ 0 ∷ 4 ∷ 1 ∷ 1 ∷ 3 ∷ 1 ∷ 1 ∷ 1 ∷ 0 ∷ 0 ∷ 2 ∷ 0 ∷ 1 ∷ []) Yes 1 ∷
      nodes_in (0 ∷ 0 ∷ 0 ∷ 4 ∷ 1 ∷ 1 ∷ 3 ∷ 1 ∷ 1 ∷ 1 ∷ 0 ∷ 0 ∷ 2 ∷ 0 ∷ 1 ∷ []) (2 ∷ 3 ∷ 0 ∷ 1 ∷ []) ∷
      extend (0 ∷ 0 ∷ 0 ∷ 4 ∷ 1 ∷ 1 ∷ 3 ∷ 1 ∷ 1 ∷ 1 ∷ 0 ∷ 0 ∷ 2 ∷ 0 ∷ 1 ∷ []) 0 (given (0 ∷ 0 ∷ 0 ∷ 4 ∷ 1 ∷ 1 ∷ 3 ∷ 1 ∷
      1 ∷ 1 ∷ 0 ∷ 0 ∷ 2 ∷ 0 ∷ 1 ∷ [])) ∷
      extend (0 ∷ 0 ∷ 0 ∷ 4 ∷ 1 ∷ 1 ∷ 3 ∷ 1 ∷ 1 ∷ 1 ∷ 0 ∷ 0 ∷ 2 ∷ 0 ∷ 1 ∷ []) 4 (given (0 ∷ 0 ∷ 0 ∷ 4 ∷ 1 ∷ 1 ∷ 3 ∷ 1 ∷
      1 ∷ 1 ∷ 0 ∷ 1 ∷ 2 ∷ 0 ∷ 1 ∷ [])) ∷
      by_records (0 ∷ 0 ∷ 0 ∷ 4 ∷ 1 ∷ 1 ∷ 3 ∷ 1 ∷ 1 ∷ 1 ∷ 0 ∷ 1 ∷ 2 ∷ 0 ∷ 1 ∷ []) Yes 0 ∷
      nodes_in (0 ∷ 0 ∷ 0 ∷ 4 ∷ 1 ∷ 1 ∷ 3 ∷ 1 ∷ 1 ∷ 1 ∷ 0 ∷ 1 ∷ 2 ∷ 0 ∷ 1 ∷ []) (2 ∷ 3 ∷ 0 ∷ 1 ∷ 4 ∷ []) ∷
      order (4 ∷ 5 ∷ 4 ∷ 2 ∷ 0 ∷ []) Yes ∷ line_ports (1 ∷ 5 ∷ []) [] [] Yes 1 ∷ order_ports (1 ∷ 5 ∷ []) [] [] Yes ∷
      line_ports (5 ∷ 1 ∷ []) (12 ∷ []) (1 ∷ 9 ∷ []) No 0 ∷ order_ports (5 ∷ 1 ∷ []) (12 ∷ []) (1 ∷ 9 ∷ []) No ∷
      port 0 0 1 (4 ∷ []) ∷ port 4 0 0 [] ∷ port 7 1 1 (2 ∷ []) ∷ port 11 0 0 [] ∷ [];
}

map_32 : Recording
map_32 = record {
  nodes = node 2 1 ∷ node 1 0 ∷ node 3 3 ∷ node 2 0 ∷ node 1 4 ∷ [];
  links = link 4 3 2 2 ∷ link 4 2 2 0 ∷ link 2 0 3 0 ∷ link 4 1 2 1 ∷ link 2 2 3 1 ∷ link 4 0 0 0 ∷ [];
  lines = 5;
  order = 1 ∷ 4 ∷ 0 ∷ 2 ∷ 3 ∷ [];
  positions = 1 ∷ 0 ∷ 1 ∷ 2 ∷ 0 ∷ [];
  lines_of_nodes = (1 ∷ []) ∷ (0 ∷ []) ∷ (3 ∷ 2 ∷ 4 ∷ []) ∷ (3 ∷ 2 ∷ []) ∷ (1 ∷ 2 ∷ 3 ∷ 4 ∷ []) ∷ [];
  nodes_of_lines = (1 ∷ []) ∷ (4 ∷ 0 ∷ []) ∷ (4 ∷ 2 ∷ 3 ∷ []) ∷ (4 ∷ 2 ∷ 3 ∷ []) ∷ (4 ∷ 2 ∷ []) ∷ [];
  asked = line (4 ∷ 2 ∷ []) Yes 0 ∷ order (4 ∷ 2 ∷ []) Yes ∷
      intervals (4 ∷ 2 ∷ []) (given (1 ∷ 0 ∷ 0 ∷ 2 ∷ 0 ∷ 1 ∷ 3 ∷ 0 ∷ 1 ∷ 4 ∷ 0 ∷ 1 ∷ [])) ∷
      by_records (1 ∷ 0 ∷ 0 ∷ 2 ∷ 0 ∷ 1 ∷ 3 ∷ 0 ∷ 1 ∷ 4 ∷ 0 ∷ 1 ∷ []) Yes 0 ∷
      nodes_in (1 ∷ 0 ∷ 0 ∷ 2 ∷ 0 ∷ 1 ∷ 3 ∷ 0 ∷ 1 ∷ 4 ∷ 0 ∷ 1 ∷ []) (4 ∷ 2 ∷ []) ∷
      extend (1 ∷ 0 ∷ 0 ∷ 2 ∷ 0 ∷ 1 ∷ 3 ∷ 0 ∷ 1 ∷ 4 ∷ 0 ∷ 1 ∷ []) 1 (given (1 ∷ 0 ∷ 0 ∷ 2 ∷ 0 ∷ 1 ∷ 3 ∷ 0 ∷ 1 ∷ 4 ∷ 0 ∷
      1 ∷ 0 ∷ 0 ∷ 0 ∷ [])) ∷
      extend (1 ∷ 0 ∷ 0 ∷ 2 ∷ 0 ∷ 1 ∷ 3 ∷ 0 ∷ 1 ∷ 4 ∷ 0 ∷ 1 ∷ 0 ∷ 0 ∷ 0 ∷ []) 0 (given (1 ∷ 0 ∷ 1 ∷ 2 ∷ 0 ∷ 1 ∷ 3 ∷ 0 ∷
      1 ∷ 4 ∷ 0 ∷ 1 ∷ 0 ∷ 0 ∷ 0 ∷ [])) ∷
      by_records (1 ∷ 0 ∷ 1 ∷ 2 ∷ 0 ∷ 1 ∷ 3 ∷ 0 ∷ 1 ∷ 4 ∷ 0 ∷ 1 ∷ 0 ∷ 0 ∷ 0 ∷ []) Yes 0 ∷
      nodes_in (1 ∷ 0 ∷ 1 ∷ 2 ∷ 0 ∷ 1 ∷ 3 ∷ 0 ∷ 1 ∷ 4 ∷ 0 ∷ 1 ∷ 0 ∷ 0 ∷ 0 ∷ []) (1 ∷ 4 ∷ 0 ∷ 2 ∷ []) ∷
      line (0 ∷ 3 ∷ 1 ∷ 4 ∷ []) No 0 ∷ order (0 ∷ 3 ∷ 1 ∷ 4 ∷ []) No ∷ intervals (0 ∷ 3 ∷ 1 ∷ 4 ∷ []) none ∷
      order (3 ∷ []) Yes ∷ line_ports (3 ∷ 0 ∷ []) (4 ∷ 9 ∷ 0 ∷ []) (13 ∷ 3 ∷ 14 ∷ []) No 0 ∷
      order_ports [] (4 ∷ 9 ∷ 0 ∷ []) (13 ∷ 3 ∷ 14 ∷ []) No ∷ line_ports (3 ∷ 0 ∷ []) (2 ∷ 4 ∷ []) (9 ∷ 16 ∷ []) Yes 0 ∷
      order_ports (4 ∷ 1 ∷ 1 ∷ 2 ∷ 0 ∷ []) (2 ∷ 4 ∷ []) (9 ∷ 16 ∷ []) Yes ∷ port 2 0 0 [] ∷ port 6 2 1 (4 ∷ []) ∷
      port 9 1 1 (2 ∷ []) ∷ port 15 2 1 (3 ∷ []) ∷ [];
}

map_33 : Recording
map_33 = record {
  nodes = node 0 3 ∷ node 1 1 ∷ node 3 1 ∷ node 0 1 ∷ node 0 0 ∷ node 1 2 ∷ [];
  links = link 0 1 2 0 ∷ link 0 0 5 0 ∷ link 0 2 2 1 ∷ link 5 1 1 0 ∷ [];
  lines = 5;
  order = 0 ∷ 3 ∷ 4 ∷ 5 ∷ 2 ∷ 1 ∷ [];
  positions = 0 ∷ 2 ∷ 1 ∷ 0 ∷ 0 ∷ 1 ∷ [];
  lines_of_nodes = (0 ∷ 1 ∷ 2 ∷ []) ∷ (0 ∷ []) ∷ (1 ∷ 2 ∷ []) ∷ (3 ∷ []) ∷ (4 ∷ []) ∷ (0 ∷ []) ∷ [];
  nodes_of_lines = (0 ∷ 5 ∷ 1 ∷ []) ∷ (0 ∷ 2 ∷ []) ∷ (0 ∷ 2 ∷ []) ∷ (3 ∷ []) ∷ (4 ∷ []) ∷ [];
  asked = line (2 ∷ 1 ∷ 4 ∷ 0 ∷ []) No 0 ∷ order (2 ∷ 1 ∷ 4 ∷ 0 ∷ []) No ∷ intervals (2 ∷ 1 ∷ 4 ∷ 0 ∷ []) none ∷
      line (3 ∷ 0 ∷ []) Yes 0 ∷ order (3 ∷ 0 ∷ []) Yes ∷
      intervals (3 ∷ 0 ∷ []) (given (3 ∷ 0 ∷ 0 ∷ 0 ∷ 0 ∷ 0 ∷ 1 ∷ 0 ∷ 0 ∷ 2 ∷ 0 ∷ 0 ∷ [])) ∷
      by_records (3 ∷ 0 ∷ 0 ∷ 0 ∷ 0 ∷ 0 ∷ 1 ∷ 0 ∷ 0 ∷ 2 ∷ 0 ∷ 0 ∷ []) Yes 0 ∷
      nodes_in (3 ∷ 0 ∷ 0 ∷ 0 ∷ 0 ∷ 0 ∷ 1 ∷ 0 ∷ 0 ∷ 2 ∷ 0 ∷ 0 ∷ []) (0 ∷ 3 ∷ []) ∷
      extend (3 ∷ 0 ∷ 0 ∷ 0 ∷ 0 ∷ 0 ∷ 1 ∷ 0 ∷ 0 ∷ 2 ∷ 0 ∷ 0 ∷ []) 1 none ∷
      extend (3 ∷ 0 ∷ 0 ∷ 0 ∷ 0 ∷ 0 ∷ 1 ∷ 0 ∷ 0 ∷ 2 ∷ 0 ∷ 0 ∷ []) 4 (given (3 ∷ 0 ∷ 0 ∷ 0 ∷ 0 ∷ 0 ∷ 1 ∷ 0 ∷ 0 ∷ 2 ∷ 0 ∷
      0 ∷ 4 ∷ 0 ∷ 0 ∷ [])) ∷ by_records (3 ∷ 0 ∷ 0 ∷ 0 ∷ 0 ∷ 0 ∷ 1 ∷ 0 ∷ 0 ∷ 2 ∷ 0 ∷ 0 ∷ 4 ∷ 0 ∷ 0 ∷ []) Yes 0 ∷
      nodes_in (3 ∷ 0 ∷ 0 ∷ 0 ∷ 0 ∷ 0 ∷ 1 ∷ 0 ∷ 0 ∷ 2 ∷ 0 ∷ 0 ∷ 4 ∷ 0 ∷ 0 ∷ []) (0 ∷ 3 ∷ 4 ∷ []) ∷
      order (4 ∷ 0 ∷ 5 ∷ 3 ∷ 1 ∷ 3 ∷ []) Yes ∷
      line_ports (4 ∷ 0 ∷ 1 ∷ 2 ∷ 3 ∷ 5 ∷ []) (6 ∷ 6 ∷ 8 ∷ []) (9 ∷ 2 ∷ []) No 0 ∷
      order_ports [] (6 ∷ 6 ∷ 8 ∷ []) (9 ∷ 2 ∷ []) No ∷ line_ports (1 ∷ 0 ∷ []) (12 ∷ 0 ∷ []) (6 ∷ 4 ∷ []) No 0 ∷
      order_ports (1 ∷ 0 ∷ []) (12 ∷ 0 ∷ []) (6 ∷ 4 ∷ []) No ∷ port 0 0 1 (0 ∷ []) ∷ port 2 2 1 (2 ∷ []) ∷
      port 5 0 1 (1 ∷ []) ∷ port 11 0 0 [] ∷ [];
}

map_34 : Recording
map_34 = record {
  nodes = node 0 1 ∷ node 2 0 ∷ node 1 1 ∷ node 0 0 ∷ node 2 1 ∷ node 0 2 ∷ [];
  links = link 4 0 2 0 ∷ link 2 0 1 0 ∷ link 5 1 4 0 ∷ [];
  lines = 3;
  order = 0 ∷ 3 ∷ 5 ∷ 4 ∷ 2 ∷ 1 ∷ [];
  positions = 0 ∷ 3 ∷ 2 ∷ 0 ∷ 1 ∷ 0 ∷ [];
  lines_of_nodes = (0 ∷ []) ∷ (2 ∷ []) ∷ (2 ∷ []) ∷ (1 ∷ []) ∷ (2 ∷ []) ∷ (2 ∷ []) ∷ [];
  nodes_of_lines = (0 ∷ []) ∷ (3 ∷ []) ∷ (5 ∷ 4 ∷ 2 ∷ 1 ∷ []) ∷ [];
  asked = line (1 ∷ 2 ∷ []) Yes 0 ∷ order (1 ∷ 2 ∷ []) Yes ∷ intervals (1 ∷ 2 ∷ []) (given (2 ∷ 2 ∷ 3 ∷ [])) ∷
      by_records (2 ∷ 2 ∷ 3 ∷ []) Yes 0 ∷ nodes_in (2 ∷ 2 ∷ 3 ∷ []) (2 ∷ 1 ∷ []) ∷
      extend (2 ∷ 2 ∷ 3 ∷ []) 3 (given (2 ∷ 2 ∷ 3 ∷ 1 ∷ 0 ∷ 0 ∷ [])) ∷
      extend (2 ∷ 2 ∷ 3 ∷ 1 ∷ 0 ∷ 0 ∷ []) 4 (given (2 ∷ 1 ∷ 3 ∷ 1 ∷ 0 ∷ 0 ∷ [])) ∷
      by_records (2 ∷ 1 ∷ 3 ∷ 1 ∷ 0 ∷ 0 ∷ []) Yes 0 ∷ nodes_in (2 ∷ 1 ∷ 3 ∷ 1 ∷ 0 ∷ 0 ∷ []) (3 ∷ 4 ∷ 2 ∷ 1 ∷ []) ∷
      line (5 ∷ 4 ∷ 0 ∷ 1 ∷ []) No 0 ∷ order (5 ∷ 4 ∷ 0 ∷ 1 ∷ []) No ∷ intervals (5 ∷ 4 ∷ 0 ∷ 1 ∷ []) none ∷
      order (0 ∷ 3 ∷ 3 ∷ 5 ∷ 1 ∷ 2 ∷ 1 ∷ []) No ∷ line_ports (3 ∷ 5 ∷ 2 ∷ 0 ∷ []) [] (4 ∷ []) No 0 ∷
      order_ports (3 ∷ 5 ∷ 2 ∷ 0 ∷ []) [] (4 ∷ []) No ∷ line_ports (2 ∷ 5 ∷ []) (5 ∷ []) (9 ∷ 6 ∷ 1 ∷ []) No 0 ∷
      order_ports (0 ∷ 4 ∷ 5 ∷ 4 ∷ []) (5 ∷ []) (9 ∷ 6 ∷ 1 ∷ []) No ∷ port 1 0 1 (2 ∷ []) ∷ port 2 1 0 [] ∷
      port 4 0 1 (2 ∷ []) ∷ port 9 0 1 (2 ∷ []) ∷ [];
}

map_35 : Recording
map_35 = record {
  nodes = node 2 1 ∷ node 1 2 ∷ node 2 1 ∷ node 1 5 ∷ node 4 1 ∷ [];
  links = link 2 0 4 1 ∷ link 4 0 0 0 ∷ link 1 1 0 1 ∷ link 3 3 2 1 ∷ link 3 4 2 0 ∷ link 3 2 4 3 ∷ link 3 0 4 2 ∷
      link 3 0 4 0 ∷ [];
  lines = 6;
  order = 1 ∷ 3 ∷ 2 ∷ 4 ∷ 0 ∷ [];
  positions = 3 ∷ 0 ∷ 1 ∷ 0 ∷ 2 ∷ [];
  lines_of_nodes = (2 ∷ 0 ∷ []) ∷ (0 ∷ []) ∷ (5 ∷ 4 ∷ []) ∷ (1 ∷ 2 ∷ 3 ∷ 4 ∷ 5 ∷ []) ∷ (2 ∷ 5 ∷ 1 ∷ 3 ∷ []) ∷ [];
  nodes_of_lines = (1 ∷ 0 ∷ []) ∷ (3 ∷ 4 ∷ []) ∷ (3 ∷ 4 ∷ 0 ∷ []) ∷ (3 ∷ 4 ∷ []) ∷ (3 ∷ 2 ∷ []) ∷ (3 ∷ 2 ∷ 4 ∷ []) ∷ [];
  asked = line (3 ∷ 4 ∷ 1 ∷ []) No 0 ∷ order (3 ∷ 4 ∷ 1 ∷ []) No ∷ intervals (3 ∷ 4 ∷ 1 ∷ []) none ∷
      line (3 ∷ 0 ∷ 2 ∷ 1 ∷ []) No 0 ∷ order (3 ∷ 0 ∷ 2 ∷ 1 ∷ []) No ∷ intervals (3 ∷ 0 ∷ 2 ∷ 1 ∷ []) none ∷
      order (3 ∷ 4 ∷ 0 ∷ []) No ∷ line_ports (3 ∷ 1 ∷ []) [] (3 ∷ 14 ∷ []) Yes 0 ∷
      order_ports (3 ∷ 1 ∷ []) [] (3 ∷ 14 ∷ []) Yes ∷ line_ports (0 ∷ 2 ∷ []) (9 ∷ []) (0 ∷ 14 ∷ []) No 1 ∷
      order_ports (2 ∷ 1 ∷ 0 ∷ 1 ∷ 4 ∷ []) (9 ∷ []) (0 ∷ 14 ∷ []) Yes ∷ port 0 0 1 (2 ∷ []) ∷ port 7 1 1 (4 ∷ []) ∷
      port 11 2 0 [] ∷ port 14 4 1 (5 ∷ []) ∷ [];
}

recorded : List Recording
recorded = map_0 ∷ map_1 ∷ map_2 ∷ map_3 ∷ map_4 ∷ map_5 ∷ map_6 ∷ map_7 ∷ map_8 ∷ map_9 ∷ map_10 ∷ map_11 ∷ map_12 ∷
    map_13 ∷ map_14 ∷ map_15 ∷ map_16 ∷ map_17 ∷ map_18 ∷ map_19 ∷ map_20 ∷ map_21 ∷ map_22 ∷ map_23 ∷ map_24 ∷
    map_25 ∷ map_26 ∷ map_27 ∷ map_28 ∷ map_29 ∷ map_30 ∷ map_31 ∷ map_32 ∷ map_33 ∷ map_34 ∷ map_35 ∷ []

agreed : T (all holds recorded)
unfolding everything holds recorded map_0 map_1 map_2 map_3 map_4 map_5 map_6 map_7 map_8 map_9 map_10 map_11 map_12 map_13 map_14 map_15 map_16 map_17 map_18 map_19 map_20 map_21 map_22 map_23 map_24 map_25 map_26 map_27 map_28 map_29 map_30 map_31 map_32 map_33 map_34 map_35
agreed = tt
