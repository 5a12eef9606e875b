-- The tables of a map without refusal are good: "Accepted tables", sentence by sentence, before they are laid into the area.
-- Rests on Frontier (the invariant after all nodes), PlacedAs and lists.Once.
use Prim.Native.Nat.{ℕ, ◌+◌, ◌<◌}
use native.Mathlib.Decide.{dec_lt}
use native.Mathlib.Omega.{arith}
use mathlib.Core.Path.{◌≡◌, refl, sym, ap, ◌∙◌, subst}
use mathlib.Core.List.{List, [], map, map-map, Memᴰ}
use lib.ListN.{length, length-map}
use Rattle.lists.specs.Lists.{upto, sum, one, member, times, Rising}
use Rattle.lists.specs.Bounds.{Below}
use Rattle.lists.proofs.Upto.{length_from, length-table, get_or-table}
use Rattle.lists.proofs.Count.{length-keep, times-upto, times_past}
use Rattle.lists.proofs.Compare.{same_length}
use Rattle.lists.proofs.Places.{times_in, times_in_back}
use Rattle.paper.specs.Map.{N, L, link_from, link_to}
use Rattle.paper.specs.Order.{order, place_in}
use Rattle.paper.specs.Lines.{Placed, Frontier, placed_as, tables_of, tables}
use Rattle.paper.specs.Accepted.{right_after, GoesBefore}
use Rattle.paper.specs.Refusals.{passed, rule45, rule6}
use Rattle.order_theory.specs.Sound.{Sound}
use Rattle.order_theory.specs.Cycle.{AllOrdered}
use Rattle.order_theory.proofs.Order.{ordered-times, ordered-known, order-forward}
use Rattle.order_theory.proofs.Refusals.{sound, rule6_passes}
use Rattle.lists.specs.Weight.{total}
use Rattle.lines_theory.specs.Lined.{on, nodes_on, Listed, Lined}
use Rattle.lines_theory.specs.Sized.{Sized}
use Rattle.lines_theory.specs.Good.{Good, position_in, lines_in, nodes_in}
use Rattle.lists.proofs.Weight.{count-total, count-upto-same, length-listed, weight-all}
use Rattle.lists.proofs.Members.{member-times, times-member, times-kept, keep-there, map_members}
use Rattle.lists.proofs.Once.{total_members, total_swap, total-once}
use Rattle.lines_theory.proofs.PlacedAs.{found-placed, placed-itself, on_line}
use Rattle.lines_theory.proofs.Frontier.{all_lined}

-- ---- an order of all nodes, and the frontier after it

module _ {b : List ℕ} {us : List ℕ} {f : Frontier} (s : Sound b) (i : Lined b us f) (known : Below (N b) us) (once : (v : ℕ) → v < N b → times v us ≡ 1) where
  placed-once : (v : ℕ) → v < N b → times v (map (λ x. x.node) f.placed) ≡ 1
  placed-once v h = ap (times v) i.nodes ∙ once v h

  all-long : length us ≡ N b
  all-long =
      same_length (N b) us (upto (N b)) known (λ k h. times_past k (N b) h) (λ k h. once k h ∙ sym (times-upto k (N b) h))
      ∙ length_from 0 (N b)

  placed-long : length f.placed ≡ N b
  placed-long = sym (length-map f.placed (λ x. x.node)) ∙ ap length i.nodes ∙ all-long

  -- what is known of a node that is looked up
  looked_up : (v : ℕ) → v < N b → Listed f (placed_as v f.placed)
  looked_up v h = i.listed _ (found-placed v f.placed (omega (arith, placed-once v h)))

  node-known : (x : Placed) → Memᴰ x f.placed → x.node < N b
  node-known x m = go (dec_lt x.node (N b))
    where
      go : Dec (x.node < N b) → x.node < N b
      go (yes h) = h
      go (no h) =
          absurd (omega (arith, member-times (λ (y : Placed). y.node) m, ap (times x.node) i.nodes, known x.node (omega arith)))

  itself : (x : Placed) → Memᴰ x f.placed → placed_as x.node f.placed ≡ x
  itself x m = placed-itself m (omega (arith, placed-once x.node (node-known x m)))

  -- ---- how many entries

  all-entries : total (λ x. length x.lines) f.placed ≡ L b + f.count
  all-entries = omega (arith, i.entries, weight-all (link_to b) us (L b) (λ k h. once (link_to b k) (s.target k h)))

  -- by node
  line-entries : total (λ v. length (placed_as v f.placed).lines) (upto (N b)) ≡ L b + f.count
  line-entries =
      sym (total-once (λ v. length (placed_as v f.placed).lines) (N b) us known once)
      ∙ ap (total (λ v. length (placed_as v f.placed).lines)) (sym i.nodes)
      ∙ ap sum (map-map (λ v. length (placed_as v f.placed).lines) (λ x. x.node) f.placed)
      ∙ total_members (λ x. length (placed_as x.node f.placed).lines) (λ x. length x.lines) f.placed
      (λ x m. ap (λ (y : Placed). length y.lines) (itself x m))
      ∙ all-entries

  -- by line: each node counts once for each of its lines
  node-entries : total (λ l. length (nodes_on l f.placed)) (upto f.count) ≡ L b + f.count
  node-entries =
      total_members (λ l. length (nodes_on l f.placed)) (λ l. total (λ x. one (member l x.lines)) f.placed) (upto f.count)
      (λ l m. length-map (on l f.placed) (λ x. x.node) ∙ length-keep (λ x. member l x.lines) f.placed
      ∙ count-total (λ x. member l x.lines) (λ x. one (member l x.lines)) (λ x. refl) f.placed)
      ∙ total_swap (λ l x. one (member l x.lines)) (upto f.count) f.placed
      ∙ total_members (λ x. total (λ l. one (member l x.lines)) (upto f.count)) (λ x. length x.lines) f.placed listing
      ∙ all-entries
    where
      listing : (x : Placed) → Memᴰ x f.placed → total (λ l. one (member l x.lines)) (upto f.count) ≡ length x.lines
      listing x m =
          let r = i.listed x m in
          sym (count-total (λ l. member l x.lines) (λ l. one (member l x.lines)) (λ l. refl) (upto f.count))
          ∙ sym (length-listed (λ l. member l x.lines) f.count x.lines r.known (λ l h. times-member l x.lines (r.once l)))

  -- ---- the tables' entries

  position-entry : (v : ℕ) → v < N b → position_in (tables_of (N b) us f) v ≡ (placed_as v f.placed).position
  unfolding tables_of
  position-entry v h = get_or-table (λ v. (placed_as v f.placed).position) (N b) v 0 h

  lines-entry : (v : ℕ) → v < N b → lines_in (tables_of (N b) us f) v ≡ (placed_as v f.placed).lines
  unfolding tables_of
  lines-entry v h = get_or-table (λ v. (placed_as v f.placed).lines) (N b) v [] h

  nodes-entry : (l : ℕ) → l < f.count → nodes_in (tables_of (N b) us f) l ≡ nodes_on l f.placed
  unfolding tables_of
  nodes-entry l h = get_or-table (λ l. nodes_on l f.placed) f.count l [] h

  tables-sized : Sized b (tables_of (N b) us f)
  unfolding tables_of
  tables-sized =
      record {
        few = omega (arith, i.few, all-long, weight-all (link_from b) us (L b) (λ k h. once (link_from b k) (s.source k h)));
        ordered = all-long;
        placed = length-table (λ v. (placed_as v f.placed).position) (N b);
        nodes = length-table (λ v. (placed_as v f.placed).lines) (N b);
        lines = length-table (λ l. nodes_on l f.placed) f.count;
        line_entries = ap sum (map-map length (λ v. (placed_as v f.placed).lines) (upto (N b))) ∙ line-entries;
        node_entries = ap sum (map-map length (λ l. nodes_on l f.placed) (upto f.count)) ∙ node-entries;
      }

  -- along a line, positions are those of the nodes placed
  line-rises : (l : ℕ) → l < f.count → Rising (map (position_in (tables_of (N b) us f)) (nodes_in (tables_of (N b) us f) l))
  line-rises l h =
      subst Rising
      (sym (ap (map (position_in (tables_of (N b) us f))) (nodes-entry l h)
      ∙ map-map (position_in (tables_of (N b) us f)) (λ x. x.node) (on l f.placed)
      ∙ map_members (λ x. position_in (tables_of (N b) us f) x.node) (λ x. x.position) (on l f.placed) (λ x m. same x (keep-there _ f.placed m))))
      (i.rises l)
    where
      same : (x : Placed) → Memᴰ x f.placed → position_in (tables_of (N b) us f) x.node ≡ x.position
      same x m = position-entry x.node (node-known x m) ∙ ap (λ (y : Placed). y.position) (itself x m)

  line-listed : (v : ℕ) → v < N b → (l : ℕ) → l < f.count
      → times l (lines_in (tables_of (N b) us f) v) ≡ one (member v (nodes_in (tables_of (N b) us f) l))
  line-listed v h l m =
      ap (times l) (lines-entry v h)
      ∙ times-member l (placed_as v f.placed).lines ((looked_up v h).once l)
      ∙ sym (on_line v l f.placed (placed-once v h))
      ∙ times-member v (nodes_on l f.placed)
      (omega (arith, times-kept (λ (x : Placed). x.node) (λ x. member l x.lines) v f.placed, placed-once v h))
      ∙ ap (λ (ns : List ℕ). one (member v ns)) (sym (nodes-entry l m))

  pub tables_of_good : ((k : ℕ) → k < L b → GoesBefore (place_in us (link_from b k)) (place_in us (link_to b k))) → Good b (tables_of (N b) us f)
  unfolding tables_of
  tables_of_good forward =
      record {
        sized = tables-sized;
        each_once = once;
        forward = forward;
        lines_some = λ v h. rw (lines-entry v h) (looked_up v h).some;
        nodes_some = λ l h. rw (nodes-entry l h) (omega (arith, i.used l h, length-map (on l f.placed) (λ x. x.node)));
        lines_known = λ v h. rw (lines-entry v h) (looked_up v h).known;
        nodes_known =
            λ l h k high. omega
            (arith, ap (times k) (nodes-entry l h), times-kept (λ (x : Placed). x.node) (λ x. member l x.lines) k f.placed, ap (times k) i.nodes, known k high);
        shallow = λ v h. omega (arith, position-entry v h, (looked_up v h).shallow, placed-long);
        rises = line-rises;
        listed = line-listed;
        adjacent =
            λ u h v m. sym (i.adjacent u v (omega (arith, once v m)))
            ∙ count-upto-same _ _ f.count (λ l low. ap (right_after u v) (sym (nodes-entry l low)));
      }

-- ---- the tables of a map without refusal

pub tables-good : (b : List ℕ) → rule45 b ≡ passed → rule6 b ≡ passed → Good b (tables b)
unfolding tables
tables-good b links cycle =
    tables_of_good s (all_lined s) known (λ v h. omega (arith, times_in v (order b) (all v h), ordered-times s v))
    (λ k h. order-forward s k h (all (link_to b k) (s.target k h)))
  where
    s : Sound b
    s = sound b links

    all : AllOrdered b
    all = (rule6_passes b).0 cycle

    known : Below (N b) (order b)
    known v h = go (dec_lt 0 (times v (order b)))
      where
        go : Dec (0 < times v (order b)) → times v (order b) ≡ 0
        go (yes l) = absurd (omega (arith, ordered-known s v (times_in_back v (order b) l)))
        go (no l) = omega arith
