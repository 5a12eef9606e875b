-- A port's first line and its number of lines by the links at its node's ports of its direction; and where its lines stand in the area.
-- Rests on Among, stepmap's PortNumbers, tables' Words and accepted_theory's Ports (a port's lines are within its node's list).
use Prim.Native.Nat.{ℕ, ◌+◌, ◌-◌, ◌≤◌, ◌<◌}
use native.Mathlib.Omega.{arith}
use mathlib.Core.Path.{◌≡◌, refl, sym, ap, ap₂, ◌∙◌}
use mathlib.Core.Bool.{Bool, true, false}
use mathlib.Core.List.{List}
use lib.ListN.{length, get_or}
use borrow.Author.Tests.{leb-false}
use Rattle.paper.specs.Map.{P, input, output, port_node, is_output, port_links}
use Rattle.paper.specs.Area.{Section}
use Rattle.paper.specs.Ports.{earlier_ports, first_line, line_count_at, view_start}
use Rattle.order_theory.proofs.Refusals.{sound}
use Rattle.accepted_theory.proofs.Ports.{lines-within}
use Rattle.stepmap.specs.Formed.{port_of}
use Rattle.stepmap.specs.declared.read.Sizes.{Sizes}
use Rattle.stepmap.proofs.Known.{has-port}
use Rattle.stepmap.proofs.PortNumbers.{Owner, holder, first-port-next}
use Rattle.tables.specs.declared.Layout.{Layout}
use Rattle.tables.specs.Placed.{entries_size}
use Rattle.tables.specs.Usable.{Usable}
use Rattle.tables.proofs.Usable.{roomy}
use Rattle.tables.proofs.Words.{section_at, word_at, count-few, lines_end, lines_long}
use Rattle.port_lines.specs.Ends.{KnownPort, links_among}
use Rattle.port_lines.proofs.Among.{ports_of, links_from, row_among}

-- how far a port stands behind the first one of its direction
behind : (b : List ℕ) (out : Bool) (v o : ℕ) → port_of b out v o - port_of b out v 0 ≡ o
unfolding input output
behind b true v o = omega arith
behind b false v o = omega arith

-- the port of the same node and direction at an offset
abbrev pub sibling : List ℕ → ℕ → ℕ → ℕ
sibling b port o = port_of b (is_output b port) (port_node b port) o

-- how many there are
abbrev siblings : List ℕ → ℕ → ℕ
siblings b port = ports_of b (is_output b port) (port_node b port)

node-holds : {b : List ℕ} {sizes : Sizes} {port : ℕ} → KnownPort b sizes port → Owner b sizes.nodes port (port_node b port)
node-holds {b} {sizes} {port} given = holder b sizes.nodes port (port_node b port) (has-port given.read given.known) refl

module _ {b : List ℕ} {sizes : Sizes} {port : ℕ} (given : KnownPort b sizes port) (o : ℕ) (offset : port ≡ sibling b port o) where
  -- an offset is below the number of its node's ports of its direction
  offset_known : o < siblings b port
  unfolding is_output input output
  offset_known = go (is_output b port) refl offset
    where
      go : (t : Bool) → is_output b port ≡ t → port ≡ port_of b t (port_node b port) o → o < ports_of b t (port_node b port)
      go true e f = omega (arith, (node-holds given).high, first-port-next b (port_node b port))
      go false e f = omega (arith, leb-false (output b (port_node b port) 0) port e)

  pub offset_small : o ≤ port
  unfolding input output
  offset_small = go (is_output b port) offset
    where
      go : (t : Bool) → port ≡ port_of b t (port_node b port) o → o ≤ port
      go true e = omega arith
      go false e = omega arith

  first-row : first_line b port ≡ links_from b (sibling b port 0) o
  unfolding first_line earlier_ports
  first-row =
      ap (links_from b (sibling b port 0))
      (ap (λ (q : ℕ). q - sibling b port 0) offset ∙ behind b (is_output b port) (port_node b port) o)

  count-row : line_count_at b port ≡ links_from b (sibling b port o) 1
  unfolding line_count_at
  count-row = omega (arith, ap (λ (q : ℕ). length (port_links b q)) offset)

  -- the two counts
  module _ {out : Bool} {v r : ℕ} (direction : out ≡ is_output b port) (node : v ≡ port_node b port) where
    pub first_counted : r ≡ links_among b out v 0 o → r ≡ first_line b port
    first_counted e =
        e ∙ ap₂ (λ (t : Bool) (u : ℕ). links_among b t u 0 o) direction node
        ∙ ap (links_among b (is_output b port) (port_node b port) 0) (plain o)
        ∙ sym (first-row ∙ row_among (sound b given.links) (is_output b port) (port_node b port) 0 o (omega (arith, offset_known)))
      where
        plain : (o : ℕ) → o ≡ 0 + o
        plain o = omega arith

    pub lines-counted : r ≡ links_among b out v o (o + 1) → r ≡ line_count_at b port
    lines-counted e =
        e ∙ ap₂ (λ (t : Bool) (u : ℕ). links_among b t u o (o + 1)) direction node
        ∙ sym (count-row ∙ row_among (sound b given.links) (is_output b port) (port_node b port) o 1 (omega (arith, offset_known)))

-- ---- the lines at a port, which are a part of the area

module _ {b a : List ℕ} {at : Layout} {port : ℕ} (usable : Usable b a at) (h : port < at.sizes.ports) where
  pub known-port : KnownPort b at.sizes port
  known-port = record { read = usable.read; links = usable.links; known = h }

  pub node-known : {v : ℕ} → v ≡ port_node b port → v < at.sizes.nodes
  node-known e = omega (arith, (node-holds known-port).known)

  -- they are within the words in use of the section
  pub view-few : view_start b a port + line_count_at b port ≤ at.lines + entries_size at.sizes
  unfolding view_start
  view-few =
      omega (
        arith,
        lines-within usable.tables (sound b usable.links) (roomy usable) known,
        section_at usable Section.lines_of_nodes,
        word_at usable Section.node_starts (port_node b port),
        lines_long usable (port_node b port) (node-known refl),
        lines_end usable (port_node b port) (node-known refl),
        count-few usable,
      )
    where
      known : port < P b
      known = omega (arith, usable.read.ports)

  pub view-inside : view_start b a port + line_count_at b port ≤ length a
  view-inside = omega (arith, view-few, usable.placed, usable.room)

  -- .. and start behind the lines of earlier ports, in the node's list
  module _ {v w f : ℕ} (node : v ≡ port_node b port) (word : w ≡ get_or a (at.begins + v) 0) (first : f ≡ first_line b port) where
    pub start_so : at.lines + w + f ≡ view_start b a port
    unfolding view_start
    start_so =
        omega (
          arith,
          section_at usable Section.lines_of_nodes,
          word_at usable Section.node_starts (port_node b port),
          word ∙ ap (λ (u : ℕ). get_or a (at.begins + u) 0) node,
          first,
        )

    pub start-inside : at.lines + w + f ≤ length a
    start-inside = omega (arith, start_so, view-inside)
