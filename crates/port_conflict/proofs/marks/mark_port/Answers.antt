-- `port_conflict::marks::mark_port` meets its contract: the test decides, and the one word is the port's mark.
-- Rests on nothing but the test.
use Rattle.std.proofs.Common.{arith, le-ltb, lt-ltb, refl, sym}
use Rattle.port_conflict.proofs.marks.mark_port.Goals as goal

pub returns-then-port-p : goal.returns-then-port-p
returns-then-port-p c = record { says = sym (le-ltb c.args.port c.args.p (omega (arith, c.if-port-p.true))); left = refl }

pub returns : goal.returns
returns c = record { says = sym (lt-ltb c.args.port c.args.p (omega (arith, c.if-port-p.false))); left = refl }
