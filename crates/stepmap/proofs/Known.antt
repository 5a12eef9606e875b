-- What a map that was read well gives the functions that read its records.
-- Rests on Formed.
use Prim.Native.Nat.{ℕ, ◌<◌}
use native.Mathlib.Omega.{arith}
use mathlib.Core.List.{List}
use mathlib.Core.Path.{sym, ap, subst}
use Rattle.paper.specs.Map.{P, first_port}
use Rattle.stepmap.specs.Formed.{ReadWell, HasLink, Numbered, HasPort}

module _ {b : List ℕ} {n l p : ℕ} (well : ReadWell b n l p) where
  pub has-link : {k : ℕ} → k < l → HasLink b n k
  has-link h = record { nodes = well.nodes; inside = omega (arith, well.size) }

  pub numbered : Numbered b n
  unfolding P
  numbered =
      record {
        inside = omega (arith, well.size);
        few = omega (arith, well.ports, well.few-ports, ap (first_port b) well.nodes);
      }

  -- the number of ports that was read is that of the definitions
  pub well_at : ReadWell b n l (P b)
  well_at = subst (ReadWell b n l) (sym well.ports) well

  pub has-port : {q : ℕ} → q < p → HasPort b n q
  has-port h =
      record { nodes = well.nodes; inside = omega (arith, well.size); known = omega (arith, well.ports) }
