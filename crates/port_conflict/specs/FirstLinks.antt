-- The first-link rule link by link: at which link a listed input is found at the other end of a listed output's first link.
-- Rests on paper's Map.
use Rattle.std.specs.Prelude.{ℕ, Bool, not, ◌&&◌, ◌||◌, List, eqb}
use Rattle.lists.specs.Lists.{upto, any}
use Rattle.paper.specs.Map.{source_port, target_port}

-- port q is one of link k's ends
abbrev pub touches : List ℕ → ℕ → ℕ → Bool
touches b q k = eqb (source_port b k) q || eqb (target_port b k) q

-- no link before link k is at port q
unfoldable pub unlinked : List ℕ → ℕ → ℕ → Bool
unlinked b k q = not (any (touches b q) (upto k))

-- port q is an output, and the port at the other end of its link an input
abbrev pub leads : (ℕ → Bool) → (ℕ → Bool) → ℕ → ℕ → Bool
leads is_input is_output q other = is_output q && is_input other

-- .. from one of two ports to the other
abbrev pub joined : (ℕ → Bool) → (ℕ → Bool) → ℕ → ℕ → Bool
joined is_input is_output s t = leads is_input is_output s t || leads is_input is_output t s

-- link k is the first link of an output, with an input at its other end
unfoldable pub meets : List ℕ → (ℕ → Bool) → (ℕ → Bool) → ℕ → Bool
meets b is_input is_output k = joined is_input (λ q. is_output q && unlinked b k q) (source_port b k) (target_port b k)
