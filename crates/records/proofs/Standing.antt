-- Whether a position stands on a line, by what the lookup found there.
-- Rests on lookup's Finding and on_line's Along.
use Prim.Native.Nat.{ℕ, ◌<◌}
use mathlib.Core.Path.{◌≡◌, sym, ap, ◌∙◌}
use mathlib.Core.List.{List}
use Rattle.lists.specs.Lists.{member}
use Rattle.paper.specs.Area.{K}
use Rattle.paper.specs.Lookup.{lookup}
use Rattle.paper.specs.Refusals.{on_line}
use Rattle.std.specs.Prelude.{Option, Some, None, is_some}
use Rattle.lists.specs.Found.{found_of}
use Rattle.lookup.proofs.Finding.{lookup_finds, stands-member, lookup_absent}
use Rattle.tables.specs.declared.Layout.{Layout}
use Rattle.tables.specs.Usable.{Usable}
use Rattle.on_line.specs.Along.{positions_along}
use Rattle.on_line.proofs.Along.{along-is}

module _ {b a : List ℕ} {at : Layout} (usable : Usable b a at) {x : ℕ} (known : x < K b a) (q : ℕ) where
  pub stands : (found : Option ℕ) → found_of found ≡ lookup (positions_along a at x) q → is_some found ≡ on_line b a x q
  unfolding on_line
  stands None said = sym ((lookup_absent (positions_along a at x) q).0 (sym said)) ∙ ap (member q) (along-is usable x known)
  stands (Some i) said =
      sym (stands-member (positions_along a at x) q i (lookup_finds (positions_along a at x) q i (sym said)))
      ∙ ap (member q) (along-is usable x known)
