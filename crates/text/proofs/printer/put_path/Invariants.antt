use Rattle.std.proofs.Common.{length, take, ◌*◌, ◌++◌, ◌+◌, ◌≡◌, ◌≤◌}
use mathlib.Core.List.{flat_map}
use Rattle.lists.specs.Ascii.{ascii}
use Rattle.paper.specs.Text.{decimal}
use Rattle.text.specs.Printed.{Put}
use Rattle.text.proofs.printer.put_path.Given as goal

abbrev pub invariant-loop-step : goal.invariant-loop-step
invariant-loop-step l = (length l.out ≡ length l.initial.out) × (l.end ≤ l.initial.end + 6 * l.step-index)
    × Put l.initial.out l.initial.end (flat_map (λ v. ascii " " ++ decimal v) (take l.step-index l.steps)) l.out l.end
