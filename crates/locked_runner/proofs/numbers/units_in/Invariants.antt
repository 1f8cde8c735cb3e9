use Rattle.std.proofs.Common.{◌≡◌, take}
use Rattle.locked_runner.specs.RunNumbers.{capped, units_in}
use Rattle.locked_runner.proofs.numbers.units_in.Given as goal

abbrev pub invariant-loop-action : goal.invariant-loop-action
invariant-loop-action l = l.total ≡ capped (units_in (take l.action-index l.body))
