use Rattle.std.proofs.Common.{◌≡◌, take}
use Rattle.locked_runner.specs.RunNumbers.{greatest}
use Rattle.locked_runner.proofs.numbers.greatest.Given as goal

abbrev pub invariant-loop-level : goal.invariant-loop-level
invariant-loop-level l = l.greatest ≡ greatest (take l.level-index l.levels)
