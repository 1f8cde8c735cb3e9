use Rattle.std.proofs.Common.{◌≡◌, take, slice_index}
use Rattle.locked_runner.specs.RunNumbers.{capped, submitted}
use Rattle.locked_runner.proofs.numbers.submitted.Given as goal

abbrev pub invariant-loop-action : goal.invariant-loop-action
invariant-loop-action l = l.total ≡ capped (submitted (slice_index l.numbers) (take l.action-index l.body))
