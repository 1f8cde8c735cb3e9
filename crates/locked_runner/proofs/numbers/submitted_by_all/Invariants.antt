use Rattle.std.proofs.Common.{◌≡◌, take, slice_index, sum_by}
use Rattle.locked_runner.specs.RunNumbers.{capped, submitted_by}
use Rattle.locked_runner.proofs.numbers.submitted_by_all.Given as goal

abbrev pub invariant-loop-client : goal.invariant-loop-client
invariant-loop-client l = l.total ≡ capped (sum_by (submitted_by l.rounds (slice_index l.numbers)) (take l.client-index l.plan.clients))
