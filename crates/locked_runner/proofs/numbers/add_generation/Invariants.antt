use Rattle.std.proofs.Common.{◌≡◌, map, take}
use Rattle.locked_runner.specs.RunNumbers.{capped, own_quantity}
use Rattle.locked_runner.proofs.Generations.{with_jobs}
use Rattle.locked_runner.proofs.numbers.add_generation.Given as goal

abbrev pub invariant-loop-class : goal.invariant-loop-class
invariant-loop-class l = l.next.items ≡ map (λ class. capped (with_jobs (own_quantity l.fn.measure) l.fn.numbers class)) (take l.class-index l.plan.classes)
