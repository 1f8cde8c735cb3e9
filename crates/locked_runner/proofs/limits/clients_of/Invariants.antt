use Rattle.std.proofs.Common.{◌≡◌, ◌-◌, ◌^◌, sum_by, take, min}
use Rattle.locked_runner.proofs.limits.clients_of.Given as goal

abbrev pub invariant-loop-client : goal.invariant-loop-client
invariant-loop-client l = l.total ≡ min (sum_by (λ client. client.count) (take l.client-index l.plan.clients)) (2 ^ 64 - 1)
