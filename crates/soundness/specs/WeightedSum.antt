-- The weight of a state under a vector.
use Rattle.std.specs.Prelude.{ℕ, ◌+◌, ◌-◌, ◌*◌, sum_by}
use Rattle.std.specs.List.{enumerate_from}
use Rattle.job_bodies.specs.Plan.{Plan}
use Rattle.pool_machine.specs.State.{Stage, State, busy}
use Rattle.pool_machine.specs.State.Stage.{Queued, At, Done, Claimed}
use Rattle.weights.specs.declared.get_return.GetReturn.{GetReturn}
use Rattle.weights.specs.Vector.{Vector, workers_weight, queued_weight, job_weight, done_weight, client_weight}
use Rattle.weights.specs.GetReturn.{claimed_weight}

-- the weight of a job of class k at this stage
abbrev pub stage_weight : GetReturn → Plan → Vector → ℕ → Stage → ℕ
stage_weight get_return plan v k Queued = queued_weight v k
stage_weight get_return plan v k (At i) = job_weight v k i
stage_weight get_return plan v k Done = done_weight plan v k
stage_weight get_return plan v k Claimed = claimed_weight get_return plan v k

-- the weight of a state: the sum of the weights of its clients, its jobs and its workers that are not busy. Each pool counts as
-- if it had its maximum of workers, so the number of workers that are not busy is the maximum minus the busy ones. In a
-- reachable state, no pool has more than max busy workers.
abbrev pub sum_of : GetReturn → Plan → Vector → State → ℕ
sum_of get_return plan v s =
    sum_by (λ client. client_weight v client.kind client.position) s.clients
    + sum_by (λ job. stage_weight get_return plan v job.class job.stage) s.jobs
    + sum_by (λ entry. workers_weight v entry.0 * (entry.1.max - busy plan s entry.0)) (enumerate_from 0 plan.pools)
