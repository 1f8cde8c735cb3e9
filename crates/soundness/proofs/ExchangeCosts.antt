-- An exchange costs nothing: it leaves the calls of jobs and the remaining work unchanged.
use Rattle.std.proofs.Common.{◌≡◌, ℕ, ◌≤◌, map, sym, subst, arith}
use Rattle.std.proofs.lemmas.List.{length-map}
use Rattle.support.proofs.Sums.{sum_by-map}
use Rattle.job_bodies.specs.Plan.{Plan}
use Rattle.weights.specs.Ranks.{Ranks}
use Rattle.pool_machine.specs.declared.parent.Parent.{Parent}
use Rattle.pool_machine.specs.State.{State, CreatedJob, job_at}
use Rattle.soundness.specs.Drain.{stage_todo, todo}
use Rattle.soundness.specs.Execute.{JavaState}
use Rattle.soundness.specs.Exchange.{exchanged_job, after_exchange}
use Rattle.soundness.proofs.JobCalls.{IsAtSubmitTo, JobCalls}
use Rattle.soundness.proofs.CompletedSteps.{mark, by_place-longer}
use Rattle.soundness.proofs.Costs.{calls_done}
use Rattle.soundness.proofs.ExchangedJobs.{job_at-exchanged}

-- a job at a submit is still at it after an exchange
before_exchanged : (plan : Plan) (s : State) (a : Parent) (t u n p : ℕ) → IsAtSubmitTo plan (job_at s n) p → IsAtSubmitTo plan (job_at (after_exchange a t u s) n) p
before_exchanged plan s a t u n p before =
    subst (λ (job : CreatedJob). IsAtSubmitTo plan job p) (sym (job_at-exchanged s a t u n))
    (record { position = before.position; submitted = before.submitted; stage = before.stage; submits = before.submits; to_pool = before.to_pool })

pub job_calls_exchanged : (plan : Plan) (s : JavaState) (a : Parent) (t u : ℕ) → JobCalls plan s → JobCalls plan (record s { machine = after_exchange a t u s.machine })
job_calls_exchanged plan s a t u calls = record {
  offering = λ n p is_there. before_exchanged plan s.machine a t u n p (calls.offering n p is_there);
  requesting = λ n p is_there. before_exchanged plan s.machine a t u n p (calls.requesting n p is_there);
}

pub todo-exchanged : (plan : Plan) (ranks : Ranks) (s : State) (a : Parent) (t u : ℕ) → todo plan ranks (after_exchange a t u s) ≡ todo plan ranks s
todo-exchanged plan ranks s a t u = sum_by-map (λ (job : CreatedJob). stage_todo plan ranks job.class job.stage) (exchanged_job a t u) s.jobs

-- an exchange does not reduce the number of completed steps of the calls in progress
pub calls_done-exchanged : (s : JavaState) (a : Parent) (t u : ℕ) → calls_done s ≤ calls_done (record s { machine = after_exchange a t u s.machine })
calls_done-exchanged s a t u = by_place-longer (mark s) 0 s.machine.jobs (map (exchanged_job a t u) s.machine.jobs) (omega (arith, length-map s.machine.jobs (exchanged_job a t u)))
