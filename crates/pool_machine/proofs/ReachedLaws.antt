-- The laws of the machine as lemmas, for the crates that depend on this one.
use Rattle.std.specs.Prelude.{⊤}
use Rattle.std.proofs.Common.{ℕ, List, Some, refl, arith, length}
use Rattle.job_bodies.specs.declared.action.Action.{Action}
use Rattle.job_bodies.specs.declared.action.Action.TheVariants as action
use Rattle.job_bodies.specs.Plan.{Plan, pool_at, submitted_class}
use Rattle.job_bodies.specs.WellFormed.{IsWellFormed}
use Rattle.job_bodies.specs.ValidBody.{IsValidBody}
use Rattle.job_bodies.proofs.Bodies.{HasValidBodies, ordered}
use Rattle.pool_machine.proofs.QueueLimits.{bounded_within}
use Rattle.pool_machine.specs.declared.parent.Parent.{Parent}
use Rattle.pool_machine.specs.declared.event.Outcome.TheVariants.{Refused}
use Rattle.pool_machine.specs.State.{State, pool_part}
use Rattle.pool_machine.specs.Laws.{PoolsKeepTheirSizes, QueuesHaveThreads, GetsHaveChildren, WaitingSetsAreTested}
use Rattle.pool_machine.specs.Reach.{IsReached}
use Rattle.pool_machine.specs.JobsMade.{ThreadsHaveJobs, RefusalsNeedJobs}
use Rattle.pool_machine.specs.FullWaitingSets.{FullWaitingSetsStay, FixedPoolsAreFull}
use Rattle.pool_machine.proofs.Events.{IsAtAction, happens}
use Rattle.pool_machine.proofs.Positions.{valid_point}
use Rattle.pool_machine.proofs.StateInvariant.{HasChild, StateInvariant}
use Rattle.pool_machine.proofs.Reached.{replay_keeps, reached_keeps, kept, have_threads}
use Rattle.pool_machine.proofs.InvariantAtStart.{kept_start}
use Rattle.pool_machine.proofs.InvariantStep.{kept_step}
use Rattle.pool_machine.proofs.JobsMade.{HaveJobs, have_jobs_start, have_jobs_step, refused_when}
use Rattle.pool_machine.proofs.WaitingSets.{waiting_set_test}
use Rattle.pool_machine.proofs.FullWaitingSets.{Stayed, stays_through, fixed_are_full}

pub sizes_kept : PoolsKeepTheirSizes
sizes_kept plan s well_formed reached p inside =
    let pool = (kept plan s well_formed reached).pools p inside in
    record { within_max = pool.within_max; within_queue = bounded_within (pool_at plan p).unbounded (pool_at plan p).queue (pool_part s p).idle (length (pool_part s p).queue) pool.within_queue }

pub queues_have_threads : QueuesHaveThreads
queues_have_threads plan s well_formed reached p inside = have_threads plan s well_formed reached p inside

-- an actor at a get has the job for which the get waits
pub child_at_get : (plan : Plan) (s : State) (a : Parent) (body : List Action) (i t : ℕ) → HasValidBodies plan → StateInvariant plan s → IsAtAction plan s a body i (Some (action.Get t)) → HasChild s.jobs a t (submitted_class body t)
child_at_get plan s a body i t ordered kept at =
    let valid : IsValidBody plan body = valid_point plan s a body i ordered at.stands in
    (kept.actors a body i at.stands).ready i t (omega arith) (valid.behind i t at.is_there) at.is_there

pub children_at_gets : GetsHaveChildren
children_at_gets plan s well_formed reached a body i t stands is_there =
    let child = child_at_get plan s a body i t (ordered plan well_formed) (kept plan s well_formed reached) (record { stands = stands; is_there = is_there }) in
    record { number = child.number; is_child = child.is_child; of_class = child.of_class; unclaimed = child.unclaimed; later = child.later }

pub sets_tested : WaitingSetsAreTested
sets_tested = waiting_set_test

pub full_sets_stay : FullWaitingSetsStay
full_sets_stay plan s s' events members well_formed reached set replayed =
    (replay_keeps plan (Stayed plan members s) (λ s₁ e s₂ o stayed happened. stays_through plan members s s₁ s₂ o (ordered plan well_formed) stayed happened) events s s'
    (record { is_kept = kept plan s well_formed reached; has_stayed = record { still = set; unmoved = λ j member. refl; as_many_threads = λ p j member queued. refl } }) replayed).has_stayed

pub fixed_pools_full : FixedPoolsAreFull
fixed_pools_full plan s members well_formed reached waiting fixed = fixed_are_full plan s members (ordered plan well_formed) (kept plan s well_formed reached) (have_threads plan s well_formed reached) waiting fixed

-- the bound on threads and queued jobs holds in every reachable state; the proof needs the invariant too
have_jobs : (plan : Plan) (s : State) → IsWellFormed plan → IsReached plan s → HaveJobs plan (λ p. ⊤) s
have_jobs plan s well_formed reached =
    let both = reached_keeps plan (λ s₁. StateInvariant plan s₁ × HaveJobs plan (λ p. ⊤) s₁) (kept_start plan (ordered plan well_formed), have_jobs_start plan (λ p. ⊤))
    (λ s₁ e s₂ o held happened. (kept_step plan s₁ s₂ o (ordered plan well_formed) held.0 happened, have_jobs_step plan (λ p. ⊤) s₁ s₂ o held.0 held.1 happened)) s reached in
    both.1

pub threads_have_made : ThreadsHaveJobs
threads_have_made plan s well_formed reached p inside = have_jobs plan s well_formed reached p inside tt

pub refusals_need_made : RefusalsNeedJobs
refusals_need_made plan p s s' event well_formed reached refused =
    let full = refused_when plan s s' p (ordered plan well_formed) (happens plan s event s' (Refused p) refused) in
    let have = have_jobs plan s well_formed reached p full.0 tt in
    omega (arith, full.1, full.2)
