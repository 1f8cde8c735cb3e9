-- The laws of weights, for every reachable state.
use Rattle.std.proofs.Common.{◌≡◌, length, ap, ◌∙◌, arith}
use Rattle.std.specs.List.{count_by}
use Rattle.support.proofs.PassingPlaces.{length-places}
use Rattle.job_bodies.specs.Plan.{Plan}
use Rattle.job_bodies.specs.WellFormed.{IsWellFormed}
use Rattle.job_bodies.proofs.Bodies.{ordered}
use Rattle.pool_machine.specs.declared.event.Outcome.TheVariants as outcome
use Rattle.pool_machine.specs.State.{State, pool_part, is_queued_in}
use Rattle.pool_machine.specs.Reach.{IsReached}
use Rattle.pool_machine.proofs.Events.{happens}
use Rattle.pool_machine.proofs.StateInvariant.{StateInvariant}
use Rattle.pool_machine.proofs.InvariantAtStart.{kept_start}
use Rattle.pool_machine.proofs.InvariantStep.{kept_step}
use Rattle.pool_machine.proofs.Reached.{reached_keeps, kept}
use Rattle.pool_machine.proofs.ReachedLaws.{threads_have_made}
use Rattle.pool_machine.proofs.JobsMade.{HaveJobs}
use Rattle.weights.specs.declared.get_return.GetReturn.{GetReturn}
use Rattle.weights.specs.declared.get_return.GetReturn.TheVariants.{DoneWeight, NoWeight}
use Rattle.weights.specs.Vector.{Vector}
use Rattle.weights.specs.Bound.{bound_vector, bound_get_return}
use Rattle.soundness.specs.WeightLaws.{RejectedAreLight, SumNeverRises, SumStaysWithinTotal, BoundsRefuseNothing, QueuesStayWithinTotal, JobsStayWithinTotal}
use Rattle.soundness.proofs.VectorLaws.{VectorLaws, vector_laws}
use Rattle.soundness.proofs.BoundLaws.{lifetime_laws, bound_laws, bound_vector_laws}
use Rattle.soundness.proofs.NeverRises.{IsBalanced, balanced_start, never_rises, balanced_step}
use Rattle.soundness.proofs.WithinTotal as within
use Rattle.soundness.proofs.WithinTotal.{actors_weight-le-total}
use Rattle.soundness.proofs.NoRefusal.{queued-le-actors_weight, never_refused, never_declined, jobs-le-total}
use Rattle.soundness.proofs.Rejections.{rejected_when}
use Rattle.soundness.proofs.ThreadChanges.{IsLasting}

-- every reachable state is balanced
pub balanced : (get_return : GetReturn) (plan : Plan) (v : Vector) (s : State) → IsWellFormed plan → VectorLaws get_return plan v → RejectedAreLight plan v → IsReached plan s → IsBalanced get_return plan v s
balanced get_return plan v s well_formed laws light reached =
    let is_ordered = ordered plan well_formed in
    (reached_keeps plan (λ s₁. StateInvariant plan s₁ × IsBalanced get_return plan v s₁) (kept_start plan is_ordered, balanced_start get_return plan v)
    (λ s₁ e s₂ o held happened. (kept_step plan s₁ s₂ o is_ordered held.0 happened, balanced_step get_return plan v s₁ s₂ (never_rises get_return plan v s₁ s₂ o is_ordered laws light held.0 happened) held.1)) s reached).1

-- the law that no event increases the weight of a reachable state
pub sum_never_rises : SumNeverRises
sum_never_rises get_return plan v s s' event outcome well_formed hold light reached is_step =
    within.sum_never_rises get_return plan v s s' outcome (ordered plan well_formed) (vector_laws get_return plan v hold) light (kept plan s well_formed reached) (happens plan s event s' outcome is_step)

-- the law that the weight of a reachable state is at most the total
pub sum_stays_within_total : SumStaysWithinTotal
sum_stays_within_total get_return plan v s well_formed hold light reached =
    within.sum_of-le-total get_return plan v s (ordered plan well_formed) (kept plan s well_formed reached) (balanced get_return plan v s well_formed (vector_laws get_return plan v hold) light reached)

-- the law that a pool with a bound whose rows hold refuses and rejects nothing, if rejected jobs are light
pub bounds_refuse_nothing : BoundsRefuseNothing
bounds_refuse_nothing plan p bound s s' event well_formed fits hold light reached =
    let is_ordered = ordered plan well_formed in
    let laws = bound_laws plan p bound fits hold in
    let invariant = kept plan s well_formed reached in
    let have : HaveJobs plan (IsLasting plan) s = λ q inside lasting. threads_have_made plan s well_formed reached q inside in
    let is_balanced = balanced (bound_get_return bound) plan (bound_vector bound) s well_formed (bound_vector_laws plan p bound laws) light reached in (
      λ refused. never_refused plan bound s s' p is_ordered laws invariant have is_balanced (happens plan s event s' (outcome.Refused p) refused),
      λ j rejected. never_declined plan bound s p is_ordered laws invariant have is_balanced (rejected_when plan s s' event p j rejected),
    )

-- the law that the number of queued jobs of a pool is at most the total of a vector in which each of them weighs at least 1, if rejected
-- jobs are light
pub queues_stay_within_total : QueuesStayWithinTotal
queues_stay_within_total plan p v s well_formed inside hold weighs light reached =
    let is_ordered = ordered plan well_formed in
    let invariant = kept plan s well_formed reached in
    let is_balanced = balanced DoneWeight plan v s well_formed (vector_laws DoneWeight plan v hold) light reached in
    let queued : length (pool_part s p).queue ≡ count_by (is_queued_in plan p) s.jobs = ap length (invariant.pools p inside).queue ∙ length-places (is_queued_in plan p) s.jobs in
    omega (arith, queued-le-actors_weight plan v p s.jobs weighs invariant.classes, actors_weight-le-total DoneWeight plan v s is_ordered invariant is_balanced)

-- the law that the number of jobs submitted to a pool is at most the total of its lifetime vector
pub jobs_stay_within_total : JobsStayWithinTotal
jobs_stay_within_total plan p v s well_formed fits hold bounded light reached =
    let laws = lifetime_laws plan p v fits hold in
    jobs-le-total plan v s p (ordered plan well_formed) laws bounded (kept plan s well_formed reached) (balanced NoWeight plan v s well_formed laws.laws light reached)
