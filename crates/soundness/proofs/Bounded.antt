-- The invariants of the reachable states of a plan in which each pool has a bound whose rows hold, or needs none because it may reject jobs
-- or its queue is unbounded.
use Rattle.std.specs.Prelude.{⊤}
use Rattle.std.proofs.Common.{◌≡◌, ℕ, ◌<◌, ◌≤◌, Bool, true, false, ◌||◌, List, length, Option, Some, None, refl, sym, ap₂, ◌∙◌}
use Rattle.std.proofs.lemmas.Bool.{false≢true}
use Rattle.job_bodies.specs.declared.action.Action.{Action}
use Rattle.job_bodies.specs.declared.action.Action.TheVariants as action
use Rattle.job_bodies.specs.Plan.{Pool, Plan, pool_at, needs_no_bound}
use Rattle.job_bodies.proofs.Bodies.{HasValidBodies, ordered}
use Rattle.pool_machine.proofs.QueueLimits.{bounded_within}
use Rattle.pool_machine.specs.declared.event.Event.{Event}
use Rattle.pool_machine.specs.declared.event.Outcome.{Outcome}
use Rattle.pool_machine.specs.declared.parent.Parent.{Parent}
use Rattle.pool_machine.specs.State.{State, pool_of, pool_part, threads}
use Rattle.pool_machine.specs.Reach.{start}
use Rattle.pool_machine.proofs.Events.{IsAtAction, HasNoRoom, Happens, works, starts, queues, is_refused, is_rejected, gets, finishes, loops, takes, retires}
use Rattle.pool_machine.proofs.StateInvariant.{StateInvariant}
use Rattle.pool_machine.proofs.InvariantAtStart.{kept_start}
use Rattle.pool_machine.proofs.InvariantSubmits.{class_exists}
use Rattle.pool_machine.proofs.InvariantStep.{kept_step}
use Rattle.pool_machine.proofs.JobsMade.{HaveJobs, have_jobs_start, have_jobs_step}
use Rattle.pool_machine.proofs.Reached.{reached_keeps}
use Rattle.weights.specs.declared.bound.Bound.{Bound}
use Rattle.weights.specs.Bound.{bound_vector, bound_get_return}
use Rattle.soundness.proofs.BoundLaws.{BoundLaws, bound_laws, bound_vector_laws}
use Rattle.soundness.specs.WeightLaws.{RejectedAreLight}
use Rattle.soundness.proofs.NeverRises.{IsBalanced, balanced_start, never_rises, balanced_step}
use Rattle.soundness.proofs.NoRefusal.{not_refused}
use Rattle.soundness.proofs.ThreadChanges.{IsLasting}
use Rattle.soundness.proofs.JavaEvents.{with_spare_thread}
use Rattle.soundness.proofs.SpareThreads.{kept_spares, have_jobs_spares}
use Rattle.soundness.specs.Headline.{HasBound, KeepsSizes, BoundedPlansRefuseNothing}

-- the vector of the bound is balanced, if there is a bound
abbrev pub IsBoundBalanced : Plan → Option Bound → State → Type 0
IsBoundBalanced plan None s = ⊤
IsBoundBalanced plan (Some bound) s = IsBalanced (bound_get_return bound) plan (bound_vector bound) s

-- the invariants of a plan with these bounds: the state satisfies the invariants of reachable states, the vector of each bound is
-- balanced, and no submit was refused
pub record Bounded (plan : Plan) (bounds : ℕ → Option Bound) (s : State) : Type 0 where
  pub kept : StateInvariant plan s
  pub have_jobs : HaveJobs plan (IsLasting plan) s
  pub balanced : (p : ℕ) → p < length plan.pools → IsBoundBalanced plan (bounds p) s
  pub none_refused : s.refusals ≡ 0

-- the inequalities of the bound of pool p hold, and a rejected job does not increase the weight of a state; if there is no bound, pool p
-- needs none
abbrev pub BoundHolds : Plan → ℕ → Option Bound → Type 0
BoundHolds plan p None = needs_no_bound (pool_at plan p) ≡ true
BoundHolds plan p (Some bound) = BoundLaws plan p bound × RejectedAreLight plan (bound_vector bound)

abbrev pub BoundsHold : Plan → (ℕ → Option Bound) → Type 0
BoundsHold plan bounds = (p : ℕ) → p < length plan.pools → BoundHolds plan p (bounds p)

-- if the rows of a bound hold, or there is none and pool p needs none, `BoundHolds` holds
pub bound_holds : (plan : Plan) (p : ℕ) (bound : Option Bound) → HasBound plan p bound → BoundHolds plan p bound
bound_holds plan p None has = has
bound_holds plan p (Some bound) has = (bound_laws plan p bound has.0 has.1, has.2)

-- the bound of each pool is balanced in the initial state
bound_balanced_start : (plan : Plan) (bound : Option Bound) → IsBoundBalanced plan bound (start plan)
bound_balanced_start plan None = tt
bound_balanced_start plan (Some bound) = balanced_start (bound_get_return bound) plan (bound_vector bound)

-- each event preserves the balance of the bound of pool p
bound_balanced_step : (plan : Plan) (p : ℕ) (bound : Option Bound) (s s' : State) (o : Outcome) {e : Event} → HasValidBodies plan → BoundHolds plan p bound → StateInvariant plan s → Happens plan s e s' o → IsBoundBalanced plan bound s → IsBoundBalanced plan bound s'
bound_balanced_step plan p None s s' o ordered holds kept happened balanced = tt
bound_balanced_step plan p (Some bound) s s' o ordered holds kept happened balanced =
    balanced_step (bound_get_return bound) plan (bound_vector bound) s s' (never_rises (bound_get_return bound) plan (bound_vector bound) s s' o ordered (bound_vector_laws plan p bound holds.0) holds.1 kept happened) balanced

-- a pool that must not reject jobs, and whose queue is bounded, needs a bound
pub needs_a_bound : (pool : Pool) → pool.may_reject ≡ false → pool.unbounded ≡ false → needs_no_bound pool ≡ true → ⊥
needs_a_bound pool must bounded none = false≢true (sym (ap₂ (λ (a b : Bool). a || b) must bounded) ∙ none)

-- no submit to a pool that must not reject jobs finds a bounded queue without room while the pool has max threads
must_not_refuse : (plan : Plan) (bound : Option Bound) (s : State) (a : Parent) (body : List Action) (i k : ℕ) → HasValidBodies plan → BoundHolds plan (pool_of plan k) bound → StateInvariant plan s → HaveJobs plan (IsLasting plan) s → IsBoundBalanced plan bound s
    → IsAtAction plan s a body i (Some (action.Submit k)) → (pool_at plan (pool_of plan k)).may_reject ≡ false
    → HasNoRoom plan s (pool_of plan k) → (pool_at plan (pool_of plan k)).max ≤ threads plan s (pool_of plan k) → ⊥
must_not_refuse plan None s a body i k ordered holds kept have balanced at must no_room all_started = needs_a_bound (pool_at plan (pool_of plan k)) must no_room.0 holds
must_not_refuse plan (Some bound) s a body i k ordered holds kept have balanced at must no_room all_started = not_refused plan bound s a body i k ordered holds.0 kept have balanced at no_room all_started

-- the initial state satisfies the invariants
pub bounded_start : (plan : Plan) (bounds : ℕ → Option Bound) → HasValidBodies plan → Bounded plan bounds (start plan)
bounded_start plan bounds ordered = record {
  kept = kept_start plan ordered;
  have_jobs = have_jobs_start plan (IsLasting plan);
  balanced = λ p inside. bound_balanced_start plan (bounds p);
  none_refused = refl;
}

-- no event refuses a submit if the invariants hold before the event
refuses_nothing : (plan : Plan) (bounds : ℕ → Option Bound) (s s' : State) (o : Outcome) {e : Event} → HasValidBodies plan → BoundsHold plan bounds → Bounded plan bounds s → Happens plan s e s' o → s'.refusals ≡ 0
refuses_nothing plan bounds s s' o ordered laws bounded (works a body i u at) = bounded.none_refused
refuses_nothing plan bounds s s' o ordered laws bounded (starts a body i k at below) = bounded.none_refused
refuses_nothing plan bounds s s' o ordered laws bounded (queues a body i k at room) = bounded.none_refused
refuses_nothing plan bounds s s' o ordered laws bounded (is_refused a body i k at must no_room all_started) =
    let p = pool_of plan k in
    let inside = ordered.pools k (class_exists plan s a body i k ordered at) in
    absurd (must_not_refuse plan (bounds p) s a body i k ordered (laws p inside) bounded.kept bounded.have_jobs (bounded.balanced p inside) at must no_room all_started)
refuses_nothing plan bounds s s' o ordered laws bounded (is_rejected a body i k at may) = bounded.none_refused
refuses_nothing plan bounds s s' o ordered laws bounded (gets a body i t j at is_child done) = bounded.none_refused
refuses_nothing plan bounds s s' o ordered laws bounded (finishes j body i at) = bounded.none_refused
refuses_nothing plan bounds s s' o ordered laws bounded (loops c client body i at is_client repeats) = bounded.none_refused
refuses_nothing plan bounds s s' o ordered laws bounded (takes p j queue idle is_queue is_idle) = bounded.none_refused
refuses_nothing plan bounds s s' o ordered laws bounded (retires p idle is_idle not_handed) = bounded.none_refused

-- each event preserves the invariants
pub bounded_step : (plan : Plan) (bounds : ℕ → Option Bound) (s s' : State) (o : Outcome) {e : Event} → HasValidBodies plan → BoundsHold plan bounds → Bounded plan bounds s → Happens plan s e s' o → Bounded plan bounds s'
bounded_step plan bounds s s' o ordered laws bounded happened = record {
  kept = kept_step plan s s' o ordered bounded.kept happened;
  have_jobs = have_jobs_step plan (IsLasting plan) s s' o bounded.kept bounded.have_jobs happened;
  balanced = λ p inside. bound_balanced_step plan p (bounds p) s s' o ordered (laws p inside) bounded.kept happened (bounded.balanced p inside);
  none_refused = refuses_nothing plan bounds s s' o ordered laws bounded happened;
}

-- the balance of the bound does not depend on idle workers
bound_balanced_spares : (plan : Plan) (bound : Option Bound) (s : State) (p : ℕ) → IsBoundBalanced plan bound s → IsBoundBalanced plan bound (with_spare_thread p s)
bound_balanced_spares plan None s p balanced = tt
bound_balanced_spares plan (Some bound) s p balanced = balanced

-- a thread that starts without a job, in a pool whose core threads may time out, preserves the invariants
pub bounded_spares : (plan : Plan) (bounds : ℕ → Option Bound) (s : State) (p : ℕ) → Bounded plan bounds s → (pool_at plan p).core_timeout ≡ true → threads plan s p < (pool_at plan p).max → Bounded plan bounds (with_spare_thread p s)
bounded_spares plan bounds s p bounded timeout below = record {
  kept = kept_spares plan s p bounded.kept below;
  have_jobs = have_jobs_spares plan s p bounded.kept timeout bounded.have_jobs;
  balanced = λ q inside. bound_balanced_spares plan (bounds q) s p (bounded.balanced q inside);
  none_refused = bounded.none_refused;
}

-- if the invariants hold, no submit was refused, and each pool is within its maximum and its queue's capacity
pub keeps_sizes : (plan : Plan) (bounds : ℕ → Option Bound) (s : State) → Bounded plan bounds s → KeepsSizes plan s
keeps_sizes plan bounds s bounded = record {
  none_refused = bounded.none_refused;
  within_max = λ p inside. (bounded.kept.pools p inside).within_max;
  within_queue = λ p inside. bounded_within (pool_at plan p).unbounded (pool_at plan p).queue (pool_part s p).idle (length (pool_part s p).queue) (bounded.kept.pools p inside).within_queue;
}

-- the law that a plan in which each pool has a bound, or needs none, refuses nothing
pub bounded_plans_refuse_nothing : BoundedPlansRefuseNothing
bounded_plans_refuse_nothing plan bounds well_formed hold events s reached =
    let is_ordered = ordered plan well_formed in
    let laws : BoundsHold plan bounds = λ p inside. bound_holds plan p (bounds p) (hold p inside) in
    keeps_sizes plan bounds s (reached_keeps plan (Bounded plan bounds) (bounded_start plan bounds is_ordered) (λ s₁ e s₂ o held happened. bounded_step plan bounds s₁ s₂ o is_ordered laws held happened) s (events, reached))
