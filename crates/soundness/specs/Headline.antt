-- The guarantees of an accepted certificate for every reachable state of its plan.
use Rattle.std.specs.Prelude.{◌≡◌, ◌≤◌, ◌<◌, ℕ, List, length, IsTrue, IsFalse, Option, Some, None}
use Rattle.job_bodies.specs.Plan.{Plan, pool_at, needs_no_bound}
use Rattle.job_bodies.specs.WellFormed.{IsWellFormed}
use Rattle.pool_machine.specs.PoolState.{queue_limit}
use Rattle.pool_machine.specs.declared.event.Event.{Event}
use Rattle.pool_machine.specs.declared.event.Outcome.TheVariants.{Rejected}
use Rattle.pool_machine.specs.declared.parent.Parent.{Parent}
use Rattle.pool_machine.specs.State.{State, pool_of, pool_part, threads}
use Rattle.pool_machine.specs.Step.{step}
use Rattle.pool_machine.specs.Reach.{Reaches}
use Rattle.pool_machine.specs.Safe.{Safe, MakesProgress}
use Rattle.soundness.specs.Drain.{Drains}
use Rattle.soundness.specs.Execute.{JavaState, JavaEvent, Submission, submission, is_calling}
use Rattle.soundness.specs.JavaSafe.{JavaReaches, JavaSafe, JavaMakesProgress, JavaDrains}
use Rattle.soundness.specs.Skipping.{Choice, ChoicesReach, SkippingIsSafe, SkippingMakesProgress, SkippingDrains}
use Rattle.weights.specs.declared.bound.Bound.{Bound}
use Rattle.weights.specs.declared.bound.Bound.TheVariants.{Standing}
use Rattle.weights.specs.Row.{AllHold}
use Rattle.weights.specs.Vector.{Vector, vector_fits}
use Rattle.weights.specs.Bound.{bound_vector, bound_rows}
use Rattle.cert_text.specs.Cert.{Cert, pool_cert_at}
use Rattle.soundness.specs.Accepted.{accepted}
use Rattle.soundness.specs.WeightLaws.{RejectedAreLight}

-- the bound of pool p in the certificate
abbrev pub bound_of : Cert → ℕ → Option Bound
bound_of cert p = (pool_cert_at cert p).bound

-- in every reachable state of the plan, a pool that rejects a job has no bound
abbrev pub BoundedPoolsNeverReject : Plan → (ℕ → Option Bound) → Type 0
BoundedPoolsNeverReject plan bounds = (events : List Event) (s s' : State) (event : Event) (p j : ℕ) → Reaches plan events s → step plan s event ≡ Some (s', Rejected p j) → bounds p ≡ None

-- a pool that declines a job has no bound, in every state that a list of choices (`Choice`) reaches. A pool declines a job if
-- an actor's call requests a thread of it while it has its maximum of threads. The job is then refused or rejected.
abbrev pub BoundedPoolsNeverDecline : Plan → (ℕ → Option Bound) → Type 0
BoundedPoolsNeverDecline plan bounds = (choices : List Choice) (s : JavaState) (event : Event) (x : Submission) → ChoicesReach plan choices s → submission plan s.machine event ≡ Some x
    → IsTrue (is_calling s.requesting x.actor (pool_of plan x.class)) → (pool_at plan (pool_of plan x.class)).max ≤ threads plan s.machine (pool_of plan x.class) → bounds (pool_of plan x.class) ≡ None

-- The guarantees of an accepted certificate for its plan. The first three fields are for submits of one event each. Every
-- reachable state is safe. In every reachable state with an unfinished job, an event of a job or a take is possible. The plan
-- drains: if no client acts, the number of job events and takes that can follow is bounded, and when none of them is possible,
-- no job is unfinished. The `java` fields are for submits in the steps of Java's `execute`. In these steps, Java also looks at
-- pools whose core threads may time out. A look is like a take, but is not counted. The `skipping` fields are for these steps
-- if actors also skip submits together with their gets and exchange alike jobs. The last two fields say that a pool with a
-- bound in the certificate rejects no job, even if it may reject jobs. The first of them is for submits of one event each, and
-- the second for the steps of the `skipping` fields.
pub record Promises (plan : Plan) (cert : Cert) : Type 0 where
  pub safe : Safe plan
  pub makes_progress : MakesProgress plan
  pub drains : Drains plan cert.ranks
  pub java_safe : JavaSafe plan
  pub java_makes_progress : JavaMakesProgress plan
  pub java_drains : JavaDrains plan cert.ranks
  pub skipping_is_safe : SkippingIsSafe plan
  pub skipping_makes_progress : SkippingMakesProgress plan
  pub skipping_drains : SkippingDrains plan cert.ranks
  pub bounded_pools_never_reject : BoundedPoolsNeverReject plan (bound_of cert)
  pub bounded_pools_never_decline : BoundedPoolsNeverDecline plan (bound_of cert)

-- if a certificate accepts a well-formed plan, every reachable state is safe
abbrev pub AcceptedPlansAreSafe : Type 0
AcceptedPlansAreSafe = (plan : Plan) (cert : Cert) → IsWellFormed plan → IsTrue (accepted plan cert) → Safe plan

-- if a certificate accepts a well-formed plan, an event of a job or a take is possible in every reachable state with an
-- unfinished job
abbrev pub AcceptedPlansMakeProgress : Type 0
AcceptedPlansMakeProgress = (plan : Plan) (cert : Cert) → IsWellFormed plan → IsTrue (accepted plan cert) → MakesProgress plan

-- Let a certificate accept a well-formed plan, and let no client act after a reachable state. Then the number of job events and
-- takes that can follow is bounded. When none of them is possible, no job is unfinished.
abbrev pub AcceptedPlansDrain : Type 0
AcceptedPlansDrain = (plan : Plan) (cert : Cert) → IsWellFormed plan → IsTrue (accepted plan cert) → Drains plan cert.ranks

-- the bound of pool p is valid. If there is a bound (a standing or a lifetime vector), its rows hold, and rejected jobs are
-- light under it (`RejectedAreLight`). If there is none, p needs none, because it may reject jobs or its queue is unbounded.
abbrev pub HasBound : Plan → ℕ → Option Bound → Type 0
HasBound plan p None = IsTrue (needs_no_bound (pool_at plan p))
HasBound plan p (Some bound) = IsTrue (vector_fits plan (bound_vector bound)) × AllHold (bound_rows plan p bound) × RejectedAreLight plan (bound_vector bound)

-- in the state, no submit was refused, no pool has more threads than its maximum, and no bounded queue has more jobs than its
-- capacity. If the capacity is 0, the queue has at most as many jobs as its pool has idle workers.
pub record KeepsSizes (plan : Plan) (s : State) : Type 0 where
  pub none_refused : s.refusals ≡ 0
  pub within_max : (p : ℕ) → p < length plan.pools → threads plan s p ≤ (pool_at plan p).max
  pub within_queue : (p : ℕ) → p < length plan.pools → IsFalse (pool_at plan p).unbounded → length (pool_part s p).queue ≤ queue_limit (pool_at plan p).queue (pool_part s p).idle

-- in every reachable state of the plan, no submit was refused, and no pool exceeds its sizes (`KeepsSizes`)
abbrev pub RefusesNothing : Plan → Type 0
RefusesNothing plan = (events : List Event) (s : State) → Reaches plan events s → KeepsSizes plan s

-- if `HasBound` holds for each pool of a well-formed plan, no submit is refused in any reachable state, whatever the jobs wait
-- for
abbrev pub BoundedPlansRefuseNothing : Type 0
BoundedPlansRefuseNothing = (plan : Plan) (bounds : ℕ → Option Bound) → IsWellFormed plan → ((p : ℕ) → p < length plan.pools → HasBound plan p (bounds p)) → RefusesNothing plan

-- ---- submits in the steps of Java's execute

-- if a certificate accepts a well-formed plan, every state that is reachable in Java's steps is safe
abbrev pub AcceptedPlansAreJavaSafe : Type 0
AcceptedPlansAreJavaSafe = (plan : Plan) (cert : Cert) → IsWellFormed plan → IsTrue (accepted plan cert) → JavaSafe plan

-- Let a certificate accept a well-formed plan, and let a state with an unfinished job be reachable in Java's steps. Then an
-- event of a job, a take or a look at a pool is possible in this state.
abbrev pub AcceptedPlansMakeJavaProgress : Type 0
AcceptedPlansMakeJavaProgress = (plan : Plan) (cert : Cert) → IsWellFormed plan → IsTrue (accepted plan cert) → JavaMakesProgress plan

-- Let a certificate accept a well-formed plan, and let no client act after a state that is reachable in Java's steps. Then the
-- number of job events and takes that can follow is bounded. When no job event, no take and no look at a pool is possible, no
-- job is unfinished.
abbrev pub AcceptedPlansJavaDrain : Type 0
AcceptedPlansJavaDrain = (plan : Plan) (cert : Cert) → IsWellFormed plan → IsTrue (accepted plan cert) → JavaDrains plan cert.ranks

-- in every state that is reachable in Java's steps, no submit was refused, and no pool exceeds its sizes (`KeepsSizes`)
abbrev pub JavaRefusesNothing : Plan → Type 0
JavaRefusesNothing plan = (events : List JavaEvent) (s : JavaState) → JavaReaches plan events s → KeepsSizes plan s.machine

-- if `HasBound` holds for each pool of a well-formed plan, no submit is refused in any state that is reachable in Java's steps
abbrev pub BoundedPlansJavaRefuseNothing : Type 0
BoundedPlansJavaRefuseNothing = (plan : Plan) (bounds : ℕ → Option Bound) → IsWellFormed plan → ((p : ℕ) → p < length plan.pools → HasBound plan p (bounds p)) → JavaRefusesNothing plan

-- Let `HasBound` hold for each pool of a well-formed plan, and let the bound of pool p be a standing vector. Then no call ever
-- finds the queue of p full, so no call requests a thread above core from p.
abbrev pub StandingPoolsAreNotAsked : Type 0
StandingPoolsAreNotAsked = (plan : Plan) (bounds : ℕ → Option Bound) (p : ℕ) (v : Vector) (events : List JavaEvent) (s : JavaState) (a : Parent) → IsWellFormed plan
    → ((q : ℕ) → q < length plan.pools → HasBound plan q (bounds q))
    → p < length plan.pools → bounds p ≡ Some (Standing v) → JavaReaches plan events s → IsFalse (is_calling s.requesting a p)

-- ---- actors that skip submits together with their gets and exchange alike jobs

-- if a certificate accepts a well-formed plan, every state that a list of choices (`Choice`) reaches is safe
abbrev pub AcceptedPlansMaySkip : Type 0
AcceptedPlansMaySkip = (plan : Plan) (cert : Cert) → IsWellFormed plan → IsTrue (accepted plan cert) → SkippingIsSafe plan

-- Let a certificate accept a well-formed plan, and let a list of choices (`Choice`) reach a state with an unfinished job. Then
-- an event of a job, a take or a look at a pool is possible in this state.
abbrev pub AcceptedPlansMakeProgressWithSkips : Type 0
AcceptedPlansMakeProgressWithSkips = (plan : Plan) (cert : Cert) → IsWellFormed plan → IsTrue (accepted plan cert) → SkippingMakesProgress plan

-- Let a certificate accept a well-formed plan, and let no client act after a state that a list of choices (`Choice`) reaches.
-- Then the number of job events, takes, skips by jobs and missed offers by jobs that can follow is bounded. When no job event,
-- no take and no look at a pool is possible, no job is unfinished.
abbrev pub AcceptedPlansDrainWithSkips : Type 0
AcceptedPlansDrainWithSkips = (plan : Plan) (cert : Cert) → IsWellFormed plan → IsTrue (accepted plan cert) → SkippingDrains plan cert.ranks

-- ---- pools that may reject jobs and have a bound

-- if a certificate accepts a well-formed plan, a pool with a bound rejects no job in any reachable state
abbrev pub AcceptedBoundsNeverReject : Type 0
AcceptedBoundsNeverReject = (plan : Plan) (cert : Cert) → IsWellFormed plan → IsTrue (accepted plan cert) → BoundedPoolsNeverReject plan (bound_of cert)

-- if a certificate accepts a well-formed plan, a pool with a bound refuses and rejects no job in any state that a list of
-- choices (`Choice`) reaches
abbrev pub AcceptedBoundsNeverDecline : Type 0
AcceptedBoundsNeverDecline = (plan : Plan) (cert : Cert) → IsWellFormed plan → IsTrue (accepted plan cert) → BoundedPoolsNeverDecline plan (bound_of cert)
