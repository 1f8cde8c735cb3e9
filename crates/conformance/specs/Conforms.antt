-- When a service conforms to its plan, by the lines of a valid recording.
use Rattle.std.specs.Prelude.{◌≡◌, ◌<◌, ◌++◌, ◌∷◌, ℕ, Bool, true, false, not, List, length, Contains, Option, Some, None}
use Rattle.recordings.specs.declared.pool_sizes.PoolSizes.{PoolSizes}
use Rattle.recordings.specs.RecordingLine.{RecordedLine, Pool, Refused, Cancels, InvokesAny, Removed, JobThrew, Unseen}
use Rattle.recordings.specs.Before.{has_pool, is_closed, is_begun}
use Rattle.recordings.specs.LineSteps.{is_submitted}
use Rattle.job_bodies.specs.Plan.{Plan, pool_at}
use Rattle.conformance.specs.Classes.{AreClassesOf, AreKindsOf}
use Rattle.recordings.specs.ForeignGets.{first_foreign_get}
use Rattle.conformance.specs.Rounds.{IsWithinPlan}
use Rattle.conformance.specs.RoundExcesses as rounds
use Rattle.conformance.specs.ComparisonLaws.{IsPlannedPool}
use Rattle.conformance.specs.RejectionRule.{is_allowed_rejection}

-- ---- conforming
-- The job can belong to at least one class of the plan.
pub record IsOfAClass (plan : Plan) (lines : List RecordedLine) (job : ℕ) : Type 0 where
  pub classes : List ℕ
  pub exact : AreClassesOf plan lines job classes
  pub some : 0 < length classes

-- The round can belong to at least one client kind of the plan.
pub record IsOfAKind (plan : Plan) (lines : List RecordedLine) (round : ℕ) : Type 0 where
  pub kinds : List ℕ
  pub exact : AreKindsOf plan lines round kinds
  pub some : 0 < length kinds

-- The kind of the round in the list `kinds` is one that the round can belong to.
pub record HasItsKind (plan : Plan) (lines : List RecordedLine) (kinds : List (Option ℕ)) (round : ℕ) : Type 0 where
  pub kind : ℕ
  pub can_be : List ℕ
  pub exact : AreKindsOf plan lines round can_be
  pub among : Contains can_be kind
  pub is : rounds.kind_of kinds round ≡ Some kind

-- The rounds can be assigned to client kinds. Each round is assigned to a kind that it can belong to, and after each line no
-- kind has more rounds than the plan allows.
pub record AreEnoughClients (plan : Plan) (lines : List RecordedLine) : Type 0 where
  pub kinds : List (Option ℕ)
  pub each : (round : ℕ) → is_begun lines round ≡ true → HasItsKind plan lines kinds round
  pub within : (before after : List RecordedLine) → lines ≡ before ++ after → (kind : ℕ) → kind < length plan.clients → IsWithinPlan (rounds.rounds_of plan kinds before kind)

-- All jobs and rounds behave as planned: each path matches a body, and no client kind has more rounds than the plan allows.
pub record DoAsPlanned (plan : Plan) (lines : List RecordedLine) : Type 0 where
  pub jobs : (job : ℕ) → is_submitted lines job ≡ true → IsOfAClass plan lines job
  pub rounds : (round : ℕ) → is_begun lines round ≡ true → IsOfAKind plan lines round
  pub clients : AreEnoughClients plan lines

-- The service conforms to the plan in these lines. Each `pool` line is as planned. If the recording ends with `end`, each
-- pool of the plan has a line. All jobs and rounds behave as planned, and there is no foreign get.
pub record Conforms (plan : Plan) (lines : List RecordedLine) : Type 0 where
  pub pools : (before after : List RecordedLine) (name : List ℕ) (sizes : PoolSizes) → before ++ Pool name sizes ∷ after ≡ lines → IsPlannedPool plan (not (has_pool before name)) name sizes
  pub recorded : is_closed lines ≡ true → (pool : ℕ) → pool < length plan.pools → has_pool lines (pool_at plan pool).name ≡ true
  pub actors : DoAsPlanned plan lines
  pub gets : first_foreign_get lines ≡ None

-- ---- events that invalidate a SAFE answer, whatever the paths are
-- The line records such an event.
abbrev pub invalidates : RecordedLine → Bool
invalidates (Refused actor job) = true
invalidates (Cancels actor job) = true
invalidates (InvokesAny actor pool) = true
invalidates (Removed job) = true
invalidates (JobThrew job) = true
invalidates (Unseen pool jobs) = true
invalidates line = false

-- Each line that would invalidate a SAFE answer is a rejection that the plan allows. So if no pool of the plan may reject
-- jobs, there is no such line.
abbrev pub HasNoInvalidation : Plan → List RecordedLine → Type 0
HasNoInvalidation plan lines = (before after : List RecordedLine) (line : RecordedLine) → before ++ line ∷ after ≡ lines → invalidates line ≡ true → is_allowed_rejection plan lines before line ≡ true
