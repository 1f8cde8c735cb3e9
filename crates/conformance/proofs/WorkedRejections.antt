-- Examples of refusals, computed from the definitions: rejections that the plan allows, and others.
use Rattle.std.proofs.Common.{◌≡◌, ℕ, Bool, true, false, List, [], ◌∷◌, map, refl}
use Rattle.job_bodies.specs.declared.action.Action.{Action}
use Rattle.job_bodies.specs.declared.action.Action.TheVariants.{Submit, Get}
use Rattle.job_bodies.specs.Plan as plans
use Rattle.job_bodies.specs.Plan.{Plan}
use Rattle.recordings.specs.declared.pool_sizes.HandlerKind.{HandlerKind}
use Rattle.recordings.specs.declared.pool_sizes.HandlerKind.TheVariants.{Abort, CallerRuns, Discard, DiscardOldest, Other}
use Rattle.recordings.specs.declared.pool_sizes.QueueKind.TheVariants.{Array}
use Rattle.recordings.specs.declared.recording_line.RecordedActor.TheVariants.{Job, Round}
use Rattle.recordings.specs.Before.{has_started}
use Rattle.recordings.specs.RecordingLine.{RecordedLine, Head, Pool, RoundBegins, Submits, Refused, JobStarts, JobEnds, ShutDown}
use Rattle.conformance.specs.RejectionRule.{is_got, has_handler, is_shut, has_acted, submit_pool, rule_for, pools_in}

-- One pool q, one class b of that pool, and one client c with this body.
abbrev plan_of : Bool → List Action → Plan
plan_of may_reject body = record {
  pools = record { name = 113 ∷ []; core = 1; max = 1; queue = 1; prestart = false; may_reject = may_reject; unbounded = false; core_timeout = false } ∷ [];
  classes = record { name = 98 ∷ []; pool = 0; body = [] } ∷ [];
  clients = record { name = 99 ∷ []; count = 1; repeat = true; body = body } ∷ [];
}

-- The same plan with unbounded queues.
abbrev without_bounds : Plan → Plan
without_bounds plan = record plan { pools = map (λ (pool : plans.Pool). record pool { unbounded = true }) plan.pools }

abbrev pool_line : HandlerKind → RecordedLine
pool_line handler = Pool (113 ∷ []) (record { core = 1; max = 1; queue = Array; capacity = 1; timeout = false; prestarted = 0; handler = handler })

-- Round 0 submits job 0, which is refused.
abbrev refusal : HandlerKind → List RecordedLine → List RecordedLine
refusal handler more = Head ∷ pool_line handler ∷ RoundBegins 0 (99 ∷ []) ∷ Submits (Round 0) 0 (98 ∷ []) (113 ∷ []) ∷ Refused (Round 0) 0 ∷ more

-- The pools of the allowed rejections.
abbrev rejected : Plan → List RecordedLine → List ℕ
rejected plan lines = pools_in plan lines lines

abbrev submits : List Action
submits = Submit 0 ∷ []

abbrev submits_and_gets : List Action
submits_and_gets = Submit 0 ∷ Get 0 ∷ []

pub aborts : rejected (plan_of true submits_and_gets) (refusal Abort []) ≡ 0 ∷ []
unfolding is_got has_handler is_shut has_acted submit_pool rule_for pools_in has_started
aborts = refl

pub without_the_key : rejected (plan_of false submits_and_gets) (refusal Abort []) ≡ []
unfolding is_got has_handler is_shut has_acted submit_pool rule_for pools_in has_started
without_the_key = refl

-- An unbounded queue is never full.
pub unbounded : rejected (without_bounds (plan_of true submits_and_gets)) (refusal Abort []) ≡ []
unfolding is_got has_handler is_shut has_acted submit_pool rule_for pools_in has_started
unbounded = refl

pub another_handler : rejected (plan_of true submits) (refusal Other []) ≡ []
unfolding is_got has_handler is_shut has_acted submit_pool rule_for pools_in has_started
another_handler = refl

-- The handler changes later, so it may have changed before the refusal.
pub a_change : rejected (plan_of true submits) (refusal Abort (pool_line CallerRuns ∷ [])) ≡ []
unfolding is_got has_handler is_shut has_acted submit_pool rule_for pools_in has_started
a_change = refl

pub caller_runs : rejected (plan_of true submits_and_gets) (refusal CallerRuns (JobStarts 0 ∷ JobEnds 0 ∷ ShutDown (113 ∷ []) ∷ [])) ≡ 0 ∷ []
unfolding is_got has_handler is_shut has_acted submit_pool rule_for pools_in has_started
caller_runs = refl

-- The recording is cut off before the caller runs the job.
pub caller_runs-later : rejected (plan_of true submits_and_gets) (refusal CallerRuns []) ≡ 0 ∷ []
unfolding is_got has_handler is_shut has_acted submit_pool rule_for pools_in has_started
caller_runs-later = refl

-- The job submits a job.
pub caller_runs-more : rejected (plan_of true submits_and_gets) (refusal CallerRuns (JobStarts 0 ∷ Submits (Job 0) 1 (98 ∷ []) (113 ∷ []) ∷ [])) ≡ []
unfolding is_got has_handler is_shut has_acted submit_pool rule_for pools_in has_started
caller_runs-more = refl

-- The handler may have dropped the job.
pub caller_drops : rejected (plan_of true submits_and_gets) (refusal CallerRuns (ShutDown (113 ∷ []) ∷ [])) ≡ []
unfolding is_got has_handler is_shut has_acted submit_pool rule_for pools_in has_started
caller_drops = refl

pub after_a_shutdown : rejected (plan_of true submits) (Head ∷ pool_line CallerRuns ∷ RoundBegins 0 (99 ∷ []) ∷ ShutDown (113 ∷ []) ∷ Submits (Round 0) 0 (98 ∷ []) (113 ∷ []) ∷ Refused (Round 0) 0 ∷ JobStarts 0 ∷ []) ≡ []
unfolding is_got has_handler is_shut has_acted submit_pool rule_for pools_in has_started
after_a_shutdown = refl

pub discards : rejected (plan_of true submits) (refusal Discard []) ≡ 0 ∷ []
unfolding is_got has_handler is_shut has_acted submit_pool rule_for pools_in has_started
discards = refl

-- The handler accepted this job and dropped another one.
pub discards_oldest : rejected (plan_of true submits) (refusal DiscardOldest (JobStarts 0 ∷ [])) ≡ []
unfolding is_got has_handler is_shut has_acted submit_pool rule_for pools_in has_started
discards_oldest = refl

-- A body of the plan gets the job, which the handler dropped.
pub discards_and_gets : rejected (plan_of true submits_and_gets) (refusal Discard []) ≡ []
unfolding is_got has_handler is_shut has_acted submit_pool rule_for pools_in has_started
discards_and_gets = refl
