-- Laws about the rejections that a plan allows.
use Rattle.std.specs.Prelude.{◌≡◌, ◌≢◌, ℕ, true, false, List, Contains, Some}
use Rattle.job_bodies.specs.Plan.{Plan, pool_at}
use Rattle.recordings.specs.RecordingLine.{RecordedLine}
use Rattle.conformance.specs.Conforms.{invalidates, HasNoInvalidation}
use Rattle.conformance.specs.RejectingPools.{with_rejecting_pools}
use Rattle.conformance.specs.RejectionRule.{has_rejecting_pool, pool_of_rejection}

-- The pool of an allowed rejection may reject jobs.
abbrev pub RejectionsNeedTheKey : Type 0
RejectionsNeedTheKey = (plan : Plan) (lines before : List RecordedLine) (line : RecordedLine) (pool : ℕ) → pool_of_rejection plan lines before line ≡ Some pool → (pool_at plan pool).may_reject ≡ true

-- The pool of an allowed rejection has a bounded queue.
abbrev pub UnboundedPoolsRejectNothing : Type 0
UnboundedPoolsRejectNothing = (plan : Plan) (lines before : List RecordedLine) (line : RecordedLine) (pool : ℕ) → pool_of_rejection plan lines before line ≡ Some pool → (pool_at plan pool).unbounded ≡ false

-- The recording does not give the key `may_reject` to a pool with an unbounded queue, unless its `queue` is 0. (A plan's text
-- gives such a pool a `queue` of 1,000,000.)
abbrev pub UnboundedPoolsGetNoKey : Type 0
UnboundedPoolsGetNoKey = (plan : Plan) (lines : List RecordedLine) (pool : ℕ) → (pool_at plan pool).unbounded ≡ true → (pool_at plan pool).queue ≢ 0 → (pool_at (with_rejecting_pools plan lines) pool).may_reject ≡ false

-- If no pool of the plan may reject jobs, and `HasNoInvalidation` holds, no line of the recording invalidates a SAFE answer.
abbrev pub WithoutTheKeyAllCount : Type 0
WithoutTheKeyAllCount = (plan : Plan) (lines : List RecordedLine) → has_rejecting_pool plan ≡ false → HasNoInvalidation plan lines → (line : RecordedLine) → Contains lines line → invalidates line ≡ false
