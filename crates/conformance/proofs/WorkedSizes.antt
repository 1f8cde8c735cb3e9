-- Examples of differences between a recorded pool and a plan's pool, computed from the definitions.
use Rattle.std.proofs.Common.{◌≡◌, ℕ, Bool, true, false, [], ◌∷◌, refl}
use Rattle.job_bodies.specs.Plan.{Pool}
use Rattle.recordings.specs.declared.pool_sizes.HandlerKind.TheVariants.{Abort}
use Rattle.recordings.specs.declared.pool_sizes.PoolSizes.{PoolSizes}
use Rattle.recordings.specs.declared.pool_sizes.QueueKind.{QueueKind}
use Rattle.recordings.specs.declared.pool_sizes.QueueKind.TheVariants.{Array, Linked, Other}
use Rattle.conformance.specs.declared.difference.Difference.TheVariants.{Max, BoundedMax, KindOfQueue, Capacity, BoundedQueue, CoreTimeout, NoCoreTimeout}
use Rattle.conformance.specs.Sizes.{differences}

-- A recorded pool with a core of 2.
abbrev recorded : ℕ → QueueKind → ℕ → PoolSizes
recorded max queue capacity = record { core = 2; max = max; queue = queue; capacity = capacity; timeout = false; prestarted = 0; handler = Abort }

-- The same pool, whose core threads may time out.
abbrev with_timeout : ℕ → QueueKind → ℕ → PoolSizes
with_timeout max queue capacity = record (recorded max queue capacity) { timeout = true }

-- A pool of a plan with a core of 2 and a queue of 1,000,000, which has no effect if the queue is unbounded.
abbrev planned : ℕ → Bool → Pool
planned max unbounded = record { name = 113 ∷ []; core = 2; max = max; queue = 1000000; prestart = false; may_reject = false; unbounded = unbounded; core_timeout = false }

-- The same pool, whose core threads may time out.
abbrev with_core_timeout : ℕ → Bool → Pool
with_core_timeout max unbounded = record (planned max unbounded) { core_timeout = true }

pub unbounded : differences true (recorded 2 Linked 1000000000) (planned 2 true) ≡ []
unbounded = refl

-- The maximum has no effect over an unbounded queue.
pub any_max : differences true (recorded 1000000000 Linked 1000000000) (planned 2 true) ≡ []
any_max = refl

pub bounded_in_the_recording : differences true (recorded 2 Linked 50) (planned 2 true) ≡ BoundedQueue 50 ∷ []
bounded_in_the_recording = refl

-- A recorded queue of 1,000,000, the largest bounded queue of a plan, is not unbounded.
pub largest_in_the_recording : differences true (recorded 2 Linked 1000000) (planned 2 true) ≡ BoundedQueue 1000000 ∷ []
largest_in_the_recording = refl

pub another_kind : differences true (recorded 2 Array 1000000000) (planned 2 true) ≡ KindOfQueue Array ∷ []
another_kind = refl

pub another_kind_and_capacity : differences true (recorded 2 Other 50) (planned 2 true) ≡ KindOfQueue Other ∷ BoundedQueue 50 ∷ []
another_kind_and_capacity = refl

pub bounded_in_the_plan : differences true (recorded 1000000000 Linked 1000000000) (planned 2 false) ≡ Max 1000000000 2 ∷ Capacity 1000000000 1000000 ∷ []
bounded_in_the_plan = refl

-- ---- core threads that may time out
pub timeout_in_both : differences true (with_timeout 8 Array 1000000) (with_core_timeout 8 false) ≡ []
timeout_in_both = refl

pub timeout_in_the_recording : differences true (with_timeout 8 Array 1000000) (planned 8 false) ≡ CoreTimeout ∷ []
timeout_in_the_recording = refl

pub timeout_in_the_plan : differences true (recorded 8 Array 1000000) (with_core_timeout 8 false) ≡ NoCoreTimeout ∷ []
timeout_in_the_plan = refl

-- The maximum has an effect over an unbounded queue if core threads may time out.
pub same_max : differences true (with_timeout 8 Linked 1000000000) (with_core_timeout 8 true) ≡ []
same_max = refl

pub another_max : differences true (with_timeout 8 Linked 1000000000) (with_core_timeout 9 true) ≡ Max 8 9 ∷ []
another_max = refl

-- A recorded maximum above 1,000,000 is that of a plan that gives no maximum.
pub no_max : differences true (with_timeout 1000000000 Linked 1000000000) (with_core_timeout 268435455 true) ≡ []
no_max = refl

pub large_max : differences true (with_timeout 1000001 Linked 1000000000) (with_core_timeout 268435455 true) ≡ []
large_max = refl

pub largest_size : differences true (with_timeout 1000000 Linked 1000000000) (with_core_timeout 268435455 true) ≡ BoundedMax 1000000 ∷ []
largest_size = refl

pub no_max_in_the_recording : differences true (with_timeout 1000000000 Linked 1000000000) (with_core_timeout 1000000 true) ≡ Max 1000000000 1000000 ∷ []
no_max_in_the_recording = refl

-- The plan decides whether the maximum is compared.
pub any_max_without_timeout : differences true (with_timeout 8 Linked 1000000000) (planned 2 true) ≡ CoreTimeout ∷ []
any_max_without_timeout = refl

pub another_max_and_no_timeout : differences true (recorded 8 Linked 1000000000) (with_core_timeout 9 true) ≡ Max 8 9 ∷ NoCoreTimeout ∷ []
another_max_and_no_timeout = refl
