-- Replays of small plans with skipped submits and missed offers, computed from the definitions alone.
use Rattle.std.proofs.Common.{◌≡◌, ℕ, List, [], ◌∷◌, ◌++◌, Option, Some, None, true, false, refl}
use Rattle.std.specs.List.{count_by}
use Rattle.std.specs.Option.{option_map}
use Rattle.job_bodies.specs.declared.action.Action.TheVariants.{Work, Submit, Get}
use Rattle.job_bodies.specs.Plan.{Plan, Pool}
use Rattle.pool_machine.specs.declared.event.Event.TheVariants as event
use Rattle.pool_machine.specs.State.{PoolPart, is_at, is_unfinished}
use Rattle.pool_machine.specs.Reach.{start}
use Rattle.pool_machine.specs.Waiting.{is_waiting_set}
use Rattle.soundness.specs.Execute.{JavaState, without_calls}
use Rattle.soundness.specs.Skipping.{Choice, choices_replay}
use Rattle.soundness.specs.Skipping.Choice.{Acts, Skips, Misses}

-- ---- the plan

-- a pool of one thread and a queue of one
abbrev one_thread : Pool
one_thread = record { name = 112 ∷ []; core = 1; max = 1; queue = 1; prestart = false; may_reject = false; unbounded = false; core_timeout = false }

-- an outer job submits an inner job of the same pool and waits for it; a client repeatedly submits outer jobs
abbrev nested : Plan
nested = record {
  pools = one_thread ∷ [];
  classes = record { name = 97 ∷ []; pool = 0; body = Submit 1 ∷ Get 0 ∷ [] } ∷ record { name = 98 ∷ []; pool = 0; body = Work 1 ∷ [] } ∷ [];
  clients = record { name = 99 ∷ []; count = 1; repeat = true; body = Submit 0 ∷ Get 0 ∷ [] } ∷ [];
}

-- the value of a function at the state that the choices reach, or None if they reach none
abbrev after : {X : Type 0} → List Choice → (JavaState → X) → Option X
after choices ask = option_map ask (choices_replay nested (Some (without_calls (start nested))) choices)

-- the numbers of refused submits, of jobs, and of unfinished jobs
abbrev ends : JavaState → ℕ × ℕ × ℕ
ends s = (s.machine.refusals, count_by (λ job. true) s.machine.jobs, count_by (λ job. is_unfinished job.stage) s.machine.jobs)

-- ---- without a skip

-- the inner job waits in the queue for the only thread, whose job waits for the inner job
pub all_is_submitted : after (Acts (event.Client 0) ∷ Acts (event.Job 0) ∷ Acts (event.Job 0) ∷ []) (λ s. is_waiting_set nested s.machine (0 ∷ 1 ∷ [])) ≡ Some true
all_is_submitted = refl

-- ---- with skipped submits

-- the outer job skips the inner job's submit, passes its get and ends; the client gets the outer job and begins again
pub inner_skipped : after (Acts (event.Client 0) ∷ Skips (event.Job 0) ∷ Acts (event.Job 0) ∷ Acts (event.Job 0) ∷ Acts (event.Client 0) ∷ Acts (event.Client 0) ∷ []) ends ≡ Some (0, 2, 0)
inner_skipped = refl

-- the second outer job does not skip the inner job's submit, although the first one did
pub decided_anew : after (Acts (event.Client 0) ∷ Skips (event.Job 0) ∷ Acts (event.Job 0) ∷ Acts (event.Job 0) ∷ Acts (event.Client 0) ∷ Acts (event.Client 0) ∷ Acts (event.Client 0) ∷ Acts (event.Client 0) ∷ Acts (event.Take 0) ∷ []) ends ≡ Some (0, 3, 1)
decided_anew = refl

-- a client that skips its submit leaves the pool unchanged
pub outer_skipped : after (Skips (event.Client 0) ∷ Acts (event.Client 0) ∷ Acts (event.Client 0) ∷ []) (λ s. s.machine.pools) ≡ Some (record { queue = []; idle = 0 } ∷ [])
outer_skipped = refl

-- ---- choices that are not possible

-- an actor cannot skip a get without its submit
pub no_get_is_skipped : choices_replay nested (Some (without_calls (start nested))) (Skips (event.Client 0) ∷ Skips (event.Client 0) ∷ []) ≡ None
no_get_is_skipped = refl

-- an actor cannot skip a submit that has begun: the outer job has found at least core threads
pub no_begun_is_skipped : choices_replay nested (Some (without_calls (start nested))) (Acts (event.Client 0) ∷ Acts (event.Job 0) ∷ Skips (event.Job 0) ∷ []) ≡ None
no_begun_is_skipped = refl

-- a take cannot be skipped
pub no_taking_is_skipped : choices_replay nested (Some (without_calls (start nested))) (Skips (event.Take 0) ∷ []) ≡ None
no_taking_is_skipped = refl

-- ---- missed offers

-- two clients that submit jobs to a pool of two threads with a queue of capacity 0
abbrev handing : Plan
handing = record {
  pools = record one_thread { max = 2; queue = 0; may_reject = true } ∷ [];
  classes = record { name = 97 ∷ []; pool = 0; body = Work 1 ∷ [] } ∷ [];
  clients = record { name = 99 ∷ []; count = 2; repeat = true; body = Submit 0 ∷ Get 0 ∷ [] } ∷ [];
}

-- the first job ends, and the second client's call finds the core thread
abbrev one_idle : List Choice
one_idle = Acts (event.Client 0) ∷ Acts (event.Job 0) ∷ Acts (event.Job 0) ∷ Acts (event.Client 1) ∷ []

-- the idle threads, the queue, and the number of jobs that run
abbrev threads_of : List Choice → Option (List PoolPart × ℕ)
threads_of choices = option_map (λ (s : JavaState). (s.machine.pools, count_by (λ job. is_at job.stage) s.machine.jobs)) (choices_replay handing (Some (without_calls (start handing))) choices)

-- the offer hands the second job to the idle thread
pub offer_is_met : threads_of (one_idle ++ Acts (event.Client 1) ∷ []) ≡ Some (record { queue = 1 ∷ []; idle = 1 } ∷ [], 0)
offer_is_met = refl

-- the offer misses the idle thread, and another thread starts the second job
pub offer_is_missed : threads_of (one_idle ++ Misses (event.Client 1) ∷ Acts (event.Client 1) ∷ []) ≡ Some (record { queue = []; idle = 1 } ∷ [], 1)
offer_is_missed = refl

-- in the plan `nested`, whose queue has a greater capacity, the offer cannot be missed
pub no_offer_is_missed : choices_replay nested (Some (without_calls (start nested))) (Acts (event.Client 0) ∷ Acts (event.Job 0) ∷ Misses (event.Job 0) ∷ []) ≡ None
no_offer_is_missed = refl
