-- Replays of small plans with exchanged jobs, computed from the definitions alone.
use Rattle.std.proofs.Common.{◌≡◌, ℕ, List, [], ◌∷◌, ◌++◌, map, Option, Some, None, is_some, true, false, refl}
use Rattle.std.specs.Option.{option_map}
use Rattle.job_bodies.specs.declared.action.Action.TheVariants.{Work, Submit, Get}
use Rattle.job_bodies.specs.Plan.{Plan, Pool}
use Rattle.pool_machine.specs.declared.event.Event.TheVariants as event
use Rattle.pool_machine.specs.declared.parent.Parent.TheVariants as parent
use Rattle.pool_machine.specs.State.{Stage, child}
use Rattle.pool_machine.specs.Reach.{start}
use Rattle.pool_machine.specs.Waiting.{is_waiting_set}
use Rattle.soundness.specs.Execute.{JavaState, JavaEvent, java_step, without_calls}
use Rattle.soundness.specs.Exchange.{after_exchange}
use Rattle.soundness.specs.Skipping.{Choice, choices_replay}
use Rattle.soundness.specs.Skipping.Choice.{Acts, Skips, Exchanges}

-- a pool of this many threads and a queue of one
abbrev pool_of_size : ℕ → Pool
pool_of_size threads = record { name = 112 ∷ []; core = threads; max = threads; queue = 1; prestart = false; may_reject = false; unbounded = false; core_timeout = false }

-- the value of a function at the state that the choices reach, or None if they reach none
abbrev after : {X : Type 0} → Plan → List Choice → (JavaState → X) → Option X
after plan choices ask = option_map ask (choices_replay plan (Some (without_calls (start plan))) choices)

-- the stages of all jobs of a state
abbrev stages : JavaState → List Stage
stages s = map (λ job. job.stage) s.machine.jobs

-- ---- two jobs of one class

-- a client repeatedly submits two jobs of one class and one of another, and gets them in that order
abbrev three_jobs : Plan
three_jobs = record {
  pools = pool_of_size 2 ∷ pool_of_size 2 ∷ [];
  classes = record { name = 97 ∷ []; pool = 0; body = Work 1 ∷ [] } ∷ record { name = 98 ∷ []; pool = 1; body = Work 1 ∷ [] } ∷ [];
  clients = record { name = 99 ∷ []; count = 1; repeat = true; body = Submit 0 ∷ Submit 0 ∷ Submit 1 ∷ Get 0 ∷ Get 1 ∷ Get 2 ∷ [] } ∷ [];
}

-- the choices after which the client has submitted all three jobs and the second one is done
abbrev second_is_done : List Choice
second_is_done = Acts (event.Client 0) ∷ Acts (event.Client 0) ∷ Acts (event.Client 0) ∷ Acts (event.Job 1) ∷ Acts (event.Job 1) ∷ []

-- a get of the first job is not possible
pub first_is_not_done : after three_jobs (second_is_done ++ Acts (event.Client 0) ∷ []) stages ≡ None
first_is_not_done = refl

-- the choices after which the client exchanged the first two jobs and got the second one
abbrev second_is_got : List Choice
second_is_got = second_is_done ++ Exchanges (parent.Client 0) 0 1 ∷ Acts (event.Client 0) ∷ []

pub second_is_got_first : after three_jobs second_is_got stages ≡ Some (Stage.At 0 ∷ Stage.Claimed ∷ Stage.At 0 ∷ [])
second_is_got_first = refl

-- the choices in which the client's next get finds the first job after it is done
abbrev first_is_got : List Choice
first_is_got = second_is_got ++ Acts (event.Job 0) ∷ Acts (event.Job 0) ∷ Acts (event.Client 0) ∷ []

pub first_is_got_next : after three_jobs first_is_got stages ≡ Some (Stage.Claimed ∷ Stage.Claimed ∷ Stage.At 0 ∷ [])
first_is_got_next = refl

-- the jobs that the client's gets of the first two positions find
abbrev found : JavaState → Option ℕ × Option ℕ
found s = (child s.machine (parent.Client 0) 0, child s.machine (parent.Client 0) 1)

-- the choices of a second cycle, in which the client finds its new jobs and can exchange them again
abbrev next_round : List Choice
next_round =
    first_is_got
    ++ Acts (event.Job 2) ∷ Acts (event.Job 2) ∷ Acts (event.Client 0) ∷ Acts (event.Client 0) ∷ Acts (event.Client 0) ∷ Acts (event.Client 0) ∷ Acts (event.Take 0) ∷ Acts (event.Client 0) ∷ Acts (event.Client 0) ∷ Acts (event.Take 0) ∷ []

pub found_in_next_round : after three_jobs next_round found ≡ Some (Some 3, Some 4)
found_in_next_round = refl

pub exchanged_in_next_round : after three_jobs (next_round ++ Exchanges (parent.Client 0) 0 1 ∷ []) found ≡ Some (Some 4, Some 3)
exchanged_in_next_round = refl

-- a client that skips its first submit can exchange the done job of that submit with its second job, so that its first get waits
-- for the second job
pub skipped_is_got_later : after three_jobs (Skips (event.Client 0) ∷ Acts (event.Client 0) ∷ Exchanges (parent.Client 0) 0 1 ∷ []) found ≡ Some (Some 1, Some 0)
skipped_is_got_later = refl

-- ---- exchanges that are not possible

-- jobs of two classes cannot be exchanged
pub no_other_class : after three_jobs (second_is_done ++ Exchanges (parent.Client 0) 1 2 ∷ []) stages ≡ None
no_other_class = refl

-- a job that was got cannot be exchanged
pub no_claimed_job : after three_jobs (second_is_got ++ Exchanges (parent.Client 0) 0 1 ∷ []) stages ≡ None
no_claimed_job = refl

-- a job that was not submitted yet cannot be exchanged
pub no_later_job : after three_jobs (Acts (event.Client 0) ∷ Exchanges (parent.Client 0) 0 1 ∷ []) stages ≡ None
no_later_job = refl

-- an actor that submitted no jobs at the two positions cannot exchange them
pub no_other_actor : after three_jobs (second_is_done ++ Exchanges (parent.Client 1) 0 1 ∷ []) stages ≡ None
no_other_actor = refl

-- ---- an exchange of jobs of two classes would lead to starvation

-- an outer job submits a far job to another pool and a near job to its own pool, and gets only the far job
abbrev far_and_near : Plan
far_and_near = record {
  pools = pool_of_size 1 ∷ pool_of_size 1 ∷ [];
  classes = record { name = 97 ∷ []; pool = 0; body = Submit 1 ∷ Submit 2 ∷ Get 0 ∷ [] } ∷ record { name = 98 ∷ []; pool = 1; body = Work 1 ∷ [] } ∷ record { name = 99 ∷ []; pool = 0; body = Work 1 ∷ [] } ∷ [];
  clients = record { name = 99 ∷ []; count = 1; repeat = false; body = Submit 0 ∷ Get 0 ∷ [] } ∷ [];
}

abbrev both_submitted : List Choice
both_submitted = Acts (event.Client 0) ∷ Acts (event.Job 0) ∷ Acts (event.Job 0) ∷ Acts (event.Job 0) ∷ []

-- without an exchange the outer job waits for the far job, which runs, so the outer and the near job are not a waiting set
pub far_runs : after far_and_near both_submitted (λ s. is_waiting_set far_and_near s.machine (0 ∷ 2 ∷ [])) ≡ Some false
far_runs = refl

-- after an exchange of the far job with the near job, the outer job would wait for the near job, which waits for the outer job's
-- thread
pub would_starve : after far_and_near both_submitted (λ s. is_waiting_set far_and_near (after_exchange (parent.Job 0) 0 1 s.machine) (0 ∷ 2 ∷ [])) ≡ Some true
would_starve = refl

-- ---- an exchange of a claimed job would block its actor

-- an outer job submits an inner job and gets it, and then submits and gets a second one
abbrev twice : Plan
twice = record {
  pools = pool_of_size 1 ∷ pool_of_size 1 ∷ [];
  classes = record { name = 97 ∷ []; pool = 0; body = Submit 1 ∷ Get 0 ∷ Submit 1 ∷ Get 2 ∷ [] } ∷ record { name = 98 ∷ []; pool = 1; body = Work 1 ∷ [] } ∷ [];
  clients = record { name = 99 ∷ []; count = 1; repeat = false; body = Submit 0 ∷ Get 0 ∷ [] } ∷ [];
}

-- the choices after which the first inner job was got and the second one is done
abbrev second_to_get : List Choice
second_to_get = Acts (event.Client 0) ∷ Acts (event.Job 0) ∷ Acts (event.Job 1) ∷ Acts (event.Job 1) ∷ Acts (event.Job 0) ∷ Acts (event.Job 0) ∷ Acts (event.Job 0) ∷ Acts (event.Take 1) ∷ Acts (event.Job 2) ∷ Acts (event.Job 2) ∷ []

-- without an exchange the outer job can get the second inner job
pub can_get : after twice second_to_get (λ s. is_some (java_step twice s (JavaEvent.Acts (event.Job 0)))) ≡ Some true
can_get = refl

-- after an exchange of the two inner jobs, the outer job's get would find the first one, which is claimed
pub could_not_get : after twice second_to_get (λ s. is_some (java_step twice (record s { machine = after_exchange (parent.Job 0) 0 2 s.machine }) (JavaEvent.Acts (event.Job 0)))) ≡ Some false
could_not_get = refl
