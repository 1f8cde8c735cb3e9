-- Replays of a small plan whose core threads may time out, in the steps of Java's execute, computed from the definitions alone.
use Rattle.std.proofs.Common.{◌≡◌, ℕ, List, [], ◌∷◌, ◌++◌, length, Option, Some, None, true, false, refl}
use Rattle.std.specs.Option.{option_map}
use Rattle.job_bodies.specs.declared.action.Action.TheVariants.{Work, Submit}
use Rattle.job_bodies.specs.Plan.{Plan}
use Rattle.pool_machine.specs.declared.event.Event.TheVariants as event
use Rattle.pool_machine.specs.State.{pool_part, threads}
use Rattle.pool_machine.specs.Reach.{start}
use Rattle.pool_machine.specs.Waiting.{is_waiting_set}
use Rattle.soundness.specs.Execute.{JavaState, JavaEvent, java_replay, without_calls}
use Rattle.soundness.specs.Execute.JavaEvent.{Acts, Leaves, Spares}

-- one pool with one core thread, which may time out, and a queue of one, and two clients that each submit one job
abbrev timing_out : Plan
timing_out = record {
  pools = record { name = 112 ∷ []; core = 1; max = 1; queue = 1; prestart = false; may_reject = false; unbounded = false; core_timeout = true } ∷ [];
  classes = record { name = 97 ∷ []; pool = 0; body = Work 1 ∷ [] } ∷ [];
  clients = record { name = 99 ∷ []; count = 2; repeat = false; body = Submit 0 ∷ [] } ∷ [];
}

-- the value of a function at the state that the events reach, or None if an event is not possible
abbrev after : {X : Type 0} → List JavaEvent → (JavaState → X) → Option X
after events ask = option_map ask (java_replay timing_out (Some (without_calls (start timing_out))) events)

-- the numbers of threads, of idle threads, and of queued jobs, and the pools at which Java will look
abbrev seen : JavaState → ℕ × ℕ × ℕ × List ℕ
seen s = (threads timing_out s.machine 0, (pool_part s.machine 0).idle, length (pool_part s.machine 0).queue, s.looking)

-- job 0 ends; client 1's call finds its thread, which then ends, and the job is queued
abbrev thread_ends : List JavaEvent
thread_ends = Acts (event.Client 0) ∷ Acts (event.Job 0) ∷ Acts (event.Job 0) ∷ Acts (event.Client 1) ∷ Acts (event.Retire 0) ∷ Acts (event.Client 1) ∷ []

-- Java will look at the pool twice: after the end of the thread, and after the offer
queued_without_a_thread : after thread_ends seen ≡ Some (0, 0, 1, 0 ∷ 0 ∷ [])
queued_without_a_thread = refl

-- the queued job waits only for itself, but Java will look at its pool
waits_for_itself : after thread_ends (λ s. is_waiting_set timing_out s.machine (1 ∷ [])) ≡ Some true
waits_for_itself = refl

-- no look leaves the job without a thread
no_look_leaves_it : after (thread_ends ++ Leaves 0 ∷ []) seen ≡ None
no_look_leaves_it = refl

-- one of the looks starts a thread, which takes the job; the other one finds that thread
one_look_starts_a_thread : after (thread_ends ++ Spares 0 ∷ Acts (event.Take 0) ∷ Leaves 0 ∷ []) seen ≡ Some (1, 0, 0, [])
one_look_starts_a_thread = refl

-- the pool has max threads then, so no other thread starts
no_thread_above_max : after (thread_ends ++ Spares 0 ∷ Spares 0 ∷ []) seen ≡ None
no_thread_above_max = refl

-- without a thread and without a queued job, Java starts no thread
idle_thread_ends : after (Acts (event.Client 0) ∷ Acts (event.Job 0) ∷ Acts (event.Job 0) ∷ Acts (event.Retire 0) ∷ Leaves 0 ∷ []) seen ≡ Some (0, 0, 0, [])
idle_thread_ends = refl
