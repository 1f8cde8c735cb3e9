-- Replays of small plans in the steps of Java's execute, computed from the definitions alone.
use Rattle.std.proofs.Common.{◌≡◌, ℕ, List, [], ◌∷◌, ◌++◌, length, Option, Some, None, false, refl, arith}
use Rattle.std.specs.Option.{option_map, unwrap_or}
use Rattle.job_bodies.specs.declared.action.Action.TheVariants.{Work, Submit}
use Rattle.job_bodies.specs.Plan.{Plan}
use Rattle.job_bodies.specs.WellFormed.{IsWellFormed}
use Rattle.pool_machine.specs.declared.event.Event.TheVariants as event
use Rattle.pool_machine.specs.State.{pool_part, threads}
use Rattle.pool_machine.specs.Reach.{start}
use Rattle.soundness.specs.Execute.{JavaState, JavaEvent, java_replay, without_calls}
use Rattle.soundness.specs.WithRoom.{WithRoom, RefusedWithRoom, StartedWithRoom}

-- one pool with one core thread, a maximum of two and a queue of one, and clients that each submit one job
abbrev one_pool : ℕ → Plan
one_pool clients = record {
  pools = record { name = 112 ∷ []; core = 1; max = 2; queue = 1; prestart = false; may_reject = false; unbounded = false; core_timeout = false } ∷ [];
  classes = record { name = 97 ∷ []; pool = 0; body = Work 1 ∷ [] } ∷ [];
  clients = record { name = 99 ∷ []; count = clients; repeat = false; body = Submit 0 ∷ [] } ∷ [];
}

-- the numbers of refused submits, of threads of the pool, of idle threads, and of queued jobs
abbrev seen : Plan → JavaState → ℕ × ℕ × ℕ × ℕ
seen plan s = (s.machine.refusals, threads plan s.machine 0, (pool_part s.machine 0).idle, length (pool_part s.machine 0).queue)

-- the numbers that `seen` returns after the events from the initial state, or None if an event is not possible
abbrev seen_after : ℕ → List JavaEvent → Option (ℕ × ℕ × ℕ × ℕ)
seen_after clients events = option_map (seen (one_pool clients)) (java_replay (one_pool clients) (Some (without_calls (start (one_pool clients)))) events)

-- the events in which client 0's job starts, client 1's job fills the queue, and client 2's offer fails
abbrev offer_fails : List JavaEvent
offer_fails = JavaEvent.Acts (event.Client 0) ∷ JavaEvent.Acts (event.Client 1) ∷ JavaEvent.Acts (event.Client 1) ∷ JavaEvent.Acts (event.Client 2) ∷ JavaEvent.Acts (event.Client 2) ∷ []

-- the events in which job 0 ends and its thread takes job 1, so that the queue is empty
abbrev queue_empties : List JavaEvent
queue_empties = JavaEvent.Acts (event.Job 0) ∷ JavaEvent.Acts (event.Job 0) ∷ JavaEvent.Acts (event.Take 0) ∷ []

-- after client 2's offer failed and the queue emptied, one thread runs job 1 and no job is queued; client 2 still gets a second
-- thread
one_job_at_work : seen_after 3 (offer_fails ++ queue_empties) ≡ Some (0, 1, 0, 0)
one_job_at_work = refl

second_thread_though_queue_has_room : seen_after 3 (offer_fails ++ queue_empties ++ JavaEvent.Acts (event.Client 2) ∷ []) ≡ Some (0, 2, 0, 0)
second_thread_though_queue_has_room = refl

-- the events in which client 3's offer fails and client 3 gets the last thread
abbrev last_thread_ends : List JavaEvent
last_thread_ends = JavaEvent.Acts (event.Client 3) ∷ JavaEvent.Acts (event.Client 3) ∷ JavaEvent.Acts (event.Client 3) ∷ []

-- after client 3 got the last thread and job 1 ended, no job is queued and one thread is idle; client 2 is still refused
one_thread_idle : seen_after 4 (offer_fails ++ last_thread_ends ++ queue_empties ++ JavaEvent.Acts (event.Job 1) ∷ JavaEvent.Acts (event.Job 1) ∷ []) ≡ Some (0, 2, 1, 0)
one_thread_idle = refl

refused_though_queue_has_room : seen_after 4 (offer_fails ++ last_thread_ends ++ queue_empties ++ JavaEvent.Acts (event.Job 1) ∷ JavaEvent.Acts (event.Job 1) ∷ JavaEvent.Acts (event.Client 2) ∷ []) ≡ Some (1, 2, 1, 0)
refused_though_queue_has_room = refl

-- a client between two steps of its submit can pause while all others finish
others_make_progress : seen_after 4 (offer_fails ++ queue_empties ++ JavaEvent.Acts (event.Job 1) ∷ JavaEvent.Acts (event.Job 1) ∷ JavaEvent.Acts (event.Client 3) ∷ JavaEvent.Acts (event.Client 3) ∷ JavaEvent.Acts (event.Take 0) ∷ JavaEvent.Acts (event.Job 2) ∷ JavaEvent.Acts (event.Job 2) ∷ []) ≡ Some (0, 1, 1, 0)
others_make_progress = refl

-- a client at the end of its body has no step
over : seen_after 3 (JavaEvent.Acts (event.Client 0) ∷ JavaEvent.Acts (event.Client 0) ∷ []) ≡ None
over = refl

-- ---- the laws that Java can refuse a submit and start a thread while the queue has room

-- the state after these events, in the plan with this number of clients
abbrev after_events : ℕ → List JavaEvent → JavaState
after_events clients events = unwrap_or (java_replay (one_pool clients) (Some (without_calls (start (one_pool clients)))) events) (without_calls (start (one_pool clients)))

-- the plan with three clients is well-formed
three_well_formed : IsWellFormed (one_pool 3)
three_well_formed = record { few_pools = omega arith; few_classes = omega arith; few_clients = omega arith; pool_names = refl; class_names = refl; client_names = refl; pools = refl; classes = refl; clients = refl }

four_well_formed : IsWellFormed (one_pool 4)
four_well_formed = record { few_pools = omega arith; few_classes = omega arith; few_clients = omega arith; pool_names = refl; class_names = refl; client_names = refl; pools = refl; classes = refl; clients = refl }

-- the events after which jobs 0 and 1 are done
abbrev both_done : List JavaEvent
both_done = queue_empties ++ JavaEvent.Acts (event.Job 1) ∷ JavaEvent.Acts (event.Job 1) ∷ []

-- client 2's request for a thread, while the queue has room and a thread is idle
abbrev started_with_room : WithRoom (one_pool 3) 0
started_with_room = record {
  before = after_events 3 (offer_fails ++ both_done);
  reached = (offer_fails ++ both_done, refl);
  room = omega arith;
  at_core = omega arith;
  idle = omega arith;
  event = JavaEvent.Acts (event.Client 2);
  after = after_events 3 (offer_fails ++ both_done ++ JavaEvent.Acts (event.Client 2) ∷ []);
  step = refl;
}

abbrev refused_with_room : WithRoom (one_pool 4) 0
refused_with_room = record {
  before = after_events 4 (offer_fails ++ last_thread_ends ++ both_done);
  reached = (offer_fails ++ last_thread_ends ++ both_done, refl);
  room = omega arith;
  at_core = omega arith;
  idle = omega arith;
  event = JavaEvent.Acts (event.Client 2);
  after = after_events 4 (offer_fails ++ last_thread_ends ++ both_done ++ JavaEvent.Acts (event.Client 2) ∷ []);
  step = refl;
}

pub java_may_start_with_room : StartedWithRoom
java_may_start_with_room = (one_pool 3, 0, started_with_room, three_well_formed, refl)

pub java_may_refuse_with_room : RefusedWithRoom
java_may_refuse_with_room = (one_pool 4, 0, refused_with_room, four_well_formed, refl)
