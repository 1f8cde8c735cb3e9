-- Behavior that Java's steps have and atomic submits do not. A call that found the queue full requests a thread without
-- checking the queue and the idle threads again.
use Rattle.std.specs.Prelude.{◌≡◌, ◌≤◌, ◌<◌, ◌+◌, ℕ, length, Some}
use Rattle.job_bodies.specs.Plan.{Plan, pool_at}
use Rattle.job_bodies.specs.WellFormed.{IsWellFormed}
use Rattle.pool_machine.specs.State.{pool_part, threads}
use Rattle.soundness.specs.Execute.{JavaState, JavaEvent, java_step}
use Rattle.soundness.specs.JavaSafe.{IsJavaReached}

-- a reachable state `before`, an event that is possible in it, and the state `after` the event. In `before`, the queue of pool
-- p has room, and the pool has at least core threads, of which at least one is idle.
pub record WithRoom (plan : Plan) (p : ℕ) : Type 0 where
  pub before : JavaState
  pub reached : IsJavaReached plan before
  pub room : length (pool_part before.machine p).queue < (pool_at plan p).queue
  pub at_core : (pool_at plan p).core ≤ threads plan before.machine p
  pub idle : 1 ≤ (pool_part before.machine p).idle
  pub event : JavaEvent
  pub after : JavaState
  pub step : java_step plan before event ≡ Some after

-- in some plan a submit is refused while the queue has room and a thread is idle
abbrev pub RefusedWithRoom : Type 0
RefusedWithRoom = (plan : Plan) × (p : ℕ) × (x : WithRoom plan p) × IsWellFormed plan × (x.after.machine.refusals ≡ x.before.machine.refusals + 1)

-- in some plan a thread above core starts while the queue has room and a thread is idle
abbrev pub StartedWithRoom : Type 0
StartedWithRoom = (plan : Plan) × (p : ℕ) × (x : WithRoom plan p) × IsWellFormed plan × (threads plan x.after.machine p ≡ threads plan x.before.machine p + 1)
