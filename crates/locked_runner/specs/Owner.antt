-- The owners of events. Each list of receipts of a run belongs to one owner.
use Rattle.std.specs.Prelude.{◌≡◌, ◌++◌, ℕ, List, map, replicate, length, take, slice_get, Option, Some, None}
use Rattle.std.specs.List.{flat_map, enumerate_from}
use Rattle.job_bodies.specs.Plan.{Plan, Client, Pool}
use Rattle.pool_machine.specs.declared.event.Event.{Event}
use Rattle.pool_machine.specs.declared.event.Event.TheVariants as event
use Rattle.pool_machine.specs.State.{State, job_at, pool_of}
use Rattle.pool_machine.specs.Reach.{Reaches}
use Rattle.locked_runner.specs.Carriers.{carriers}
use Rattle.locked_runner.specs.declared.owner.Owner.{Owner}
use Rattle.locked_runner.specs.declared.owner.Owner.TheVariants as owner

-- The owner of an event in state s. A client owns its own events. A pool owns the events in which its threads take jobs or
-- perform the actions of jobs. A retirement has no owner, because no thread of a run performs it.
abbrev pub owner_in : Plan → State → Event → Option Owner
owner_in plan s (event.Client c) = Some (owner.Client c)
owner_in plan s (event.Job j) = Some (owner.Pool (pool_of plan (job_at s j).class))
owner_in plan s (event.Take p) = Some (owner.Pool p)
owner_in plan s (event.Retire p) = None

abbrev pub kinds_of_entry : ℕ × Client → List ℕ
kinds_of_entry entry = replicate entry.1.count entry.0

-- the kind of each client: the kinds in plan order, each as many times as its count
abbrev pub kinds_of : Plan → List ℕ
kinds_of plan = flat_map kinds_of_entry (enumerate_from 0 plan.clients)

abbrev pub client_list : ℕ × ℕ → Owner
client_list entry = owner.Client entry.0

abbrev pub pool_lists : ℕ × Pool → List Owner
pool_lists entry = replicate (carriers entry.1) (owner.Pool entry.0)

-- the owners of the lists of receipts: first each client once, then each pool once for each thread that a run has for it
abbrev pub lists_of : Plan → List Owner
lists_of plan = map client_list (enumerate_from 0 (kinds_of plan)) ++ flat_map pool_lists (enumerate_from 0 plan.pools)

-- the owner of the event; for an event of a job, `pool` must be the pool of this job
abbrev pub owner_by : Event → ℕ → Option Owner
owner_by (event.Client c) pool = Some (owner.Client c)
owner_by (event.Job j) pool = Some (owner.Pool pool)
owner_by (event.Take p) pool = Some (owner.Pool p)
owner_by (event.Retire p) pool = None

-- The list has a pool for each event of the history. The event and this pool determine the owner of the event (`owner_by`).
pub record ArePoolsOf (plan : Plan) (history : List Event) (pools : List ℕ) : Type 0 where
  pub as_many : length pools ≡ length history
  pub each : (n : ℕ) (s : State) (e : Event) (pool : ℕ) → slice_get history n ≡ Some e → slice_get pools n ≡ Some pool → Reaches plan (take n history) s → owner_in plan s e ≡ owner_by e pool
