-- The events of a witness as JSON.
use Rattle.std.specs.Prelude.{ℕ, List, map, codes, Option, Some, None}
use Rattle.serde_json.specs.Data.{Data, null, number, unsigned, string, array, object, member, no_members}
use Rattle.serde_json.specs.View.{items_of}
use Rattle.job_bodies.specs.Plan.{Plan, pool_at, class_at, client_at}
use Rattle.plan_text.specs.declared.place.TextPlace.{TextPlace}
use Rattle.diagnostics.specs.declared.entry_places.PlanPlaces.{PlanPlaces}
use Rattle.pool_machine.specs.declared.event.Event.{Event}
use Rattle.pool_machine.specs.declared.event.Outcome.{Outcome}
use Rattle.pool_machine.specs.declared.event.Outcome.TheVariants.{Started, Queued, Refused, Rejected, Worked, Got, Looped, Finished, Took, Retired}
use Rattle.report.specs.declared.event_steps.Actor.{Actor}
use Rattle.report.specs.declared.event_steps.Actor.TheVariants.{Client, Job, Pool}
use Rattle.report.specs.declared.event_steps.PoolCounts.{PoolCounts}
use Rattle.report.specs.EventRows.{event_rows}
use Rattle.report.specs.EventRuns.{Run, runs, shown_of}
use Rattle.report.specs.JsonPlaces.{line_data, column_data, action_place}

-- ---- numbers and lists

abbrev pub number_data : ℕ → Data
number_data n = number (unsigned n)

abbrev pub optional_number : Option ℕ → Data
optional_number None = null
optional_number (Some n) = number_data n

abbrev pub list_data : List Data → Data
list_data items = array (items_of items)

abbrev pub numbers_data : List ℕ → Data
numbers_data numbers = list_data (map number_data numbers)

-- ---- the place of an action

-- the place of the actor's action; None if there is no action, or if its place is not known
abbrev pub actor_place : PlanPlaces → Actor → Option ℕ → Option TextPlace
actor_place places actor None = None
actor_place places (Client kind c) (Some i) = action_place places.clients.items kind i
actor_place places (Job class j) (Some i) = action_place places.classes.items class i
actor_place places (Pool p) (Some i) = None

-- ---- the parts of an event

unfoldable pub client_data : List ℕ → ℕ → Data
client_data kind c = object (member (codes "client") (string kind) (member (codes "number") (number_data c) no_members))

unfoldable pub job_data : List ℕ → ℕ → Data
job_data class j = object (member (codes "class") (string class) (member (codes "job") (number_data j) no_members))

unfoldable pub pool_name_data : List ℕ → Data
pool_name_data name = object (member (codes "pool") (string name) no_members)

abbrev pub actor_data : Plan → Actor → Data
actor_data plan (Client kind c) = client_data (client_at plan kind).name c
actor_data plan (Job class j) = job_data (class_at plan class).name j
actor_data plan (Pool p) = pool_name_data (pool_at plan p).name

abbrev pub outcome_word : Outcome → List ℕ
outcome_word (Started j) = codes "started"
outcome_word (Queued j) = codes "queued"
outcome_word (Refused p) = codes "refused"
outcome_word (Rejected p j) = codes "rejected"
outcome_word (Worked u) = codes "worked"
outcome_word (Got j) = codes "got"
outcome_word Looped = codes "looped"
outcome_word (Finished j) = codes "finished"
outcome_word (Took j) = codes "took"
outcome_word Retired = codes "retired"

-- the job that was made, got or taken, or that ended
abbrev pub job_of : Outcome → Option ℕ
job_of (Started j) = Some j
job_of (Queued j) = Some j
job_of (Rejected p j) = Some j
job_of (Got j) = Some j
job_of (Finished j) = Some j
job_of (Took j) = Some j
job_of _ = None

unfoldable pub pool_state_data : ℕ → List ℕ → List ℕ → ℕ → Data
pool_state_data idle name queue threads =
    object (member (codes "idle") (number_data idle)
    (member (codes "name") (string name)
    (member (codes "queue") (numbers_data queue)
    (member (codes "threads") (number_data threads) no_members))))

abbrev pub pool_data : Plan → Option PoolCounts → List ℕ → Data
pool_data plan None queue = null
pool_data plan (Some counts) queue = pool_state_data counts.idle (pool_at plan counts.number).name queue counts.threads

-- ---- events

-- the members of the object of an event
pub record EventParts : Type 0 where
  pub action : Data
  pub actor : Data
  pub column : Data
  pub job : Data
  pub line : Data
  pub outcome : List ℕ
  pub pool : Data
  pub times : ℕ

unfoldable pub event_data : EventParts → Data
event_data parts =
    object (member (codes "action") parts.action
    (member (codes "actor") parts.actor
    (member (codes "column") parts.column
    (member (codes "job") parts.job
    (member (codes "line") parts.line
    (member (codes "outcome") (string parts.outcome)
    (member (codes "pool") parts.pool
    (member (codes "times") (number_data parts.times) no_members))))))))

-- the object of a run: the members of its first step, the pool after its last step, and the number of its steps
unfoldable pub run_data : Plan → PlanPlaces → Run → Data
run_data plan places run = event_data (record {
  action = optional_number run.first.action;
  actor = actor_data plan run.first.actor;
  column = column_data (actor_place places run.first.actor run.first.action);
  job = optional_number (job_of run.first.outcome);
  line = line_data (actor_place places run.first.actor run.first.action);
  outcome = outcome_word run.first.outcome;
  pool = pool_data plan run.last.step.pool run.last.queue;
  times = run.times;
})

-- the list of the events from the start of the plan, with one object for each run
abbrev pub events_data : PlanPlaces → Plan → List Event → Data
events_data places plan events = list_data (map (run_data plan places) (runs (map (shown_of plan) (event_rows plan events))))
