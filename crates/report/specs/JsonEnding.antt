-- How a witness ends, as JSON.
use Rattle.std.specs.Prelude.{ℕ, List, [], ◌∷◌, flat_map, codes, Option, Some, slice_get}
use Rattle.std.specs.Option.{option_to_list}
use Rattle.serde_json.specs.Data.{Data, null, string, object, member, no_members}
use Rattle.support.specs.Places.{places_where}
use Rattle.job_bodies.specs.declared.action.Action.{Action}
use Rattle.job_bodies.specs.declared.action.Action.TheVariants.{Get}
use Rattle.job_bodies.specs.Plan.{Plan, pool_at, class_at}
use Rattle.pool_machine.specs.declared.parent.Parent.TheVariants as parent
use Rattle.pool_machine.specs.State.{Stage, State, job_at, pool_of, is_busy_in, child}
use Rattle.pool_machine.specs.State.Stage.{Queued, At}
use Rattle.counterexample.specs.declared.ending.Ending.{Ending}
use Rattle.counterexample.specs.declared.ending.Ending.TheVariants.{Refused, StuckForever, StuckNow}
use Rattle.counterexample.specs.EventLines.{stuck_members}
use Rattle.report.specs.JsonEvents.{number_data, list_data, numbers_data}

-- ---- what a job waits for

-- the object that says that job j of the pool waits for the jobs `awaited`; `place` is `queue` or `get`
unfoldable pub wait_data : List ℕ → List ℕ → ℕ → List ℕ → Data
wait_data place awaited j pool =
    object (member (codes "at") (string place)
    (member (codes "for") (numbers_data awaited)
    (member (codes "job") (number_data j)
    (member (codes "pool") (string pool) no_members))))

-- a list of the job for which job j waits at this action. At a get, this is the latest job that j created at the get's submit.
-- Empty at any other action
abbrev pub awaited : State → ℕ → Option Action → List ℕ
awaited s j (Some (Get t)) = option_to_list (child s (parent.Job j) t)
awaited s j _ = []

abbrev pub pool_name : Plan → ℕ → List ℕ
pool_name plan k = (pool_at plan (pool_of plan k)).name

-- what job j of class k waits for: in a queue, the jobs that run in its pool; at an action, the job of `awaited`. Empty if it is
-- done
abbrev pub wait_at : Plan → State → ℕ → ℕ → Stage → List Data
wait_at plan s j k Queued = wait_data (codes "queue") (places_where (is_busy_in plan (pool_of plan k)) s.jobs) j (pool_name plan k) ∷ []
wait_at plan s j k (At i) = wait_data (codes "get") (awaited s j (slice_get (class_at plan k).body i)) j (pool_name plan k) ∷ []
wait_at plan s j k _ = []

abbrev pub wait_of : Plan → State → ℕ → List Data
wait_of plan s j = wait_at plan s j (job_at s j).class (job_at s j).stage

-- ---- the ending

abbrev pub kind_word : Ending → List ℕ
kind_word (Refused p) = codes "refused"
kind_word (StuckForever members reason) = codes "stuck forever"
kind_word (StuckNow members) = codes "stuck now"

-- the name of the pool that refused a submit; null if the witness ends in another way
abbrev pub refusing_pool : Plan → Ending → Data
refusing_pool plan (Refused p) = string (pool_at plan p).name
refusing_pool plan _ = null

unfoldable pub ending_parts : List ℕ → List ℕ → Data → List Data → Data
ending_parts jobs kind pool waits =
    object (member (codes "jobs") (numbers_data jobs)
    (member (codes "kind") (string kind)
    (member (codes "pool") pool
    (member (codes "waits") (list_data waits) no_members))))

-- the ending of a witness; s is the state after the events
abbrev pub ending_data : Plan → State → Ending → Data
ending_data plan s ending = ending_parts (stuck_members ending) (kind_word ending) (refusing_pool plan ending) (flat_map (wait_of plan s) (stuck_members ending))
