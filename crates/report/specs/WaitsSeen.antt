-- What jobs wait for, as the code computes it from a live view.
use Rattle.std.specs.Prelude.{ℕ, List, [], ◌∷◌, codes, Option, Some, None, slice_get}
use Rattle.std.specs.Option.{option_to_list}
use Rattle.serde_json.specs.Data.{Data}
use Rattle.support.specs.Places.{places_where}
use Rattle.job_bodies.specs.declared.action.Action.{Action}
use Rattle.job_bodies.specs.declared.action.Action.TheVariants.{Get}
use Rattle.job_bodies.specs.Plan.{Plan, class_at}
use Rattle.pool_machine.specs.declared.parent.Parent.TheVariants as parent
use Rattle.pool_machine.specs.State.{pool_of}
use Rattle.interleaving.specs.declared.job_view.Phase.{Phase}
use Rattle.interleaving.specs.declared.job_view.Phase.TheVariants as phase
use Rattle.interleaving.specs.declared.job_view.JobView.{JobView}
use Rattle.interleaving.specs.LiveView.{View}
use Rattle.interleaving.specs.ViewStep.{live_job, live_child}
use Rattle.interleaving.specs.Waiting.{is_busy_job}
use Rattle.report.specs.JsonEnding.{wait_data, pool_name}

abbrev pub running_seen : Plan → View → ℕ → List ℕ
running_seen plan view p = places_where (is_busy_job plan p) view.jobs

abbrev pub awaited_seen : View → ℕ → Option Action → List ℕ
awaited_seen view j (Some (Get t)) = option_to_list (live_child view.jobs (parent.Job j) t)
awaited_seen view j _ = []

abbrev pub wait_in : Plan → View → ℕ → ℕ → Phase → List Data
wait_in plan view j k phase.Queued = wait_data (codes "queue") (running_seen plan view (pool_of plan k)) j (pool_name plan k) ∷ []
wait_in plan view j k (phase.At i) = wait_data (codes "get") (awaited_seen view j (slice_get (class_at plan k).body i)) j (pool_name plan k) ∷ []
wait_in plan view j k phase.Done = []

abbrev pub wait_of_job : Plan → View → ℕ → Option JobView → List Data
wait_of_job plan view j None = []
wait_of_job plan view j (Some job) = wait_in plan view j job.class job.phase

abbrev pub wait_seen : Plan → View → ℕ → List Data
wait_seen plan view j = wait_of_job plan view j (live_job view.jobs j)
