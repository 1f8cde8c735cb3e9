-- The live view of a reached state shows what the jobs wait for.
use Rattle.std.proofs.Common.{◌≡◌, ℕ, Bool, true, false, ◌&&◌, if◌then◌else◌, List, [], ◌∷◌, ◌++◌, slice_get, Option, Some, None, refl, sym, ap, ap₂, ◌∙◌, le_refl}
use Rattle.std.specs.Prelude.{codes, flat_map}
use Rattle.std.specs.Option.{option_to_list}
use Rattle.serde_json.specs.Data.{Data}
use Rattle.job_bodies.specs.declared.action.Action.{Action}
use Rattle.job_bodies.specs.declared.action.Action.TheVariants.{Work, Submit, Get}
use Rattle.job_bodies.specs.Plan.{Plan, class_at}
use Rattle.job_bodies.specs.WellFormed.{IsWellFormed}
use Rattle.job_bodies.proofs.Bodies.{HasValidBodies, ordered}
use Rattle.pool_machine.specs.declared.parent.Parent.TheVariants as parent
use Rattle.pool_machine.specs.State.{Stage, State, CreatedJob, job_at, pool_of, is_unfinished, child}
use Rattle.pool_machine.specs.State.Stage.{Queued, At, Done, Claimed}
use Rattle.pool_machine.specs.Step.{point, point_of_job}
use Rattle.pool_machine.specs.Reach.{IsReached}
use Rattle.pool_machine.proofs.Reached.{kept}
use Rattle.pool_machine.proofs.StateInvariant.{StateInvariant}
use Rattle.interleaving.specs.declared.job_view.Phase.TheVariants as phase
use Rattle.interleaving.specs.LiveView.{View, live_view, may_get, is_number, phase_seen, job_with}
use Rattle.interleaving.proofs.View.{view_at}
use Rattle.interleaving.proofs.Changes.{seen_at}
use Rattle.interleaving.proofs.Children.{child_seen}
use Rattle.interleaving.proofs.Waiting.{busy_places}
use Rattle.report.specs.JsonEnding.{wait_data, awaited, pool_name, wait_at, wait_of}
use Rattle.report.specs.WaitsSeen.{awaited_seen, wait_of_job, wait_seen}

none_if : (plan : Plan) (view : View) (j : ℕ) (job : CreatedJob) (b : Bool) → wait_of_job plan view j (job_with job (if b then Some phase.Done else None)) ≡ []
none_if plan view j job true = refl
none_if plan view j job false = refl

module _ (plan : Plan) (s : State) (bodies : HasValidBodies plan) (kept : StateInvariant plan s) where
  -- the live view shows the job for which a running job waits at an action
  pub awaited_shown : (j i : ℕ) (action : Option Action) → (job_at s j).stage ≡ At i → slice_get (class_at plan (job_at s j).class).body i ≡ action → awaited_seen (live_view plan s) j action ≡ awaited s j action
  awaited_shown j i None at there = refl
  awaited_shown j i (Some (Work u)) at there = refl
  awaited_shown j i (Some (Submit k)) at there = refl
  awaited_shown j i (Some (Get t)) at there =
      let k = (job_at s j).class in
      let body = (class_at plan k).body in
      let stands : point plan s (parent.Job j) ≡ Some (record { body = body; position = i }) = ap (point_of_job plan k) at in
      let found = (kept.actors (parent.Job j) body i stands).ready i t (le_refl i) ((bodies.classes k).behind i t there) there in
      let is_child : child s (parent.Job j) t ≡ Some found.number = found.is_child in
      ap option_to_list (child_seen plan s (parent.Job j) t found.number (ap is_unfinished at) is_child found.unclaimed ∙ sym is_child)

  wait_at_stage : (j : ℕ) (stage : Stage) → (job_at s j).stage ≡ stage → wait_seen plan (live_view plan s) j ≡ wait_at plan s j (job_at s j).class stage
  wait_at_stage j Queued e =
      let k = (job_at s j).class in
      ap (wait_of_job plan (live_view plan s) j) (view_at plan s j ∙ seen_at s j Queued phase.Queued e refl)
      ∙ ap (λ (ns : List ℕ). wait_data (codes "queue") ns j (pool_name plan k) ∷ []) (busy_places plan s (pool_of plan k))
  wait_at_stage j (At i) e =
      let k = (job_at s j).class in
      ap (wait_of_job plan (live_view plan s) j) (view_at plan s j ∙ seen_at s j (At i) (phase.At i) e refl)
      ∙ ap (λ (ns : List ℕ). wait_data (codes "get") ns j (pool_name plan k) ∷ []) (awaited_shown j i (slice_get (class_at plan k).body i) e refl)
  wait_at_stage j Done e =
      let job = job_at s j in
      ap (wait_of_job plan (live_view plan s) j) (view_at plan s j ∙ ap (λ stage. job_with job (phase_seen s j job stage)) e)
      ∙ none_if plan (live_view plan s) j job (may_get s job.parent && is_number (child s job.parent job.slot) j)
  wait_at_stage j Claimed e =
      let job = job_at s j in
      ap (wait_of_job plan (live_view plan s) j) (view_at plan s j ∙ ap (λ stage. job_with job (phase_seen s j job stage)) e)

  all_shown : (members : List ℕ) → flat_map (wait_seen plan (live_view plan s)) members ≡ flat_map (wait_of plan s) members
  all_shown [] = refl
  all_shown (j ∷ members) = ap₂ (λ (xs ys : List Data). xs ++ ys) (wait_at_stage j (job_at s j).stage refl) (all_shown members)

pub waits_shown : (plan : Plan) (s : State) (members : List ℕ) → IsWellFormed plan → IsReached plan s → flat_map (wait_seen plan (live_view plan s)) members ≡ flat_map (wait_of plan s) members
waits_shown plan s members ok reached = all_shown plan s (ordered plan ok) (kept plan s ok reached) members
