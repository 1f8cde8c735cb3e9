-- Lemmas about the positions of actors.
use Rattle.std.proofs.Common.{◌≡◌, ◌≢◌, ℕ, ◌<◌, inl, inr, List, length, slice_get, Option, Some, None, refl, sym, ap, subst, ◌∙◌}
use Rattle.std.specs.Option.{option_map}
use Rattle.std.proofs.lemmas.Bool.{cases_lt}
use Rattle.std.proofs.lemmas.List.{get_or-set_other, get_or_past}
use Rattle.std.proofs.lemmas.Option.{none-some, same_Some}
use Rattle.job_bodies.specs.declared.action.Action.{Action}
use Rattle.job_bodies.specs.Plan.{Plan, class_at, client_at}
use Rattle.job_bodies.specs.ValidBody.{IsValidBody}
use Rattle.job_bodies.proofs.Bodies.{HasValidBodies}
use Rattle.pool_machine.specs.declared.client_state.ClientState.{ClientState}
use Rattle.pool_machine.specs.declared.parent.Parent.{Parent}
use Rattle.pool_machine.specs.declared.parent.Parent.TheVariants as parent
use Rattle.pool_machine.specs.State.{Stage, State, CreatedJob, no_job, job_at}
use Rattle.pool_machine.specs.Step.{Point, point, point_of_client, point_of_job, with_position}

-- ---- jobs

-- a job at position i has the stage of this position, and its body is that of its class
pub stage_of_standing : (plan : Plan) (k : ℕ) (stage : Stage) (body : List Action) (i : ℕ) → point_of_job plan k stage ≡ Some (record { body = body; position = i }) → (stage ≡ Stage.At i) × (body ≡ (class_at plan k).body)
stage_of_standing plan k Stage.Queued body i e = absurd (none-some _ e)
stage_of_standing plan k (Stage.At n) body i e =
    let same = same_Some _ _ e in
    (ap (λ (at : Point). Stage.At at.position) same, sym (ap (λ (at : Point). at.body) same))
stage_of_standing plan k Stage.Done body i e = absurd (none-some _ e)
stage_of_standing plan k Stage.Claimed body i e = absurd (none-some _ e)

pub At≢Claimed : {stage : Stage} {i : ℕ} → stage ≡ Stage.At i → stage ≢ Stage.Claimed
At≢Claimed at claimed = cc

-- a job that is not claimed exists
pub job_made : (s : State) (j : ℕ) → (job_at s j).stage ≢ Stage.Claimed → j < length s.jobs
job_made s j unclaimed = elim (cases_lt j (length s.jobs)) [
  | inl inside ↦ inside
  | inr past ↦ absurd (unclaimed (ap (λ (job : CreatedJob). job.stage) (get_or_past s.jobs j no_job past)))
]

-- a job at a position exists
pub standing_made : (plan : Plan) (s : State) (j : ℕ) (body : List Action) (i : ℕ) → point plan s (parent.Job j) ≡ Some (record { body = body; position = i }) → j < length s.jobs
standing_made plan s j body i stands = job_made s j (At≢Claimed (stage_of_standing plan (job_at s j).class (job_at s j).stage body i stands).0)

-- ---- clients

-- if a client is at a position, it exists, and its body is that of its kind
pub client_standing : (plan : Plan) (found : Option ClientState) (body : List Action) (i : ℕ) → option_map (point_of_client plan) found ≡ Some (record { body = body; position = i })
    → (client : ClientState) × (found ≡ Some client) × (body ≡ (client_at plan client.kind).body) × (client.position ≡ i)
client_standing plan None body i e = absurd (none-some _ e)
client_standing plan (Some client) body i e =
    let same = same_Some _ _ e in
    (client, refl, sym (ap (λ (at : Point). at.body) same), ap (λ (at : Point). at.position) same)

-- ---- clients and jobs

-- a job that is not at a position is unchanged after an actor moved
pub job_at-with_position : (plan : Plan) (s : State) (a : Parent) (body : List Action) (i i' j : ℕ) → point plan s a ≡ Some (record { body = body; position = i }) → ((n : ℕ) → (job_at s j).stage ≢ Stage.At n)
    → job_at (with_position a i' s) j ≡ job_at s j
job_at-with_position plan s (parent.Client c) body i i' j stands elsewhere = refl
job_at-with_position plan s (parent.Job m) body i i' j stands elsewhere =
    get_or-set_other s.jobs m j (record (job_at s m) { stage = Stage.At i' }) no_job
    (λ (same : j ≡ m). elsewhere i (ap (λ (n : ℕ). (job_at s n).stage) same ∙ (stage_of_standing plan (job_at s m).class (job_at s m).stage body i stands).0))

-- the body of an actor is valid
pub valid_point : (plan : Plan) (s : State) (a : Parent) (body : List Action) (i : ℕ) → HasValidBodies plan → point plan s a ≡ Some (record { body = body; position = i }) → IsValidBody plan body
valid_point plan s (parent.Client c) body i ordered stands =
    let client = client_standing plan (slice_get s.clients c) body i stands in
    subst (IsValidBody plan) (sym client.2) (ordered.clients client.0.kind)
valid_point plan s (parent.Job j) body i ordered stands =
    subst (IsValidBody plan) (sym (stage_of_standing plan (job_at s j).class (job_at s j).stage body i stands).1) (ordered.classes (job_at s j).class)
