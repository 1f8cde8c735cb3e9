-- Lemmas about the positions of actors after a change of the state.
use Rattle.std.proofs.Common.{◌≡◌, ◌≢◌, ℕ, ◌<◌, ◌⊎◌, inl, inr, List, [], ◌∷◌, ◌++◌, length, slice_get, get_or, set, Some, sym, ap, ◌∙◌, arith}
use Rattle.std.specs.Option.{option_map}
use Rattle.std.proofs.lemmas.Bool.{cases_lt, cases_eq}
use Rattle.std.proofs.lemmas.List.{length_push, get_or-set_same, get_or_append_left, get_or_push}
use Rattle.std.proofs.lemmas.Option.{get_or_from_slice_get}
use Rattle.support.proofs.Elements.{slice_get_set_cases}
use Rattle.job_bodies.specs.declared.action.Action.{Action}
use Rattle.job_bodies.specs.Plan.{Plan, class_at, client_at}
use Rattle.pool_machine.specs.declared.client_state.ClientState.{ClientState}
use Rattle.pool_machine.specs.declared.parent.Parent.{Parent}
use Rattle.pool_machine.specs.declared.parent.Parent.TheVariants as parent
use Rattle.pool_machine.specs.State.{Stage, State, CreatedJob, no_job, no_client_state, job_at, client_state}
use Rattle.pool_machine.specs.Step.{point, point_of_client, point_of_job, with_stage, with_position, with_job}
use Rattle.pool_machine.proofs.Positions.{stage_of_standing, standing_made, client_standing}
use Rattle.pool_machine.proofs.Stages.{staged, length-staged, get_or-staged_other}

pub same_client : (c d : ℕ) → parent.Client c ≡ parent.Client d → c ≡ d
same_client c d e = cc

pub same_job : (j n : ℕ) → parent.Job j ≡ parent.Job n → j ≡ n
same_job j n e = cc

pub Client≢Job : (c j : ℕ) → parent.Client c ≢ parent.Job j
Client≢Job c j e = cc

pub Job≢Client : (j c : ℕ) → parent.Job j ≢ parent.Client c
Job≢Client j c e = cc

pub same_position : (i i' : ℕ) → Stage.At i ≡ Stage.At i' → i ≡ i'
same_position i i' e = cc

-- the actor is at position i of this body
abbrev pub IsAtPosition : Plan → State → Parent → List Action → ℕ → Type 0
IsAtPosition plan s a body i = point plan s a ≡ Some (record { body = body; position = i })

-- the position of an actor depends only on the jobs and the clients
pub point_same : (plan : Plan) (s s' : State) (a : Parent) → s'.jobs ≡ s.jobs → s'.clients ≡ s.clients → point plan s' a ≡ point plan s a
point_same plan s s' (parent.Client c) jobs clients = ap (λ (xs : List ClientState). option_map (point_of_client plan) (slice_get xs c)) clients
point_same plan s s' (parent.Job j) jobs clients = ap (λ (xs : List CreatedJob). point_of_job plan (get_or xs j no_job).class (get_or xs j no_job).stage) jobs

-- a job that did not change is at the same position as before
same_standing : (plan : Plan) (job job' : CreatedJob) (body : List Action) (i : ℕ) → job' ≡ job → point_of_job plan job'.class job'.stage ≡ Some (record { body = body; position = i }) → point_of_job plan job.class job.stage ≡ Some (record { body = body; position = i })
same_standing plan job job' body i same stands = ap (λ (x : CreatedJob). point_of_job plan x.class x.stage) (sym same) ∙ stands

-- if a job did not change and is at position i, it has the stage of this position, and its body is that of its class
stands_as : (plan : Plan) (job job' : CreatedJob) (body : List Action) (i : ℕ) → job' ≡ job → point_of_job plan job'.class job'.stage ≡ Some (record { body = body; position = i }) → (job.stage ≡ Stage.At i) × (body ≡ (class_at plan job.class).body)
stands_as plan job job' body i same stands = stage_of_standing plan job.class job.stage body i (same_standing plan job job' body i same stands)

-- ---- after an actor moved

client_moved : (plan : Plan) (s : State) (c : ℕ) (body₀ : List Action) (i₀ i' : ℕ) → IsAtPosition plan s (parent.Client c) body₀ i₀ → (d : ℕ) (body : List Action) (i : ℕ) → IsAtPosition plan (with_position (parent.Client c) i' s) (parent.Client d) body i
    → ((parent.Client d ≡ parent.Client c) × (body ≡ body₀) × (i ≡ i')) ⊎ ((parent.Client d ≢ parent.Client c) × IsAtPosition plan s (parent.Client d) body i)
client_moved plan s c body₀ i₀ i' was d body i stands =
    let moved : ClientState = record (client_state s c) { position = i' } in
    let before = client_standing plan (slice_get s.clients c) body₀ i₀ was in
    let now = client_standing plan (slice_get (set s.clients c moved) d) body i stands in
    elim (slice_get_set_cases s.clients c moved d now.0 now.1) [
      | inl here ↦
          let kind : now.0.kind ≡ before.0.kind = ap (λ (x : ClientState). x.kind) (sym here.1) ∙ ap (λ (x : ClientState). x.kind) (get_or_from_slice_get s.clients c before.0 no_client_state before.1) in
          inl (ap parent.Client here.0, now.2 ∙ ap (λ (k : ℕ). (client_at plan k).body) kind ∙ sym before.2, sym now.3 ∙ ap (λ (x : ClientState). x.position) (sym here.1))
      | inr there ↦ inr (λ same. there.0 (same_client d c same), ap (option_map (point_of_client plan)) (there.1 ∙ sym now.1) ∙ stands)
    ]

job_moved : (plan : Plan) (s : State) (j : ℕ) (body₀ : List Action) (i₀ i' : ℕ) → IsAtPosition plan s (parent.Job j) body₀ i₀ → (n : ℕ) (body : List Action) (i : ℕ) → IsAtPosition plan (with_position (parent.Job j) i' s) (parent.Job n) body i
    → ((parent.Job n ≡ parent.Job j) × (body ≡ body₀) × (i ≡ i')) ⊎ ((parent.Job n ≢ parent.Job j) × IsAtPosition plan s (parent.Job n) body i)
job_moved plan s j body₀ i₀ i' was n body i stands =
    let moved : CreatedJob = record (job_at s j) { stage = Stage.At i' } in
    let jobs : List CreatedJob = set s.jobs j moved in
    elim (cases_eq n j) [
      | inl same ↦
          let inside = standing_made plan s j body₀ i₀ was in
          let is_moved : get_or jobs n no_job ≡ moved = ap (λ (m : ℕ). get_or jobs m no_job) same ∙ get_or-set_same s.jobs j moved no_job inside in
          let before = stage_of_standing plan (job_at s j).class (job_at s j).stage body₀ i₀ was in
          let now = stands_as plan moved (get_or jobs n no_job) body i is_moved stands in
          inl (ap parent.Job same, now.1 ∙ sym before.1, sym (same_position i' i now.0))
      | inr other ↦ inr (λ same. other (same_job n j same), same_standing plan (job_at s n) (get_or jobs n no_job) body i (get_or-staged_other s.jobs j (Stage.At i') n no_job other) stands)
    ]

-- after an actor moved, it is at its new position, and all other actors are at their old ones
pub standing-moved : (plan : Plan) (s : State) (b : Parent) (body₀ : List Action) (i₀ i' : ℕ) → point plan s b ≡ Some (record { body = body₀; position = i₀ }) → (a : Parent) (body : List Action) (i : ℕ) → point plan (with_position b i' s) a ≡ Some (record { body = body; position = i })
    → ((a ≡ b) × (body ≡ body₀) × (i ≡ i')) ⊎ ((a ≢ b) × (point plan s a ≡ Some (record { body = body; position = i })))
standing-moved plan s (parent.Client c) body₀ i₀ i' was (parent.Client d) body i stands = client_moved plan s c body₀ i₀ i' was d body i stands
standing-moved plan s (parent.Client c) body₀ i₀ i' was (parent.Job n) body i stands = inr (Job≢Client n c, stands)
standing-moved plan s (parent.Job j) body₀ i₀ i' was (parent.Client d) body i stands = inr (Client≢Job d j, stands)
standing-moved plan s (parent.Job j) body₀ i₀ i' was (parent.Job n) body i stands = job_moved plan s j body₀ i₀ i' was n body i stands

-- ---- after the stage of a job changed

job_staged : (plan : Plan) (s : State) (j : ℕ) (stage : Stage) (n : ℕ) (body : List Action) (i : ℕ) → IsAtPosition plan (with_stage j stage s) (parent.Job n) body i
    → ((parent.Job n ≡ parent.Job j) × (stage ≡ Stage.At i) × (body ≡ (class_at plan (job_at s j).class).body)) ⊎ ((parent.Job n ≢ parent.Job j) × IsAtPosition plan s (parent.Job n) body i)
job_staged plan s j stage n body i stands =
    let changed : CreatedJob = record (job_at s j) { stage = stage } in
    let jobs : List CreatedJob = staged s.jobs j stage in
    elim (cases_eq n j) [
      | inl same ↦
          let found : n < length jobs = standing_made plan (with_stage j stage s) n body i stands in
          let inside : j < length s.jobs = omega (arith, length-staged s.jobs j stage) in
          let is_changed : get_or jobs n no_job ≡ changed = ap (λ (m : ℕ). get_or jobs m no_job) same ∙ get_or-set_same s.jobs j changed no_job inside in
          let now = stands_as plan changed (get_or jobs n no_job) body i is_changed stands in
          inl (ap parent.Job same, now.0, now.1)
      | inr other ↦ inr (λ same. other (same_job n j same), same_standing plan (job_at s n) (get_or jobs n no_job) body i (get_or-staged_other s.jobs j stage n no_job other) stands)
    ]

-- after the stage of a job changed, the job is at the position of the new stage, and all other actors are at their old positions
pub standing-staged : (plan : Plan) (s : State) (j : ℕ) (stage : Stage) (a : Parent) (body : List Action) (i : ℕ) → IsAtPosition plan (with_stage j stage s) a body i
    → ((a ≡ parent.Job j) × (stage ≡ Stage.At i) × (body ≡ (class_at plan (job_at s j).class).body)) ⊎ ((a ≢ parent.Job j) × IsAtPosition plan s a body i)
standing-staged plan s j stage (parent.Client c) body i stands = inr (Client≢Job c j, stands)
standing-staged plan s j stage (parent.Job n) body i stands = job_staged plan s j stage n body i stands

-- ---- after a job was created

job_pushed : (plan : Plan) (s : State) (job : CreatedJob) (n : ℕ) (body : List Action) (i : ℕ) → IsAtPosition plan (with_job job s) (parent.Job n) body i
    → ((parent.Job n ≡ parent.Job (length s.jobs)) × (job.stage ≡ Stage.At i) × (body ≡ (class_at plan job.class).body)) ⊎ IsAtPosition plan s (parent.Job n) body i
job_pushed plan s job n body i stands =
    let jobs : List CreatedJob = s.jobs ++ job ∷ [] in
    elim (cases_lt n (length s.jobs)) [
      | inl earlier ↦ inr (same_standing plan (job_at s n) (get_or jobs n no_job) body i (get_or_append_left s.jobs (job ∷ []) no_job n earlier) stands)
      | inr past ↦
          let found : n < length jobs = standing_made plan (with_job job s) n body i stands in
          let last : length s.jobs ≡ n = omega (arith, length_push s.jobs job) in
          let now = stands_as plan job (get_or jobs n no_job) body i (get_or_push s.jobs job no_job n last) stands in
          inl (ap parent.Job (sym last), now.0, now.1)
    ]

-- after a job was created, it is at the position of its stage, and all other actors are at their old positions
pub standing-pushed : (plan : Plan) (s : State) (job : CreatedJob) (a : Parent) (body : List Action) (i : ℕ) → IsAtPosition plan (with_job job s) a body i
    → ((a ≡ parent.Job (length s.jobs)) × (job.stage ≡ Stage.At i) × (body ≡ (class_at plan job.class).body)) ⊎ IsAtPosition plan s a body i
standing-pushed plan s job (parent.Client c) body i stands = inr stands
standing-pushed plan s job (parent.Job n) body i stands = job_pushed plan s job n body i stands
