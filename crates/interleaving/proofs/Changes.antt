-- A change of one job's stage changes only that job in the view.
use Rattle.std.proofs.Common.{◌≡◌, ◌≢◌, ℕ, ◌<◌, true, List, length, set, Option, Some, None, ⊎_elim, refl, sym, ap, ap₂, ◌∙◌, arith, length-set}
use Rattle.std.proofs.lemmas.Bool.{cases_eq}
use Rattle.std.proofs.lemmas.List.{get_or-set_same, get_or-set_other}
use Rattle.job_bodies.specs.declared.action.Action.{Action}
use Rattle.job_bodies.specs.Plan.{Plan}
use Rattle.pool_machine.specs.declared.parent.Parent.{Parent}
use Rattle.pool_machine.specs.declared.parent.Parent.TheVariants as parent
use Rattle.interleaving.specs.declared.job_view.Phase.{Phase}
use Rattle.interleaving.specs.declared.job_view.JobView.{JobView}
use Rattle.pool_machine.specs.State.{Stage, CreatedJob, State, no_job, job_at, is_unfinished, child}
use Rattle.pool_machine.specs.State.Stage.{At}
use Rattle.pool_machine.specs.Step.{point, with_stage}
use Rattle.pool_machine.proofs.Positions.{stage_of_standing, At≢Claimed, job_made}
use Rattle.pool_machine.proofs.Stages.{get_or-staged_same, get_or-staged_other, child-stage}
use Rattle.interleaving.specs.LiveView.{may_get, phase_seen, job_with, job_seen, live_view}
use Rattle.interleaving.specs.ViewStep.{live_job}
use Rattle.interleaving.proofs.View.{seen, phase_with, job_seen-with, length-view, view_at, jobs_are}

-- ---- one job in the view

abbrev pub as_seen : CreatedJob → Phase → JobView
as_seen job phase = record { class = job.class; parent = job.parent; slot = job.slot; phase = phase }

-- the live view of job n depends only on the job, on the latest job of its submit, and on whether its parent may still get it
pub seen_same : (s s' : State) (n : ℕ) → job_at s' n ≡ job_at s n → may_get s' (job_at s n).parent ≡ may_get s (job_at s n).parent
    → child s' (job_at s n).parent (job_at s n).slot ≡ child s (job_at s n).parent (job_at s n).slot → seen s' n ≡ seen s n
seen_same s s' n same asks latest =
    let job = job_at s n in
    ap (job_seen s' n) same ∙ job_seen-with s' n job ∙ ap₂ (λ b o. job_with job (phase_with b o n job.stage)) asks latest ∙ sym (job_seen-with s n job)

pub seen_at : (s : State) (n : ℕ) (stage : Stage) (phase : Phase) → (job_at s n).stage ≡ stage → phase_seen s n (job_at s n) stage ≡ Some phase → seen s n ≡ Some (as_seen (job_at s n) phase)
seen_at s n stage phase e there = ap (job_with (job_at s n)) (ap (phase_seen s n (job_at s n)) e ∙ there)

-- ---- a change of a stage

pub may_get-staged_other : (s : State) (j : ℕ) (stage : Stage) (a : Parent) → a ≢ parent.Job j → may_get (with_stage j stage s) a ≡ may_get s a
may_get-staged_other s j stage (parent.Client c) other = refl
may_get-staged_other s j stage (parent.Job m) other = ap (λ (job : CreatedJob). is_unfinished job.stage) (get_or-staged_other s.jobs j stage m no_job (λ e. other (ap parent.Job e)))

pub may_get-staged : (s : State) (j : ℕ) (stage : Stage) (a : Parent) → j < length s.jobs → is_unfinished stage ≡ is_unfinished (job_at s j).stage → may_get (with_stage j stage s) a ≡ may_get s a
may_get-staged s j stage (parent.Client c) inside same = refl
may_get-staged s j stage (parent.Job m) inside same =
    ⊎_elim (λ (e : m ≡ j). ap (λ k. is_unfinished (job_at (with_stage j stage s) k).stage) e ∙ ap (λ (job : CreatedJob). is_unfinished job.stage) (get_or-staged_same s.jobs j stage inside) ∙ same ∙ sym (ap (λ k. is_unfinished (job_at s k).stage) e))
    (λ (other : m ≢ j). ap (λ (job : CreatedJob). is_unfinished job.stage) (get_or-staged_other s.jobs j stage m no_job other))
    (cases_eq m j)

-- if job j changes its stage, but not whether it is unfinished, then only job j changes in the view
pub jobs-staged : (plan : Plan) (s : State) (j : ℕ) (stage : Stage) (there : Option JobView) → j < length s.jobs → is_unfinished stage ≡ is_unfinished (job_at s j).stage → seen (with_stage j stage s) j ≡ there
    → (live_view plan (with_stage j stage s)).jobs ≡ set (live_view plan s).jobs j there
jobs-staged plan s j stage there inside same here =
    let s' = with_stage j stage s in
    let jobs = (live_view plan s).jobs in
    let long = length-view plan s in
    let set_long = length-set jobs j there in
    let made_long = length-set s.jobs j (record (job_at s j) { stage = stage }) in
    jobs_are plan s' (set jobs j there) (omega arith)
    (λ n within. ⊎_elim (λ (e : n ≡ j). ap (seen s') e ∙ here ∙ sym (ap (live_job (set jobs j there)) e ∙ get_or-set_same jobs j there None (omega arith)))
    (λ (other : n ≢ j). seen_same s s' n (get_or-staged_other s.jobs j stage n no_job other) (may_get-staged s j stage (job_at s n).parent inside same) (child-stage s.jobs (job_at s n).parent (job_at s n).slot j stage)
    ∙ sym (get_or-set_other jobs j n there None other ∙ view_at plan s n))
    (cases_eq n j))

-- ---- an actor moves

pub job_standing : (plan : Plan) (s : State) (j : ℕ) (body : List Action) (i : ℕ) → point plan s (parent.Job j) ≡ Some (record { body = body; position = i }) → (j < length s.jobs) × ((job_at s j).stage ≡ At i)
job_standing plan s j body i e =
    let stands = (stage_of_standing plan (job_at s j).class (job_at s j).stage body i e).0 in
    (job_made s j (At≢Claimed stands), stands)

pub standing_asks : (plan : Plan) (s : State) (a : Parent) (body : List Action) (i : ℕ) → point plan s a ≡ Some (record { body = body; position = i }) → may_get s a ≡ true
standing_asks plan s (parent.Client c) body i e = refl
standing_asks plan s (parent.Job j) body i e = ap is_unfinished (job_standing plan s j body i e).1
