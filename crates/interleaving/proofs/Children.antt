-- If an actor may still get its jobs, its latest job in the state is its latest job in the view.
use Rattle.std.proofs.Common.{◌≡◌, ◌≢◌, ℕ, ◌<◌, Bool, true, false, ◌&&◌, ◌==◌, if◌then◌else◌, length, Option, Some, None, refl, sym, ap, ap₂, ◌∙◌, arith}
use Rattle.std.proofs.lemmas.Bool.{and_from, eq-eqb}
use Rattle.std.proofs.lemmas.List.{get_or_default}
use Rattle.support.proofs.LastPlace.{IsLast, last_where_is, last_where_from}
use Rattle.job_bodies.specs.Plan.{Plan}
use Rattle.pool_machine.specs.declared.parent.Parent.{Parent}
use Rattle.interleaving.specs.declared.job_view.Phase.{Phase}
use Rattle.interleaving.specs.declared.job_view.Phase.TheVariants as phase
use Rattle.pool_machine.specs.State.{Stage, CreatedJob, State, no_job, job_at, same_parent, is_made_by, child}
use Rattle.pool_machine.specs.State.Stage.{Queued, At, Done, Claimed}
use Rattle.pool_machine.proofs.Children.{same_actor_refl, maker_of}
use Rattle.interleaving.specs.LiveView.{may_get, is_number, phase_seen, job_with, live_view}
use Rattle.interleaving.specs.ViewStep.{live_job, is_live_child, live_child}
use Rattle.interleaving.proofs.View.{seen, length-view, view_at}
use Rattle.interleaving.proofs.Changes.{as_seen, seen_at}

-- ---- the creator of a job

pub made_by_itself : (job : CreatedJob) → is_made_by job.parent job.slot job ≡ true
made_by_itself job = and_from (same_parent job.parent job.parent) (job.slot == job.slot) (same_actor_refl job.parent) (eq-eqb job.slot job.slot refl)

-- the latest job of an actor at a position was created by this actor there, and no later job was
pub latest : (s : State) (a : Parent) (t j : ℕ) → child s a t ≡ Some j → IsLast (is_made_by a t) s.jobs j
latest s a t j e = last_where_is (is_made_by a t) s.jobs j e

-- ---- live children

not_child_with : (a : Parent) (t : ℕ) (job : CreatedJob) (o : Option Phase) → is_made_by a t job ≡ false → is_live_child a t (job_with job o) ≡ false
not_child_with a t job None none = refl
not_child_with a t job (Some phase) none = none

-- the latest job of an actor at a position, if it is live, is also the actor's latest job there in the view
pub live_child_is : (plan : Plan) (s : State) (a : Parent) (t j : ℕ) (phase : Phase) → child s a t ≡ Some j → phase_seen s j (job_at s j) (job_at s j).stage ≡ Some phase → live_child (live_view plan s).jobs a t ≡ Some j
live_child_is plan s a t j phase e live =
    let last = latest s a t j e in
    let jobs = (live_view plan s).jobs in
    let test = is_live_child a t in
    let long = length-view plan s in
    let inside : j < length jobs = omega (arith, last.inside) in
    let there : test (live_job jobs j) ≡ true = ap test (view_at plan s j ∙ ap (job_with (job_at s j)) live) ∙ last.passes no_job in
    last_where_from test jobs j (record {
      inside = inside;
      passes = λ d. ap test (get_or_default jobs j d None inside) ∙ there;
      none_later = λ k d later within. ap test (get_or_default jobs k d None within ∙ view_at plan s k)
          ∙ not_child_with a t (job_at s k) (phase_seen s k (job_at s k) (job_at s k).stage) (last.none_later k no_job later (omega arith));
    })

if_true : (b : Bool) (phase : Phase) → b ≡ true → ◌≡◌ {A = Option Phase} (if b then Some phase else None) (Some phase)
if_true b phase e = ap (λ c. if c then Some phase else None) e

pub live_if_done : (s : State) (j : ℕ) (job : CreatedJob) → may_get s job.parent ≡ true → child s job.parent job.slot ≡ Some j → phase_seen s j job Done ≡ Some phase.Done
live_if_done s j job asks e =
    let answers = and_from (may_get s job.parent) (is_number (child s job.parent job.slot) j) asks (ap (λ o. is_number o j) e ∙ eq-eqb j j refl) in
    if_true (may_get s job.parent && is_number (child s job.parent job.slot) j) phase.Done answers

-- if the parent of the latest job of a submit may still get it, the job is live unless it is claimed
is_live : (s : State) (j : ℕ) (job : CreatedJob) (stage : Stage) → may_get s job.parent ≡ true → child s job.parent job.slot ≡ Some j → stage ≢ Claimed → (phase : Phase) × (phase_seen s j job stage ≡ Some phase)
is_live s j job Queued asks e unclaimed = (phase.Queued, refl)
is_live s j job (At i) asks e unclaimed = (phase.At i, refl)
is_live s j job Done asks e unclaimed = (phase.Done, live_if_done s j job asks e)
is_live s j job Claimed asks e unclaimed = absurd (unclaimed refl)

pub child_live : (s : State) (a : Parent) (t j : ℕ) → may_get s a ≡ true → child s a t ≡ Some j → (job_at s j).stage ≢ Claimed → (phase : Phase) × (phase_seen s j (job_at s j) (job_at s j).stage ≡ Some phase)
child_live s a t j asks e unclaimed =
    let job = job_at s j in
    let made = maker_of job a t ((latest s a t j e).passes no_job) in
    is_live s j job job.stage (ap (may_get s) (sym made.0) ∙ asks) (ap₂ (child s) (sym made.0) (sym made.1) ∙ e) unclaimed

pub child_seen : (plan : Plan) (s : State) (a : Parent) (t j : ℕ) → may_get s a ≡ true → child s a t ≡ Some j → (job_at s j).stage ≢ Claimed → live_child (live_view plan s).jobs a t ≡ Some j
child_seen plan s a t j asks e unclaimed =
    let live = child_live s a t j asks e unclaimed in
    live_child_is plan s a t j live.0 e live.1

-- if the latest job of a submit is done and its parent may still get it, its phase in the view is done
pub done_seen : (s : State) (a : Parent) (t j : ℕ) → may_get s a ≡ true → child s a t ≡ Some j → (job_at s j).stage ≡ Done → seen s j ≡ Some (as_seen (job_at s j) phase.Done)
done_seen s a t j asks e done =
    let job = job_at s j in
    let made = maker_of job a t ((latest s a t j e).passes no_job) in
    seen_at s j Done phase.Done done (live_if_done s j job (ap (may_get s) (sym made.0) ∙ asks) (ap₂ (child s) (sym made.0) (sym made.1) ∙ e))
