-- A live job that is done is the latest job that its creator created at its position.
use Rattle.std.proofs.Common.{◌≡◌, ℕ, ◌&&◌, Bool, true, false, if◌then◌else◌, Option, Some, None, refl, sym, ap, subst, ◌∙◌}
use Rattle.std.proofs.lemmas.Bool.{and_parts, eqb-true}
use Rattle.std.proofs.lemmas.Option.{same_Some}
use Rattle.job_bodies.specs.Plan.{Plan}
use Rattle.pool_machine.specs.declared.parent.Parent.{Parent}
use Rattle.pool_machine.specs.State.{Stage, CreatedJob, State, job_at, is_made_by, child}
use Rattle.pool_machine.specs.State.Stage.{Queued, At, Done, Claimed}
use Rattle.pool_machine.proofs.Children.{maker_of}
use Rattle.interleaving.specs.declared.job_view.Phase.{Phase}
use Rattle.interleaving.specs.declared.job_view.Phase.TheVariants as phase
use Rattle.interleaving.specs.declared.job_view.JobView.{JobView}
use Rattle.interleaving.specs.LiveView.{may_get, is_number, phase_seen, job_with, View, live_view}
use Rattle.interleaving.specs.ViewStep.{is_live_child, is_done}
use Rattle.interleaving.proofs.View.{view_at}
use Rattle.interleaving.proofs.Children.{live_child_is}
use Rattle.interleaving.specs.LiveJobs.{DoneAreLatest}
use Rattle.interleaving.specs.OfPlan.{IsReachableView}

number_is : (o : Option ℕ) (k : ℕ) → is_number o k ≡ true → o ≡ Some k
number_is None k e = absurd cc
number_is (Some i) k e = ap Some (eqb-true i k e)

done_if : (made : CreatedJob) (b : Bool) (job : JobView) → job_with made (if b then Some phase.Done else None) ≡ Some job → b ≡ true
done_if made true job e = refl
done_if made false job e = absurd cc

not_done : (made : CreatedJob) (phase : Phase) (job : JobView) → job_with made (Some phase) ≡ Some job → is_done phase ≡ false → is_done job.phase ≡ true → ⊥
not_done made phase job e going done =
    let same : phase ≡ job.phase = ap (λ (x : JobView). x.phase) (same_Some _ job e) in
    let f : false ≡ true = sym going ∙ ap is_done same ∙ done in
    absurd cc

-- the job is the latest of its creator at its position, and has the phase done in the view
record IsSeenDone (s : State) (k : ℕ) (made : CreatedJob) (stage : Stage) : Type 0 where
  latest : child s made.parent made.slot ≡ Some k
  seen : phase_seen s k made stage ≡ Some phase.Done

seen_done : (s : State) (k : ℕ) (made : CreatedJob) (stage : Stage) (job : JobView) → job_with made (phase_seen s k made stage) ≡ Some job → is_done job.phase ≡ true → IsSeenDone s k made stage
seen_done s k made Queued job e done = absurd (not_done made phase.Queued job e refl done)
seen_done s k made (At i) job e done = absurd (not_done made (phase.At i) job e refl done)
seen_done s k made Done job e done =
    let asks = done_if made (may_get s made.parent && is_number (child s made.parent made.slot) k) job e in
    record {
      latest = number_is (child s made.parent made.slot) k (and_parts (may_get s made.parent) (is_number (child s made.parent made.slot) k) asks).1;
      seen = ap (λ b. if b then Some phase.Done else None) asks;
    }
seen_done s k made Claimed job e done = absurd cc

live_made : (a : Parent) (t : ℕ) (made : CreatedJob) (o : Option Phase) (job : JobView) → job_with made o ≡ Some job → is_live_child a t (Some job) ≡ true → is_made_by a t made ≡ true
live_made a t made None job e live = absurd cc
live_made a t made (Some phase) job e live = ap (is_live_child a t) e ∙ live

done_in_state : (plan : Plan) (s : State) → DoneAreLatest (live_view plan s).jobs
done_in_state plan s a t k job e live done =
    let made = job_at s k in
    let seen : job_with made (phase_seen s k made made.stage) ≡ Some job = sym (view_at plan s k) ∙ e in
    let is_seen = seen_done s k made made.stage job seen done in
    let maker = maker_of made a t (live_made a t made (phase_seen s k made made.stage) job seen live) in
    let latest : child s a t ≡ Some k = ap (λ b. child s b t) maker.0 ∙ ap (child s made.parent) maker.1 ∙ is_seen.latest in
    live_child_is plan s a t k phase.Done latest is_seen.seen

pub done_are_latest : (plan : Plan) (view : View) → IsReachableView plan view → DoneAreLatest view.jobs
done_are_latest plan view of = subst (λ (v : View). DoneAreLatest v.jobs) of.2 (done_in_state plan of.0)
