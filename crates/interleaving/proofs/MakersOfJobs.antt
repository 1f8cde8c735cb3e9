-- No job is its own creator.
use Rattle.std.proofs.Common.{◌≡◌, Option, Some, None, sym, ap, subst, ◌∙◌, arith}
use Rattle.std.proofs.lemmas.Option.{same_Some}
use Rattle.job_bodies.specs.Plan.{Plan}
use Rattle.job_bodies.specs.WellFormed.{IsWellFormed}
use Rattle.pool_machine.specs.declared.parent.Parent.{Parent}
use Rattle.pool_machine.specs.State.{CreatedJob, State, job_at}
use Rattle.pool_machine.specs.Reach.{IsReached}
use Rattle.interleaving.specs.declared.job_view.Phase.{Phase}
use Rattle.interleaving.specs.declared.job_view.JobView.{JobView}
use Rattle.interleaving.specs.LiveView.{phase_seen, job_with, View, live_view, job_seen}
use Rattle.interleaving.proofs.View.{view_at}
use Rattle.interleaving.specs.OfPlan.{IsReachableView, MadeByOther}
use Rattle.interleaving.proofs.OfPlan.{made_if_seen}
use Rattle.pool_machine.specs.declared.parent.Parent.TheVariants as parent
use Rattle.pool_machine.specs.Laws.{HasGreaterNumber}
use Rattle.pool_machine.proofs.Reached.{kept}

parent_of_seen : (made : CreatedJob) (phase : Option Phase) (job : JobView) → job_with made phase ≡ Some job → job.parent ≡ made.parent
parent_of_seen made None job e = absurd cc
parent_of_seen made (Some phase) job e = ap (λ (x : JobView). x.parent) (sym (same_Some _ job e))

other_in_state : (plan : Plan) (s : State) (a : Parent) → IsReached plan s → IsWellFormed plan → MadeByOther (live_view plan s).jobs a
other_in_state plan s (parent.Client c) reached w = tt
other_in_state plan s (parent.Job j) reached w = λ job found same.
    let made = job_at s j in
    let seen : job_seen s j made ≡ Some job = sym (view_at plan s j) ∙ found in
    let maker : made.parent ≡ parent.Job j = sym (parent_of_seen made (phase_seen s j made made.stage) job seen) ∙ same in
    let later = subst (λ a. HasGreaterNumber a j) maker ((kept plan s w reached).parents j (made_if_seen s j job seen)) in
    absurd (omega (arith, later))

-- no job is its own creator
pub made_by_other : (plan : Plan) (view : View) (a : Parent) → IsReachableView plan view → IsWellFormed plan → MadeByOther view.jobs a
made_by_other plan view a of w = subst (λ (v : View). MadeByOther v.jobs a) of.2 (other_in_state plan of.0 a of.1 w)
