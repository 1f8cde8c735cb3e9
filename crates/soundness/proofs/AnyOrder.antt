-- An actor can get alike jobs in any order: after an exchange of two alike jobs its get finds the other one.
use Rattle.std.proofs.Common.{◌≡◌, Bool, cond, [], ◌∷◌, Some, None, refl, ap, ◌∙◌}
use Rattle.job_bodies.specs.Plan.{Plan}
use Rattle.pool_machine.specs.declared.parent.Parent.{Parent}
use Rattle.pool_machine.specs.declared.parent.Parent.TheVariants as parent
use Rattle.pool_machine.specs.State.{State}
use Rattle.pool_machine.specs.Step.{point, got, got_child, step_action, step_at_point, step}
use Rattle.soundness.specs.Execute.{JavaState, submission_at, submission_of, submission, as_atomic, other_step, java_stepped}
use Rattle.soundness.specs.Exchange.{after_exchange}
use Rattle.soundness.specs.Skipping.{choices_replay, event_of_actor, AlikeJobsAreGotInAnyOrder}
use Rattle.soundness.specs.Skipping.Choice.{Acts}
use Rattle.soundness.proofs.ExchangedJobs.{stage-exchanged, point-exchanged, exchanges_swap_two_gets}

-- the submit of an actor's event is the submit at the actor's position
submission_of_actor : (plan : Plan) (s : State) (a : Parent) → submission plan s (event_of_actor a) ≡ submission_of a (point plan s a)
submission_of_actor plan s (parent.Client c) = refl
submission_of_actor plan s (parent.Job j) = refl

step_of_actor : (plan : Plan) (s : State) (a : Parent) → step plan s (event_of_actor a) ≡ step_at_point plan s a (point plan s a)
step_of_actor plan s (parent.Client c) = refl
step_of_actor plan s (parent.Job j) = refl

-- the event of an actor that is at no submit is the event of the machine
pub acts_alone : (plan : Plan) (s : JavaState) (a : Parent) → other_step plan s (event_of_actor a) ≡ as_atomic s (step plan s.machine (event_of_actor a))
acts_alone plan s (parent.Client c) = refl
acts_alone plan s (parent.Job j) = refl

-- the law that an actor can get alike jobs in any order: after the exchange its get finds the job that is done
pub alike_jobs_are_got_in_any_order : AlikeJobsAreGotInAnyOrder
alike_jobs_are_got_in_any_order plan s a body i t u j stands is_get alike is_child done =
    let machine : State = after_exchange a t u s.machine in
    let after : JavaState = record s { machine = machine } in
    let standing = point-exchanged plan s.machine a t u a ∙ stands in
    let no_submit : submission plan machine (event_of_actor a) ≡ None = submission_of_actor plan machine a ∙ ap (submission_of a) standing ∙ ap (submission_at a i) is_get in
    let finds = (exchanges_swap_two_gets s.machine a t u).first ∙ is_child in
    let gets =
    step_of_actor plan machine a
    ∙ ap (step_at_point plan machine a) standing
    ∙ ap (step_action plan machine a i) is_get
    ∙ ap (got_child machine a i) finds
    ∙ ap (got machine a i j) (stage-exchanged s.machine a t u j ∙ done) in
    ap (λ (both : Bool). choices_replay plan (cond both (Some after) None) (Acts (event_of_actor a) ∷ [])) alike
    ∙ ap (java_stepped plan after (event_of_actor a)) no_submit
    ∙ acts_alone plan after a
    ∙ ap (as_atomic after) gets
