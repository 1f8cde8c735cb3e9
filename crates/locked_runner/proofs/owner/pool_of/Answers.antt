use Rattle.std.proofs.Common.{◌≡◌, ◌≢◌, None, sym, ◌∙◌, subst}
use Rattle.pool_machine.specs.declared.event.Event.{Event}
use Rattle.pool_machine.specs.Step.{step}
use Rattle.locked_runner.specs.Owner.{owner_by, owner_in}
use Rattle.locked_runner.proofs.Owners.{job_is_live, class_exists, owner_of_job}
use Rattle.locked_runner.proofs.owner.pool_of.Goals as goal

pub returns-in-None : goal.returns-in-None
returns-in-None c = λ s reached seen possible.
    absurd (job_is_live c.args.plan.now s c.args.world.now.view c.in-Job.number seen (subst (λ (e : Event). step c.args.plan.now s e ≢ None) c.in-Job.is possible) (sym c.job.ensures ∙ c.in-None.is))

pub returns-in-Some : goal.returns-in-Some
returns-in-Some c = λ s reached seen possible.
    let job = c.in-Some.job in
    let at = sym c.job.ensures ∙ c.in-Some.is in
    let exists = class_exists c.args.plan.now s c.args.world.now.view c.in-Job.number job c.pool_of_class.ensures.well_formed reached seen at in
    subst (λ (e : Event). owner_by e c.pool_of_class.result ≡ owner_in c.args.plan.now s e) (sym c.in-Job.is)
    (owner_of_job c.args.plan.now s c.args.world.now.view c.in-Job.number job c.pool_of_class.result seen at (c.pool_of_class.ensures.exists exists))
