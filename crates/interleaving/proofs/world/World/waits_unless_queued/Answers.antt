use Rattle.std.proofs.Common.{ℕ, List, get_or, slice_get, sym, ap, ◌∙◌}
use Rattle.job_bodies.specs.Plan.{Class, no_class}
use Rattle.job_bodies.specs.declared.action.Action.{Action}
use Rattle.pool_machine.specs.declared.parent.Parent.TheVariants.{Job}
use Rattle.interleaving.specs.World.{WorldValue}
use Rattle.interleaving.specs.ViewStep.{live_job}
use Rattle.interleaving.specs.Waiting.{waits_at_in}
use Rattle.interleaving.specs.Stuck.{waits_unless_queued, job_waits_unless_queued}
use Rattle.interleaving.proofs.world.World.waits_unless_queued.Goals as goal

pub returns-in_default : goal.returns-in_default
returns-in_default c =
    let seen = c.get.ensures ∙ ap (λ (w : WorldValue). live_job w.view.jobs c.args.number) c.self.view_is in
    ap (job_waits_unless_queued c.args.plan.now c.args.self.now.view c.args.members.now c.args.number) (sym c.in_default.is ∙ seen)

pub returns-in-Queued : goal.returns-in-Queued
returns-in-Queued c =
    let seen = c.get.ensures ∙ ap (λ (w : WorldValue). live_job w.view.jobs c.args.number) c.self.view_is in
    ap (waits_unless_queued c.args.plan.now c.args.self.now.view c.args.members.now c.args.number c.in-Some.job.class) (sym c.in-Queued.is)
    ∙ ap (job_waits_unless_queued c.args.plan.now c.args.self.now.view c.args.members.now c.args.number) (sym c.in-Some.is ∙ seen)

pub returns-in-At : goal.returns-in-At
returns-in-At c =
    let view = c.args.self.now.view in
    let members : List ℕ = c.args.members.now in
    let seen = c.get.ensures ∙ ap (λ (w : WorldValue). live_job w.view.jobs c.args.number) c.self.view_is in
    let body = c.body_of_class-body.ensures ∙ ap (λ (cs : List Class). (get_or cs c.in-Some.job.class no_class).body) c.classes.ensures.value in
    c.waits_at.ensures
    ∙ ap (λ (actions : List Action). waits_at_in view members (Job c.args.number) (slice_get actions c.in-At.position)) body
    ∙ ap (waits_unless_queued c.args.plan.now view members c.args.number c.in-Some.job.class) (sym c.in-At.is)
    ∙ ap (job_waits_unless_queued c.args.plan.now view members c.args.number) (sym c.in-Some.is ∙ seen)

pub returns-in-Done : goal.returns-in-Done
returns-in-Done c =
    let seen = c.get.ensures ∙ ap (λ (w : WorldValue). live_job w.view.jobs c.args.number) c.self.view_is in
    ap (waits_unless_queued c.args.plan.now c.args.self.now.view c.args.members.now c.args.number c.in-Some.job.class) (sym c.in-Done.is)
    ∙ ap (job_waits_unless_queued c.args.plan.now c.args.self.now.view c.args.members.now c.args.number) (sym c.in-Some.is ∙ seen)
