use Rattle.std.proofs.Common.{List, subst, sym}
use Rattle.pool_machine.specs.declared.event.Event.{Event}
use Rattle.report.specs.declared.event_steps.EventStep.{EventStep}
use Rattle.report.proofs.EventLists.{Goes, goes_on, goes_no_further}
use Rattle.report.proofs.event_steps.push_steps.Goals as goal

pub returns-in_default-2 : goal.returns-in_default-2
returns-in_default-2 c =
    goes_no_further c.args.plan.now c.args.events.now c.args.steps.now.items c.args.world.now.view c.in-Some.event.now c.in-Some.rest.now c.loop-event.steps.items c.loop-event.world.view c.perform.new.world.view
    (subst (λ (rest : List Event). Goes c.args.plan.now c.args.events.now c.args.steps.now.items c.args.world.now.view rest c.loop-event.steps.items c.loop-event.world.view) c.in-Some.ensures.cases.0 c.loop-event.invariant)
    (rw c.in_default-2.is at c.in_ok-step.ensures.value)

pub loop-event-preserved : goal.loop-event-preserved
loop-event-preserved c =
    subst (λ (steps : List EventStep). Goes c.args.plan.now c.args.events.now c.args.steps.now.items c.args.world.now.view c.in-Some.rest.now steps c.perform.new.world.view) (sym c.in_ok-push.ensures.items)
    (goes_on c.args.plan.now c.args.events.now c.args.steps.now.items c.args.world.now.view c.in-Some.event.now c.in-Some.rest.now c.loop-event.steps.items c.loop-event.world.view c.perform.new.world.view c.in-Some-2.step
    (subst (λ (rest : List Event). Goes c.args.plan.now c.args.events.now c.args.steps.now.items c.args.world.now.view rest c.loop-event.steps.items c.loop-event.world.view) c.in-Some.ensures.cases.0 c.loop-event.invariant)
    (rw c.in-Some-2.is at c.in_ok-step.ensures.value))
