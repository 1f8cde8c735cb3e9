use Rattle.std.proofs.Common.{List, take, subst}
use Rattle.std.proofs.lemmas.List.{take_all}
use Rattle.pool_machine.specs.declared.event.Event.{Event}
use Rattle.counterexample.specs.ReplayResult.{ComesTo}
use Rattle.counterexample.proofs.EventReplays.{comes_to_start, goes_on, refuses, stops}
use Rattle.counterexample.proofs.replaying.replay.Goals as goal

pub loop-index-init : goal.loop-index-init
loop-index-init c = comes_to_start c.args.plan.now c.args.world.now.view c.requires

pub step-requires : goal.step-requires
step-requires c = let held = c.loop-index.invariant in (held.state, (take c.loop-index.index c.args.events.now, held.reaches), held.seen)

pub loop-index-preserved : goal.loop-index-preserved
loop-index-preserved c =
    goes_on c.args.plan.now c.args.events.now c.loop-index.index c.loop-index.world.view c.step.new.self.view c.in-Some.outcome c.loop-index.invariant c.loop-index-test.true (rw c.in-Some.is at c.in_ok-outcome.ensures.answered) c.in_default-outcome.not-Refused

pub returns-in_default : goal.returns-in_default
returns-in_default c =
    stops c.args.plan.now c.args.events.now c.loop-index.index c.loop-index.world.view c.step.new.self.view c.loop-index.invariant c.loop-index-test.true (rw c.in_default.is at c.in_ok-outcome.ensures.answered)

pub returns-in-Refused : goal.returns-in-Refused
returns-in-Refused c =
    refuses c.args.plan.now c.args.events.now c.loop-index.index c.loop-index.world.view c.step.new.self.view c.in-Refused.pool c.loop-index.invariant c.loop-index-test.true
    (rw (c.in-Some.is, c.in-Refused.is) at c.in_ok-outcome.ensures.answered)

pub returns : goal.returns
returns c = subst (λ (list : List Event). ComesTo c.args.plan.now list c.loop-index.world.view) (take_all c.loop-index.index c.args.events.now c.loop-index-test.false) c.loop-index.invariant
