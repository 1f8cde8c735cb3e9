use Rattle.std.proofs.Common.{◌≡◌, Option, subst}
use Rattle.pool_machine.specs.declared.event.Outcome.{Outcome}
use Rattle.pool_machine.specs.State.{State}
use Rattle.pool_machine.specs.Reach as reach
use Rattle.interleaving.specs.LiveView.{live_view}
use Rattle.interleaving.specs.ViewAnswers.{AnswersAs}
use Rattle.locked_runner.proofs.Traces.{seen_of, made, not_made}
use Rattle.locked_runner.proofs.certified_world.CertifiedWorldMachine.step.Goals as goal

pub step-requires : goal.step-requires
step-requires c = rw (c.plan.ensures.plan) (seen_of c.args.self.now.certified.now.plan c.args.state.now c.requires)

pub returns-in_default-clause-answered : goal.returns-in_default-clause-answered
returns-in_default-clause-answered c =
    let plan = c.args.self.now.certified.now.plan in
    let answered : (s : State) → reach.IsReached plan s → live_view plan s ≡ c.args.state.now.world → AnswersAs plan s c.args.event c.in_ok-outcome.field-0 c.step.new.self = rw (← c.plan.ensures.plan) c.in_ok-outcome.ensures.answered in
    not_made plan c.args.state.now c.args.event c.step.new.self
    (subst (λ (x : Option Outcome). (s : State) → reach.IsReached plan s → live_view plan s ≡ c.args.state.now.world → AnswersAs plan s c.args.event x c.step.new.self) c.in_default.is answered)

pub returns-clause-answered : goal.returns-clause-answered
returns-clause-answered c =
    let plan = c.args.self.now.certified.now.plan in
    let answered : (s : State) → reach.IsReached plan s → live_view plan s ≡ c.args.state.now.world → AnswersAs plan s c.args.event c.in_ok-outcome.field-0 c.step.new.self = rw (← c.plan.ensures.plan) c.in_ok-outcome.ensures.answered in
    made plan c.args.state.now c.args.event c.in-Some.outcome c.step.new.self
    (subst (λ (x : Option Outcome). (s : State) → reach.IsReached plan s → live_view plan s ≡ c.args.state.now.world → AnswersAs plan s c.args.event x c.step.new.self) c.in-Some.is answered)
