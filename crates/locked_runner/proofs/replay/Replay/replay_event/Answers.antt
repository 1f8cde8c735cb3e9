use Rattle.std.proofs.Common.{◌≡◌, ◌∙◌, Option, sym, subst}
use Rattle.pool_machine.specs.declared.event.Outcome.{Outcome}
use Rattle.pool_machine.specs.State.{State}
use Rattle.pool_machine.specs.Reach.{IsReached}
use Rattle.interleaving.specs.LiveView.{live_view}
use Rattle.interleaving.specs.ViewAnswers.{AnswersAs}
use Rattle.locked_runner.proofs.Replays.{goes_on, stays}
use Rattle.locked_runner.proofs.replay.Replay.replay_event.Goals as goal

pub returns-in_default-clause-made : goal.returns-in_default-clause-made
returns-in_default-clause-made c = λ history replayed.
    let plan = c.args.plan.now in
    let old = c.args.self.now in
    stays plan history old.world c.step.new.self old.pools.items c.reserve.new.self.items old.units c.args.event c.reserve.ensures.items replayed
    (subst (λ (x : Option Outcome). (s : State) → IsReached plan s → live_view plan s ≡ old.world → AnswersAs plan s c.args.event x c.step.new.self) c.in_default.is c.in_ok-outcome.ensures.answered)

pub returns-clause-made : goal.returns-clause-made
returns-clause-made c = λ history replayed.
    let plan = c.args.plan.now in
    let old = c.args.self.now in
    rw (c.push_reserved.ensures.items, c.reserve.ensures.items)
    (goes_on plan history old.world c.step.new.self old.pools.items old.units c.with_work-self.result c.args.event c.in-Some.outcome c.pool_of-pool.result replayed
    (subst (λ (x : Option Outcome). (s : State) → IsReached plan s → live_view plan s ≡ old.world → AnswersAs plan s c.args.event x c.step.new.self) c.in-Some.is c.in_ok-outcome.ensures.answered)
    (λ s reached seen possible. c.pool_of-pool.ensures s reached (seen ∙ sym c.world.ensures) possible)
    c.with_work-self.ensures)
