use Rattle.std.proofs.Common.{ℕ, Option, sym, ap, subst}
use Rattle.std.specs.Option.{IfNone}
use Rattle.job_bodies.specs.Plan.{Plan}
use Rattle.locked_runner.specs.HeldWorld.{IsReachedBy}
use Rattle.locked_runner.specs.declared.report.RunFault.{RunFault}
use Rattle.locked_runner.specs.Run.{IsLegalPrefix}
use Rattle.locked_runner.proofs.Histories.{empty_prefix}
use Rattle.locked_runner.proofs.run_check.check_run.Goals as goal

pub returns-in_default-clause-events : goal.returns-in_default-clause-events
returns-in_default-clause-events c =
    subst (λ (n : ℕ). IsLegalPrefix c.args.certified.now.plan c.args.results.history n) (sym (ap (λ (fault : RunFault). fault.events) c.at_start.ensures.value)) (empty_prefix c.args.certified.now.plan c.args.results.history)

pub report-requires : goal.report-requires
report-requires c =
    let led = subst (λ (found : Option RunFault). IfNone found (IsReachedBy c.plan-2.result.now c.args.results.history c.in-Ok.replay.world)) c.in-Ok-None.field-0-is c.in-Ok-None.ensures.reached in
    subst (λ (plan : Plan). IsReachedBy plan c.args.results.history c.in-Ok.replay.world) c.plan-2.ensures.plan led
