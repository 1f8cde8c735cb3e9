use Rattle.std.proofs.Common.{◌≡◌, IfOk, sym, subst}
use Rattle.sizing_cli.specs.Answer.{Answer}
use Rattle.sizing_cli.specs.Report.{run}
use Rattle.sizing_cli.proofs.run.run_report.Goals as goal

pub returns-in-Ok-clause-answer : goal.returns-in-Ok-clause-answer
returns-in-Ok-clause-answer g c =
    let OfAnswer : Answer → Type 0 = λ whole. IfOk c.run_plan.result (λ answer. answer ≡ whole) in
    subst OfAnswer (sym (c.in-Ok.ensures.input (run c.args.rounds))) c.run_plan.ensures.answer
