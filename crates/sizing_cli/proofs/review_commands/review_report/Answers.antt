use Rattle.std.proofs.Common.{◌≡◌, IfOk, sym, subst}
use Rattle.sizing_cli.specs.Answer.{Answer}
use Rattle.sizing_cli.specs.Report.{answer_of}
use Rattle.sizing_cli.proofs.review_commands.review_report.Goals as goal

pub returns-in-Ok : goal.returns-in-Ok
returns-in-Ok c =
    let OfAnswer : Answer → Type 0 = λ whole. IfOk c.answer_of.result (λ answer. answer ≡ whole) in
    subst OfAnswer (sym (c.in-Ok.ensures.input (answer_of c.args.review))) c.answer_of.ensures
