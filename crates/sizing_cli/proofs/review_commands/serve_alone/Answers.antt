use Rattle.std.proofs.Common.{◌∙◌, ℕ, List, ap, arith}
use Rattle.command_line.specs.declared.command.Command.TheVariants.{Sequential}
use Rattle.sizing_cli.proofs.ReadParts.{serves_whole}
use Rattle.sizing_cli.proofs.ServedAnswers.{serves_written}
use Rattle.sizing_cli.specs.Report.{report}
use Rattle.sizing_cli.proofs.review_commands.serve_alone.Goals as goal

pub returns : goal.returns
returns g c = λ file.
    let read = c.in_ok-input.ensures in
    let wrote = c.write_output.ensures in
    let is = c.of-output.ensures ∙ (c.in_ok-review_report.ensures ∙ ap (λ (text : List ℕ). report c.args.review text) c.deref.ensures.value) in
    serves_whole (Sequential c.args.review) file c.in_ok-input.input.items _ _ _ read.front read.at_most (omega (arith, read.failed))
    (serves_written (Sequential c.args.review) file c.in_ok-input.input.items c.of-output.result _ _ is wrote.status wrote.written wrote.number wrote.prefix wrote.failed)
