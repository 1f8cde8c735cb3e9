use Rattle.sizing_cli.proofs.ServedAnswers.{serves_written}
use Rattle.sizing_cli.proofs.entry_points.write_answer.Goals as goal

pub returns-clause-serves : goal.returns-clause-serves
returns-clause-serves g c =
    let wrote = c.write_output.ensures in
    serves_written c.args.command c.args.file.now c.args.input.items c.in_ok-output.output _ _ c.in_ok-output.ensures.answer wrote.status wrote.written wrote.number wrote.prefix wrote.failed
