use Rattle.sizing_cli.proofs.Runs.{run_of_certified}
use Rattle.sizing_cli.proofs.run.run_with.Goals as goal

pub returns-in-Some-clause-answer : goal.returns-in-Some-clause-answer
returns-in-Some-clause-answer g c =
    run_of_certified c.args.plan c.args.cert c.args.rounds c.check.result c.in-Some.certified c.run_certified.result c.in-Some.ensures.value c.check.ensures.holds c.check.ensures.exact.0 c.run_certified.ensures.answer
