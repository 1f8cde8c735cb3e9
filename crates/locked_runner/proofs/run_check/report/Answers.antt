use Rattle.std.proofs.Common.{◌∙◌, ap}
use Rattle.interleaving.specs.LiveView.{View}
use Rattle.locked_runner.specs.Report.{ThreadResults, RunReport}
use Rattle.locked_runner.proofs.run_check.report.Goals as goal

pub returns : goal.returns
returns c =
    let none = c.refusals-refused.ensures ∙ (ap (λ (v : View). v.refusals) c.world.ensures ∙ c.reached_worlds_refuse_nothing.ensures c.args.results.history c.requires) in
    let reported : ThreadResults → RunReport = λ results. record { jobs = c.args.numbers.jobs; units = c.args.numbers.units; refused = 0; history = results.history; receipts = results.receipts } in
    rw (none) (ap reported c.results.view_is)
