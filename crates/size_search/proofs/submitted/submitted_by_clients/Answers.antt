use Rattle.std.proofs.lemmas.Result.{IfOk-weaker}
use Rattle.size_search.proofs.JobGraphs.{marks_submitted}
use Rattle.size_search.proofs.submitted.submitted_by_clients.Goals as goal

pub returns : goal.returns
returns c = IfOk-weaker c.submitted_classes.result _ _ (λ marks. marks_submitted c.args.plan.now marks.items) c.submitted_classes.ensures
