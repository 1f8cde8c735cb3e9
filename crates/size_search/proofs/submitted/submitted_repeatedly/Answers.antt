use Rattle.std.proofs.lemmas.Result.{IfOk-weaker}
use Rattle.size_search.proofs.JobGraphs.{marks_repeated}
use Rattle.size_search.proofs.submitted.submitted_repeatedly.Goals as goal

pub returns : goal.returns
returns c = IfOk-weaker c.submitted_classes.result _ _ (λ marks. marks_repeated c.args.plan.now marks.items) c.submitted_classes.ensures
