use Rattle.std.proofs.Common.{rules}
use Rattle.std.proofs.lemmas.Result.{IfOk-weaker}
use Rattle.size_search.specs.Causes.{IsWithoutCause}
use Rattle.size_search.specs.Causes.{IsCause}
use Rattle.size_search.proofs.Caused.{beyond}
use Rattle.size_search.proofs.Deciding.{decided_without_cause}
use Rattle.size_search.proofs.search.search_without_first.Goals as goal

pub returns-in-Some-clause-decided : goal.returns-in-Some-clause-decided
returns-in-Some-clause-decided c =
    let holds : IsCause c.args.plan.now c.in-Some.cause = search rules in
    beyond c.args.plan.now c.in-Some.cause holds

pub returns-clause-decided : goal.returns-clause-decided
returns-clause-decided c =
    let free : IsWithoutCause c.args.plan.now = search rules in
    IfOk-weaker c.sizes_without_cause.result _ _ (λ found is. decided_without_cause c.args.plan.now found free is) c.sizes_without_cause.ensures
