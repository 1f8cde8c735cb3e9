use Rattle.std.proofs.Common.{rules}
use Rattle.size_search.specs.Sized.{IsSized}
use Rattle.size_search.proofs.Deciding.{decided_where_sized}
use Rattle.size_search.proofs.search.search_sizes.Goals as goal

pub returns-then-accepts-clause-decided : goal.returns-then-accepts-clause-decided
returns-then-accepts-clause-decided c =
    let plan = c.args.plan.now in
    let sized : IsSized plan c.in-Some.cert plan = search rules in
    decided_where_sized plan plan c.in-Some.cert sized
