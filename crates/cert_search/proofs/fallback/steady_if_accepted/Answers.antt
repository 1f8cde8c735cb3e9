use Rattle.std.proofs.Common.{rules}
use Rattle.size_search.specs.Steady.{steady_cert}
use Rattle.size_search.specs.Causes.{IsCause}
use Rattle.size_search.proofs.Caused.{refused_where_caused}
use Rattle.cert_search.proofs.fallback.steady_if_accepted.Goals as goal

pub returns-in-Some-clause-none : goal.returns-in-Some-clause-none
returns-in-Some-clause-none c =
    let plan = c.args.plan.now in
    let holds : IsCause plan c.in-Some._cause = search rules in
    refused_where_caused plan c.in-Some._cause (steady_cert plan) c.cause_of.ensures.well_formed holds
