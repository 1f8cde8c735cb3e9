use Rattle.std.proofs.Common.{rules}
use Rattle.size_search.specs.Widened.{NoneFitsWide}
use Rattle.size_search.proofs.Deciding.{too_high_where_not_wide}
use Rattle.size_search.proofs.fit_steady.least_steady_sizes.Goals as goal

pub returns-in-Err-clause-none : goal.returns-in-Err-clause-none
returns-in-Err-clause-none c =
    let plan = c.args.plan.now in
    let none : NoneFitsWide plan c.args.cert.now = search rules in
    too_high_where_not_wide plan c.args.cert.now c.requires.well_formed c.requires.steady_plan c.requires.small c.requires.steady none
