use Rattle.sizing_cli.proofs.AsDeclared.{as_declared}
use Rattle.sizing_cli.proofs.fit.sizes_of.Goals as goal

pub returns-clause-unchanged : goal.returns-clause-unchanged
returns-clause-unchanged g c =
    as_declared c.args.plan.now c.in_ok-first.first c.in_ok-search_sizes.field-0 c.in_ok-first.ensures.accepted c.in_ok-first.ensures.steady c.in_ok-search_sizes.ensures.unchanged
