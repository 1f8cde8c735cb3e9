use Rattle.std.proofs.Common.{rules, sym, ◌∙◌}
use Rattle.conformance.proofs.PlannedSizes.{none_if_planned}
use Rattle.conformance.proofs.sizes.differences.Goals as goal

pub returns-clause-exact : goal.returns-clause-exact
returns-clause-exact c = search rules

pub returns-clause-none : goal.returns-clause-none
returns-clause-none c =
    let same = returns-clause-exact c in
    let either = none_if_planned c.args.is_first c.args.sizes.now c.args.pool.now in
    (λ none. either.0 (sym same ∙ none), λ planned. same ∙ either.1 planned)
