use Rattle.std.proofs.Common.{not, Option, is_some, ap, ◌∙◌}
use Rattle.weights.specs.declared.row.Row.{Row}
use Rattle.weights.specs.Standing.{standing_rows}
use Rattle.cert_check.proofs.Standing.{none_first, none_found}
use Rattle.cert_check.proofs.acceptance.all_rows_hold.Goals as goal

pub returns : goal.returns
returns c =
    none_found c.standing_fault.result c.is_none.result c.is_none.ensures
    ∙ (ap (λ (found : Option Row). not (is_some found)) c.standing_fault.ensures
    ∙ none_first (standing_rows c.args.plan.now c.args.pool c.args.vector.now))
