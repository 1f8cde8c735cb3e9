use Rattle.std.proofs.Common.{◌≤◌, length, arith}
use Rattle.conformance.specs.Lines.{with_form}
use Rattle.conformance.proofs.FormLines.{with_form_few}
use Rattle.conformance.proofs.well_formed_lines.WellFormedLines.new.Goals as goal

pub returns-clause-few : goal.returns-clause-few
returns-clause-few c =
    let few : length (with_form c.new.result) ≤ length c.new.result = with_form_few c.new.result in
    omega (arith, few, c.new.ensures.few)
