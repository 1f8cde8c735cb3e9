use Rattle.std.proofs.Common.{◌∙◌}
use Rattle.conformance.specs.declared.reported.PoolDifference.{PoolDifference}
use Rattle.conformance.proofs.SameDifferences.{same_element, reported_more}
use Rattle.conformance.proofs.reported.ReportedDifferences.insert.Goals as goal

pub returns : goal.returns
returns c = λ one other.
    let key : PoolDifference = record { pool = one; difference = other } in
    c.in_ok-insert.ensures.updates.0 key ∙ reported_more _ _ _ (same_element c.args.pool one c.args.difference other)
