use Rattle.std.proofs.Common.{false, refl}
use Rattle.conformance.specs.declared.pool_comparison.PoolComparison.{PoolComparison}
use Rattle.conformance.proofs.ComparisonsAfter.{pools_none}
use Rattle.conformance.proofs.pool_comparison.PoolComparison.new.Goals as goal

pub returns : goal.returns
returns c = λ plan.
    let comparison_state : PoolComparison = record { named = c.new.result; reported = c.new-2.result; closed = false; alloc = c.args.alloc } in
    pools_none plan comparison_state c.new.ensures c.new-2.ensures refl
