use Rattle.std.proofs.Common.{◌≡◌, take}
use Rattle.conformance.specs.Rejections.{only_rejected_by}
use Rattle.conformance.specs.RejectingPools as spec
use Rattle.conformance.proofs.rejecting_pools.with_keys.Given as goal

abbrev pub invariant-loop-pool : goal.invariant-loop-pool
invariant-loop-pool l = l.keyed.items ≡ spec.with_keys (only_rejected_by l.rejections) (take l.pool-index l.pools)
