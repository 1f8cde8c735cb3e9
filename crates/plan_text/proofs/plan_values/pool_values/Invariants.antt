use Rattle.std.proofs.Common.{◌≡◌, map, take}
use Rattle.toml.specs.View.{view}
use Rattle.plan_text.specs.PlanDocument as spec
use Rattle.plan_text.proofs.plan_values.pool_values.Given as goal

abbrev pub invariant-loop-pool : goal.invariant-loop-pool
invariant-loop-pool l = map view l.values.items ≡ take l.pool-index (map spec.pool_data l.pool-items)
