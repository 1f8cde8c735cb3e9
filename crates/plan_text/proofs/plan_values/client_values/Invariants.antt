use Rattle.std.proofs.Common.{◌≡◌, map, take}
use Rattle.toml.specs.View.{view}
use Rattle.plan_text.specs.PlanDocument as spec
use Rattle.plan_text.proofs.plan_values.client_values.Given as goal

abbrev pub invariant-loop-client : goal.invariant-loop-client
invariant-loop-client l = map view l.values.items ≡ take l.client-index (map (spec.client_data (map (λ class. class.name) l.classes)) l.client-items)
