use Rattle.std.proofs.Common.{◌≡◌, map, take}
use Rattle.toml.specs.View.{view}
use Rattle.plan_text.specs.PlanDocument as spec
use Rattle.plan_text.proofs.plan_values.class_values.Given as goal

abbrev pub invariant-loop-class : goal.invariant-loop-class
invariant-loop-class l = map view l.values.items ≡ take l.class-index (map (spec.class_data (map (λ pool. pool.name) l.pools) (map (λ class. class.name) l.classes)) l.classes)
