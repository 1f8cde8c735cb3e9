use Rattle.std.proofs.Common.{◌≡◌, length, take}
use Rattle.support.proofs.Loops.{Checks}
use Rattle.job_bodies.specs.Checks as checks
use Rattle.plan_text.specs.Checks.{class_names, class_head}
use Rattle.plan_text.proofs.checks.check_classes.Given as goal

abbrev pub invariant-loop-index : goal.invariant-loop-index
invariant-loop-index l = record {
  names : l.names ≡ take l.index (class_names l.classes);
  passed : Checks (λ index class. checks.check_class (length l.pools) (take index (class_names l.classes)) index (class_head l.pools class)) l.classes l.index;
}
