-- The values so far and the remaining classes are all classes.
use Rattle.std.proofs.Common.{◌≡◌}
use Rattle.report.specs.JsonPlan.{class_entry}
use Rattle.report.proofs.JsonLists.{with_rest}
use Rattle.report.proofs.ShareSums.{rest_given}
use Rattle.report.proofs.json_plan.classes_value.Given as goal

abbrev pub invariant-loop-number : goal.invariant-loop-number
invariant-loop-number l = with_rest (class_entry l.plan l.places) l.classes l.number l.values.items ≡ rest_given (class_entry l.plan l.places) l.classes 0
