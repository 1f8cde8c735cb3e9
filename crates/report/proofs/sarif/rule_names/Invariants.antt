-- The names so far, with those of the remaining annotations, are those of all annotations.
use Rattle.std.proofs.Common.{◌≡◌, [], length, map, fold}
use Rattle.std.specs.Prelude.{string_bytes}
use Rattle.report.specs.Annotations.{remarks_in}
use Rattle.report.specs.Sarif.{with_rule}
use Rattle.report.proofs.sarif.rule_names.Given as goal

abbrev pub invariant-loop-annotation : goal.invariant-loop-annotation
invariant-loop-annotation l = fold with_rule (map string_bytes l.names.items) (remarks_in l.annotations) ≡ fold with_rule [] (remarks_in l.fn.annotations)

abbrev pub decreases-loop-annotation : goal.decreases-loop-annotation
decreases-loop-annotation l = length l.annotations
