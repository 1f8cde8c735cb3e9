-- The text so far, followed by the lines of the remaining classes, is the text at the start followed by the lines of all classes.
use Rattle.std.proofs.Common.{◌≡◌, ◌++◌, length, flat_map}
use Rattle.std.specs.Prelude.{string_bytes}
use Rattle.report.specs.SubmitsTo.{class_lines}
use Rattle.report.proofs.submits_to.push_classes.Given as goal

abbrev pub invariant-loop-class : goal.invariant-loop-class
invariant-loop-class l = string_bytes l.text ++ flat_map (class_lines l.plan l.pool) l.classes ≡ string_bytes l.fn.text ++ flat_map (class_lines l.plan l.pool) l.fn.classes

abbrev pub decreases-loop-class : goal.decreases-loop-class
decreases-loop-class l = length l.classes
