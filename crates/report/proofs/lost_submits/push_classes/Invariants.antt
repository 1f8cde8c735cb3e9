-- The texts so far, followed by those of the remaining classes, are the texts at the start followed by those of all classes.
use Rattle.std.proofs.Common.{◌≡◌, ◌++◌, length, map, flat_map}
use Rattle.std.specs.Prelude.{string_bytes}
use Rattle.report.specs.LostSubmits.{lost_by_class}
use Rattle.report.proofs.lost_submits.push_classes.Given as goal

abbrev pub invariant-loop-class : goal.invariant-loop-class
invariant-loop-class l =
    map string_bytes l.texts.items ++ flat_map (lost_by_class l.plan l.pool) l.classes ≡ map string_bytes l.fn.texts.items ++ flat_map (lost_by_class l.plan l.pool) l.fn.classes

abbrev pub decreases-loop-class : goal.decreases-loop-class
decreases-loop-class l = length l.classes
