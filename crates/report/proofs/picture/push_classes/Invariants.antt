-- The text so far and the nodes of the remaining classes are the whole text.
use Rattle.std.proofs.Common.{◌≡◌, ◌++◌}
use Rattle.std.specs.Prelude.{string_bytes}
use Rattle.report.specs.Picture.{class_node}
use Rattle.report.proofs.Rows.{rest_of}
use Rattle.report.proofs.picture.push_classes.Given as goal

abbrev pub invariant-loop-number : goal.invariant-loop-number
invariant-loop-number l = string_bytes l.text ++ rest_of (class_node l.pool) l.classes l.number ≡ string_bytes l.fn.text ++ rest_of (class_node l.pool) l.classes 0
