-- The remaining names have the name if all names have it.
use Rattle.std.proofs.Common.{◌≡◌, length, map}
use Rattle.std.specs.Prelude.{string_bytes}
use Rattle.report.specs.Sarif.{has_name}
use Rattle.report.proofs.sarif.has_name.Given as goal

abbrev pub invariant-loop-each : goal.invariant-loop-each
invariant-loop-each l = has_name (map string_bytes l.names) l.name ≡ has_name (map string_bytes l.fn.names) l.name

abbrev pub decreases-loop-each : goal.decreases-loop-each
decreases-loop-each l = length l.names
