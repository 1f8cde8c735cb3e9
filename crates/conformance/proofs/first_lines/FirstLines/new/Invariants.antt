use Rattle.std.proofs.Common.{[]}
use Rattle.conformance.specs.FirstLines.{AreFirst}
use Rattle.conformance.proofs.first_lines.FirstLines.new.Given as goal

abbrev pub invariant-loop-query : goal.invariant-loop-query
invariant-loop-query l = AreFirst [] l.table
