-- The remaining name has a colon before the first slash if the whole name has one.
use Rattle.std.proofs.Common.{◌≡◌, length}
use Rattle.report.specs.Uri.{has_early_colon}
use Rattle.report.proofs.uri.has_early_colon.Given as goal

abbrev pub invariant-loop-byte : goal.invariant-loop-byte
invariant-loop-byte l = has_early_colon l.name ≡ has_early_colon l.fn.name

abbrev pub decreases-loop-byte : goal.decreases-loop-byte
decreases-loop-byte l = length l.name
