-- The names so far and those of the remaining pools are all names.
use Rattle.std.proofs.Common.{◌≡◌, ◌++◌, map}
use Rattle.std.specs.Prelude.{string_bytes}
use Rattle.report.specs.SafeText.{waited_name}
use Rattle.report.proofs.Rows.{rest_of}
use Rattle.report.proofs.safe_waits.waited_names.Given as goal

abbrev pub invariant-loop-other : goal.invariant-loop-other
invariant-loop-other l = map string_bytes l.names.items ++ rest_of (waited_name l.plan l.number) l.plan.pools l.other ≡ rest_of (waited_name l.plan l.number) l.plan.pools 0
