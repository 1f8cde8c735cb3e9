-- The parts so far and those of the remaining kinds are all parts.
use Rattle.std.proofs.Common.{◌≡◌, ◌++◌, map}
use Rattle.std.specs.Prelude.{string_bytes}
use Rattle.report.specs.SafeText.{client_part}
use Rattle.report.proofs.Rows.{rest_of}
use Rattle.report.proofs.safe_bound.push_clients.Given as goal

abbrev pub invariant-loop-kind : goal.invariant-loop-kind
invariant-loop-kind l = map string_bytes l.parts.items ++ rest_of (client_part l.plan) l.shares l.kind ≡ map string_bytes l.fn.parts.items ++ rest_of (client_part l.plan) l.shares 0
