-- The text so far and the lines of the remaining actions are the whole text.
use Rattle.std.proofs.Common.{◌≡◌, ◌++◌}
use Rattle.std.specs.Prelude.{string_bytes}
use Rattle.report.specs.SubmitsTo.{action_line}
use Rattle.report.proofs.Rows.{rest_of}
use Rattle.report.proofs.submits_to.push_body.Given as goal

abbrev pub invariant-loop-position : goal.invariant-loop-position
invariant-loop-position l = string_bytes l.text ++ rest_of (action_line l.plan l.pool l.kind l.name l.body) l.body l.position ≡ string_bytes l.fn.text ++ rest_of (action_line l.plan l.pool l.kind l.name l.body) l.body 0
