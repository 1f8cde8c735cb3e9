use Rattle.std.proofs.Common.{sym}
use Rattle.conformance.specs.FirstLines.{noted}
use Rattle.conformance.proofs.first_lines.note_match.Goals as goal

pub returns-in_ok-insert : goal.returns-in_ok-insert
returns-in_ok-insert c = noted (sym c.if-is_sought.ensures) c.in_ok-found.found c.in_ok-found.ensures c.in_ok-insert.ensures.updates.0
