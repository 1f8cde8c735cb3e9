use Rattle.recordings.specs.RecordingLine.{line_view}
use Rattle.conformance.specs.FirstLines.{nowhere, somewhere}
use Rattle.conformance.proofs.first_lines.found_in_text.Goals as goal

pub returns-in_ok-found-in-Some : goal.returns-in_ok-found-in-Some
returns-in_ok-found-in-Some c = somewhere c.in-Some.number (line_view c.in-Some.line) c.in_ok-found-in-Some.found c.in-Some.ensures c.in_ok-found-in-Some.ensures

pub returns-in-None : goal.returns-in-None
returns-in-None c = nowhere c.in-None.ensures
