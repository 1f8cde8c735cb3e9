use Rattle.std.proofs.Common.{sym}
use Rattle.std.proofs.lemmas.Result.{on_ok_weaker}
use Rattle.recordings.specs.RecordingLine.{line_view}
use Rattle.conformance.proofs.FirstLinesAfter.{match_noted, none_noted}
use Rattle.conformance.proofs.first_lines.note_line.Goals as goal

pub returns-in-Some : goal.returns-in-Some
returns-in-Some c = λ before at first.
    on_ok_weaker c.note_match.result (λ noted. match_noted c.in-Some.query c.args.number (line_view c.args.line.now) before c.args.table.now c.note_match.new.table (sym c.in-Some.ensures) at first noted) c.note_match.ensures

pub returns-in-None : goal.returns-in-None
returns-in-None c = λ before at first. none_noted (line_view c.args.line.now) before c.args.table.now (sym c.in-None.ensures) first
