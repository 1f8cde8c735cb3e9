use Rattle.std.proofs.lemmas.Result.{on_ok_weaker}
use Rattle.recordings.specs.RecordingLine.{line_view}
use Rattle.conformance.proofs.RefusalsAfter.{handlers_after}
use Rattle.conformance.proofs.handlers.Handlers.take.Goals as goal

pub returns : goal.returns
returns c = λ before are. on_ok_weaker c.note.result (λ notes. handlers_after before (line_view c.args.line.now) c.args.self.now c.note.new.self are notes) c.note.ensures
