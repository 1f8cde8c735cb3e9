use Rattle.std.proofs.Common.{◌++◌, ap, ◌∙◌}
use Rattle.std.proofs.lemmas.Result.{on_ok_weaker}
use Rattle.recordings.specs.RecordingLine.{line_view}
use Rattle.conformance.proofs.ComparisonsAfter.{rounds_after, rounds_reported}
use Rattle.conformance.proofs.round_comparison.RoundComparison.take.Goals as goal

pub returns-clause-taken : goal.returns-clause-taken
returns-clause-taken c = λ plan kinds before is kept represents.
    on_ok_weaker c.note.result (λ excess_tracker. rounds_after plan kinds c.args.kind c.args.self.now c.note.new.self before (line_view c.args.line.now) is kept represents excess_tracker) c.note.ensures.excess_tracker

pub returns-clause-found : goal.returns-clause-found
returns-clause-found c = λ plan kinds before is represents.
    on_ok_weaker c.note.result
    (λ found. found ∙ ap (λ reported. c.args.found.now.items ++ reported) (rounds_reported plan kinds c.args.kind c.args.self.now before c.args.number (line_view c.args.line.now) is represents))
    c.note.ensures.found
