use Rattle.std.proofs.Common.{sym, ◌∙◌}
use Rattle.std.proofs.lemmas.Result.{IfOk-weaker, on_ok_weaker}
use Rattle.recordings.specs.RecordingLine.{line_view}
use Rattle.conformance.proofs.OpenAfter.{line_kind, open_after}
use Rattle.conformance.proofs.open_rounds.OpenRounds.take.Goals as goal

pub returns-clause-kind : goal.returns-clause-kind
returns-clause-kind c = λ kinds before keeps given so.
    IfOk-weaker c.note.result _ _ (λ kind is. line_kind c.args.plan.now c.args.others.now kinds before (line_view c.args.line.now) c.args.self.now keeps given so ∙ sym is) c.note.ensures.kind

pub returns-clause-kept : goal.returns-clause-kept
returns-clause-kept c = λ kinds before keeps given so.
    on_ok_weaker c.note.result (λ kept. open_after c.args.plan.now c.args.others.now kinds before (line_view c.args.line.now) c.args.self.now c.note.new.self keeps given so kept) c.note.ensures.kept
