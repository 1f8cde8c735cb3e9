use Rattle.std.proofs.Common.{sym, arith}
use Rattle.std.proofs.lemmas.Result.{on_ok_weaker}
use Rattle.recordings.specs.RecordingLine.{line_view}
use Rattle.conformance.proofs.FailedGetsAfter.{get_counted, no_get_counted, few_counted}
use Rattle.conformance.proofs.failed_gets.note_line.Goals as goal

pub returns-in-Some : goal.returns-in-Some
returns-in-Some c = λ before few counts.
    let below = few_counted before c.args.counts.now c.in-Some.get counts in
    on_ok_weaker c.note_get.result (λ once. get_counted (line_view c.args.line.now) before c.in-Some.get c.args.counts.now c.note_get.new.counts (sym c.in-Some.ensures) counts once)
    (c.note_get.ensures (omega (arith, few, below)))

pub returns-in-None : goal.returns-in-None
returns-in-None c = λ before few counts. no_get_counted (line_view c.args.line.now) before c.args.counts.now (sym c.in-None.ensures) counts
