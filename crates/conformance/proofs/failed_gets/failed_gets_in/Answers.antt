use Rattle.std.proofs.Common.{◌++◌, ◌∷◌, List, [], length, length-append, ap, subst, arith}
use Rattle.recordings.specs.RecordingLine.{RecordedLine, line_view}
use Rattle.conformance.specs.FailedGets.{AreCounts}
use Rattle.conformance.specs.Lines.{lines_of}
use Rattle.conformance.proofs.FailedGetsAfter.{none_counted}
use Rattle.conformance.proofs.ListSteps.{one_read, all_read}
use Rattle.conformance.proofs.failed_gets.failed_gets_in.Goals as goal

pub loop-line-init : goal.loop-line-init
loop-line-init c = ([], c.new-lines.ensures.lines, omega (arith, c.new-lines.ensures.few, ap length c.new-lines.ensures.lines), none_counted c.new-counts.result c.new-counts.ensures.len)

pub loop-line-preserved : goal.loop-line-preserved
loop-line-preserved c =
    let read = c.loop-line.invariant.0 in
    let line = line_view c.in-Some.line in
    let all = one_read (lines_of c.args.text.now) read _ _ line c.loop-line.invariant.1 c.in-Some.ensures in
    let few = c.loop-line.invariant.2 in
    let long = ap length all in
    let more = length-append (read ++ line ∷ []) c.next.new.self in
    let one = length-append read (line ∷ []) in
    (read ++ line ∷ [], all, few, c.in_ok-note_line.ensures read (omega (arith, few, long, more, one)) c.loop-line.invariant.3)

pub returns : goal.returns
returns c =
    let all = all_read (lines_of c.args.text.now) c.loop-line.invariant.0 _ c.loop-line.invariant.1 c.in_default.ensures.0 in
    subst (λ (read : List RecordedLine). AreCounts read c.loop-line.counts) all c.loop-line.invariant.3
