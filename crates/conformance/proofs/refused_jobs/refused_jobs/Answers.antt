use Rattle.std.proofs.Common.{◌||◌, ◌++◌, ◌∷◌, Bool, List, [], ap, sym, ◌∙◌}
use Rattle.recordings.specs.LineParts.{refuses_job}
use Rattle.recordings.specs.LineSteps.{is_refused}
use Rattle.recordings.specs.RecordingLine.{RecordedLine, line_view}
use Rattle.conformance.specs.Lines.{lines_of}
use Rattle.conformance.proofs.ListSteps.{one_read, all_read}
use Rattle.conformance.proofs.RefusalsAfter.{none_refused, refused_more}
use Rattle.conformance.proofs.refused_jobs.refused_jobs.Goals as goal

pub loop-line-init : goal.loop-line-init
loop-line-init c = ([], c.new-lines.ensures.lines, λ job. c.new-jobs.ensures job ∙ sym (none_refused job))

pub loop-line-preserved : goal.loop-line-preserved
loop-line-preserved c =
    let read = c.loop-line.invariant.0 in
    let line = line_view c.in-Some.line in (
      read ++ line ∷ [],
      one_read (lines_of c.args.recording.now) read _ _ line c.loop-line.invariant.1 c.in-Some.ensures,
      λ job. c.in_ok-note_refusal.ensures job ∙ ap (λ (b : Bool). b || refuses_job job line) (c.loop-line.invariant.2 job) ∙ sym (refused_more read line job),
    )

pub returns : goal.returns
returns c = λ job.
    c.loop-line.invariant.2 job ∙ ap (λ (read : List RecordedLine). is_refused read job) (all_read (lines_of c.args.recording.now) c.loop-line.invariant.0 _ c.loop-line.invariant.1 c.in_default.ensures.0)
