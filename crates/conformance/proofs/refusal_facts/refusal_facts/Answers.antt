use Rattle.std.proofs.Common.{◌++◌, ◌∷◌, List, [], ap, subst, ◌∙◌}
use Rattle.recordings.specs.RecordingLine.{RecordedLine, line_view}
use Rattle.conformance.specs.Handlers.{AreHandlersOf}
use Rattle.conformance.specs.JobSet.{has_job}
use Rattle.conformance.specs.Lines.{lines_of}
use Rattle.conformance.specs.RefusedJobs.{AreFactsOf}
use Rattle.conformance.proofs.ListSteps.{one_read, all_read}
use Rattle.conformance.proofs.refusal_facts.refusal_facts.Goals as goal

pub loop-line-init : goal.loop-line-init
loop-line-init c = (
  [],
  c.new-lines.ensures.lines,
  c.new-jobs.ensures.none c.args.plan.now,
  c.new-handlers.ensures,
  λ job. ap (λ jobs. has_job jobs job) c.new-jobs.ensures.jobs ∙ c.requires job,
)

pub loop-line-preserved : goal.loop-line-preserved
loop-line-preserved c =
    let read = c.loop-line.invariant.0 in
    let line = line_view c.in-Some.line in (
      read ++ line ∷ [],
      one_read (lines_of c.args.recording.now) read _ _ line c.loop-line.invariant.1 c.in-Some.ensures,
      c.in_ok-take.ensures.facts read c.loop-line.invariant.2,
      c.in_ok-take-2.ensures read c.loop-line.invariant.3,
      λ job. ap (λ jobs. has_job jobs job) c.in_ok-take.ensures.jobs ∙ c.loop-line.invariant.4 job,
    )

pub returns : goal.returns
returns c =
    let lines = lines_of c.args.recording.now in
    let all = all_read lines c.loop-line.invariant.0 _ c.loop-line.invariant.1 c.in_default.ensures.0 in
    record {
      rules = c.in_ok-rules.ensures lines (subst (λ (read : List RecordedLine). AreHandlersOf read c.loop-line.handlers) all c.loop-line.invariant.3);
      jobs = subst (λ (read : List RecordedLine). AreFactsOf c.args.plan.now read c.loop-line.jobs) all c.loop-line.invariant.2;
      refused = c.loop-line.invariant.4;
    }
