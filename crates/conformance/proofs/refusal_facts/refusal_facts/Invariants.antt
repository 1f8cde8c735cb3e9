use Rattle.std.proofs.Common.{◌≡◌, ◌++◌, ℕ, List, length}
use Rattle.recordings.specs.LineSteps.{is_refused}
use Rattle.recordings.specs.RecordingLine.{RecordedLine}
use Rattle.conformance.specs.Handlers.{AreHandlersOf}
use Rattle.conformance.specs.JobSet.{has_job}
use Rattle.conformance.specs.Lines.{lines_of}
use Rattle.conformance.specs.RefusedJobs.{AreFactsOf}
use Rattle.conformance.proofs.refusal_facts.refusal_facts.Given as goal

abbrev pub invariant-loop-line : goal.invariant-loop-line
invariant-loop-line l =
    (read : List RecordedLine) × (read ++ l.lines ≡ lines_of l.recording) × AreFactsOf l.plan read l.jobs × AreHandlersOf read l.handlers × ((job : ℕ) → has_job l.jobs.refused job ≡ is_refused (lines_of l.recording) job)

abbrev pub decreases-loop-line : goal.decreases-loop-line
decreases-loop-line l = length l.lines
