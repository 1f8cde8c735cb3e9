use Rattle.std.proofs.Common.{◌≡◌, ◌++◌, ℕ, List, length}
use Rattle.recordings.specs.LineSteps.{is_refused}
use Rattle.recordings.specs.RecordingLine.{RecordedLine}
use Rattle.conformance.specs.JobSet.{has_job}
use Rattle.conformance.specs.Lines.{lines_of}
use Rattle.conformance.proofs.refused_jobs.refused_jobs.Given as goal

abbrev pub invariant-loop-line : goal.invariant-loop-line
invariant-loop-line l = (read : List RecordedLine) × (read ++ l.lines ≡ lines_of l.recording) × ((job : ℕ) → has_job l.jobs job ≡ is_refused read job)

abbrev pub decreases-loop-line : goal.decreases-loop-line
decreases-loop-line l = length l.lines
