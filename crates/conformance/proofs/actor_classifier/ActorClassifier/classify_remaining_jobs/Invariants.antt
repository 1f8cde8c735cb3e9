use Rattle.std.proofs.Common.{◌≡◌, List, length}
use Rattle.std.specs.List.Sorted.{IsNonDecreasing}
use Rattle.recordings.specs.RecordingLine.{RecordedLine}
use Rattle.recordings.specs.PathsOfLines.{KeepsRules, IsPathsOf}
use Rattle.conformance.specs.RemainingActors.{IsStateAtEnd, AreJobsAmong}
use Rattle.conformance.specs.ClassifiedActor.{IsCorrectResult}
use Rattle.conformance.specs.ClassificationResults.{AddsResults}
use Rattle.conformance.proofs.actor_classifier.ActorClassifier.classify_remaining_jobs.Given as goal

-- The jobs that were popped from the list are classified.
abbrev pub invariant-loop-job : goal.invariant-loop-job
invariant-loop-job l = record {
  remaining : (lines : List RecordedLine) → KeepsRules lines → IsPathsOf l.initial.self.paths lines → IsStateAtEnd l.plan lines l.initial.self.actors l.initial.self.known → AreJobsAmong l.initial.self.actors l.fn.jobs.items → IsNonDecreasing l.fn.jobs.items
      → IsStateAtEnd l.plan lines l.self.actors l.self.known × AddsResults (IsCorrectResult l.plan lines) l.initial.self.actors l.self.actors l.initial.reported.items l.reported.items;
  among : AreJobsAmong l.initial.self.actors l.fn.jobs.items → AreJobsAmong l.self.actors l.jobs.items;
  sorted : IsNonDecreasing l.fn.jobs.items → IsNonDecreasing l.jobs.items;
  paths : l.self.paths ≡ l.initial.self.paths;
}

abbrev pub decreases-loop-job : goal.decreases-loop-job
decreases-loop-job l = length l.jobs.items
