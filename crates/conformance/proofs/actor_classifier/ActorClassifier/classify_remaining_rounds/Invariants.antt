use Rattle.std.proofs.Common.{◌≡◌, List, length}
use Rattle.recordings.specs.RecordingLine.{RecordedLine}
use Rattle.recordings.specs.PathsOfLines.{KeepsRules, IsPathsOf}
use Rattle.conformance.specs.RemainingActors.{IsStateAtEnd, AreRoundsAmong, HasNoJobs}
use Rattle.conformance.specs.ClassifiedActor.{IsCorrectResult}
use Rattle.conformance.specs.ClassificationResults.{AddsResults}
use Rattle.conformance.proofs.actor_classifier.ActorClassifier.classify_remaining_rounds.Given as goal

-- The rounds that were popped from the list are classified.
abbrev pub invariant-loop-round : goal.invariant-loop-round
invariant-loop-round l = record {
  remaining : (lines : List RecordedLine) → KeepsRules lines → IsPathsOf l.initial.self.paths lines → IsStateAtEnd l.plan lines l.initial.self.actors l.initial.self.known → HasNoJobs l.initial.self.actors
      → IsStateAtEnd l.plan lines l.self.actors l.self.known × AddsResults (IsCorrectResult l.plan lines) l.initial.self.actors l.self.actors l.initial.reported.items l.reported.items;
  among : AreRoundsAmong l.initial.self.actors l.fn.rounds.items → AreRoundsAmong l.self.actors l.rounds.items;
  jobs : HasNoJobs l.initial.self.actors → HasNoJobs l.self.actors;
  paths : l.self.paths ≡ l.initial.self.paths;
}

abbrev pub decreases-loop-round : goal.decreases-loop-round
decreases-loop-round l = length l.rounds.items
