use Rattle.std.proofs.Common.{◌≡◌, List, Some}
use Rattle.support.specs.Numbered.{count_of}
use Rattle.recordings.specs.RecordingLine.{RecordedLine}
use Rattle.recordings.specs.PathsOfLines.{KeepsRules}
use Rattle.conformance.specs.Represents.{AreTablesOf}
use Rattle.conformance.specs.ClassificationResults.{IsStep}
use Rattle.conformance.proofs.actor_classifier.ActorClassifier.settle_chain.Given as goal

-- The removed actors are classified, and this one is next.
abbrev pub invariant-loop-next : goal.invariant-loop-next
invariant-loop-next l = record {
  reported : (lines : List RecordedLine) → AreTablesOf l.plan lines l.initial.self.actors l.initial.self.known (Some l.fn.actor) → KeepsRules lines → IsStep l.plan lines l.initial.self.actors l.self.actors l.self.known (Some l.one) l.initial.reported.items l.reported.items;
  paths : l.self.paths ≡ l.initial.self.paths;
}

abbrev pub decreases-loop-next : goal.decreases-loop-next
decreases-loop-next l = count_of l.self.actors.jobs
