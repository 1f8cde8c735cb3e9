-- The state after a line.
use Rattle.std.proofs.Common.{◌≡◌, true, List, [], ◌∷◌, ◌++◌, Option, Some, None, sym, subst, ◌∙◌}
use Rattle.recordings.specs.declared.recording_line.RecordedActor.{RecordedActor}
use Rattle.recordings.specs.RecordingLine.{RecordedLine}
use Rattle.recordings.specs.Path.{path_of}
use Rattle.recordings.specs.PathsOfLines.{KeepsRules, IsPathsOf, is_live}
use Rattle.job_bodies.specs.Plan.{Plan}
use Rattle.conformance.specs.declared.actor_table.ActorTable.{ActorTable}
use Rattle.conformance.specs.declared.actor_table.EndedPath.{EndedPath}
use Rattle.conformance.specs.declared.job_classes.ClassTable.{ClassTable}
use Rattle.conformance.specs.declared.actor_classifier.ActorClassifier.{ActorClassifier}
use Rattle.conformance.specs.declared.classified_actor.ClassifiedActor.{ClassifiedActor}
use Rattle.recordings.specs.LastLine.{ended_by}
use Rattle.conformance.specs.Changes.{ChangesTable}
use Rattle.conformance.specs.ClassifiedActor.{AddsSettled}
use Rattle.conformance.specs.Represents.{AreTablesOf, IsClassifierOf}
use Rattle.conformance.specs.ClassificationResults.{IsStep}
use Rattle.conformance.proofs.AppliedLine.{follows}
use Rattle.conformance.proofs.LineActors.{ended_is, ended_live}
use Rattle.conformance.proofs.TablesAfter.{kept_after}
use Rattle.conformance.proofs.SettledByLine.{reports_settled}

pub kept_line : (plan : Plan) (before : List RecordedLine) (line : RecordedLine) (waits : EndedPath) (old new : ActorTable) (known last : ClassTable) (ended : Option RecordedActor) → KeepsRules (before ++ line ∷ []) → AreTablesOf plan before old known None → ChangesTable old line waits new
    → last ≡ known → ended ≡ ended_by line → ((actor : RecordedActor) → ended ≡ Some actor → is_live before actor ≡ true → waits.path.items ≡ path_of before actor) → waits.known ≡ 0 → AreTablesOf plan (before ++ line ∷ []) new last ended
kept_line plan before line waits old new known last ended keeps kept changed same is path begins =
    subst (λ (e : Option RecordedActor). AreTablesOf plan (before ++ line ∷ []) new last e) (sym is)
    (subst (λ (table : ClassTable). AreTablesOf plan (before ++ line ∷ []) new table (ended_by line)) (sym same)
    (kept_after plan before line waits old new known keeps kept (follows line waits old new changed) (λ one ends. path one (is ∙ ended_is one line ends) (ended_live before line one keeps ends)) begins))

pub represents : (plan : Plan) (classes : ActorClassifier) (lines : List RecordedLine) (before : ActorTable) (old new : List ClassifiedActor) → IsPathsOf classes.paths lines → IsStep plan lines before classes.actors classes.known None old new → IsClassifierOf plan classes lines
represents plan classes lines before old new paths step = record {
  paths = paths;
  kept = step.kept;
}

pub reports_line : (plan : Plan) (before : List RecordedLine) (line : RecordedLine) (waits : EndedPath) (old mid new : ActorTable) (known last : ClassTable) (x y : List ClassifiedActor) → KeepsRules (before ++ line ∷ []) → AreTablesOf plan before old known None → ChangesTable old line waits mid
    → IsStep plan (before ++ line ∷ []) mid new last None x y → AddsSettled plan before (before ++ line ∷ []) x y
reports_line plan before line waits old mid new known last x y keeps kept changed step =
    reports_settled plan before line waits old mid new known last x y keeps kept (follows line waits old mid changed) step.kept step.tells
