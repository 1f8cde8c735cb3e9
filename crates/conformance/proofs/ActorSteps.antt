-- The tables and the results after each step.
use Rattle.std.proofs.Common.{◌≡◌, if◌then◌else◌, List, Option, Some, None, refl, sym}
use Rattle.recordings.specs.declared.recording_line.RecordedActor.{RecordedActor}
use Rattle.recordings.specs.RecordingLine.{RecordedLine}
use Rattle.recordings.specs.LineParts.{is_same_actor}
use Rattle.recordings.specs.PathsOfLines.{KeepsRules}
use Rattle.job_bodies.specs.Plan.{Plan}
use Rattle.conformance.specs.declared.step.PathState.TheVariants.{Whole, Prefix}
use Rattle.conformance.specs.declared.actor_table.ActorTable.{ActorTable}
use Rattle.conformance.specs.declared.actor_table.UnsettledActor.{UnsettledActor}
use Rattle.conformance.specs.declared.actor_table.EndedPath.{EndedPath}
use Rattle.conformance.specs.declared.actor_path.ActorPath.{ActorPath}
use Rattle.conformance.specs.declared.job_classes.ClassTable.{ClassTable}
use Rattle.conformance.specs.declared.classified_actor.ClassifiedActor.{ClassifiedActor}
use Rattle.conformance.specs.PathState.{has_ended}
use Rattle.conformance.specs.ActorTables.{in_table}
use Rattle.conformance.specs.RemainingActors.{IsActorPathOf}
use Rattle.conformance.specs.ClassifiedActor.{IsCorrectResult}
use Rattle.conformance.specs.Represents.{AreTablesOf}
use Rattle.conformance.specs.ClassificationResults.{IsReady, IsStep, IsSettledResult, AddsResult, classified_as, submitter_of}
use Rattle.conformance.proofs.Words.{if_true}
use Rattle.conformance.proofs.RemovedActor.{RemovedJobs, kept_taken, it_is_settled}
use Rattle.conformance.proofs.Progress.{settled_jobs}
use Rattle.conformance.proofs.AddsResults.{reports_one, reports_then}
use Rattle.conformance.proofs.OneResult.{reported_one}

abbrev whole_of : EndedPath → ActorPath
whole_of ended_path = record { path = ended_path.path; path_state = Whole }

pub step_taken : (plan : Plan) (lines : List RecordedLine) (old new : ActorTable) (known then_known : ClassTable) (actor : RecordedActor) (kept : UnsettledActor) (ended_path : EndedPath) (x y : List ClassifiedActor) → KeepsRules lines → AreTablesOf plan lines old known (Some actor)
    → IsReady old known actor → in_table old actor ≡ Some kept → kept.ended_path ≡ Some ended_path → ((one : RecordedActor) → in_table new one ≡ (if is_same_actor actor one then None else in_table old one))
    → AddsResult plan actor kept.submitter kept.label kept.pool (whole_of ended_path) known then_known x y → IsStep plan lines old new then_known (submitter_of actor kept.submitter) x y
step_taken plan lines old new known then_known actor kept ended_path x y keeps k ready there waits goes t =
    let all = settled_jobs old known actor ready kept ended_path there waits in
    let mine : IsReady old known actor = record { kept = kept; ended_path = ended_path; there = there; waits = waits; settled = all } in
    let w = k.ended_path actor kept ended_path there waits in
    let by : IsActorPathOf lines actor (whole_of ended_path) = record { path = w.path; path_state = sym (if_true (has_ended lines actor) Whole Prefix w.through) } in
    let its : IsCorrectResult plan lines (classified_as actor kept.label kept.pool (whole_of ended_path) t.family) =
    reported_one plan lines actor kept.submitter kept.label kept.pool (whole_of ended_path) known then_known x y t by (k.named actor kept there) keeps k.classes.classes k.classes.decided all in
    let taken : RemovedJobs plan lines old new known then_known actor t.family.members.items t.family.is_decided =
    record { keeps = keeps; kept = k; ready = mine; goes = goes; puts = t.table; can_be = its.members; decided = its.decided } in
    record {
      kept = kept_taken plan lines old new known then_known actor t.family.members.items t.family.is_decided taken;
      tells = reports_one (IsSettledResult plan lines) old new actor kept there goes (classified_as actor kept.label kept.pool (whole_of ended_path) t.family) refl
          (record { reported = its; settled = it_is_settled plan lines old new known then_known actor t.family.members.items t.family.is_decided taken }) x y t.after;
    }

pub step_then : (plan : Plan) (lines : List RecordedLine) (a b c : ActorTable) (known last : ClassTable) (one next : Option RecordedActor) (x y z : List ClassifiedActor) → IsStep plan lines a b known one x y → IsStep plan lines b c last next y z → IsStep plan lines a c last next x z
step_then plan lines a b c known last one next x y z p q = record {
  kept = q.kept;
  tells = reports_then (IsSettledResult plan lines) a b c x y z p.tells q.tells;
}
