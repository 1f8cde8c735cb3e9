-- The machine can follow the actors of a service that does as planned.
use Rattle.std.proofs.Common.{ℕ, ◌<◌, List, length, get_or}
use Rattle.std.specs.Prelude.{IsTrue}
use Rattle.std.proofs.lemmas.List.Elements.{Contains-get_or}
use Rattle.recordings.specs.declared.recording_line.RecordedActor.TheVariants.{Job, Round}
use Rattle.recordings.specs.RecordingLine.{RecordedLine}
use Rattle.job_bodies.specs.Plan.{Plan}
use Rattle.job_bodies.specs.WellFormed.{IsWellFormed}
use Rattle.cert_text.specs.Cert.{Cert}
use Rattle.soundness.specs.Accepted.{accepted}
use Rattle.conformance.specs.declared.step.ActorKind.TheVariants as actor_kind
use Rattle.conformance.specs.PathState.{path_state_of}
use Rattle.conformance.specs.FamilyMatch.{class_body, client_body}
use Rattle.conformance.specs.Classes.{AreClassesOf, by_path}
use Rattle.conformance.specs.Conforms.{IsOfAKind}
use Rattle.conformance.specs.FollowedActors.{IsFollowedJob, IsFollowedRound, PlannedActorsAreFollowed}
use Rattle.conformance.proofs.LaggingRuns.{paths_are_followed}

module _ (plan : Plan) (cert : Cert) (lines : List RecordedLine) (well_formed : IsWellFormed plan) (is_accepted : IsTrue (accepted plan cert)) where
  job_followed : (job : ℕ) (classes : List ℕ) → 0 < length classes → AreClassesOf plan lines job classes → IsFollowedJob plan lines job
  job_followed _ _ some (by_path job label pool steps classes named path exact) =
      record {
        label = label;
        pool = pool;
        named = named;
        steps = steps;
        path = path;
        some = get_or classes 0 0;
        is_some = (exact (get_or classes 0 0)).0 (Contains-get_or classes 0 0 some);
        each = λ class one actor choices s reached starts. paths_are_followed plan cert actor actor_kind.Job (path_state_of lines (Job job)) (class_body plan class) steps choices s well_formed is_accepted reached starts one.path_of;
      }

  round_followed : (round : ℕ) → IsOfAKind plan lines round → IsFollowedRound plan lines round
  round_followed round of =
      record {
        label = of.exact.kind;
        named = of.exact.named;
        steps = of.exact.steps;
        path = of.exact.path;
        some = get_or of.kinds 0 0;
        is_some = (of.exact.exact (get_or of.kinds 0 0)).0 (Contains-get_or of.kinds 0 0 of.some);
        each = λ kind one actor choices s reached starts. paths_are_followed plan cert actor actor_kind.Round (path_state_of lines (Round round)) (client_body plan kind) of.exact.steps choices s well_formed is_accepted reached starts one.path_of;
      }

-- The law that the machine can follow the actors of a service that does as planned.
pub planned_actors_are_followed : PlannedActorsAreFollowed
planned_actors_are_followed plan cert lines well_formed is_accepted planned = record {
  jobs = λ job submitted. let of = planned.jobs job submitted in job_followed plan cert lines well_formed is_accepted job of.classes of.some of.exact;
  rounds = λ round begun. round_followed plan cert lines well_formed is_accepted round (planned.rounds round begun);
}
