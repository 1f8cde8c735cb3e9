-- The first actors whose paths match no body of the plan, and the first actors for which this is undecided.
use Rattle.std.specs.Prelude.{◌≡◌, ℕ, Bool, true, false, ◌==◌, ◌&&◌, ◌||◌, not, if◌then◌else◌, List, [], ◌∷◌, ◌++◌, filter, string_bytes}
use Rattle.std.specs.List.{list_any}
use Rattle.conformance.specs.JobSet.{has_job}
use Rattle.recordings.specs.declared.recording_line.RecordedActor.{RecordedActor}
use Rattle.recordings.specs.declared.recording_line.RecordedActor.TheVariants.{Job, Round}
use Rattle.job_bodies.specs.Plan.{Plan}
use Rattle.conformance.specs.Family.{class_family, client_family}
use Rattle.conformance.specs.declared.classified_actor.ClassifiedActor.{ClassifiedActor}
use Rattle.conformance.specs.declared.verdicts.Verdicts.{Verdicts}
use Rattle.conformance.specs.FirstActors.{AreFirstActorsOf}

-- ---- one actor
-- The list has no element.
abbrev pub is_empty : List ℕ → Bool
is_empty [] = true
is_empty (n ∷ more) = false

-- The classes or kinds that a label may refer to.
abbrev pub family_of : Plan → RecordedActor → List ℕ → List ℕ → List ℕ
family_of plan (Job job) label pool = class_family plan label pool
family_of plan (Round round) label pool = client_family plan label

-- The plan has a class that jobs of this label in this pool may belong to.
abbrev pub is_planned_class : Plan → List ℕ → List ℕ → Bool
is_planned_class plan class pool = not (is_empty (class_family plan class pool))

-- The plan has the label of the actor.
abbrev pub is_planned : Plan → ClassifiedActor → Bool
is_planned plan reported = not (is_empty (family_of plan reported.actor (string_bytes reported.label) (string_bytes reported.pool)))

-- The path of the actor matches no body.
abbrev pub is_classless : ClassifiedActor → Bool
is_classless reported = reported.family.is_decided && is_empty reported.family.members.items

abbrev pub is_mismatch : Plan → ClassifiedActor → Bool
is_mismatch plan reported = is_classless reported && is_planned plan reported

-- The plan has the label of the actor, and it is undecided whether the path of the actor matches a body.
abbrev pub is_undecided : Plan → ClassifiedActor → Bool
is_undecided plan reported = not reported.family.is_decided && is_planned plan reported

abbrev pub is_job : ℕ → RecordedActor → Bool
is_job job (Job one) = one == job
is_job job (Round round) = false

abbrev pub is_classless_job : ℕ → ClassifiedActor → Bool
is_classless_job job reported = is_job job reported.actor && is_classless reported

-- ---- all actors
-- The verdicts are those on the classified actors in `reported`.
pub record IsVerdictsOf (plan : Plan) (reported : List ClassifiedActor) (verdicts : Verdicts) : Type 0 where
  pub mismatches : AreFirstActorsOf (filter (is_mismatch plan) reported) verdicts.mismatches.actors.items
  pub undecided : AreFirstActorsOf (filter (is_undecided plan) reported) verdicts.undecided.actors.items
  pub classless : (job : ℕ) → has_job verdicts.classless job ≡ list_any (is_classless_job job) reported

-- The list of actors, with this actor appended if the plan has its label.
abbrev pub with_planned : Plan → ClassifiedActor → List ClassifiedActor → List ClassifiedActor
with_planned plan one reported = if is_planned plan one then reported ++ one ∷ [] else reported

abbrev pub with_job : RecordedActor → Bool → ℕ → Bool
with_job actor there job = there || is_job job actor
