-- All findings, collected from the parts of a survey.
use Rattle.std.specs.Prelude.{◌≡◌, ◌++◌, ◌&&◌, not, ℕ, Bool, true, false, List, [], ◌∷◌, map, filter, string_bytes, is_some, Option, Some, None}
use Rattle.std.specs.List.{AllZip}
use Rattle.std.specs.Option.{option_to_list}
use Rattle.job_bodies.specs.Plan.{Plan}
use Rattle.recordings.specs.declared.recording_line.RecordedActor.TheVariants.{Job}
use Rattle.recordings.specs.RecordingLine.{RecordedLine}
use Rattle.conformance.specs.declared.pool_comparison.PoolDeviation.{PoolDeviation}
use Rattle.conformance.specs.declared.round_comparison.RoundExcess.{RoundExcess}
use Rattle.conformance.specs.declared.actor_label.ActorLabel.{ActorLabel}
use Rattle.conformance.specs.declared.classified_actor.ClassifiedActor.{ClassifiedActor}
use Rattle.recordings.specs.declared.foreign_get.ForeignGet.{ForeignGet}
use Rattle.recordings.specs.declared.invalidation.Invalidation.{Invalidation}
use Rattle.recordings.specs.declared.invalidation.InvalidatingEvent.{InvalidatingEvent}
use Rattle.recordings.specs.declared.invalidation.InvalidatingEvent.TheVariants as event
use Rattle.recordings.specs.ForeignGets.{first_foreign_get}
use Rattle.recordings.specs.Invalidations.{invalidations_of}
use Rattle.conformance.specs.declared.finding.Finding.{Finding}
use Rattle.conformance.specs.declared.finding.Finding.TheVariants as finding
use Rattle.conformance.specs.declared.mismatch.PathMismatch.{PathMismatch}
use Rattle.conformance.specs.declared.rejections.Rejections.{Rejections}
use Rattle.conformance.specs.declared.survey.Survey.{Survey}
use Rattle.conformance.specs.declared.unplanned.UnplannedLabel.{UnplannedLabel}
use Rattle.conformance.specs.declared.verdicts.Verdicts.{Verdicts}
use Rattle.conformance.specs.Description.{IsDescriptionOf, IsLabelOfJob}
use Rattle.conformance.specs.JobSet.{has_job}
use Rattle.conformance.specs.LineQuery.{IsLabelOf, IsPoolOf}
use Rattle.conformance.specs.declared.line_query.LineQuery.TheVariants as line_query

-- The list `new` is `old`, followed by findings that satisfy `IsSo`.
pub record Adds (old : List Finding) (IsSo : List Finding → Type 0) (new : List Finding) : Type 0 where
  pub more : List Finding
  pub after : new ≡ old ++ more
  pub so : IsSo more

-- ---- actors
-- The finding describes the path mismatch of this actor.
pub data IsMismatchFinding (plan : Plan) (lines : List RecordedLine) (is_classless : ℕ → Bool) (reported : ClassifiedActor) : Finding → Type 0 where
  mismatches : (number : Option ℕ) (mismatch : PathMismatch) → IsDescriptionOf plan lines is_classless reported number mismatch → IsMismatchFinding plan lines is_classless reported (finding.PathMismatch number mismatch)

abbrev pub AreMismatchesOf : Plan → List RecordedLine → (ℕ → Bool) → List ClassifiedActor → List Finding → Type 0
AreMismatchesOf plan lines is_classless reported found = AllZip (IsMismatchFinding plan lines is_classless) reported found

abbrev pub not_decided : ClassifiedActor → Finding
not_decided reported = finding.NotDecided reported.actor (record { name = reported.label; pool = reported.pool })

-- ---- notes
-- The list has a finding for the foreign get, if there is one. A foreign get is a get of a job that another actor submitted.
pub data AreForeign (lines : List RecordedLine) : Option ForeignGet → List Finding → Type 0 where
  none : AreForeign lines None []
  one : (get : ForeignGet) (label job : ActorLabel) → IsLabelOf lines get.actor (string_bytes label.name) (string_bytes label.pool) → IsLabelOfJob lines get.job job
      → AreForeign lines (Some get) (finding.ForeignGet get label job ∷ [])

-- The event invalidates a SAFE answer even if the path of the actor matches a body.
abbrev pub is_path_independent_event : InvalidatingEvent → Bool
is_path_independent_event (event.TimedOut actor job) = false
is_path_independent_event (event.Interrupted actor job) = false
is_path_independent_event event = true

abbrev pub is_refusal : InvalidatingEvent → Bool
is_refusal (event.Refused actor job) = true
is_refusal event = false

-- The event becomes a finding: it invalidates a SAFE answer whatever the paths are and, if `without_refusals` is true, it is
-- no refusal.
abbrev pub is_counted : Bool → Invalidation → Bool
is_counted without_refusals invalidation = not (without_refusals && is_refusal invalidation.event) && is_path_independent_event invalidation.event

-- The first refusal that the plan does not allow. It is `None` if no pool of the plan may reject jobs.
abbrev pub first_refusal_in : Option Rejections → Option Invalidation
first_refusal_in None = None
first_refusal_in (Some rejections) = rejections.first_refusal

-- The events that become findings: the first event of each type that invalidates a SAFE answer, whatever the paths are. If
-- some pool of the plan may reject jobs, the only refusal among them is the first one that the plan does not allow. It is the
-- last element of the list.
abbrev pub counted_with : Option Rejections → List RecordedLine → List Invalidation
counted_with rejections lines = filter (is_counted (is_some rejections)) (invalidations_of lines) ++ option_to_list (first_refusal_in rejections)

-- The class and the pool that a message names for the event. For most events, these are the class and the pool of the job.
-- For a call of `invokeAny`, they are the class or kind of the caller and the pool of the first such call. For jobs that no
-- line submits, the class is empty, and the pool is that of the first line that reports such jobs.
abbrev pub IsSubject : List RecordedLine → InvalidatingEvent → List ℕ → List ℕ → Type 0
IsSubject lines (event.Refused actor job) name pool = IsLabelOf lines (Job job) name pool
IsSubject lines (event.TimedOut actor job) name pool = IsLabelOf lines (Job job) name pool
IsSubject lines (event.Interrupted actor job) name pool = IsLabelOf lines (Job job) name pool
IsSubject lines (event.Cancelled actor job) name pool = IsLabelOf lines (Job job) name pool
IsSubject lines (event.Removed job) name pool = IsLabelOf lines (Job job) name pool
IsSubject lines (event.Threw job) name pool = IsLabelOf lines (Job job) name pool
IsSubject lines (event.AnyInvoked actor) name pool = (own : List ℕ) × IsLabelOf lines actor name own × IsPoolOf lines line_query.InvokesAny pool
IsSubject lines (event.Unseen jobs) name pool = (name ≡ []) × IsPoolOf lines line_query.Unseen pool

pub data IsInvalidationFinding (lines : List RecordedLine) (invalidation : Invalidation) : Finding → Type 0 where
  invalidates : (label : ActorLabel) → IsSubject lines invalidation.event (string_bytes label.name) (string_bytes label.pool) → IsInvalidationFinding lines invalidation (finding.Invalidation invalidation label)

abbrev pub AreInvalidationsOf : List RecordedLine → List Invalidation → List Finding → Type 0
AreInvalidationsOf lines invalidations found = AllZip (IsInvalidationFinding lines) invalidations found

-- ---- all
-- The list `new` is `old`, followed by the actors whose path matches no body, and by those for which this is undecided.
pub record AddsActorSurvey (plan : Plan) (lines : List RecordedLine) (verdicts : Verdicts) (old new : List Finding) : Type 0 where
  pub mismatches : List Finding
  pub mismatches_so : AreMismatchesOf plan lines (has_job verdicts.classless) verdicts.mismatches.actors.items mismatches
  pub after : new ≡ old ++ mismatches ++ map not_decided verdicts.undecided.actors.items

-- The list `new` is `old`, followed by the first foreign get, and by the first event of each type that becomes a finding.
pub record AddsNotes (lines : List RecordedLine) (rejections : Option Rejections) (old new : List Finding) : Type 0 where
  pub foreign : List Finding
  pub foreign_so : AreForeign lines (first_foreign_get lines) foreign
  pub invalidations : List Finding
  pub invalidations_so : AreInvalidationsOf lines (counted_with rejections lines) invalidations
  pub after : new ≡ old ++ foreign ++ invalidations

-- All findings, in the order of their types.
abbrev pub all_findings : List PoolDeviation → List UnplannedLabel → List Finding → List ClassifiedActor → List RoundExcess → List Finding → List Finding → List Finding
all_findings deviations labels mismatched undecided excesses gets invalidations =
    map finding.Pool deviations ++ map finding.UnplannedLabel labels ++ mismatched ++ map not_decided undecided ++ map finding.TooMany excesses ++ gets ++ invalidations

-- `found` has the findings of the survey and of `excesses`. The foreign get and the invalidating events are those of `lines`.
pub record AreCollected (plan : Plan) (lines : List RecordedLine) (survey : Survey) (excesses : List RoundExcess) (rejections : Option Rejections) (found : List Finding) : Type 0 where
  pub mismatches : List Finding
  pub foreign : List Finding
  pub invalidations : List Finding
  pub mismatches_so : AreMismatchesOf plan lines (has_job survey.actor_survey.verdicts.classless) survey.actor_survey.verdicts.mismatches.actors.items mismatches
  pub foreign_so : AreForeign lines (first_foreign_get lines) foreign
  pub invalidations_so : AreInvalidationsOf lines (counted_with rejections lines) invalidations
  pub all : found ≡ all_findings survey.line_survey.deviations.items survey.line_survey.unplanned.found.items mismatches survey.actor_survey.verdicts.undecided.actors.items excesses foreign invalidations
