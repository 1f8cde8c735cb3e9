-- The findings as text.
use Rattle.std.specs.Prelude.{ℕ, ◌++◌, List, [], ◌∷◌, codes, decimal, string_bytes, flat_map, Option, Some, None}
use Rattle.job_bodies.specs.Plan.{Plan, pool_at, client_at}
use Rattle.conformance.specs.declared.difference.Difference.{Difference}
use Rattle.conformance.specs.declared.pool_comparison.PoolDeviation.{PoolDeviation}
use Rattle.conformance.specs.declared.pool_comparison.PoolDeviation.TheVariants as pool
use Rattle.conformance.specs.declared.round_comparison.RoundExcess.{RoundExcess}
use Rattle.conformance.specs.Difference.{difference_text}
use Rattle.conformance.specs.Excess.{excess_text}
use Rattle.recordings.specs.declared.foreign_get.ForeignGet.{ForeignGet}
use Rattle.recordings.specs.declared.invalidation.Invalidation.{Invalidation}
use Rattle.recordings.specs.declared.invalidation.InvalidatingEvent.{InvalidatingEvent}
use Rattle.recordings.specs.declared.invalidation.InvalidatingEvent.TheVariants as event
use Rattle.recordings.specs.declared.recording_line.RecordedActor.{RecordedActor}
use Rattle.recordings.specs.declared.recording_line.RecordedActor.TheVariants.{Job, Round}
use Rattle.conformance.specs.declared.actor_label.ActorLabel.{ActorLabel}
use Rattle.conformance.specs.declared.finding.Finding.{Finding}
use Rattle.conformance.specs.declared.finding.Finding.TheVariants as finding
use Rattle.conformance.specs.declared.unplanned.UnplannedLabel.{UnplannedLabel}
use Rattle.conformance.specs.declared.unplanned.UnplannedLabel.TheVariants as label
use Rattle.conformance.specs.Finding.{line_of}
use Rattle.conformance.specs.PathMismatch.{actor_text, job_text, mismatch_text}

-- The start of a finding's text, such as `line 3: `. It is empty if the finding has no line.
abbrev pub line_text : Option ℕ → List ℕ
line_text None = []
line_text (Some line) = codes "line " ++ decimal line ++ codes ": "

-- ---- each kind of finding, without its line number
-- A difference of a pool, such as `pool db: max 20, plan 10`.
abbrev pub pool_difference_text : List ℕ → Difference → List ℕ
pool_difference_text name difference = codes "pool " ++ name ++ codes ": " ++ difference_text difference

abbrev pub not_recorded_text : List ℕ → List ℕ
not_recorded_text name = codes "pool " ++ name ++ codes ": in the plan and not in the recording"

abbrev pub unplanned_text : List ℕ → List ℕ → List ℕ
unplanned_text sort name = sort ++ (codes " " ++ (name ++ codes ": not in the plan"))

abbrev pub class_name_text : List ℕ → List ℕ
class_name_text class = codes "class " ++ class ++ codes " in "

abbrev pub class_text : List ℕ → List ℕ → List ℕ
class_text class pool = class_name_text class ++ unplanned_text (codes "pool") pool

abbrev pub deviation_text : Plan → PoolDeviation → List ℕ
deviation_text plan (pool.UnplannedLabel line name) = unplanned_text (codes "pool") (string_bytes name)
deviation_text plan (pool.Differs line number difference) = pool_difference_text (pool_at plan number).name difference
deviation_text plan (pool.NotRecorded number) = not_recorded_text (pool_at plan number).name

abbrev pub not_planned_text : UnplannedLabel → List ℕ
not_planned_text (label.Class line class name) = class_text (string_bytes class) (string_bytes name)
not_planned_text (label.Kind line kind) = unplanned_text (codes "kind") (string_bytes kind)

abbrev pub kind_excess_text : Plan → RoundExcess → List ℕ
kind_excess_text plan found = codes "kind " ++ (client_at plan found.kind).name ++ codes ": " ++ excess_text found.excess

abbrev pub label_text : RecordedActor → ActorLabel → List ℕ
label_text actor name = actor_text actor (string_bytes name.name) (string_bytes name.pool)

abbrev pub foreign_get_text : ForeignGet → ActorLabel → ActorLabel → List ℕ
foreign_get_text get name job = ((label_text get.actor name ++ codes " got ") ++ job_text get.job (string_bytes job.name) (string_bytes job.pool)) ++ codes ", which it did not submit"

-- An actor with its class or kind and without a pool, such as `job 44 of class order`.
abbrev pub short_actor_text : RecordedActor → List ℕ → List ℕ
short_actor_text (Job job) name = codes "job " ++ decimal job ++ codes " of class " ++ name
short_actor_text (Round round) name = codes "round " ++ decimal round ++ codes " of kind " ++ name

-- The text of an event. `name` and `pool` are the class and the pool that the message names.
abbrev pub event_text : InvalidatingEvent → List ℕ → List ℕ → List ℕ
event_text (event.Refused actor job) name pool = job_text job name pool ++ codes " was refused"
event_text (event.TimedOut actor job) name pool = (codes "a get of " ++ job_text job name pool) ++ codes " timed out"
event_text (event.Interrupted actor job) name pool = (codes "a get of " ++ job_text job name pool) ++ codes " was interrupted"
event_text (event.Cancelled actor job) name pool = job_text job name pool ++ codes " was cancelled"
event_text (event.Removed job) name pool = job_text job name pool ++ codes " was removed from its queue"
event_text (event.Threw job) name pool = job_text job name pool ++ codes " threw an exception"
event_text (event.AnyInvoked actor) name pool = short_actor_text actor name ++ (codes " called invokeAny in pool " ++ pool)
event_text (event.Unseen jobs) name pool = decimal jobs ++ codes " jobs were run in pool " ++ pool ++ codes " that no line mentions"

abbrev pub invalidation_text : Invalidation → ActorLabel → List ℕ
invalidation_text invalidation name = codes "the answer SAFE does not hold after this: " ++ event_text invalidation.event (string_bytes name.name) (string_bytes name.pool)

abbrev pub found_text : Plan → Finding → List ℕ
found_text plan (finding.Pool deviation) = deviation_text plan deviation
found_text plan (finding.UnplannedLabel name) = not_planned_text name
found_text plan (finding.PathMismatch line mismatch) = mismatch_text plan mismatch
found_text plan (finding.NotDecided actor name) = label_text actor name ++ codes ": not decided: some jobs that it submitted, directly or through other jobs, may belong to several classes"
found_text plan (finding.TooMany excess) = kind_excess_text plan excess
found_text plan (finding.ForeignGet get name job) = foreign_get_text get name job
found_text plan (finding.Invalidation invalidation name) = invalidation_text invalidation name

-- ---- lines
-- The text of a finding, without a newline.
abbrev pub finding_text : Plan → Finding → List ℕ
finding_text plan found = line_text (line_of found) ++ found_text plan found

abbrev pub finding_line : Plan → Finding → List ℕ
finding_line plan found = finding_text plan found ++ 10 ∷ []

abbrev pub findings_text : Plan → List Finding → List ℕ
findings_text plan findings = flat_map (finding_line plan) findings
