-- The text about an actor whose path matches no body of the plan.
use Rattle.std.specs.Prelude.{ℕ, ◌==◌, nat_lt, if◌then◌else◌, ◌++◌, List, [], codes, decimal, string_bytes, Option, Some, None}
use Rattle.job_bodies.specs.Plan.{Plan, class_at}
use Rattle.recordings.specs.declared.recording_line.RecordedActor.{RecordedActor}
use Rattle.recordings.specs.declared.recording_line.RecordedActor.TheVariants.{Job, Round}
use Rattle.conformance.specs.declared.open_excess.OpenExcess.{OpenExcess}
use Rattle.conformance.specs.declared.mismatch.PathMismatch.{PathMismatch}
use Rattle.conformance.specs.declared.mismatch.DeviatingStep.{DeviatingStep}
use Rattle.conformance.specs.declared.mismatch.DeviatingStep.TheVariants as step
use Rattle.conformance.specs.declared.mismatch.NamedStep.{NamedStep}
use Rattle.conformance.specs.declared.mismatch.NamedStep.TheVariants.{Submits, Gets}

-- The text of a job with its class and pool, such as `job 44 of class order in pool web`.
abbrev pub job_text : ℕ → List ℕ → List ℕ → List ℕ
job_text job class pool = codes "job " ++ decimal job ++ codes " of class " ++ class ++ codes " in pool " ++ pool

abbrev pub round_text : ℕ → List ℕ → List ℕ
round_text round kind = codes "round " ++ decimal round ++ codes " of kind " ++ kind

-- The text of an actor with its label, such as `round 3 of kind visitor`.
abbrev pub actor_text : RecordedActor → List ℕ → List ℕ → List ℕ
actor_text (Job job) label pool = job_text job label pool
actor_text (Round round) label pool = round_text round label

-- ---- what it did
-- The text of a submit, such as ` submitted price to pool database`.
abbrev pub submit_text : List ℕ → List ℕ → List ℕ
submit_text class pool = codes " submitted " ++ class ++ codes " to pool " ++ pool

abbrev pub get_text : List ℕ → List ℕ → List ℕ
get_text class pool = codes " got " ++ class ++ codes " of pool " ++ pool

-- ---- why it deviates
-- The text that says that the body has no such step. `step` is `submit` or `get`.
abbrev pub missing_text : List ℕ → List ℕ
missing_text step = codes "; its body has no such " ++ step

abbrev pub several_jobs_text : ℕ → List ℕ → List ℕ
several_jobs_text jobs class = codes ", " ++ (decimal jobs ++ (codes " jobs of class " ++ (class ++ codes " are open")))

abbrev pub open_jobs_text : ℕ → List ℕ → List ℕ
open_jobs_text jobs class = if jobs == 1 then codes ", 1 job of class " ++ class ++ codes " is open" else several_jobs_text jobs class

abbrev pub limit_text : ℕ → List ℕ
limit_text limit = codes "; its body has only " ++ decimal limit ++ codes " at some point before its next such submit"

abbrev pub excess_text : Plan → OpenExcess → List ℕ
excess_text plan excess = open_jobs_text excess.open_jobs (class_at plan excess.class).name ++ limit_text excess.limit

abbrev pub end_text : List ℕ
end_text = codes " ended; its body has a get before its end"

abbrev pub end_reason : List ℕ
end_reason = codes "; its body has a get before its end"

abbrev pub without_get_text : ℕ → List ℕ → List ℕ → List ℕ
without_get_text job class pool = codes " ended without a get of job " ++ (decimal job ++ (codes " of class " ++ (class ++ (codes " in pool " ++ pool))))

-- The text of the number of gets that timed out or were interrupted. It is empty if there are fewer than two.
abbrev pub failed_gets_text : ℕ → List ℕ
failed_gets_text gets = if nat_lt gets 2 then [] else codes ", after " ++ decimal gets ++ codes " gets of it that timed out or were interrupted"

abbrev pub end_after_text : ℕ → List ℕ
end_after_text failed_gets = failed_gets_text failed_gets ++ end_reason

abbrev pub open_end_text : ℕ → List ℕ → List ℕ → ℕ → List ℕ
open_end_text job class pool failed_gets = without_get_text job class pool ++ end_after_text failed_gets

abbrev pub cause_text : ℕ → List ℕ
cause_text job = codes " as job " ++ decimal job ++ codes ", whose own path matches no such class"

abbrev pub unplanned_job_text : ℕ → List ℕ
unplanned_job_text job = codes " as job " ++ decimal job ++ codes ", which belongs to no class of the plan"

abbrev pub position_text : Option NamedStep → List ℕ
position_text None = codes " at its begin"
position_text (Some (Submits class)) = codes " after submit " ++ string_bytes class
position_text (Some (Gets class)) = codes " after get " ++ string_bytes class

abbrev pub too_many_text : Plan → Option NamedStep → OpenExcess → List ℕ
too_many_text plan after excess = (codes ";" ++ position_text after) ++ excess_text plan excess

-- The text of the first step that no body explains. `after` is the step before it.
abbrev pub deviating_step_text : Plan → DeviatingStep → Option NamedStep → List ℕ
deviating_step_text plan (step.Submits label) after = (submit_text (string_bytes label.name) (string_bytes label.pool) ++ missing_text (codes "submit")) ++ position_text after
deviating_step_text plan (step.SubmitsWhileOpen label excess) after = submit_text (string_bytes label.name) (string_bytes label.pool) ++ too_many_text plan after excess
deviating_step_text plan (step.Gets label) after = (get_text (string_bytes label.name) (string_bytes label.pool) ++ missing_text (codes "get")) ++ position_text after
deviating_step_text plan (step.SubmitsMismatched job label) after = submit_text (string_bytes label.name) (string_bytes label.pool) ++ cause_text job
deviating_step_text plan (step.SubmitsUnplanned job label) after = submit_text (string_bytes label.name) (string_bytes label.pool) ++ unplanned_job_text job
deviating_step_text plan (step.EndsOpen job label failed_gets) after = open_end_text job (string_bytes label.name) (string_bytes label.pool) failed_gets
deviating_step_text plan step.Ends after = end_text

abbrev pub mismatch_text : Plan → PathMismatch → List ℕ
mismatch_text plan mismatch = actor_text mismatch.actor (string_bytes mismatch.label.name) (string_bytes mismatch.label.pool) ++ deviating_step_text plan mismatch.step mismatch.after
