-- A job submits only jobs with larger numbers.
use Rattle.std.proofs.Common.{◌≡◌, ◌<◌, ℕ, ◌&&◌, ◌||◌, not, Bool, true, false, List, [], refl, sym, ◌∙◌, arith}
use Rattle.std.specs.List.{list_any}
use Rattle.recordings.specs.declared.recording_line.RecordedActor.{RecordedActor}
use Rattle.recordings.specs.declared.recording_line.RecordedActor.TheVariants.{Job, Round}
use Rattle.recordings.specs.RecordingLine.{RecordedLine, Submits}
use Rattle.recordings.proofs.Keeping.{Keeps}
use Rattle.recordings.specs.ActorPath.{submits}
use Rattle.recordings.specs.LineSteps.{submits_by, has_submitted, is_refused}
use Rattle.recordings.specs.Path.{path_of, steps_of}
use Rattle.recordings.specs.PathsOfLines.{KeepsRules}
use Rattle.recordings.proofs.Tests.{and_first}
use Rattle.recordings.proofs.ByLast.{by_kept}
use Rattle.recordings.proofs.Steps.{steps_submitted}
use Rattle.recordings.proofs.LaterNumbers.{known_actor, next_number}
use Rattle.recordings.proofs.StepsByLine.{has_submitted_more}
use Rattle.recordings.proofs.SubmitIndices.{any_with_places}

-- An actor has submitted exactly the jobs of its path, apart from refused ones.
pub path_submits : (lines : List RecordedLine) (actor : RecordedActor) (job : ℕ) → list_any (submits job) (path_of lines actor) ≡ (has_submitted lines actor job && not (is_refused lines job))
path_submits lines actor job = any_with_places job (steps_of lines actor) ∙ steps_submitted actor job lines

later_by_line : (before : List RecordedLine) (line : RecordedLine) (submitter job : ℕ) → Keeps before line → submits_by (Job submitter) job line ≡ true → submitter < job
later_by_line before (Submits (Job one) number class pool) submitter job k h = grind (arith, h, known_actor before (Submits (Job one) number class pool) k, next_number before (Submits (Job one) number class pool) k)
later_by_line before (Submits (Round one) number class pool) submitter job k h = absurd (grind (arith, h))
later_by_line before line submitter job k h = absurd (grind (arith, h))

either : (a b : Bool) {P : Type 0} → (a || b) ≡ true → (a ≡ true → P) → (b ≡ true → P) → P
either true b h remaining right = remaining refl
either false b h remaining right = right h

none_submitted : (actor : RecordedActor) (job : ℕ) → has_submitted [] actor job ≡ false
unfolding has_submitted
none_submitted actor job = refl

submitted_later : (submitter job : ℕ) (lines : List RecordedLine) → KeepsRules lines → has_submitted lines (Job submitter) job ≡ true → submitter < job
submitted_later submitter job =
    by_kept (λ lines. has_submitted lines (Job submitter) job ≡ true → submitter < job) (λ h. absurd (grind (arith, h, none_submitted (Job submitter) job)))
    (λ before line kept k known h.
    either (has_submitted before (Job submitter) job) (submits_by (Job submitter) job line) (sym (has_submitted_more before line (Job submitter) job) ∙ h) known (later_by_line before line submitter job k))

pub jobs_are_later : (lines : List RecordedLine) (submitter job : ℕ) → KeepsRules lines → list_any (submits job) (path_of lines (Job submitter)) ≡ true → submitter < job
jobs_are_later lines submitter job kept h = submitted_later submitter job lines kept (and_first _ _ (sym (path_submits lines (Job submitter) job) ∙ h))
