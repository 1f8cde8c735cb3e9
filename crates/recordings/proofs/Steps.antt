-- The actions of an actor after one more line.
use Rattle.std.proofs.Common.{◌≡◌, ℕ, ◌==◌, ◌&&◌, ◌||◌, not, Bool, true, false, if◌then◌else◌, List, [], ◌∷◌, ◌++◌, Some, None, refl, ap, sym, ◌∙◌, append-nil, arith}
use Rattle.std.specs.List.{list_any, filter}
use Rattle.std.specs.Option.{option_to_list}
use Rattle.recordings.specs.declared.recording_line.RecordedActor.{RecordedActor}
use Rattle.recordings.specs.RecordingLine.{RecordedLine, Submits, Refused, Got}
use Rattle.recordings.specs.LineParts.{is_same_actor, refuses_job}
use Rattle.recordings.specs.LineSteps.{is_refused, has_submitted, has_got, JobStep, SubmitOf, GetOf, job_of_step, is_submit_of, is_get_of, step_by_line, steps_by_lines}
use Rattle.recordings.specs.Path.{steps_of}
use Rattle.recordings.specs.PathsOfLines.{KeepsRules}
use Rattle.recordings.proofs.Tests.{filter_more, filter_same, filter_filter}
use Rattle.recordings.proofs.ValidSteps.{ValidSteps, any_kept, submit_job, get_job, lawful_kept}
use Rattle.recordings.proofs.StepsByLine.{refused_more, by_lines_more, nothing_more, submits_by_lines, gets_by_lines, lawful_by_lines}

-- ---- the actions are valid
pub lawful_steps : (actor : RecordedActor) (lines : List RecordedLine) → KeepsRules lines → ValidSteps (steps_of lines actor)
unfolding steps_of
lawful_steps actor lines kept = lawful_kept (λ job. not (is_refused lines job)) (steps_by_lines lines actor) (lawful_by_lines actor lines kept)

pub steps_submitted : (actor : RecordedActor) (j : ℕ) (lines : List RecordedLine) → list_any (is_submit_of j) (steps_of lines actor) ≡ (has_submitted lines actor j && not (is_refused lines j))
unfolding steps_of
steps_submitted actor j lines =
    any_kept (λ job. not (is_refused lines job)) j (is_submit_of j) (submit_job j) (steps_by_lines lines actor) ∙ ap (λ b. b && not (is_refused lines j)) (submits_by_lines actor j lines)

pub steps_got : (actor : RecordedActor) (j : ℕ) (lines : List RecordedLine) → KeepsRules lines → list_any (is_get_of j) (steps_of lines actor) ≡ ((has_submitted lines actor j && has_got lines actor j) && not (is_refused lines j))
unfolding steps_of
steps_got actor j lines kept =
    any_kept (λ job. not (is_refused lines job)) j (is_get_of j) (get_job j) (steps_by_lines lines actor) ∙ ap (λ b. b && not (is_refused lines j)) (gets_by_lines actor j lines kept)

pub steps_none : (actor : RecordedActor) (lines : List RecordedLine) → steps_by_lines lines actor ≡ [] → steps_of lines actor ≡ []
unfolding steps_of
steps_none actor lines none = ap (filter (λ step. not (is_refused lines (job_of_step step)))) none

-- ---- a line that is not `refused`
or_none : (a b : Bool) → b ≡ false → (a || b) ≡ a
or_none true b h = refl
or_none false b h = h

steps_after : (before : List RecordedLine) (line : RecordedLine) (actor : RecordedActor) → ((j : ℕ) → refuses_job j line ≡ false)
    → steps_of (before ++ line ∷ []) actor ≡ filter (λ step. not (is_refused before (job_of_step step))) (steps_by_lines (before ++ line ∷ []) actor)
unfolding steps_of
steps_after before line actor unrefusing =
    filter_same (λ step. not (is_refused (before ++ line ∷ []) (job_of_step step))) (λ step. not (is_refused before (job_of_step step)))
    (λ step. ap not (refused_more before line (job_of_step step) ∙ or_none (is_refused before (job_of_step step)) (refuses_job (job_of_step step) line) (unrefusing (job_of_step step)))) (steps_by_lines (before ++ line ∷ []) actor)

pub steps_same : (before : List RecordedLine) (line : RecordedLine) (actor : RecordedActor) → ((j : ℕ) → refuses_job j line ≡ false) → step_by_line actor before line ≡ None → steps_of (before ++ line ∷ []) actor ≡ steps_of before actor
unfolding steps_of
steps_same before line actor unrefusing nothing =
    steps_after before line actor unrefusing ∙ ap (filter (λ step. not (is_refused before (job_of_step step)))) (nothing_more before line actor nothing)

filter_option : (p : JobStep → Bool) (before : List JobStep) (b : Bool) (one : JobStep) → filter p (before ++ option_to_list (if b then Some one else None)) ≡ (if b && p one then filter p before ++ one ∷ [] else filter p before)
filter_option p before true one = filter_more p before one
filter_option p before false one = ap (filter p) (append-nil before)

-- the line appends this action if the condition `b` holds and the job was not refused
steps_option : (before : List RecordedLine) (line : RecordedLine) (actor : RecordedActor) (b : Bool) (step : JobStep) → ((j : ℕ) → refuses_job j line ≡ false) → step_by_line actor before line ≡ (if b then Some step else None)
    → steps_of (before ++ line ∷ []) actor ≡ (if b && not (is_refused before (job_of_step step)) then steps_of before actor ++ step ∷ [] else steps_of before actor)
unfolding steps_of
steps_option before line actor b step unrefusing said =
    steps_after before line actor unrefusing
    ∙ (ap (filter (λ one. not (is_refused before (job_of_step one)))) (by_lines_more before line actor ∙ ap (λ more. steps_by_lines before actor ++ option_to_list more) said)
    ∙ filter_option (λ one. not (is_refused before (job_of_step one))) (steps_by_lines before actor) b step)

and_true : (a b : Bool) → b ≡ false → (a && not b) ≡ a
and_true true b h = ap not h
and_true false b h = refl

pub steps_submit : (before : List RecordedLine) (submitter actor : RecordedActor) (job : ℕ) (class pool : List ℕ) → is_refused before job ≡ false
    → steps_of (before ++ Submits submitter job class pool ∷ []) actor ≡ (if is_same_actor submitter actor then steps_of before actor ++ SubmitOf job ∷ [] else steps_of before actor)
steps_submit before submitter actor job class pool unrefused =
    steps_option before (Submits submitter job class pool) actor (is_same_actor submitter actor) (SubmitOf job) (λ j. refl) refl
    ∙ ap (λ (b : Bool). if b then steps_of before actor ++ SubmitOf job ∷ [] else steps_of before actor) (and_true (is_same_actor submitter actor) (is_refused before job) unrefused)

-- the condition for a get is the same in terms of the lines and in terms of the actions
counts_so : (same submitted got refused : Bool) → same ≡ true → ((same && submitted && not got) && not refused) ≡ ((submitted && not refused) && not ((submitted && got) && not refused))
counts_so same submitted got refused h = grind (arith, h)

pub steps_get : (before : List RecordedLine) (getter actor : RecordedActor) (job : ℕ) → KeepsRules before → is_same_actor getter actor ≡ true
    → steps_of (before ++ Got getter job ∷ []) actor
    ≡ (if list_any (is_submit_of job) (steps_of before actor) && not (list_any (is_get_of job) (steps_of before actor)) then steps_of before actor ++ GetOf job ∷ [] else steps_of before actor)
steps_get before getter actor job kept same =
    let submitted = steps_submitted actor job before in
    let got = steps_got actor job before kept in
    steps_option before (Got getter job) actor (is_same_actor getter actor && has_submitted before actor job && not (has_got before actor job)) (GetOf job) (λ j. refl) refl
    ∙ ap (λ (b : Bool). if b then steps_of before actor ++ GetOf job ∷ [] else steps_of before actor)
    (counts_so (is_same_actor getter actor) (has_submitted before actor job) (has_got before actor job) (is_refused before job) same
    ∙ (ap (λ b. b && not ((has_submitted before actor job && has_got before actor job) && not (is_refused before job))) (sym submitted)
    ∙ ap (λ b. list_any (is_submit_of job) (steps_of before actor) && not b) (sym got)))

-- ---- a `refused` line
neither_refused : (a b : Bool) → not (a || b) ≡ (not a && not b)
neither_refused true b = refl
neither_refused false b = refl

pub steps_refused : (before : List RecordedLine) (who actor : RecordedActor) (j : ℕ) → steps_of (before ++ Refused who j ∷ []) actor ≡ filter (λ step. not (j == job_of_step step)) (steps_of before actor)
unfolding steps_of
steps_refused before who actor j =
    ap (filter (λ step. not (is_refused (before ++ Refused who j ∷ []) (job_of_step step)))) (nothing_more before (Refused who j) actor refl)
    ∙ filter_filter (λ step. not (is_refused before (job_of_step step))) (λ step. not (j == job_of_step step)) (λ step. not (is_refused (before ++ Refused who j ∷ []) (job_of_step step)))
    (λ step. ap not (refused_more before (Refused who j) (job_of_step step)) ∙ neither_refused (is_refused before (job_of_step step)) (j == job_of_step step)) (steps_by_lines before actor)
