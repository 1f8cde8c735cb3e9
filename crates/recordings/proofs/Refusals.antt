-- A job that is refused is the last job that its actor submitted.
use Rattle.std.proofs.Common.{◌≡◌, ℕ, ◌==◌, ◌&&◌, ◌||◌, not, Bool, true, false, if◌then◌else◌, List, [], ◌∷◌, ◌++◌, Some, refl, ap, sym, subst, ◌∙◌, arith}
use Rattle.std.specs.List.{list_any}
use Rattle.std.specs.Option.{option_to_list}
use Rattle.recordings.specs.declared.recording_line.RecordedActor.{RecordedActor}
use Rattle.recordings.specs.declared.recording_line.RecordedActor.TheVariants.{Job, Round}
use Rattle.recordings.specs.RecordingLine.{RecordedLine, Submits}
use Rattle.recordings.specs.LineParts.{is_same_actor, is_of, submits_job, refuses_job}
use Rattle.recordings.specs.Before.{just_submitted}
use Rattle.recordings.proofs.Appended as rules
use Rattle.recordings.proofs.Keeping.{Keeps}
use Rattle.recordings.specs.LineSteps.{submits_by, is_refused, has_submitted, JobStep, SubmitOf, step_by_line, steps_by_lines}
use Rattle.recordings.specs.PathsOfLines.{KeepsRules}
use Rattle.recordings.proofs.Tests.{and_first, and_second, or_first, or_second, not_weaker}
use Rattle.recordings.proofs.ByLast.{by_last, by_kept}
use Rattle.recordings.proofs.LaterNumbers.{next_job, submitted_fresh}
use Rattle.recordings.proofs.ValidSteps.{is_step_of, unsubmitted_none}
use Rattle.recordings.proofs.StepsByLine.{refused_more, has_submitted_more, by_lines_more, other_more, submits_by_lines, lawful_by_lines}

-- ---- actors
pub same_actor : (a b : RecordedActor) → is_same_actor a b ≡ true → a ≡ b
same_actor (Job n) (Job m) same = grind (arith, same)
same_actor (Job n) (Round m) same = grind (arith, same)
same_actor (Round n) (Job m) same = grind (arith, same)
same_actor (Round n) (Round m) same = grind (arith, same)

-- ---- the submitter of a job
by_its_actor : (actor : RecordedActor) (line : RecordedLine) (j : ℕ) → is_of actor line ≡ true → submits_job j line ≡ true → submits_by actor j line ≡ true
by_its_actor actor (Submits submitter job class pool) j own same = grind (arith, own, same)
by_its_actor actor line j own same = grind (arith, same)

just_at_none : (actor : RecordedActor) (j : ℕ) → just_submitted [] actor j ≡ false
unfolding just_submitted
just_at_none actor j = refl

reported_by : (own said before submitted by : Bool) → (if own then said else before) ≡ true → (own ≡ true → said ≡ true → by ≡ true) → (before ≡ true → submitted ≡ true) → (submitted || by) ≡ true
reported_by true said before submitted by h now known = grind (arith, now refl h)
reported_by false said before submitted by h now known = grind (arith, known h)

pub just_has_submitted : (actor : RecordedActor) (j : ℕ) (lines : List RecordedLine) → just_submitted lines actor j ≡ true → has_submitted lines actor j ≡ true
just_has_submitted actor j =
    by_last (λ lines. just_submitted lines actor j ≡ true → has_submitted lines actor j ≡ true) (λ h. grind (arith, h, just_at_none actor j))
    (λ before line known h.
    has_submitted_more before line actor j
    ∙ reported_by (is_of actor line && not (refuses_job j line)) (submits_job j line) (just_submitted before actor j) (has_submitted before actor j) (submits_by actor j line)
    (sym (rules.submitted_more before line actor j) ∙ h) (λ own same. by_its_actor actor line j (and_first _ _ own) same) known)

by_submits : (actor : RecordedActor) (line : RecordedLine) (j : ℕ) → submits_by actor j line ≡ true → submits_job j line ≡ true
by_submits actor (Submits submitter job class pool) j by = and_second (is_same_actor submitter actor) (job == j) by
by_submits actor line j by = grind (arith, by)

same_submitter : (a b : RecordedActor) (line : RecordedLine) (j : ℕ) → submits_by a j line ≡ true → submits_by b j line ≡ true → is_same_actor a b ≡ true
same_submitter a b (Submits submitter job class pool) j h g =
    subst (λ one. is_same_actor one b ≡ true) (same_actor submitter a (and_first (is_same_actor submitter a) (job == j) h)) (and_first (is_same_actor submitter b) (job == j) g)
same_submitter a b line j h g = grind (arith, h)

left_true : (a b : Bool) → (a || b) ≡ true → b ≡ false → a ≡ true
left_true true b h g = refl
left_true false b h g = grind (arith, h, g)

right_true : (a b : Bool) → (a || b) ≡ true → a ≡ false → b ≡ true
right_true true b h g = grind (arith, g)
right_true false b h g = h

one_step : (a b : RecordedActor) (j : ℕ) (before : List RecordedLine) (line : RecordedLine) → KeepsRules before → Keeps before line
    → (has_submitted before a j ≡ true → has_submitted before b j ≡ true → is_same_actor a b ≡ true)
    → (has_submitted before a j || submits_by a j line) ≡ true → (has_submitted before b j || submits_by b j line) ≡ true
    → (now : Bool) → submits_job j line ≡ now → is_same_actor a b ≡ true
one_step a b j before line kept k known h g true now =
    let past = next_job before line j k now in
    same_submitter a b line j (right_true _ _ h (submitted_fresh before kept a j past)) (right_true _ _ g (submitted_fresh before kept b j past))
one_step a b j before line kept k known h g false now =
    known (left_true _ _ h (not_weaker _ _ (by_submits a line j) now)) (left_true _ _ g (not_weaker _ _ (by_submits b line j) now))

submitted_at_none : (actor : RecordedActor) (j : ℕ) → has_submitted [] actor j ≡ false
unfolding has_submitted
submitted_at_none actor j = refl

pub one_submitter : (a b : RecordedActor) (j : ℕ) (lines : List RecordedLine) → KeepsRules lines → has_submitted lines a j ≡ true → has_submitted lines b j ≡ true → is_same_actor a b ≡ true
one_submitter a b j =
    by_kept (λ lines. has_submitted lines a j ≡ true → has_submitted lines b j ≡ true → is_same_actor a b ≡ true) (λ h g. grind (arith, h, submitted_at_none a j))
    (λ before line kept k known h g.
    one_step a b j before line kept k known (sym (has_submitted_more before line a j) ∙ h) (sym (has_submitted_more before line b j) ∙ g) (submits_job j line) refl)

-- ---- the last action of an actor
-- the last action is the submit of the job, and no other action submits or gets the job
pub record EndsBySubmit (steps : List JobStep) (j : ℕ) : Type 0 where
  pub front : List JobStep
  pub whole : steps ≡ front ++ SubmitOf j ∷ []
  pub unnamed : list_any (is_step_of j) front ≡ false

submit_said : (actor : RecordedActor) (before : List RecordedLine) (line : RecordedLine) (j : ℕ) → is_of actor line ≡ true → submits_job j line ≡ true → step_by_line actor before line ≡ Some (SubmitOf j)
submit_said actor before (Submits submitter job class pool) j own same = grind (arith, own, same)
submit_said actor before line j own same = grind (arith, same)

last_step : (actor : RecordedActor) (j : ℕ) (before : List RecordedLine) (line : RecordedLine) → KeepsRules before → Keeps before line
    → (just_submitted before actor j ≡ true → is_refused before j ≡ false → EndsBySubmit (steps_by_lines before actor) j)
    → (if is_of actor line && not (refuses_job j line) then submits_job j line else just_submitted before actor j) ≡ true
    → is_refused before j ≡ false → refuses_job j line ≡ false
    → (own : Bool) → is_of actor line ≡ own → EndsBySubmit (steps_by_lines (before ++ line ∷ []) actor) j
last_step actor j before line kept k known h unrefused unrefusing true own =
    let now : submits_job j line ≡ true = grind (arith, h, own, unrefusing) in
    record {
      front = steps_by_lines before actor;
      whole = by_lines_more before line actor ∙ ap (λ more. steps_by_lines before actor ++ option_to_list more) (submit_said actor before line j own now);
      unnamed = unsubmitted_none (steps_by_lines before actor) (lawful_by_lines actor before kept) j (submits_by_lines actor j before ∙ submitted_fresh before kept actor j (next_job before line j k now));
    }
last_step actor j before line kept k known h unrefused unrefusing false own =
    let just : just_submitted before actor j ≡ true = grind (arith, h, own) in
    let last = known just unrefused in
    record { front = last.front; whole = other_more before line actor own ∙ last.whole; unnamed = last.unnamed }

pub last_submitted : (actor : RecordedActor) (j : ℕ) (lines : List RecordedLine) → KeepsRules lines → just_submitted lines actor j ≡ true → is_refused lines j ≡ false → EndsBySubmit (steps_by_lines lines actor) j
last_submitted actor j =
    by_kept (λ lines. just_submitted lines actor j ≡ true → is_refused lines j ≡ false → EndsBySubmit (steps_by_lines lines actor) j) (λ h g. absurd (grind (arith, h, just_at_none actor j)))
    (λ before line kept k known h unrefused.
    let split : (is_refused before j || refuses_job j line) ≡ false = sym (refused_more before line j) ∙ unrefused in
    last_step actor j before line kept k known (sym (rules.submitted_more before line actor j) ∙ h) (or_first _ _ split) (or_second _ _ split) (is_of actor line) refl)
