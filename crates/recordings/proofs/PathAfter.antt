-- The path of an actor after one more line.
use Rattle.std.proofs.Common.{◌≡◌, ℕ, ◌≤◌, ◌==◌, ◌&&◌, not, Bool, true, false, if◌then◌else◌, List, [], ◌∷◌, ◌++◌, Some, None, refl, ap, sym, subst, ◌∙◌, arith}
use Rattle.std.specs.List.{list_any, position_or_len, filter}
use Rattle.recordings.specs.declared.recording_line.RecordedActor.{RecordedActor}
use Rattle.recordings.specs.RecordingLine.{RecordedLine, Submits, Refused, Got}
use Rattle.recordings.specs.LineParts.{is_same_actor, is_of, refuses_job}
use Rattle.recordings.specs.Before.{submits, just_submitted, has_started}
use Rattle.recordings.specs.declared.step.RecordedStep.{RecordedStep}
use Rattle.recordings.specs.declared.step.RecordedStep.TheVariants as step
use Rattle.recordings.specs.ActorPath.{with_get_at, with_get, without_submit}
use Rattle.recordings.specs.LineSteps.{is_refused, has_submitted, JobStep, SubmitOf, GetOf, job_of_step, is_submit_of, is_get_of, step_by_line, steps_by_lines}
use Rattle.recordings.specs.Path.{steps_of, with_places, path_of}
use Rattle.recordings.specs.PathsOfLines.{KeepsRules}
use Rattle.recordings.proofs.Tests.{and_first, or_first, or_second, neither, not_weaker, filter_more, filter_all}
use Rattle.recordings.proofs.ByLast.{keeps_before, keeps_last}
use Rattle.recordings.proofs.LaterNumbers.{refused_fresh}
use Rattle.recordings.proofs.ValidSteps.{ValidSteps, is_step_of, unsubmitted_none}
use Rattle.recordings.proofs.StepsByLine.{other_by_line}
use Rattle.recordings.proofs.Refusals.{same_actor, just_has_submitted, one_submitter, EndsBySubmit, last_submitted}
use Rattle.recordings.proofs.Steps.{lawful_steps, steps_submitted, steps_none, steps_same, steps_submit, steps_get, steps_refused}
use Rattle.recordings.proofs.SubmitIndices.{same_self, place_by_steps, places_none, places_submit, places_get, any_with_places, place_there}
use Rattle.recordings.proofs.Ends.{got_there, without_last, without_none}

pub path_none : (actor : RecordedActor) (lines : List RecordedLine) → steps_by_lines lines actor ≡ [] → path_of lines actor ≡ []
path_none actor lines none = ap with_places (steps_none actor lines none) ∙ places_none

pub path_same : (before : List RecordedLine) (line : RecordedLine) (actor : RecordedActor) → ((j : ℕ) → refuses_job j line ≡ false) → step_by_line actor before line ≡ None → path_of (before ++ line ∷ []) actor ≡ path_of before actor
path_same before line actor unrefusing nothing = ap with_places (steps_same before line actor unrefusing nothing)

-- the path is unchanged after a line of another actor that is not `refused`
pub path_other : (before : List RecordedLine) (line : RecordedLine) (actor : RecordedActor) → ((j : ℕ) → refuses_job j line ≡ false) → is_of actor line ≡ false → path_of (before ++ line ∷ []) actor ≡ path_of before actor
path_other before line actor unrefusing other = path_same before line actor unrefusing (other_by_line actor before line other)

-- ---- the path after a submit
places_if : (b : Bool) (steps : List JobStep) → ValidSteps steps → (job : ℕ) → with_places (if b then steps ++ SubmitOf job ∷ [] else steps) ≡ (if b then with_places steps ++ step.Submits job ∷ [] else with_places steps)
places_if true steps l job = places_submit steps l job
places_if false steps l job = refl

pub path_submit : (before : List RecordedLine) (submitter actor : RecordedActor) (job : ℕ) (class pool : List ℕ) → KeepsRules before → submits before ≤ job
    → path_of (before ++ Submits submitter job class pool ∷ []) actor ≡ (if is_same_actor submitter actor then path_of before actor ++ step.Submits job ∷ [] else path_of before actor)
path_submit before submitter actor job class pool kept past =
    ap with_places (steps_submit before submitter actor job class pool (refused_fresh before kept job past)) ∙ places_if (is_same_actor submitter actor) (steps_of before actor) (lawful_steps actor before kept) job

-- ---- the path after a get
get_step : (steps : List JobStep) → ValidSteps steps → (job : ℕ) → (submitted : Bool) → list_any (is_submit_of job) steps ≡ submitted → (got : Bool) → list_any (is_get_of job) steps ≡ got
    → with_places (if submitted && not got then steps ++ GetOf job ∷ [] else steps) ≡ with_get_at (if submitted then Some (position_or_len (is_submit_of job) steps) else None) (with_places steps)
get_step steps l job true h true g = sym (ap (λ (b : Bool). if b then with_places steps else with_places steps ++ step.Gets (position_or_len (is_submit_of job) steps) ∷ []) (got_there steps l job h ∙ g))
get_step steps l job true h false g =
    places_get steps l job h ∙ sym (ap (λ (b : Bool). if b then with_places steps else with_places steps ++ step.Gets (position_or_len (is_submit_of job) steps) ∷ []) (got_there steps l job h ∙ g))
get_step steps l job false h got g = refl

place_is : (job : ℕ) (steps : List JobStep) → (if list_any (is_submit_of job) steps then Some (position_or_len (is_submit_of job) steps) else None) ≡ place_by_steps job steps
unfolding place_by_steps
place_is job steps = refl

path_own_get : (before : List RecordedLine) (getter actor : RecordedActor) (job : ℕ) → KeepsRules before → is_same_actor getter actor ≡ true → path_of (before ++ Got getter job ∷ []) actor ≡ with_get job (path_of before actor)
path_own_get before getter actor job kept same =
    let l = lawful_steps actor before kept in
    ap with_places (steps_get before getter actor job kept same)
    ∙ (get_step (steps_of before actor) l job (list_any (is_submit_of job) (steps_of before actor)) refl (list_any (is_get_of job) (steps_of before actor)) refl
    ∙ ap (λ place. with_get_at place (with_places (steps_of before actor))) (place_is job (steps_of before actor) ∙ sym (place_there (steps_of before actor) l job)))

get_if : (before : List RecordedLine) (getter actor : RecordedActor) (job : ℕ) → KeepsRules before → (same : Bool) → is_same_actor getter actor ≡ same
    → path_of (before ++ Got getter job ∷ []) actor ≡ (if same then with_get job (path_of before actor) else path_of before actor)
get_if before getter actor job kept true same = path_own_get before getter actor job kept same
get_if before getter actor job kept false same = path_other before (Got getter job) actor (λ j. refl) same

pub path_get : (before : List RecordedLine) (getter actor : RecordedActor) (job : ℕ) → KeepsRules before
    → path_of (before ++ Got getter job ∷ []) actor ≡ (if is_same_actor getter actor then with_get job (path_of before actor) else path_of before actor)
path_get before getter actor job kept = get_if before getter actor job kept (is_same_actor getter actor) refl

-- ---- the path after a `refused` line
other_way : (a b : ℕ) → not (a == b) ≡ not (b == a)
other_way a b = grind arith

nothing_dropped : (j : ℕ) (steps : List JobStep) → list_any (is_step_of j) steps ≡ false → filter (λ step. not (j == job_of_step step)) steps ≡ steps
nothing_dropped j steps none = filter_all (λ step. not (j == job_of_step step)) (is_step_of j) (λ step. other_way j (job_of_step step)) steps none

-- the path is unchanged if it has no submit of the job
unsubmitted_path : (before : List RecordedLine) (who actor : RecordedActor) (j : ℕ) → KeepsRules before → list_any (is_submit_of j) (steps_of before actor) ≡ false → path_of (before ++ Refused who j ∷ []) actor ≡ path_of before actor
unsubmitted_path before who actor j kept none =
    ap with_places (steps_refused before who actor j ∙ nothing_dropped j (steps_of before actor) (unsubmitted_none (steps_of before actor) (lawful_steps actor before kept) j none))

unsubmitted_stays : (before : List RecordedLine) (actor : RecordedActor) (j : ℕ) → list_any (is_submit_of j) (steps_of before actor) ≡ false → without_submit j (path_of before actor) ≡ path_of before actor
unsubmitted_stays before actor j none = without_none j (path_of before actor) (any_with_places j (steps_of before actor) ∙ none)

-- the path loses its last action if that is the submit of the job
unnamed_step : (q : JobStep → Bool) (step : JobStep) (steps : List JobStep) (b : Bool) → q step ≡ false → list_any q steps ≡ false → list_any q (if b then step ∷ steps else steps) ≡ false
unnamed_step q step steps true here rest = neither (q step) (list_any q steps) here rest
unnamed_step q step steps false here rest = rest

still_unnamed : (p : JobStep → Bool) (j : ℕ) (steps : List JobStep) → list_any (is_step_of j) steps ≡ false → list_any (is_step_of j) (filter p steps) ≡ false
still_unnamed p j [] h = refl
still_unnamed p j (step ∷ steps) h = unnamed_step (is_step_of j) step (filter p steps) (p step) (or_first _ _ h) (still_unnamed p j steps (or_second _ _ h))

kept_front : List RecordedLine → List JobStep → List JobStep
kept_front before steps = filter (λ step. not (is_refused before (job_of_step step))) steps

front_unnamed : (before : List RecordedLine) (j : ℕ) (steps : List JobStep) → list_any (is_step_of j) steps ≡ false → list_any (is_step_of j) (kept_front before steps) ≡ false
unfolding kept_front
front_unnamed before j steps h = still_unnamed (λ step. not (is_refused before (job_of_step step))) j steps h

steps_end : (before : List RecordedLine) (actor : RecordedActor) (j : ℕ) → is_refused before j ≡ false → (last : EndsBySubmit (steps_by_lines before actor) j) → steps_of before actor ≡ kept_front before last.front ++ SubmitOf j ∷ []
unfolding steps_of kept_front
steps_end before actor j unrefused last =
    ap (filter (λ step. not (is_refused before (job_of_step step)))) last.whole
    ∙ (filter_more (λ step. not (is_refused before (job_of_step step))) last.front (SubmitOf j)
    ∙ ap (λ b. if not b then filter (λ step. not (is_refused before (job_of_step step))) last.front ++ SubmitOf j ∷ [] else filter (λ step. not (is_refused before (job_of_step step))) last.front) unrefused)

dropped : (j : ℕ) (front : List JobStep) → list_any (is_step_of j) front ≡ false → filter (λ step. not (j == job_of_step step)) (front ++ SubmitOf j ∷ []) ≡ front
dropped j front none =
    filter_more (λ step. not (j == job_of_step step)) front (SubmitOf j)
    ∙ (ap (λ (b : Bool). if not b then filter (λ step. not (j == job_of_step step)) front ++ SubmitOf j ∷ [] else filter (λ step. not (j == job_of_step step)) front) (same_self j) ∙ nothing_dropped j front none)

refused_path : (before : List RecordedLine) (actor : RecordedActor) (j : ℕ) → KeepsRules (before ++ Refused actor j ∷ []) → is_refused before j ≡ false → EndsBySubmit (steps_by_lines before actor) j
    → path_of (before ++ Refused actor j ∷ []) actor ≡ without_submit j (path_of before actor)
refused_path before actor j kept unrefused last =
    let front = kept_front before last.front in
    let old : steps_of before actor ≡ front ++ SubmitOf j ∷ [] = steps_end before actor j unrefused last in
    let new : steps_of (before ++ Refused actor j ∷ []) actor ≡ front = steps_refused before actor actor j ∙ (ap (filter (λ step. not (j == job_of_step step))) old ∙ dropped j front (front_unnamed before j last.front last.unnamed)) in
    let l : ValidSteps front = subst ValidSteps new (lawful_steps actor (before ++ Refused actor j ∷ []) kept) in
    ap with_places new ∙ sym (ap (without_submit j) (ap with_places old ∙ places_submit front l j) ∙ without_last j (with_places front))

and_false : (a : Bool) → (a && false) ≡ false
and_false true = refl
and_false false = refl

either : (b : Bool) {changed same : List RecordedStep} → changed ≡ same → same ≡ (if b then changed else same)
either true h = sym h
either false h = refl

-- only the path of the submitter changes, since no other path has the job
refused_step : (before : List RecordedLine) (who actor : RecordedActor) (j : ℕ) → KeepsRules (before ++ Refused who j ∷ []) → just_submitted before who j ≡ true
    → (refused : Bool) → is_refused before j ≡ refused → (same : Bool) → is_same_actor who actor ≡ same
    → path_of (before ++ Refused who j ∷ []) actor ≡ (if same then without_submit j (path_of before actor) else path_of before actor)
refused_step before who actor j kept just true refused same is =
    let none : list_any (is_submit_of j) (steps_of before actor) ≡ false = steps_submitted actor j before ∙ (ap (λ b. has_submitted before actor j && not b) refused ∙ and_false (has_submitted before actor j)) in
    unsubmitted_path before who actor j (keeps_before before (Refused who j) kept) none ∙ either same (unsubmitted_stays before actor j none)
refused_step before who actor j kept just false refused true is =
    subst (λ one. path_of (before ++ Refused who j ∷ []) one ≡ without_submit j (path_of before one)) (same_actor who actor is)
    (refused_path before who j kept refused (last_submitted who j before (keeps_before before (Refused who j) kept) just refused))
refused_step before who actor j kept just false refused false is =
    let kept_before = keeps_before before (Refused who j) kept in
    let none : list_any (is_submit_of j) (steps_of before actor) ≡ false =
    steps_submitted actor j before ∙ ap (λ b. b && not (is_refused before j)) (not_weaker (has_submitted before actor j) (is_same_actor who actor) (one_submitter who actor j before kept_before (just_has_submitted who j before just)) is) in
    unsubmitted_path before who actor j kept_before none

pub path_refused : (before : List RecordedLine) (who actor : RecordedActor) (j : ℕ) → KeepsRules (before ++ Refused who j ∷ [])
    → path_of (before ++ Refused who j ∷ []) actor ≡ (if is_same_actor who actor then without_submit j (path_of before actor) else path_of before actor)
path_refused before who actor j kept =
    let k = keeps_last before (Refused who j) kept in
    refused_step before who actor j kept (and_first (just_submitted before who j) (not (has_started before j)) k.refusals) (is_refused before j) refl (is_same_actor who actor) refl
