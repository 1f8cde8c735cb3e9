-- The actions of an actor in the lines, after one more line.
use Rattle.std.proofs.Common.{◌≡◌, ℕ, ◌==◌, ◌&&◌, ◌||◌, not, Bool, true, false, if◌then◌else◌, List, [], ◌∷◌, ◌++◌, map, Option, Some, None, refl, ap, sym, subst, ◌∙◌, append-nil, arith}
use Rattle.std.specs.List.{list_any, filter_map}
use Rattle.std.specs.Option.{option_to_list}
use Rattle.std.proofs.lemmas.List.{map-append}
use Rattle.recordings.specs.declared.recording_line.RecordedActor.{RecordedActor}
use Rattle.recordings.specs.RecordingLine.{RecordedLine, Submits, Got}
use Rattle.recordings.specs.LineParts.{is_same_actor, is_of, submits_job, refuses_job}
use Rattle.recordings.proofs.Keeping.{Keeps}
use Rattle.recordings.specs.LineSteps.{submits_by, gets_by, is_submitted, is_refused, has_submitted, has_got, JobStep, SubmitOf, GetOf, is_submit_of, is_get_of, step_by_line, with_lines_before, steps_by_lines}
use Rattle.recordings.specs.PathsOfLines.{KeepsRules}
use Rattle.recordings.proofs.Tests.{and_first, and_second, or_first, or_second, any_more, any_option, passes, passes_if, filter_map_more}
use Rattle.recordings.proofs.ByLast.{by_last, by_kept}
use Rattle.recordings.proofs.LaterNumbers.{next_job, submitted_fresh, got_fresh}
use Rattle.recordings.proofs.ValidSteps.{ValidSteps, none, lawful_nil, lawful_submit, lawful_get}

pub submitted_more : (before : List RecordedLine) (line : RecordedLine) (j : ℕ) → is_submitted (before ++ line ∷ []) j ≡ (is_submitted before j || submits_job j line)
unfolding is_submitted
submitted_more before line j = any_more (submits_job j) before line

pub refused_more : (before : List RecordedLine) (line : RecordedLine) (j : ℕ) → is_refused (before ++ line ∷ []) j ≡ (is_refused before j || refuses_job j line)
unfolding is_refused
refused_more before line j = any_more (refuses_job j) before line

pub has_submitted_more : (before : List RecordedLine) (line : RecordedLine) (actor : RecordedActor) (j : ℕ) → has_submitted (before ++ line ∷ []) actor j ≡ (has_submitted before actor j || submits_by actor j line)
unfolding has_submitted
has_submitted_more before line actor j = any_more (submits_by actor j) before line

pub has_got_more : (before : List RecordedLine) (line : RecordedLine) (actor : RecordedActor) (j : ℕ) → has_got (before ++ line ∷ []) actor j ≡ (has_got before actor j || gets_by actor j line)
unfolding has_got
has_got_more before line actor j = any_more (gets_by actor j) before line

-- ---- the actions
lines_before_more : (before : List RecordedLine) (line : RecordedLine) → with_lines_before (before ++ line ∷ []) ≡ with_lines_before before ++ (before, line) ∷ []
lines_before_more [] line = refl
lines_before_more (first ∷ before) line =
    let after : List RecordedLine × RecordedLine → List RecordedLine × RecordedLine = λ p. (first ∷ p.0, p.1) in
    ap (λ (ps : List (List RecordedLine × RecordedLine)). ([], first) ∷ map after ps) (lines_before_more before line)
    ∙ ap (λ (ps : List (List RecordedLine × RecordedLine)). ([], first) ∷ ps) (map-append after (with_lines_before before) ((before, line) ∷ []))

pub by_lines_more : (before : List RecordedLine) (line : RecordedLine) (actor : RecordedActor) → steps_by_lines (before ++ line ∷ []) actor ≡ steps_by_lines before actor ++ option_to_list (step_by_line actor before line)
unfolding steps_by_lines
by_lines_more before line actor =
    let said : List RecordedLine × RecordedLine → Option JobStep = λ p. step_by_line actor p.0 p.1 in
    ap (filter_map said) (lines_before_more before line) ∙ filter_map_more said (with_lines_before before) (before, line)

-- a line of another actor adds no action
pub other_by_line : (actor : RecordedActor) (before : List RecordedLine) (line : RecordedLine) → is_of actor line ≡ false → step_by_line actor before line ≡ None
other_by_line actor before (Submits submitter job class pool) h = ap (λ (b : Bool). if b then Some (SubmitOf job) else None) h
other_by_line actor before (Got getter job) h = ap (λ (b : Bool). if b && has_submitted before actor job && not (has_got before actor job) then Some (GetOf job) else None) h
other_by_line actor before line h = refl

pub nothing_more : (before : List RecordedLine) (line : RecordedLine) (actor : RecordedActor) → step_by_line actor before line ≡ None → steps_by_lines (before ++ line ∷ []) actor ≡ steps_by_lines before actor
nothing_more before line actor nothing = by_lines_more before line actor ∙ (ap (λ more. steps_by_lines before actor ++ option_to_list more) nothing ∙ append-nil (steps_by_lines before actor))

pub other_more : (before : List RecordedLine) (line : RecordedLine) (actor : RecordedActor) → is_of actor line ≡ false → steps_by_lines (before ++ line ∷ []) actor ≡ steps_by_lines before actor
other_more before line actor h = nothing_more before line actor (other_by_line actor before line h)

by_no_lines : (actor : RecordedActor) → steps_by_lines [] actor ≡ []
unfolding steps_by_lines
by_no_lines actor = refl

-- an actor to which no line belongs has no action
pub by_lines_none : (actor : RecordedActor) (lines : List RecordedLine) → list_any (is_of actor) lines ≡ false → steps_by_lines lines actor ≡ []
by_lines_none actor =
    by_last (λ lines. list_any (is_of actor) lines ≡ false → steps_by_lines lines actor ≡ []) (λ h. by_no_lines actor)
    (λ before line before_none h.
    let split : (list_any (is_of actor) before || is_of actor line) ≡ false = sym (any_more (is_of actor) before line) ∙ h in
    other_more before line actor (or_second (list_any (is_of actor) before) (is_of actor line) split) ∙ before_none (or_first (list_any (is_of actor) before) (is_of actor line) split))

-- ---- the submitted jobs
and_false : (a : Bool) → (a && false) ≡ false
and_false true = refl
and_false false = refl

line_submits : (actor : RecordedActor) (before : List RecordedLine) (line : RecordedLine) (j : ℕ) → passes (is_submit_of j) (step_by_line actor before line) ≡ submits_by actor j line
line_submits actor before (Submits submitter job class pool) j = passes_if (is_submit_of j) (is_same_actor submitter actor) (SubmitOf job)
line_submits actor before (Got getter job) j =
    let counts = is_same_actor getter actor && has_submitted before actor job && not (has_got before actor job) in
    passes_if (is_submit_of j) counts (GetOf job) ∙ and_false counts
line_submits actor before line j = refl

submitted_at_none : (actor : RecordedActor) (j : ℕ) → list_any (is_submit_of j) (steps_by_lines [] actor) ≡ has_submitted [] actor j
unfolding steps_by_lines has_submitted
submitted_at_none actor j = refl

pub submits_by_lines : (actor : RecordedActor) (j : ℕ) (lines : List RecordedLine) → list_any (is_submit_of j) (steps_by_lines lines actor) ≡ has_submitted lines actor j
submits_by_lines actor j =
    by_last (λ lines. list_any (is_submit_of j) (steps_by_lines lines actor) ≡ has_submitted lines actor j) (submitted_at_none actor j)
    (λ before line h.
    ap (list_any (is_submit_of j)) (by_lines_more before line actor)
    ∙ (any_option (is_submit_of j) (steps_by_lines before actor) (step_by_line actor before line)
    ∙ (ap (λ b. b || passes (is_submit_of j) (step_by_line actor before line)) h
    ∙ (ap (λ b. has_submitted before actor j || b) (line_submits actor before line j) ∙ sym (has_submitted_more before line actor j)))))

-- ---- the jobs that were got
at_submit : (submitted got same here : Bool) → (here ≡ true → got ≡ false) → ((submitted && got) || (same && false)) ≡ ((submitted || (same && here)) && (got || false))
at_submit submitted got same true f = grind (arith, f refl)
at_submit submitted got same false f = grind arith

at_got : (submitted got submitted_it got_it same here : Bool) → (here ≡ true → submitted_it ≡ submitted) → (here ≡ true → got_it ≡ got)
    → ((submitted && got) || ((same && submitted_it && not got_it) && here)) ≡ ((submitted || false) && (got || (same && here)))
at_got submitted got submitted_it got_it same true f g = grind (arith, f refl, g refl)
at_got submitted got submitted_it got_it same false f g = grind arith

same_number : (a b : ℕ) → (a == b) ≡ true → a ≡ b
same_number a b h = grind (arith, h)

nothing_new : (submitted got : Bool) → ((submitted && got) || false) ≡ ((submitted || false) && (got || false))
nothing_new submitted got = grind arith

line_gets : (actor : RecordedActor) (before : List RecordedLine) (line : RecordedLine) (j : ℕ) → (submits_job j line ≡ true → has_got before actor j ≡ false)
    → ((has_submitted before actor j && has_got before actor j) || passes (is_get_of j) (step_by_line actor before line)) ≡ ((has_submitted before actor j || submits_by actor j line) && (has_got before actor j || gets_by actor j line))
line_gets actor before (Submits submitter job class pool) j fresh =
    ap (λ b. (has_submitted before actor j && has_got before actor j) || b) (passes_if (is_get_of j) (is_same_actor submitter actor) (SubmitOf job))
    ∙ at_submit (has_submitted before actor j) (has_got before actor j) (is_same_actor submitter actor) (job == j) fresh
line_gets actor before (Got getter job) j fresh =
    ap (λ b. (has_submitted before actor j && has_got before actor j) || b) (passes_if (is_get_of j) (is_same_actor getter actor && has_submitted before actor job && not (has_got before actor job)) (GetOf job))
    ∙ at_got (has_submitted before actor j) (has_got before actor j) (has_submitted before actor job) (has_got before actor job) (is_same_actor getter actor) (job == j)
    (λ h. ap (has_submitted before actor) (same_number job j h)) (λ h. ap (has_got before actor) (same_number job j h))
line_gets actor before line j fresh = nothing_new (has_submitted before actor j) (has_got before actor j)

got_at_none : (actor : RecordedActor) (j : ℕ) → list_any (is_get_of j) (steps_by_lines [] actor) ≡ (has_submitted [] actor j && has_got [] actor j)
unfolding steps_by_lines has_submitted has_got
got_at_none actor j = refl

pub gets_by_lines : (actor : RecordedActor) (j : ℕ) (lines : List RecordedLine) → KeepsRules lines → list_any (is_get_of j) (steps_by_lines lines actor) ≡ (has_submitted lines actor j && has_got lines actor j)
gets_by_lines actor j =
    by_kept (λ lines. list_any (is_get_of j) (steps_by_lines lines actor) ≡ (has_submitted lines actor j && has_got lines actor j)) (got_at_none actor j)
    (λ before line kept k h.
    ap (list_any (is_get_of j)) (by_lines_more before line actor)
    ∙ (any_option (is_get_of j) (steps_by_lines before actor) (step_by_line actor before line)
    ∙ (ap (λ b. b || passes (is_get_of j) (step_by_line actor before line)) h
    ∙ (line_gets actor before line j (λ same. got_fresh before kept actor j (next_job before line j k same))
    ∙ (ap (λ b. (has_submitted before actor j || submits_by actor j line) && b) (sym (has_got_more before line actor j))
    ∙ ap (λ b. b && has_got (before ++ line ∷ []) actor j) (sym (has_submitted_more before line actor j)))))))

-- ---- the actions are valid
same_self : (n : ℕ) → (n == n) ≡ true
same_self n = grind arith

unclaimed : (a b : Bool) → not b ≡ true → (a && b) ≡ false
unclaimed a true h = grind (arith, h)
unclaimed a false h = and_false a

lawful_line : (actor : RecordedActor) (before : List RecordedLine) (line : RecordedLine) → KeepsRules before → Keeps before line → ValidSteps (steps_by_lines before actor) → ValidSteps (steps_by_lines before actor ++ option_to_list (step_by_line actor before line))
lawful_line actor before (Submits submitter job class pool) kept k l =
    lawful_submit (is_same_actor submitter actor) (steps_by_lines before actor) job l
    (submits_by_lines actor job before ∙ submitted_fresh before kept actor job (next_job before (Submits submitter job class pool) job k (same_self job)))
lawful_line actor before (Got getter job) kept k l =
    lawful_get (is_same_actor getter actor && has_submitted before actor job && not (has_got before actor job)) (steps_by_lines before actor) job l
    (λ h. submits_by_lines actor job before ∙ and_second _ _ (and_first _ _ h))
    (λ h. gets_by_lines actor job before kept ∙ unclaimed (has_submitted before actor job) (has_got before actor job) (and_second _ _ h))
lawful_line actor before line kept k l = lawful_nil (steps_by_lines before actor) l

pub lawful_by_lines : (actor : RecordedActor) (lines : List RecordedLine) → KeepsRules lines → ValidSteps (steps_by_lines lines actor)
lawful_by_lines actor =
    by_kept (λ lines. ValidSteps (steps_by_lines lines actor)) (subst ValidSteps (sym (by_no_lines actor)) none)
    (λ before line kept k l. subst ValidSteps (sym (by_lines_more before line actor)) (lawful_line actor before line kept k l))
