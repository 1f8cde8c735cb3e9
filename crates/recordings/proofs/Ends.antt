-- The gets after a submit in a path, and the last action of a path.
use Rattle.std.proofs.Common.{◌≡◌, ℕ, ◌+◌, ◌-◌, ◌<◌, ◌≤◌, ◌==◌, ◌||◌, Bool, true, false, if◌then◌else◌, List, [], ◌∷◌, ◌++◌, length, take, drop, slice_get, Option, Some, None, refl, ap, sym, subst, ◌∙◌, arith}
use Rattle.std.specs.List.{list_any, position_or_len}
use Rattle.std.proofs.lemmas.List.{take_at, drop-append-le, drop_all, length_push}
use Rattle.recordings.specs.declared.step.RecordedStep.{RecordedStep}
use Rattle.recordings.specs.declared.step.RecordedStep.TheVariants.{Submits, Gets}
use Rattle.recordings.specs.ActorPath.{submits, gets, is_got, is_submit_there, ends_with_submit, without_submit}
use Rattle.recordings.specs.LineSteps.{JobStep, SubmitOf, GetOf, is_submit_of, is_get_of}
use Rattle.recordings.specs.Path.{with_places}
use Rattle.recordings.proofs.Tests.{passes, any_more, passes_nowhere}
use Rattle.recordings.proofs.ValidSteps.{ValidSteps, none, submit, get, unsubmitted_unclaimed}
use Rattle.recordings.proofs.SubmitIndices.{same_self, same_number, or_no, place_stays, place_last, place_within, same_places, places_submit, places_get, length_places}

-- ---- a get after the submit
got_more : (place : ℕ) (path : List RecordedStep) (step : RecordedStep) → place < length path → is_got place (path ++ step ∷ []) ≡ (is_got place path || gets place step)
got_more place path step within =
    let reach : place + 1 ≤ length path = omega arith in
    ap (list_any (gets place)) (drop-append-le (place + 1) path (step ∷ []) reach) ∙ any_more (gets place) (drop (place + 1) path) step

got_nothing : (place : ℕ) (path : List RecordedStep) → length path ≤ place + 1 → is_got place path ≡ false
got_nothing place path past = ap (list_any (gets place)) (drop_all (place + 1) path past)

within_places : (j : ℕ) (steps : List JobStep) → list_any (is_submit_of j) steps ≡ true → position_or_len (is_submit_of j) steps < length (with_places steps)
within_places j steps h = subst (λ n. position_or_len (is_submit_of j) steps < n) (sym (length_places steps)) (place_within (is_submit_of j) steps h)

-- whether job j is got, after a submit of another job or of j is appended
got_submit : (steps : List JobStep) → ValidSteps steps → (job j : ℕ) → list_any (is_submit_of job) steps ≡ false
    → (list_any (is_submit_of j) steps ≡ true → is_got (position_or_len (is_submit_of j) steps) (with_places steps) ≡ list_any (is_get_of j) steps)
    → list_any (is_submit_of j) (steps ++ SubmitOf job ∷ []) ≡ true
    → (same : Bool) → (job == j) ≡ same → is_got (position_or_len (is_submit_of j) (steps ++ SubmitOf job ∷ [])) (with_places steps ++ Submits job ∷ []) ≡ list_any (is_get_of j) (steps ++ SubmitOf job ∷ [])
got_submit steps l job j fresh before h true same =
    let unnamed : list_any (is_submit_of j) steps ≡ false = subst (λ k. list_any (is_submit_of k) steps ≡ false) (same_number job j same) fresh in
    let last = place_last (is_submit_of j) steps (SubmitOf job) unnamed same in
    let short : length (with_places steps ++ Submits job ∷ []) ≤ position_or_len (is_submit_of j) (steps ++ SubmitOf job ∷ []) + 1 = omega (arith, last, length_push (with_places steps) (Submits job), length_places steps) in
    got_nothing (position_or_len (is_submit_of j) (steps ++ SubmitOf job ∷ [])) (with_places steps ++ Submits job ∷ []) short
    ∙ sym (any_more (is_get_of j) steps (SubmitOf job) ∙ (or_no _ _ refl ∙ unsubmitted_unclaimed steps l j unnamed))
got_submit steps l job j fresh before h false same =
    let there : list_any (is_submit_of j) steps ≡ true = sym (or_no _ _ same) ∙ (sym (any_more (is_submit_of j) steps (SubmitOf job)) ∙ h) in
    ap (λ place. is_got place (with_places steps ++ Submits job ∷ [])) (place_stays (is_submit_of j) steps (SubmitOf job) there)
    ∙ (got_more (position_or_len (is_submit_of j) steps) (with_places steps) (Submits job) (within_places j steps there)
    ∙ (ap (λ b. b || false) (before there) ∙ sym (any_more (is_get_of j) steps (SubmitOf job))))

got_get : (steps : List JobStep) (job j : ℕ) → list_any (is_submit_of job) steps ≡ true
    → (list_any (is_submit_of j) steps ≡ true → is_got (position_or_len (is_submit_of j) steps) (with_places steps) ≡ list_any (is_get_of j) steps)
    → list_any (is_submit_of j) (steps ++ GetOf job ∷ []) ≡ true
    → is_got (position_or_len (is_submit_of j) (steps ++ GetOf job ∷ [])) (with_places steps ++ Gets (position_or_len (is_submit_of job) steps) ∷ []) ≡ list_any (is_get_of j) (steps ++ GetOf job ∷ [])
got_get steps job j submitted before h =
    let there : list_any (is_submit_of j) steps ≡ true = sym (or_no _ _ refl) ∙ (sym (any_more (is_submit_of j) steps (GetOf job)) ∙ h) in
    ap (λ place. is_got place (with_places steps ++ Gets (position_or_len (is_submit_of job) steps) ∷ [])) (place_stays (is_submit_of j) steps (GetOf job) there)
    ∙ (got_more (position_or_len (is_submit_of j) steps) (with_places steps) (Gets (position_or_len (is_submit_of job) steps)) (within_places j steps there)
    ∙ (ap (λ b. b || (position_or_len (is_submit_of job) steps == position_or_len (is_submit_of j) steps)) (before there)
    ∙ (ap (λ b. list_any (is_get_of j) steps || b) (same_places job j steps submitted there (job == j) refl) ∙ sym (any_more (is_get_of j) steps (GetOf job)))))

-- a submitted job was got if and only if the path has a get with the index of its submit
pub got_there : (steps : List JobStep) → ValidSteps steps → (j : ℕ) → list_any (is_submit_of j) steps ≡ true → is_got (position_or_len (is_submit_of j) steps) (with_places steps) ≡ list_any (is_get_of j) steps
got_there _ none j h = grind (arith, h)
got_there _ (submit steps job l fresh) j h =
    ap (is_got (position_or_len (is_submit_of j) (steps ++ SubmitOf job ∷ []))) (places_submit steps l job) ∙ got_submit steps l job j fresh (got_there steps l j) h (job == j) refl
got_there _ (get steps job l submitted unclaimed) j h =
    ap (is_got (position_or_len (is_submit_of j) (steps ++ GetOf job ∷ []))) (places_get steps l job submitted) ∙ got_get steps job j submitted (got_there steps l j) h

-- ---- the last action
last_there : (path : List RecordedStep) (step : RecordedStep) → slice_get (path ++ step ∷ []) (length path) ≡ Some step
last_there [] step = refl
last_there (first ∷ path) step = last_there path step

back_one : (n : ℕ) → (n + 1) - 1 ≡ n
back_one n = omega arith

before_last : (path : List RecordedStep) (step : RecordedStep) → length (path ++ step ∷ []) - 1 ≡ length path
before_last path step = ap (λ n. n - 1) (length_push path step) ∙ back_one (length path)

ends_more : (j : ℕ) (path : List RecordedStep) (step : RecordedStep) → ends_with_submit j (path ++ step ∷ []) ≡ submits j step
unfolding ends_with_submit
ends_more j path step = ap (λ n. is_submit_there j (slice_get (path ++ step ∷ []) n)) (before_last path step) ∙ ap (is_submit_there j) (last_there path step)

-- `without_submit` removes a submit of the job at the end
pub without_last : (j : ℕ) (path : List RecordedStep) → without_submit j (path ++ Submits j ∷ []) ≡ path
without_last j path =
    ap (λ (b : Bool). if b then take (length (path ++ Submits j ∷ []) - 1) (path ++ Submits j ∷ []) else path ++ Submits j ∷ []) (ends_more j path (Submits j) ∙ same_self j)
    ∙ (ap (λ n. take n (path ++ Submits j ∷ [])) (before_last path (Submits j)) ∙ take_at path (Submits j ∷ []) (length path) refl)

there_passes : (j : ℕ) (there : Option RecordedStep) → is_submit_there j there ≡ passes (submits j) there
there_passes j None = refl
there_passes j (Some step) = refl

no_end : (j : ℕ) (path : List RecordedStep) → list_any (submits j) path ≡ false → ends_with_submit j path ≡ false
unfolding ends_with_submit
no_end j path h = there_passes j (slice_get path (length path - 1)) ∙ passes_nowhere (submits j) path (length path - 1) h

-- `without_submit` removes nothing if the path has no submit of the job
pub without_none : (j : ℕ) (path : List RecordedStep) → list_any (submits j) path ≡ false → without_submit j path ≡ path
without_none j path h = ap (λ (b : Bool). if b then take (length path - 1) path else path) (no_end j path h)
