-- Valid actions: each job is submitted at most once, and got at most once after its submit.
use Rattle.std.proofs.Common.{◌≡◌, ℕ, ◌==◌, ◌&&◌, ◌||◌, Bool, true, false, if◌then◌else◌, List, [], ◌∷◌, ◌++◌, Some, None, refl, ap, sym, subst, ◌∙◌, append-nil, arith}
use Rattle.std.specs.List.{list_any, filter}
use Rattle.std.specs.Option.{option_to_list}
use Rattle.recordings.specs.LineSteps.{JobStep, SubmitOf, GetOf, job_of_step, is_submit_of, is_get_of}
use Rattle.recordings.proofs.Tests.{not_weaker, any_more, filter_more}

pub data ValidSteps : List JobStep → Type 0 where
  none : ValidSteps []
  submit : (steps : List JobStep) (job : ℕ) → ValidSteps steps → list_any (is_submit_of job) steps ≡ false → ValidSteps (steps ++ SubmitOf job ∷ [])
  get : (steps : List JobStep) (job : ℕ) → ValidSteps steps → list_any (is_submit_of job) steps ≡ true → list_any (is_get_of job) steps ≡ false → ValidSteps (steps ++ GetOf job ∷ [])

pub lawful_nil : (steps : List JobStep) → ValidSteps steps → ValidSteps (steps ++ [])
lawful_nil steps l = subst ValidSteps (sym (append-nil steps)) l

pub lawful_submit : (b : Bool) (steps : List JobStep) (job : ℕ) → ValidSteps steps → list_any (is_submit_of job) steps ≡ false → ValidSteps (steps ++ option_to_list (if b then Some (SubmitOf job) else None))
lawful_submit true steps job l h = submit steps job l h
lawful_submit false steps job l h = lawful_nil steps l

pub lawful_get : (b : Bool) (steps : List JobStep) (job : ℕ) → ValidSteps steps → (b ≡ true → list_any (is_submit_of job) steps ≡ true) → (b ≡ true → list_any (is_get_of job) steps ≡ false) → ValidSteps (steps ++ option_to_list (if b then Some (GetOf job) else None))
lawful_get true steps job l submitted unclaimed = get steps job l (submitted refl) (unclaimed refl)
lawful_get false steps job l submitted unclaimed = lawful_nil steps l

-- ---- the actions of a job
-- a job that was got was submitted
pub got_submitted : (steps : List JobStep) → ValidSteps steps → (j : ℕ) → list_any (is_get_of j) steps ≡ true → list_any (is_submit_of j) steps ≡ true
got_submitted _ none j h = grind (arith, h)
got_submitted _ (submit steps job l fresh) j h =
    let before = got_submitted steps l j in grind (arith, h, before, any_more (is_get_of j) steps (SubmitOf job), any_more (is_submit_of j) steps (SubmitOf job))
got_submitted _ (get steps job l submitted unclaimed) j h =
    let before = got_submitted steps l j in grind (arith, h, before, submitted, any_more (is_get_of j) steps (GetOf job), any_more (is_submit_of j) steps (GetOf job))

abbrev pub is_step_of : ℕ → JobStep → Bool
is_step_of j step = job_of_step step == j

both_live : (j : ℕ) (steps : List JobStep) → list_any (is_submit_of j) steps ≡ false → list_any (is_get_of j) steps ≡ false → list_any (is_step_of j) steps ≡ false
both_live j [] h g = refl
both_live j (SubmitOf job ∷ steps) h g = grind (arith, h, g, both_live j steps)
both_live j (GetOf job ∷ steps) h g = grind (arith, h, g, both_live j steps)

pub unsubmitted_unclaimed : (steps : List JobStep) → ValidSteps steps → (j : ℕ) → list_any (is_submit_of j) steps ≡ false → list_any (is_get_of j) steps ≡ false
unsubmitted_unclaimed steps l j h = not_weaker (list_any (is_get_of j) steps) (list_any (is_submit_of j) steps) (got_submitted steps l j) h

-- a job that was not submitted was not got
pub unsubmitted_none : (steps : List JobStep) → ValidSteps steps → (j : ℕ) → list_any (is_submit_of j) steps ≡ false → list_any (is_step_of j) steps ≡ false
unsubmitted_none steps l j h = both_live j steps h (unsubmitted_unclaimed steps l j h)

-- ---- the actions without those of some jobs
once : (a b : Bool) → ((a && true) || (b && a)) ≡ a
once true b = refl
once false true = refl
once false false = refl

and_false : (a : Bool) → (a && false) ≡ false
and_false true = refl
and_false false = refl

any_if : (p : JobStep → Bool) (b : Bool) (step : JobStep) (steps : List JobStep) → list_any p (if b then step ∷ steps else steps) ≡ ((b && p step) || list_any p steps)
any_if p true step steps = refl
any_if p false step steps = refl

here_kept : (here job kept rest : Bool) → (here ≡ true → job ≡ kept) → ((job && here) || (rest && kept)) ≡ ((here || rest) && kept)
here_kept true job kept rest same = ap (λ (b : Bool). (b && true) || (rest && kept)) (same refl) ∙ once kept rest
here_kept false job kept rest same = ap (λ (b : Bool). b || (rest && kept)) (and_false job)

pub any_kept : (keep : ℕ → Bool) (j : ℕ) (p : JobStep → Bool) → ((step : JobStep) → p step ≡ true → job_of_step step ≡ j) → (steps : List JobStep) → list_any p (filter (λ step. keep (job_of_step step)) steps) ≡ (list_any p steps && keep j)
any_kept keep j p live [] = refl
any_kept keep j p live (step ∷ steps) =
    any_if p (keep (job_of_step step)) step (filter (λ one. keep (job_of_step one)) steps) ∙ ap (λ b. (keep (job_of_step step) && p step) || b) (any_kept keep j p live steps)
    ∙ here_kept (p step) (keep (job_of_step step)) (keep j) (list_any p steps) (λ h. ap keep (live step h))

pub submit_job : (j : ℕ) (step : JobStep) → is_submit_of j step ≡ true → job_of_step step ≡ j
submit_job j (SubmitOf job) h = grind (arith, h)
submit_job j (GetOf job) h = grind (arith, h)

pub get_job : (j : ℕ) (step : JobStep) → is_get_of j step ≡ true → job_of_step step ≡ j
get_job j (SubmitOf job) h = grind (arith, h)
get_job j (GetOf job) h = grind (arith, h)

lawful_if : (b : Bool) (steps : List JobStep) (step : JobStep) → ValidSteps steps → (b ≡ true → ValidSteps (steps ++ step ∷ [])) → ValidSteps (if b then steps ++ step ∷ [] else steps)
lawful_if true steps step l more = more refl
lawful_if false steps step l more = l

pub lawful_kept : (keep : ℕ → Bool) (steps : List JobStep) → ValidSteps steps → ValidSteps (filter (λ step. keep (job_of_step step)) steps)
lawful_kept keep _ none = none
lawful_kept keep _ (submit steps job l fresh) =
    let kept = filter (λ step. keep (job_of_step step)) steps in
    let l_kept = lawful_kept keep steps l in
    subst ValidSteps (sym (filter_more (λ step. keep (job_of_step step)) steps (SubmitOf job)))
    (lawful_if (keep job) kept (SubmitOf job) l_kept (λ h. submit kept job l_kept (any_kept keep job (is_submit_of job) (submit_job job) steps ∙ ap (λ b. b && keep job) fresh)))
lawful_kept keep _ (get steps job l submitted unclaimed) =
    let kept = filter (λ step. keep (job_of_step step)) steps in
    let l_kept = lawful_kept keep steps l in
    subst ValidSteps (sym (filter_more (λ step. keep (job_of_step step)) steps (GetOf job)))
    (lawful_if (keep job) kept (GetOf job) l_kept
    (λ h. get kept job l_kept (any_kept keep job (is_submit_of job) (submit_job job) steps ∙ (ap (λ b. b && keep job) submitted ∙ h)) (any_kept keep job (is_get_of job) (get_job job) steps ∙ ap (λ b. b && keep job) unclaimed)))
