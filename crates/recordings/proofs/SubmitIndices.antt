-- Valid actions whose gets have the indices of their submits, after an action is appended or removed at the end.
use Rattle.std.proofs.Common.{◌≡◌, ℕ, suc, ◌<◌, ◌==◌, ◌||◌, Bool, true, false, if◌then◌else◌, List, [], ◌∷◌, ◌++◌, map, length, Option, Some, None, refl, ap, sym, subst, ◌∙◌, add-one, arith}
use Rattle.std.specs.List.{list_any, position_or_len, slice_get}
use Rattle.std.proofs.lemmas.List.{map-append, length-map}
use Rattle.recordings.specs.declared.step.RecordedStep.{RecordedStep}
use Rattle.recordings.specs.declared.step.RecordedStep.TheVariants.{Submits, Gets}
use Rattle.recordings.specs.ActorPath.{submits, place_on, submit_place}
use Rattle.recordings.specs.LineSteps.{JobStep, SubmitOf, GetOf, is_submit_of, is_get_of}
use Rattle.recordings.specs.Path.{with_place, with_places}
use Rattle.recordings.proofs.Tests.{any_more, passes, not_weaker}
use Rattle.recordings.proofs.ValidSteps.{ValidSteps, none, submit, get, got_submitted}

pub same_self : (n : ℕ) → (n == n) ≡ true
same_self n = grind arith

pub same_number : (a b : ℕ) → (a == b) ≡ true → a ≡ b
same_number a b h = grind (arith, h)

-- ---- the index of the first action that passes a test
pub place_stays : (p : JobStep → Bool) (steps : List JobStep) (step : JobStep) → list_any p steps ≡ true → position_or_len p (steps ++ step ∷ []) ≡ position_or_len p steps
place_stays p [] step h = grind (arith, h)
place_stays p (first ∷ steps) step h = grind (arith, h, place_stays p steps step)

pub place_last : (p : JobStep → Bool) (steps : List JobStep) (step : JobStep) → list_any p steps ≡ false → p step ≡ true → position_or_len p (steps ++ step ∷ []) ≡ length steps
place_last p [] step h g = grind (arith, g)
place_last p (first ∷ steps) step h g = grind (arith, h, place_last p steps step, g)

pub place_within : (p : JobStep → Bool) (steps : List JobStep) → list_any p steps ≡ true → position_or_len p steps < length steps
place_within p [] h = grind (arith, h)
place_within p (first ∷ steps) h = grind (arith, h, place_within p steps)

-- the action at the index of the first action that passes the test passes it
there_step : (p : JobStep → Bool) (first : JobStep) (steps : List JobStep) → (list_any p steps ≡ true → passes p (slice_get steps (position_or_len p steps)) ≡ true)
    → (p first || list_any p steps) ≡ true → (here : Bool) → p first ≡ here → passes p (slice_get (first ∷ steps) (position_or_len p (first ∷ steps))) ≡ true
there_step p first steps rest h true here =
    let at : position_or_len p (first ∷ steps) ≡ 0 = grind (arith, here) in
    ap (λ i. passes p (slice_get (first ∷ steps) i)) at ∙ here
there_step p first steps rest h false here =
    let on : list_any p steps ≡ true = grind (arith, h, here) in
    let at : position_or_len p (first ∷ steps) ≡ suc (position_or_len p steps) = grind (arith, here) in
    ap (λ i. passes p (slice_get (first ∷ steps) i)) at ∙ rest on

there_is : (p : JobStep → Bool) (steps : List JobStep) → list_any p steps ≡ true → passes p (slice_get steps (position_or_len p steps)) ≡ true
there_is p [] h = h
there_is p (first ∷ steps) h = there_step p first steps (there_is p steps) h (p first) refl

one_there : (a b : ℕ) (there : Option JobStep) → passes (is_submit_of a) there ≡ true → passes (is_submit_of b) there ≡ true → a ≡ b
one_there a b None h g = grind (arith, h)
one_there a b (Some (SubmitOf job)) h g = sym (same_number job a h) ∙ same_number job b g
one_there a b (Some (GetOf job)) h g = grind (arith, h)

pub same_places : (a b : ℕ) (steps : List JobStep) → list_any (is_submit_of a) steps ≡ true → list_any (is_submit_of b) steps ≡ true
    → (same : Bool) → (a == b) ≡ same → (position_or_len (is_submit_of a) steps == position_or_len (is_submit_of b) steps) ≡ same
same_places a b steps h g true same = subst (λ c. (position_or_len (is_submit_of a) steps == position_or_len (is_submit_of c) steps) ≡ true) (same_number a b same) (same_self (position_or_len (is_submit_of a) steps))
same_places a b steps h g false same =
    not_weaker (position_or_len (is_submit_of a) steps == position_or_len (is_submit_of b) steps) (a == b)
    (λ at. subst (λ c. (a == c) ≡ true)
    (one_there a b (slice_get steps (position_or_len (is_submit_of b) steps))
    (subst (λ i. passes (is_submit_of a) (slice_get steps i) ≡ true) (same_number _ _ at) (there_is (is_submit_of a) steps h)) (there_is (is_submit_of b) steps g))
    (same_self a)) same

-- ---- one more action
got_here : (job : ℕ) (some : List JobStep) → list_any (is_get_of job) (GetOf job ∷ some) ≡ true
got_here job some = ap (λ b. b || list_any (is_get_of job) some) (same_self job)

got_further : (j : ℕ) (step : JobStep) (some : List JobStep) → list_any (is_get_of j) some ≡ true → list_any (is_get_of j) (step ∷ some) ≡ true
got_further j step some h = grind (arith, h)

places_stay : (steps : List JobStep) (step : JobStep) (some : List JobStep) → ((j : ℕ) → list_any (is_get_of j) some ≡ true → list_any (is_submit_of j) steps ≡ true) → map (with_place (steps ++ step ∷ [])) some ≡ map (with_place steps) some
places_stay steps step [] known = refl
places_stay steps step (SubmitOf job ∷ some) known = ap (λ path. Submits job ∷ path) (places_stay steps step some (λ j h. known j (got_further j (SubmitOf job) some h)))
places_stay steps step (GetOf job ∷ some) known =
    ap (λ path. Gets (position_or_len (is_submit_of job) (steps ++ step ∷ [])) ∷ path) (places_stay steps step some (λ j h. known j (got_further j (GetOf job) some h)))
    ∙ ap (λ place. Gets place ∷ map (with_place steps) some) (place_stays (is_submit_of job) steps step (known job (got_here job some)))

places_more : (steps : List JobStep) → ValidSteps steps → (step : JobStep) → with_places (steps ++ step ∷ []) ≡ with_places steps ++ with_place (steps ++ step ∷ []) step ∷ []
unfolding with_places
places_more steps l step =
    map-append (with_place (steps ++ step ∷ [])) steps (step ∷ [])
    ∙ ap (λ path. path ++ with_place (steps ++ step ∷ []) step ∷ []) (places_stay steps step steps (got_submitted steps l))

pub places_submit : (steps : List JobStep) → ValidSteps steps → (job : ℕ) → with_places (steps ++ SubmitOf job ∷ []) ≡ with_places steps ++ Submits job ∷ []
places_submit steps l job = places_more steps l (SubmitOf job)

pub places_get : (steps : List JobStep) → ValidSteps steps → (job : ℕ) → list_any (is_submit_of job) steps ≡ true → with_places (steps ++ GetOf job ∷ []) ≡ with_places steps ++ Gets (position_or_len (is_submit_of job) steps) ∷ []
places_get steps l job h = places_more steps l (GetOf job) ∙ ap (λ place. with_places steps ++ Gets place ∷ []) (place_stays (is_submit_of job) steps (GetOf job) h)

pub places_none : with_places [] ≡ []
unfolding with_places
places_none = refl

pub length_places : (steps : List JobStep) → length (with_places steps) ≡ length steps
unfolding with_places
length_places steps = length-map steps (with_place steps)

any_with_places_of : (j : ℕ) (steps some : List JobStep) → list_any (submits j) (map (with_place steps) some) ≡ list_any (is_submit_of j) some
any_with_places_of j steps [] = refl
any_with_places_of j steps (SubmitOf job ∷ some) = ap (λ b. (job == j) || b) (any_with_places_of j steps some)
any_with_places_of j steps (GetOf job ∷ some) = any_with_places_of j steps some

pub any_with_places : (j : ℕ) (steps : List JobStep) → list_any (submits j) (with_places steps) ≡ list_any (is_submit_of j) steps
unfolding with_places
any_with_places j steps = any_with_places_of j steps steps

-- ---- the index of a submit
place_on_none : (b : Bool) → place_on b None ≡ (if b then Some 0 else None)
place_on_none true = refl
place_on_none false = refl

place_on_if : (b c : Bool) (n : ℕ) (rest : Option ℕ) → place_on b (if c then Some n else rest) ≡ (if c then Some (suc n) else place_on b rest)
place_on_if b true n rest = ap Some (add-one n)
place_on_if b false n rest = refl

pub submit_place_more : (j : ℕ) (path : List RecordedStep) (step : RecordedStep) → submit_place j (path ++ step ∷ []) ≡ (if submits j step then Some (length path) else submit_place j path)
submit_place_more j [] step = place_on_none (submits j step)
submit_place_more j (first ∷ path) step = ap (place_on (submits j first)) (submit_place_more j path step) ∙ place_on_if (submits j first) (submits j step) (length path) (submit_place j path)

-- ---- the index after one more action
-- the index of the submit of the job among the actions, if there is one
unfoldable pub place_by_steps : ℕ → List JobStep → Option ℕ
place_by_steps j steps = if list_any (is_submit_of j) steps then Some (position_or_len (is_submit_of j) steps) else None

no_place : (j : ℕ) → place_by_steps j [] ≡ None
unfolding place_by_steps
no_place j = refl

pub or_no : (a b : Bool) → b ≡ false → (a || b) ≡ a
or_no true b h = refl
or_no false b h = h

stays_said : (j : ℕ) (steps : List JobStep) (step : JobStep) → is_submit_of j step ≡ false → (some : Bool) → list_any (is_submit_of j) steps ≡ some → place_by_steps j (steps ++ step ∷ []) ≡ place_by_steps j steps
unfolding place_by_steps
stays_said j steps step other true some =
    let still : list_any (is_submit_of j) (steps ++ step ∷ []) ≡ true = any_more (is_submit_of j) steps step ∙ (or_no _ _ other ∙ some) in
    ap (λ (b : Bool). if b then Some (position_or_len (is_submit_of j) (steps ++ step ∷ [])) else None) still
    ∙ (ap Some (place_stays (is_submit_of j) steps step some) ∙ sym (ap (λ (b : Bool). if b then Some (position_or_len (is_submit_of j) steps) else None) some))
stays_said j steps step other false some =
    let still : list_any (is_submit_of j) (steps ++ step ∷ []) ≡ false = any_more (is_submit_of j) steps step ∙ (or_no _ _ other ∙ some) in
    ap (λ (b : Bool). if b then Some (position_or_len (is_submit_of j) (steps ++ step ∷ [])) else None) still
    ∙ sym (ap (λ (b : Bool). if b then Some (position_or_len (is_submit_of j) steps) else None) some)

last_said : (j : ℕ) (steps : List JobStep) → list_any (is_submit_of j) steps ≡ false → place_by_steps j (steps ++ SubmitOf j ∷ []) ≡ Some (length steps)
unfolding place_by_steps
last_said j steps fresh =
    let now : list_any (is_submit_of j) (steps ++ SubmitOf j ∷ []) ≡ true = any_more (is_submit_of j) steps (SubmitOf j) ∙ (ap (λ b. b || (j == j)) fresh ∙ same_self j) in
    ap (λ (b : Bool). if b then Some (position_or_len (is_submit_of j) (steps ++ SubmitOf j ∷ [])) else None) now
    ∙ ap Some (place_last (is_submit_of j) steps (SubmitOf j) fresh (same_self j))

submit_step : (j job : ℕ) (steps : List JobStep) → list_any (is_submit_of job) steps ≡ false → submit_place j (with_places steps) ≡ place_by_steps j steps
    → (same : Bool) → (job == j) ≡ same → (if same then Some (length (with_places steps)) else submit_place j (with_places steps)) ≡ place_by_steps j (steps ++ SubmitOf job ∷ [])
submit_step j job steps fresh before true same =
    ap Some (length_places steps) ∙ (sym (last_said job steps fresh) ∙ ap (λ k. place_by_steps k (steps ++ SubmitOf job ∷ [])) (same_number job j same))
submit_step j job steps fresh before false same = before ∙ sym (stays_said j steps (SubmitOf job) same (list_any (is_submit_of j) steps) refl)

pub place_there : (steps : List JobStep) → ValidSteps steps → (j : ℕ) → submit_place j (with_places steps) ≡ place_by_steps j steps
place_there _ none j = ap (submit_place j) places_none ∙ sym (no_place j)
place_there _ (submit steps job l fresh) j =
    ap (submit_place j) (places_submit steps l job)
    ∙ (submit_place_more j (with_places steps) (Submits job)
    ∙ (submit_step j job steps fresh (place_there steps l j) (job == j) refl))
place_there _ (get steps job l submitted unclaimed) j =
    ap (submit_place j) (places_get steps l job submitted)
    ∙ (submit_place_more j (with_places steps) (Gets (position_or_len (is_submit_of job) steps))
    ∙ (place_there steps l j ∙ sym (stays_said j steps (GetOf job) refl (list_any (is_submit_of j) steps) refl)))
