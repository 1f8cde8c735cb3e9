-- The number of completed steps of the calls of jobs, for each job and as a sum over all jobs.
use Rattle.std.proofs.Common.{◌≡◌, ◌≢◌, ℕ, ◌+◌, ◌<◌, ◌≤◌, ⊎_elim, Bool, true, false, cond, not, ◌&&◌, eqb, List, [], ◌∷◌, length, sum_by, refl, sym, ap, subst, ◌∙◌, arith}
use Rattle.std.specs.List.{list_any, enumerate_from}
use Rattle.std.proofs.lemmas.Bool.{and_from, or_left, or_right, cases_eq, eq-eqb, not_from_false}
use Rattle.std.proofs.lemmas.List.Sums.{sum_by-cons}
use Rattle.support.proofs.Members.{In-filter, In-from_list_any, list_any_at_In}
use Rattle.support.proofs.Sums.{sum_by-le-at}
use Rattle.pool_machine.specs.declared.parent.Parent.{Parent}
use Rattle.pool_machine.specs.declared.parent.Parent.TheVariants as parent
use Rattle.pool_machine.specs.State.{same_parent}
use Rattle.pool_machine.proofs.Children.{same_actor_true}
use Rattle.soundness.specs.Execute.{Call, JavaState, is_calling, without_calls_of}

-- ---- one job

-- the list contains a call of job n
abbrev pub has_call : List Call → ℕ → Bool
has_call calls n = list_any (λ (call : Call). same_parent (parent.Job n) call.actor) calls

-- the number of completed steps of a job's submit: 2 if its call requests a thread, 1 if its call offers the job, and otherwise
-- 0
abbrev pub steps_done : Bool → Bool → ℕ
steps_done requesting offering = cond requesting 2 (cond offering 1 0)

abbrev pub mark : JavaState → ℕ → ℕ
mark s n = steps_done (has_call s.requesting n) (has_call s.offering n)

-- the number of completed steps of a job's submit does not fall if each list of calls that contained a call of the job still
-- contains one
pub steps_done-le : (requesting offering asking' offering' : Bool) → (requesting ≡ true → asking' ≡ true) → (offering ≡ true → offering' ≡ true) → steps_done requesting offering ≤ steps_done asking' offering'
steps_done-le true offering true offering' more_requesting more_offering = omega arith
steps_done-le true offering false offering' more_requesting more_offering = let requests_thread = more_requesting refl in absurd cc
steps_done-le false true true offering' more_requesting more_offering = omega arith
steps_done-le false true false true more_requesting more_offering = omega arith
steps_done-le false true false false more_requesting more_offering = let offers_job = more_offering refl in absurd cc
steps_done-le false false asking' offering' more_requesting more_offering = omega arith

pub mark-le : (s s' : JavaState) (n : ℕ) → (has_call s.requesting n ≡ true → has_call s'.requesting n ≡ true) → (has_call s.offering n ≡ true → has_call s'.offering n ≡ true) → mark s n ≤ mark s' n
mark-le s s' n more_requesting more_offering = steps_done-le (has_call s.requesting n) (has_call s.offering n) (has_call s'.requesting n) (has_call s'.offering n) more_requesting more_offering

pub mark-le_two : (s : JavaState) (n : ℕ) → mark s n ≤ 2
mark-le_two s n = steps_done-le (has_call s.requesting n) (has_call s.offering n) true true (λ requests_thread. refl) (λ offers_job. refl)

-- if the list contains a call of job n, it contains a call of job n to some pool
pub has_call_to : (calls : List Call) (n : ℕ) → has_call calls n ≡ true → (p : ℕ) × (is_calling calls (parent.Job n) p ≡ true)
has_call_to calls n is_making =
    let found = In-from_list_any (λ (call : Call). same_parent (parent.Job n) call.actor) calls is_making in
    let p = found.0.pool in
    (p, list_any_at_In (λ (call : Call). same_parent (parent.Job n) call.actor && eqb p call.pool) found.1 (and_from (same_parent (parent.Job n) found.0.actor) (eqb p p) found.2 (eq-eqb p p refl)))

-- a call of job n is still in the list after the calls of another actor were removed
pub others_have_call : (a : Parent) (calls : List Call) (n : ℕ) → same_parent a (parent.Job n) ≡ false → has_call calls n ≡ true → has_call (without_calls_of a calls) n ≡ true
others_have_call a calls n other is_making =
    let of_job = λ (call : Call). same_parent (parent.Job n) call.actor in
    let found = In-from_list_any of_job calls is_making in
    let not_own : same_parent a found.0.actor ≡ false = ap (same_parent a) (sym (same_actor_true (parent.Job n) found.0.actor found.2)) ∙ other in
    list_any_at_In of_job (In-filter (λ (call : Call). not (same_parent a call.actor)) found.1 (not_from_false (same_parent a found.0.actor) not_own)) found.2

-- a call of job n is still in the list after a call was added
pub more_has_call : (call : Call) (calls : List Call) (n : ℕ) → has_call calls n ≡ true → has_call (call ∷ calls) n ≡ true
more_has_call call calls n is_making = or_right (same_parent (parent.Job n) call.actor) (has_call calls n) is_making

pub new_has_call : (n p : ℕ) (calls : List Call) → has_call (record { actor = parent.Job n; pool = p } ∷ calls) n ≡ true
new_has_call n p calls = or_left (eqb n n) (has_call calls n) (eq-eqb n n refl)

-- ---- sums by index

abbrev pub by_place : {X : Type 0} → (ℕ → ℕ) → ℕ → List X → ℕ
by_place {X = X} f n xs = sum_by (λ (entry : ℕ × X). f entry.0) (enumerate_from n xs)

-- the sum over the indices of a nonempty list is the term of the first index plus the sum over the others
by_place-cons : {X : Type 0} (f : ℕ → ℕ) (n : ℕ) (x : X) (xs : List X) → by_place f n (x ∷ xs) ≡ f n + by_place f (n + 1) xs
by_place-cons {X = X} f n x xs = sum_by-cons (λ (entry : ℕ × X). f entry.0) (n, x) (enumerate_from (n + 1) xs)

-- the sum over the indices of a list is at most that of a longer list
pub by_place-longer : {X : Type 0} (f : ℕ → ℕ) (n : ℕ) (xs ys : List X) → length xs ≤ length ys → by_place f n xs ≤ by_place f n ys
by_place-longer f n [] ys shorter = omega arith
by_place-longer f n (x ∷ xs) [] shorter = absurd (omega arith)
by_place-longer f n (x ∷ xs) (y ∷ ys) shorter =
    let rest = by_place-longer f (n + 1) xs ys (omega arith) in
    omega (arith, by_place-cons f n x xs, by_place-cons f n y ys)

-- if the term of one index is larger by at least one in the second sum and no term is smaller, the second sum is larger by at
-- least one
pub by_place-more : {X : Type 0} (f g : ℕ → ℕ) (j n : ℕ) (xs : List X) → n ≤ j → j < n + length xs → f j + 1 ≤ g j → ((i : ℕ) → f i ≤ g i) → by_place f n xs + 1 ≤ by_place g n xs
by_place-more {X = X} f g j n xs low high here each = sum_by-le-at (λ (entry : ℕ × X). f entry.0) (λ (entry : ℕ × X). g entry.0) n xs j 1 low high (λ entry. each entry.0) (λ x. here)

-- if the term of one index is smaller by at most `less` in the second sum and no other term is smaller, the second sum is
-- smaller by at most `less`
pub by_place-but_one : {X : Type 0} (f g : ℕ → ℕ) (j less : ℕ) → f j ≤ g j + less → ((i : ℕ) → i ≢ j → f i ≤ g i) → (n : ℕ) (xs : List X) → by_place f n xs ≤ by_place g n xs + less
by_place-but_one f g j less here others n xs = from n xs
  where
    -- over the indices after j, the second sum is not smaller
    behind : {X : Type 0} (m : ℕ) (ys : List X) → j < m → by_place f m ys ≤ by_place g m ys
    behind m [] past = omega arith
    behind m (y ∷ ys) past =
        let first = others m (λ (same : m ≡ j). omega arith) in
        let rest = behind (m + 1) ys (omega arith) in
        omega (arith, by_place-cons f m y ys, by_place-cons g m y ys)

    from : {X : Type 0} (m : ℕ) (ys : List X) → by_place f m ys ≤ by_place g m ys + less
    from m [] = omega arith
    from m (y ∷ ys) =
        ⊎_elim
        (λ (same : m ≡ j).
        let first : f m ≤ g m + less = subst (λ (i : ℕ). f i ≤ g i + less) (sym same) here in
        let rest = behind (m + 1) ys (omega arith) in
        omega (arith, by_place-cons f m y ys, by_place-cons g m y ys))
        (λ (other : m ≢ j).
        let first = others m other in
        let rest = from (m + 1) ys in
        omega (arith, by_place-cons f m y ys, by_place-cons g m y ys))
        (cases_eq m j)

-- a sum over numbered elements whose terms do not depend on the numbers is the sum over the elements
pub sum_of_elements : {X : Type 0} (f : X → ℕ) (n : ℕ) (xs : List X) → sum_by (λ (entry : ℕ × X). f entry.1) (enumerate_from n xs) ≡ sum_by f xs
sum_of_elements f n [] = refl
sum_of_elements {X = X} f n (x ∷ xs) =
    let rest = sum_of_elements f (n + 1) xs in
    omega (arith, sum_by-cons (λ (entry : ℕ × X). f entry.1) (n, x) (enumerate_from (n + 1) xs), sum_by-cons f x xs)
