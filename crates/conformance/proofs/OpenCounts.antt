-- The numbers of open jobs after a step of a body or a path.
use Rattle.std.proofs.Common.{◌≡◌, ℕ, suc, ◌+◌, ◌≤◌, Bool, true, false, cond, not, eqb, List, [], ◌∷◌, ◌++◌, count_by, Option, Some, None, refl, sym, ap, subst, ◌∙◌, arith}
use Rattle.std.specs.Prelude.{slice_get, filter}
use Rattle.std.proofs.lemmas.Bool.{eqb-true, leb-true, le-leb}
use Rattle.std.proofs.lemmas.List.Sums.{sum_by-cons, sum_by_push}
use Rattle.std.proofs.lemmas.Option.{same_Some, none-some}
use Rattle.job_bodies.specs.declared.action.Action.{Action}
use Rattle.job_bodies.specs.declared.action.Action.TheVariants.{Work, Submit, Get}
use Rattle.job_bodies.specs.Plan.{submitted_class, class_of_submit}
use Rattle.conformance.specs.declared.body_gets.BodyGet.{BodyGet}
use Rattle.conformance.specs.declared.open_job.OpenJob.{OpenJob}
use Rattle.conformance.specs.Path.{open_after_action, open_in_body, count_in_body, count_in, open_class, without, IsWithin}
use Rattle.conformance.specs.BodyGets.{get_with, get_at, can_pass}

-- ---- counts of a list
pub count_cons : {X : Type 0} (p : X → Bool) (x : X) (xs : List X) → count_by p (x ∷ xs) ≡ cond (p x) 1 0 + count_by p xs
count_cons p x xs = sum_by-cons (λ y. cond (p y) 1 0) x xs

pub count_push : {X : Type 0} (p : X → Bool) (xs : List X) (x : X) → count_by p (xs ++ x ∷ []) ≡ count_by p xs + cond (p x) 1 0
count_push p xs x = sum_by_push (λ y. cond (p y) 1 0) xs x

zero_plus : (n : ℕ) → 0 + n ≡ n
zero_plus n = omega arith

-- The elements other than `t` are counted as before if `t` does not pass.
count_other_if : (b : Bool) (p : ℕ → Bool) (t x : ℕ) (xs kept : List ℕ) → eqb x t ≡ b → p t ≡ false → count_by p kept ≡ count_by p xs
    → count_by p (cond (not b) (x ∷ kept) kept) ≡ count_by p (x ∷ xs)
count_other_if true p t x xs kept e fails same =
    let fails_x : p x ≡ false = ap p (eqb-true x t e) ∙ fails in
    same ∙ sym (count_cons p x xs ∙ (ap (λ (b : Bool). cond b 1 0 + count_by p xs) fails_x ∙ zero_plus (count_by p xs)))
count_other_if false p t x xs kept e fails same =
    count_cons p x kept ∙ (ap (λ n. cond (p x) 1 0 + n) same ∙ sym (count_cons p x xs))

pub count_other : (p : ℕ → Bool) (t : ℕ) (xs : List ℕ) → p t ≡ false → count_by p (filter (λ other. not (eqb other t)) xs) ≡ count_by p xs
count_other p t [] fails = refl
count_other p t (x ∷ xs) fails = count_other_if (eqb x t) p t x xs (filter (λ other. not (eqb other t)) xs) refl fails (count_other p t xs fails)

-- ---- the open jobs of a path
pub count_submitted : (class job of : ℕ) (jobs : List OpenJob) → count_in class (jobs ++ record { job = job; class = of } ∷ []) ≡ count_in class jobs + cond (eqb of class) 1 0
count_submitted class job of jobs = count_push (λ (one : OpenJob). eqb one.class class) jobs (record { job = job; class = of })

abbrev of_class : ℕ → OpenJob → Bool
of_class class one = eqb one.class class

without_if : (b : Bool) (class job : ℕ) (one : OpenJob) (others : List OpenJob) → count_in class (without job others) ≤ count_in class others
    → count_in class (cond b others (one ∷ without job others)) ≤ count_in class (one ∷ others)
without_if true class job one others h =
    let e = count_cons (of_class class) one others in omega (arith, e)
without_if false class job one others h =
    let e = count_cons (of_class class) one others in
    let f = count_cons (of_class class) one (without job others) in
    omega (arith, e, f, h)

-- After a get at most as many jobs are open.
pub count_without : (class job : ℕ) (jobs : List OpenJob) → count_in class (without job jobs) ≤ count_in class jobs
count_without class job [] = omega arith
count_without class job (one ∷ others) = without_if (eqb one.job job) class job one others (count_without class job others)

other_if : (b : Bool) (class of job : ℕ) (one : OpenJob) (others : List OpenJob) → cond b (Some one.class) (open_class job others) ≡ Some of → eqb of class ≡ false
    → (open_class job others ≡ Some of → count_in class (without job others) ≡ count_in class others)
    → count_in class (cond b others (one ∷ without job others)) ≡ count_in class (one ∷ others)
other_if true class of job one others e other h =
    let fails : eqb one.class class ≡ false = ap (λ n. eqb n class) (same_Some one.class of e) ∙ other in
    sym (count_cons (of_class class) one others ∙ (ap (λ (b : Bool). cond b 1 0 + count_in class others) fails ∙ zero_plus (count_in class others)))
other_if false class of job one others e other h =
    count_cons (of_class class) one (without job others) ∙ (ap (λ n. cond (eqb one.class class) 1 0 + n) (h e) ∙ sym (count_cons (of_class class) one others))

-- After the get of a job of another class as many jobs of the class are open.
pub count_without_other : (class of job : ℕ) (jobs : List OpenJob) → open_class job jobs ≡ Some of → eqb of class ≡ false → count_in class (without job jobs) ≡ count_in class jobs
count_without_other class of job [] e other = absurd (none-some of e)
count_without_other class of job (one ∷ others) e other =
    other_if (eqb one.job job) class of job one others e other (λ f. count_without_other class of job others f other)

-- ---- the moves of a body
-- The count before the next index, by the action.
body_count_next : (o : Option Action) (class : ℕ) (body : List Action) (q : ℕ) → slice_get body q ≡ o
    → count_in_body class body (suc q) ≡ count_by (λ submit. eqb (submitted_class body submit) class) (open_after_action o q (open_in_body body q))
body_count_next o class body q e = ap (λ a. count_by (λ submit. eqb (submitted_class body submit) class) (open_after_action a q (open_in_body body q))) e

within_get : (b : Bool) (class t : ℕ) (jobs : List OpenJob) (body : List Action) (q : ℕ) → slice_get body q ≡ Some (Get t) → eqb (submitted_class body t) class ≡ b
    → count_in class jobs ≤ count_in_body class body q
    → count_in (submitted_class body t) jobs ≤ count_in_body (submitted_class body t) body (suc q)
    → count_in class jobs ≤ count_in_body class body (suc q)
within_get true class t jobs body q e is_same before passes =
    subst (λ c. count_in c jobs ≤ count_in_body c body (suc q)) (eqb-true (submitted_class body t) class is_same) passes
within_get false class t jobs body q e is_other before passes =
    let next = body_count_next (Some (Get t)) class body q e in
    let same = count_other (λ submit. eqb (submitted_class body submit) class) t (open_in_body body q) is_other in
    subst (λ n. count_in class jobs ≤ n) (sym (next ∙ same)) before

within_next_at : (o : Option Action) (jobs : List OpenJob) (body : List Action) (q : ℕ) → slice_get body q ≡ o → IsWithin jobs body q → can_pass (get_with o body (open_in_body body (suc q))) jobs ≡ true → IsWithin jobs body (suc q)
within_next_at None jobs body q e before passes = λ class. subst (λ n. count_in class jobs ≤ n) (sym (body_count_next None class body q e)) (before class)
within_next_at (Some (Work units)) jobs body q e before passes = λ class. subst (λ n. count_in class jobs ≤ n) (sym (body_count_next (Some (Work units)) class body q e)) (before class)
within_next_at (Some (Submit k)) jobs body q e before passes = λ class.
    let next = body_count_next (Some (Submit k)) class body q e in
    let more = count_push (λ submit. eqb (submitted_class body submit) class) (open_in_body body q) q in
    let h = before class in
    omega (arith, next, more, h)
within_next_at (Some (Get t)) jobs body q e before passes = λ class.
    within_get (eqb (submitted_class body t) class) class t jobs body q e refl (before class)
    (leb-true (count_in (submitted_class body t) jobs) (count_in_body (submitted_class body t) body (suc q)) passes)

-- The body may pass its next action.
pub within_next : (jobs : List OpenJob) (body : List Action) (q : ℕ) → IsWithin jobs body q → can_pass (get_at body q) jobs ≡ true → IsWithin jobs body (suc q)
within_next jobs body q = within_next_at (slice_get body q) jobs body q refl

can_pass_at : (o : Option Action) (jobs : List OpenJob) (body : List Action) (q : ℕ) → IsWithin jobs body (suc q) → can_pass (get_with o body (open_in_body body (suc q))) jobs ≡ true
can_pass_at None jobs body q after = refl
can_pass_at (Some (Work units)) jobs body q after = refl
can_pass_at (Some (Submit k)) jobs body q after = refl
can_pass_at (Some (Get t)) jobs body q after = le-leb (count_in (submitted_class body t) jobs) (count_in_body (submitted_class body t) body (suc q)) (after (submitted_class body t))

-- The converse of `within_next`.
pub can_pass_from_within : (jobs : List OpenJob) (body : List Action) (q : ℕ) → IsWithin jobs body (suc q) → can_pass (get_at body q) jobs ≡ true
can_pass_from_within jobs body q = can_pass_at (slice_get body q) jobs body q

-- Both submit a job of one class.
pub within_submit : (jobs : List OpenJob) (body : List Action) (q job class : ℕ) → slice_get body q ≡ Some (Submit class) → IsWithin jobs body q → IsWithin (jobs ++ record { job = job; class = class } ∷ []) body (suc q)
within_submit jobs body q job of e before = λ class.
    let next = body_count_next (Some (Submit of)) class body q e in
    let more = count_push (λ submit. eqb (submitted_class body submit) class) (open_in_body body q) q in
    let submitted : ◌≡◌ {A = ℕ} (cond (eqb (submitted_class body q) class) 1 0) (cond (eqb of class) 1 0) = ap (λ o. cond (eqb (class_of_submit o) class) 1 0) e in
    let path = count_submitted class job of jobs in
    let h = before class in
    omega (arith, next, more, submitted, path, h)

-- The path gets a job.
pub within_without : (jobs : List OpenJob) (body : List Action) (q job : ℕ) → IsWithin jobs body q → IsWithin (without job jobs) body q
within_without jobs body q job before = λ class. let h = before class in let w = count_without class job jobs in omega (arith, h, w)

-- ---- the gets of a body
same_get_limit : (class limit q : ℕ) (body : List Action) (get : BodyGet) → ◌≡◌ {A = Option BodyGet} (Some (record { class = class; limit = limit })) (Some get) → limit ≡ count_in_body class body (suc q) → count_in_body get.class body (suc q) ≡ get.limit
same_get_limit class limit q body get e limit_is =
    subst (λ (g : BodyGet). count_in_body g.class body (suc q) ≡ g.limit) (same_Some (record { class = class; limit = limit }) get e) (sym limit_is)

get_limit_at : (o : Option Action) (body : List Action) (q : ℕ) (get : BodyGet) → get_with o body (open_in_body body (suc q)) ≡ Some get → count_in_body get.class body (suc q) ≡ get.limit
get_limit_at None body q get e = absurd (none-some get e)
get_limit_at (Some (Work units)) body q get e = absurd (none-some get e)
get_limit_at (Some (Submit k)) body q get e = absurd (none-some get e)
get_limit_at (Some (Get t)) body q get e = same_get_limit (submitted_class body t) (count_in_body (submitted_class body t) body (suc q)) q body get e refl

-- The number of jobs of its class that are open after a get.
pub get_limit : (body : List Action) (q : ℕ) (get : BodyGet) → get_at body q ≡ Some get → count_in_body get.class body (suc q) ≡ get.limit
get_limit body q = get_limit_at (slice_get body q) body q

stays_at_get : (b : Bool) (class t : ℕ) (body : List Action) (q : ℕ) → slice_get body q ≡ Some (Get t) → eqb (submitted_class body t) class ≡ b → (submitted_class body t ≡ class → ⊥) → count_in_body class body q ≤ count_in_body class body (suc q)
stays_at_get true class t body q e is_same other = absurd (other (eqb-true (submitted_class body t) class is_same))
stays_at_get false class t body q e is_other other =
    let next = body_count_next (Some (Get t)) class body q e in
    let same = count_other (λ submit. eqb (submitted_class body submit) class) t (open_in_body body q) is_other in
    let all = next ∙ same in
    omega (arith, all)

stays_at : (o : Option Action) (class : ℕ) (body : List Action) (q : ℕ) → slice_get body q ≡ o → ((get : BodyGet) → get_with o body (open_in_body body (suc q)) ≡ Some get → get.class ≡ class → ⊥) → count_in_body class body q ≤ count_in_body class body (suc q)
stays_at None class body q e other = let next = body_count_next None class body q e in omega (arith, next)
stays_at (Some (Work units)) class body q e other = let next = body_count_next (Some (Work units)) class body q e in omega (arith, next)
stays_at (Some (Submit k)) class body q e other =
    let next = body_count_next (Some (Submit k)) class body q e in
    let more = count_push (λ submit. eqb (submitted_class body submit) class) (open_in_body body q) q in
    omega (arith, next, more)
stays_at (Some (Get t)) class body q e other = stays_at_get (eqb (submitted_class body t) class) class t body q e refl (λ same. other _ refl same)

-- Only a get of the class lowers the number of its open jobs.
pub count_stays : (class : ℕ) (body : List Action) (q : ℕ) → ((get : BodyGet) → get_at body q ≡ Some get → get.class ≡ class → ⊥) → count_in_body class body q ≤ count_in_body class body (suc q)
count_stays class body q = stays_at (slice_get body q) class body q refl
