-- The open jobs of a path with their numbers in the machine.
use Rattle.std.proofs.Common.{◌≡◌, ℕ, suc, ◌+◌, ◌≤◌, ◌⊎◌, inl, inr, ⊎_elim, Bool, true, false, cond, ◌&&◌, eqb, List, [], ◌∷◌, ◌++◌, map, count_by, Some, refl, sym, ap, subst, ◌∙◌, arith}
use Rattle.std.specs.Prelude.{⊤}
use Rattle.std.specs.List.{list_any}
use Rattle.std.proofs.lemmas.Bool.{and_parts, and_left, or_cases, or_left, or_right, eqb-true, eq-eqb, ne_eqb}
use Rattle.std.proofs.lemmas.Option.{none-some, same_Some}
use Rattle.support.specs.In.{In, here, there}
use Rattle.support.proofs.Members.{In-cons_cases, In-append_left, In-append_right, list_any_at_In, In-from_list_any}
use Rattle.conformance.specs.declared.open_job.OpenJob.{OpenJob}
use Rattle.conformance.specs.Path.{open_class, without}
use Rattle.conformance.specs.LaggingRun.{MachineJob, is_open, open_job, without_job}
use Rattle.conformance.proofs.OpenCounts.{count_cons}

-- ---- the open jobs of the path
-- The job without its number.
abbrev pub as_open : MachineJob → OpenJob
as_open one = record { job = one.job; class = one.class }

-- An open job of the path with this index and class.
pub record IsOpenJob (job class : ℕ) (jobs : List MachineJob) : Type 0 where
  pub one : MachineJob
  pub is_one : open_job job jobs ≡ Some one
  pub of_class : one.class ≡ class
  pub member : In one jobs

open_if : (b : Bool) (job class : ℕ) (x : MachineJob) (xs : List MachineJob) → eqb x.job job ≡ b → cond b (Some x.class) (open_class job (map as_open xs)) ≡ Some class → (open_class job (map as_open xs) ≡ Some class → IsOpenJob job class xs) → IsOpenJob job class (x ∷ xs)
open_if true job class x xs is e rest = record { one = x; is_one = ap (λ (b : Bool). cond b (Some x) (open_job job xs)) is; of_class = same_Some x.class class e; member = here }
open_if false job class x xs is e rest =
    let found = rest e in
    record { one = found.one; is_one = ap (λ (b : Bool). cond b (Some x) (open_job job xs)) is ∙ found.is_one; of_class = found.of_class; member = there found.member }

pub is_open_job : (job class : ℕ) (jobs : List MachineJob) → open_class job (map as_open jobs) ≡ Some class → IsOpenJob job class jobs
is_open_job job class [] e = absurd (none-some class e)
is_open_job job class (x ∷ xs) e = open_if (eqb x.job job) job class x xs refl e (is_open_job job class xs)

without_if : (b : Bool) (job : ℕ) (x : MachineJob) (xs : List MachineJob) → without job (map as_open xs) ≡ map as_open (without_job job xs) → cond b (map as_open xs) (as_open x ∷ without job (map as_open xs)) ≡ map as_open (cond b xs (x ∷ without_job job xs))
without_if true job x xs same = refl
without_if false job x xs same = ap (λ (ys : List OpenJob). as_open x ∷ ys) same

pub without-as : (job : ℕ) (jobs : List MachineJob) → without job (map as_open jobs) ≡ map as_open (without_job job jobs)
without-as job [] = refl
without-as job (x ∷ xs) = without_if (eqb x.job job) job x xs (without-as job xs)

pub push-as : (jobs : List MachineJob) (x : MachineJob) → map as_open (jobs ++ x ∷ []) ≡ map as_open jobs ++ as_open x ∷ []
push-as [] x = refl
push-as (y ∷ ys) x = ap (λ (zs : List OpenJob). as_open y ∷ zs) (push-as ys x)

-- ---- whether a job of the machine is open in the path
pub open_push : (number : ℕ) (jobs : List MachineJob) (x : MachineJob) → is_open number jobs ≡ true → is_open number (jobs ++ x ∷ []) ≡ true
open_push number jobs x is =
    let test = λ (one : MachineJob). eqb one.number number in
    let found = In-from_list_any test jobs is in
    list_any_at_In test (In-append_left (x ∷ []) found.1) found.2

pub open_last : (jobs : List MachineJob) (x : MachineJob) → is_open x.number (jobs ++ x ∷ []) ≡ true
open_last jobs x = list_any_at_In (λ (one : MachineJob). eqb one.number x.number) (In-append_right jobs here) (eq-eqb x.number x.number refl)

pub member_open : (jobs : List MachineJob) (x : MachineJob) → In x jobs → is_open x.number jobs ≡ true
member_open jobs x i = list_any_at_In (λ (one : MachineJob). eqb one.number x.number) i (eq-eqb x.number x.number refl)

still_if : (b : Bool) (job number : ℕ) (x : MachineJob) (xs : List MachineJob) (one : MachineJob) → cond b (Some x) (open_job job xs) ≡ Some one → (eqb x.number number ≡ true) ⊎ (is_open number xs ≡ true)
    → (open_job job xs ≡ Some one → is_open number xs ≡ true → (number ≡ one.number) ⊎ (is_open number (without_job job xs) ≡ true))
    → (number ≡ one.number) ⊎ (is_open number (cond b xs (x ∷ without_job job xs)) ≡ true)
still_if true job number x xs one e (inl first) rest = inl (sym (eqb-true x.number number first) ∙ ap (λ (y : MachineJob). y.number) (same_Some x one e))
still_if true job number x xs one e (inr later) rest = inr later
still_if false job number x xs one e (inl first) rest = inr (or_left (eqb x.number number) (is_open number (without_job job xs)) first)
still_if false job number x xs one e (inr later) rest = ⊎_elim (λ same. inl same) (λ found. inr (or_right (eqb x.number number) (is_open number (without_job job xs)) found)) (rest e later)

-- An open job is the one that the path gets, or is still open after the get.
pub still_open : (job number : ℕ) (jobs : List MachineJob) (one : MachineJob) → open_job job jobs ≡ Some one → is_open number jobs ≡ true → (number ≡ one.number) ⊎ (is_open number (without_job job jobs) ≡ true)
still_open job number [] one e is = absurd (none-some one e)
still_open job number (x ∷ xs) one e is = still_if (eqb x.job job) job number x xs one e (or_cases (eqb x.number number) (is_open number xs) is) (still_open job number xs one)

in_if : (b : Bool) (job : ℕ) (x y : MachineJob) (ys : List MachineJob) → In x (cond b ys (y ∷ without_job job ys)) → (In x (without_job job ys) → In x ys) → In x (y ∷ ys)
in_if true job x y ys i rest = there i
in_if false job x y ys i rest = ⊎_elim (λ (same : x ≡ y). subst (λ (z : MachineJob). In x (z ∷ ys)) same here) (λ later. there (rest later)) (In-cons_cases i)

pub In-without : (job : ℕ) (x : MachineJob) (jobs : List MachineJob) → In x (without_job job jobs) → In x jobs
In-without job x [] i = i
In-without job x (y ∷ ys) i = in_if (eqb y.job job) job x y ys i (In-without job x ys)

-- ---- numbers that are apart
-- No two of the numbers are equal.
abbrev pub AreApart : List ℕ → Type 0
AreApart [] = ⊤
AreApart (t ∷ ts) = (In t ts → ⊥) × AreApart ts

-- The list without the first element that passes the test.
abbrev drop_first : (MachineJob → Bool) → List MachineJob → List MachineJob
drop_first test [] = []
drop_first test (x ∷ xs) = cond (test x) xs (x ∷ drop_first test xs)

count_if : (b : Bool) (test counted : MachineJob → Bool) (x : MachineJob) (xs : List MachineJob) → ((y : MachineJob) → test y ≡ true → counted y ≡ true) → test x ≡ b → (test x ≡ true) ⊎ (list_any test xs ≡ true)
    → (list_any test xs ≡ true → count_by counted xs ≡ suc (count_by counted (drop_first test xs)))
    → count_by counted (x ∷ xs) ≡ suc (count_by counted (cond b xs (x ∷ drop_first test xs)))
count_if true test counted x xs counts is passes rest =
    let one = count_cons counted x xs ∙ ap (λ (b : Bool). cond b 1 0 + count_by counted xs) (counts x is) in
    omega (arith, one)
count_if false test counted x xs counts is (inl first) rest = absurd (let both = sym is ∙ first in cc)
count_if false test counted x xs counts is (inr later) rest =
    let before = count_cons counted x xs in
    let after = count_cons counted x (drop_first test xs) in
    let less = rest later in
    omega (arith, before, after, less)

-- Without the first element that passes the test one element fewer is counted, if each of them is counted.
count_drop : (test counted : MachineJob → Bool) (xs : List MachineJob) → ((y : MachineJob) → test y ≡ true → counted y ≡ true) → list_any test xs ≡ true → count_by counted xs ≡ suc (count_by counted (drop_first test xs))
count_drop test counted [] counts some = absurd cc
count_drop test counted (x ∷ xs) counts some = count_if (test x) test counted x xs counts refl (or_cases (test x) (list_any test xs) some) (count_drop test counted xs counts)

any_if : (b : Bool) (test other : MachineJob → Bool) (x : MachineJob) (xs : List MachineJob) → ((y : MachineJob) → test y ≡ true → other y ≡ false) → test x ≡ b → (other x ≡ true) ⊎ (list_any other xs ≡ true)
    → (list_any other xs ≡ true → list_any other (drop_first test xs) ≡ true)
    → list_any other (cond b xs (x ∷ drop_first test xs)) ≡ true
any_if true test other x xs apart is (inl first) rest = absurd (let fails = sym (apart x is) ∙ first in cc)
any_if true test other x xs apart is (inr later) rest = later
any_if false test other x xs apart is (inl first) rest = or_left (other x) (list_any other (drop_first test xs)) first
any_if false test other x xs apart is (inr later) rest = or_right (other x) (list_any other (drop_first test xs)) (rest later)

-- An element of another test is still there.
any_drop : (test other : MachineJob → Bool) (xs : List MachineJob) → ((y : MachineJob) → test y ≡ true → other y ≡ false) → list_any other xs ≡ true → list_any other (drop_first test xs) ≡ true
any_drop test other [] apart some = some
any_drop test other (x ∷ xs) apart some = any_if (test x) test other x xs apart refl (or_cases (other x) (list_any other xs) some) (any_drop test other xs apart)

-- The job has this number and is counted.
abbrev pub counts_as : (MachineJob → Bool) → ℕ → MachineJob → Bool
counts_as counted number one = eqb one.number number && counted one

-- A function from numbers to the numbers of jobs, different for different numbers.
pub record IsMap (p : ℕ → Bool) (f : ℕ → ℕ) (counted : MachineJob → Bool) (ts : List ℕ) (jobs : List MachineJob) : Type 0 where
  pub into : (t : ℕ) → In t ts → p t ≡ true → list_any (counts_as counted (f t)) jobs ≡ true
  pub once : (t u : ℕ) → In t ts → In u ts → p t ≡ true → p u ≡ true → f t ≡ f u → t ≡ u

most_if : (b : Bool) (p : ℕ → Bool) (f : ℕ → ℕ) (counted : MachineJob → Bool) (t : ℕ) (ts : List ℕ) (jobs : List MachineJob) → p t ≡ b → (In t ts → ⊥) → IsMap p f counted (t ∷ ts) jobs
    → ((fewer : List MachineJob) → IsMap p f counted ts fewer → count_by p ts ≤ count_by counted fewer)
    → count_by p (t ∷ ts) ≤ count_by counted jobs
most_if false p f counted t ts jobs is fresh maps rest =
    let first = count_cons p t ts ∙ ap (λ (b : Bool). cond b 1 0 + count_by p ts) is in
    let others = rest jobs (record { into = λ u i passes. maps.into u (there i) passes; once = λ u v i j passes passes' same. maps.once u v (there i) (there j) passes passes' same }) in
    omega (arith, first, others)
most_if true p f counted t ts jobs is fresh maps rest =
    let test = counts_as counted (f t) in
    let first = count_cons p t ts ∙ ap (λ (b : Bool). cond b 1 0 + count_by p ts) is in
    let less = count_drop test counted jobs (λ y passes. (and_parts (eqb y.number (f t)) (counted y) passes).1) (maps.into t here is) in
    let different : (u : ℕ) → In u ts → p u ≡ true → (y : MachineJob) → test y ≡ true → counts_as counted (f u) y ≡ false =
    λ u i passes y hit.
    let number = eqb-true y.number (f t) (and_parts (eqb y.number (f t)) (counted y) hit).0 in
    and_left (eqb y.number (f u)) (counted y) (ne_eqb y.number (f u) (λ same. fresh (subst (λ (v : ℕ). In v ts) (sym (maps.once t u here (there i) is passes (sym number ∙ same))) i))) in
    let others = rest (drop_first test jobs) (record {
      into = λ u i passes. any_drop test (counts_as counted (f u)) jobs (different u i passes) (maps.into u (there i) passes);
      once = λ u v i j passes passes' same. maps.once u v (there i) (there j) passes passes' same;
    }) in
    omega (arith, first, less, others)

-- There are at most as many such numbers as jobs.
pub at_most : (p : ℕ → Bool) (f : ℕ → ℕ) (counted : MachineJob → Bool) (ts : List ℕ) (jobs : List MachineJob) → AreApart ts → IsMap p f counted ts jobs → count_by p ts ≤ count_by counted jobs
at_most p f counted [] jobs apart maps = omega arith
at_most p f counted (t ∷ ts) jobs apart maps = most_if (p t) p f counted t ts jobs refl apart.0 maps (λ fewer rest. at_most p f counted ts fewer apart.1 rest)
