-- A path matches a body that has the same steps.
use Rattle.std.proofs.Common.{◌≡◌, ◌≤◌, ◌<◌, ℕ, suc, zero, ◌+◌, Bool, true, false, cond, ◌&&◌, List, [], ◌∷◌, ◌++◌, map, length, take, refl, sym, ap, subst, ◌∙◌, arith, eq-eqb}
use Rattle.std.specs.Prelude.{Option, None, Some, filter, count_by, slice_get, nat_lt, not, ◌==◌}
use Rattle.std.specs.List.{list_any}
use Rattle.std.proofs.lemmas.Bool.{and_parts, or_parts, or_from, ltb-true, ne_eqb, eqb-true, eqb-false}
use Rattle.std.proofs.lemmas.Bool.Decides.{nat_tests}
use Rattle.std.proofs.lemmas.List.{map-append}
use Rattle.std.proofs.lemmas.List.Sums.{sum_by-cons}
use Rattle.std.proofs.lemmas.Option.{same_Some}
use Rattle.job_bodies.specs.declared.action.Action.{Action}
use Rattle.job_bodies.specs.declared.action.Action.TheVariants.{Work, Submit, Get}
use Rattle.job_bodies.specs.Plan.{submits, submitted_class, class_of_submit, has_get_of, gets}
use Rattle.conformance.specs.declared.open_job.OpenJob.{OpenJob}
use Rattle.conformance.specs.declared.step.ActorKind.{ActorKind}
use Rattle.conformance.specs.declared.step.ActorKind.TheVariants.{Job, Round}
use Rattle.conformance.specs.declared.step.PathStep.{PathStep}
use Rattle.conformance.specs.declared.step.PathStep.TheVariants as step
use Rattle.conformance.specs.declared.step.PathState.{PathState}
use Rattle.conformance.specs.declared.step.PathState.TheVariants.{Prefix, Whole}
use Rattle.conformance.specs.Path.{open_after_action, open_in_body, count_in, open_class, without, IsWithin, MayGet, Walks, starts, body_moves, both_submit, path_gets, IsPathOf}
use Rattle.conformance.specs.SameSteps.{is_same_step_at, HasSameSteps}
use Rattle.conformance.specs.ValidGets.{HasValidGets}

-- ---- the open jobs
-- The job is open before an index of the body, and is none of the others.
record IsOpenAt (body : List Action) (index : ℕ) (one : OpenJob) (others : List OpenJob) : Type 0 where
  before : one.job < index
  of_class : one.class ≡ submitted_class body one.job
  alone : open_class one.job others ≡ None

-- Each of the jobs is open before an index of the body, and none occurs twice.
abbrev AreOpen : List Action → ℕ → List OpenJob → Type 0
AreOpen body index [] = Unit {0}
AreOpen body index (one ∷ others) = IsOpenAt body index one others × AreOpen body index others

differs : (a b : ℕ) → a < b → (a == b) ≡ false
differs a b l = ne_eqb a b (λ same. omega arith)

free_at : (body : List Action) (index : ℕ) (jobs : List OpenJob) → AreOpen body index jobs → open_class index jobs ≡ None
free_at body index [] all_open = refl
free_at body index (one ∷ others) all_open = let unlike = differs one.job index all_open.0.before in rw unlike (free_at body index others all_open.1)

raised : (body : List Action) (index : ℕ) (jobs : List OpenJob) → AreOpen body index jobs → AreOpen body (suc index) jobs
raised body index [] all_open = tt
raised body index (one ∷ others) all_open = (record { before = (let l = all_open.0.before in omega arith); of_class = all_open.0.of_class; alone = all_open.0.alone }, raised body index others all_open.1)

none_parts : (b : Bool) (one : OpenJob) (found : Option ℕ) → cond b (Some one.class) found ≡ None → (b ≡ false) × (found ≡ None)
none_parts true one found none = absurd (cc)
none_parts false one found none = (refl, none)

not-true : (b : Bool) → not b ≡ true → b ≡ false
not-true true e = cc
not-true false e = refl

-- ---- a submit
class_before : (job : ℕ) (jobs : List OpenJob) (last : OpenJob) → (last.job == job) ≡ false → open_class job (jobs ++ last ∷ []) ≡ open_class job jobs
class_before job [] last unlike = rw unlike refl
class_before job (one ∷ others) last unlike = ap (λ (found : Option ℕ). cond (one.job == job) (Some one.class) found) (class_before job others last unlike)

class_last : (jobs : List OpenJob) (last : OpenJob) → open_class last.job jobs ≡ None → open_class last.job (jobs ++ last ∷ []) ≡ Some last.class
class_last [] last none = let same : (last.job == last.job) ≡ true = eq-eqb last.job last.job refl in rw same refl
class_last (one ∷ others) last none =
    let at : (b : Bool) → cond b (Some one.class) (open_class last.job others) ≡ None → cond b (Some one.class) (open_class last.job (others ++ last ∷ [])) ≡ Some last.class =
    λ b. elim b as (λ b. cond b (Some one.class) (open_class last.job others) ≡ None → cond b (Some one.class) (open_class last.job (others ++ last ∷ [])) ≡ Some last.class) [ true ↦ λ unlike. cc | false ↦ λ unlike. class_last others last unlike ]
    in at (one.job == last.job) none

open_submit : (body : List Action) (index class : ℕ) (jobs : List OpenJob) → AreOpen body index jobs → class ≡ submitted_class body index → AreOpen body (suc index) (jobs ++ record { job = index; class = class } ∷ [])
open_submit body index class [] all_open e = (record { before = omega arith; of_class = e; alone = refl }, tt)
open_submit body index class (one ∷ others) all_open e =
    let l = all_open.0.before in
    let unlike : (index == one.job) ≡ false = ne_eqb index one.job (λ same. omega arith) in
    (record { before = omega arith; of_class = all_open.0.of_class; alone = class_before one.job others (record { job = index; class = class }) unlike ∙ all_open.0.alone }, open_submit body index class others all_open.1 e)

-- ---- a get
class_without : (job got : ℕ) (jobs : List OpenJob) → open_class job jobs ≡ None → open_class job (without got jobs) ≡ None
class_without job got [] none = refl
class_without job got (one ∷ others) none =
    let parts = none_parts (one.job == job) one (open_class job others) none in
    elim (one.job == got) as (λ b. open_class job (cond b others (one ∷ without got others)) ≡ None) [ true ↦ parts.1 | false ↦ (let unlike = parts.0 in rw unlike (class_without job got others parts.1)) ]

class_stays : (job got class : ℕ) (jobs : List OpenJob) → (job == got) ≡ false → open_class job jobs ≡ Some class → open_class job (without got jobs) ≡ Some class
class_stays job got class [] differ some = some
class_stays job got class (one ∷ others) differ some =
    let here : (b : Bool) → (one.job == job) ≡ b → cond b (Some one.class) (open_class job others) ≡ Some class → open_class job (cond (one.job == got) others (one ∷ without got others)) ≡ Some class =
    λ b. elim b as (λ b. (one.job == job) ≡ b → cond b (Some one.class) (open_class job others) ≡ Some class → open_class job (cond (one.job == got) others (one ∷ without got others)) ≡ Some class) [
      | true ↦ λ yes found. (let other : (one.job == got) ≡ false = grind (arith, nat_tests) in rw (other, yes) found)
      | false ↦ λ unlike found. elim (one.job == got) as (λ c. open_class job (cond c others (one ∷ without got others)) ≡ Some class) [ true ↦ found | false ↦ rw unlike (class_stays job got class others differ found) ]
    ]
    in here (one.job == job) refl some

open_get : (body : List Action) (index got : ℕ) (jobs : List OpenJob) → AreOpen body index jobs → AreOpen body (suc index) (without got jobs)
open_get body index got [] all_open = tt
open_get body index got (one ∷ others) all_open =
    elim (one.job == got) as (λ b. AreOpen body (suc index) (cond b others (one ∷ without got others))) [
      | true ↦ raised body index others all_open.1
      | false ↦ (record { before = (let l = all_open.0.before in omega arith); of_class = all_open.0.of_class; alone = class_without one.job got others all_open.0.alone }, open_get body index got others all_open.1)
    ]

-- ---- the same jobs are open in the body
abbrev jobs_of : List OpenJob → List ℕ
jobs_of jobs = map (λ one. one.job) jobs

others_stay : (got : ℕ) (jobs : List OpenJob) → open_class got jobs ≡ None → filter (λ other. not (other == got)) (jobs_of jobs) ≡ jobs_of jobs
others_stay got [] none = refl
others_stay got (one ∷ others) none =
    let parts = none_parts (one.job == got) one (open_class got others) none in
    let unlike = parts.0 in rw unlike (ap (λ (rest : List ℕ). one.job ∷ rest) (others_stay got others parts.1))

same_removed : (body : List Action) (index got : ℕ) (jobs : List OpenJob) → AreOpen body index jobs → jobs_of (without got jobs) ≡ filter (λ other. not (other == got)) (jobs_of jobs)
same_removed body index got [] all_open = refl
same_removed body index got (one ∷ others) all_open =
    let rest = filter (λ (other : ℕ). not (other == got)) (jobs_of others) in
    let here : (b : Bool) → (one.job == got) ≡ b → jobs_of (cond b others (one ∷ without got others)) ≡ cond (not b) (one.job ∷ rest) rest =
    λ b. elim b as (λ b. (one.job == got) ≡ b → jobs_of (cond b others (one ∷ without got others)) ≡ cond (not b) (one.job ∷ rest) rest) [
      | true ↦ λ yes. sym (others_stay got others (subst (λ (job : ℕ). open_class job others ≡ None) (eqb-true one.job got yes) all_open.0.alone))
      | false ↦ λ unlike. ap (λ (jobs : List ℕ). one.job ∷ jobs) (same_removed body index got others all_open.1)
    ]
    in here (one.job == got) refl

same_count : (body : List Action) (index class : ℕ) (jobs : List OpenJob) → AreOpen body index jobs → count_in class jobs ≡ count_by (λ submit. submitted_class body submit == class) (jobs_of jobs)
same_count body index class [] all_open = refl
same_count body index class (one ∷ others) all_open =
    let rest = same_count body index class others all_open.1 in
    sum_by-cons (λ (x : OpenJob). cond (x.class == class) 1 0) one others
    ∙ ap (λ (k : ℕ). cond (k == class) 1 0 + count_in class others) all_open.0.of_class
    ∙ ap (λ (n : ℕ). cond (submitted_class body one.job == class) 1 0 + n) rest
    ∙ sym (sum_by-cons (λ (submit : ℕ). cond (submitted_class body submit == class) 1 0) one.job (jobs_of others))

fewer : (class got : ℕ) (jobs : List OpenJob) → count_in class (without got jobs) ≤ count_in class jobs
fewer class got [] = omega arith
fewer class got (one ∷ others) =
    let rest = fewer class got others in
    let all : count_in class (one ∷ others) ≡ cond (one.class == class) 1 0 + count_in class others = sum_by-cons (λ (x : OpenJob). cond (x.class == class) 1 0) one others in
    let kept : count_in class (one ∷ without got others) ≡ cond (one.class == class) 1 0 + count_in class (without got others) = sum_by-cons (λ (x : OpenJob). cond (x.class == class) 1 0) one (without got others) in
    elim (one.job == got) as (λ b. count_in class (cond b others (one ∷ without got others)) ≤ count_in class (one ∷ others)) [ true ↦ omega (arith, all) | false ↦ omega (arith, all, kept, rest) ]

-- ---- the jobs that are open in a body, with their classes
abbrev after_action : Option Action → ℕ → List OpenJob → List OpenJob
after_action None index jobs = jobs
after_action (Some (Work units)) index jobs = jobs
after_action (Some (Submit class)) index jobs = jobs ++ record { job = index; class = class } ∷ []
after_action (Some (Get submit)) index jobs = without submit jobs

abbrev jobs_at : List Action → ℕ → List OpenJob
jobs_at body zero = []
jobs_at body (suc index) = after_action (slice_get body index) index (jobs_at body index)

-- The jobs are those of the submits, and are open before the index of the body.
record AreAlike (body : List Action) (index : ℕ) (jobs : List OpenJob) (opened : List ℕ) : Type 0 where
  all_open : AreOpen body index jobs
  same : jobs_of jobs ≡ opened

alike_after : (body : List Action) (index : ℕ) (o : Option Action) (jobs : List OpenJob) (opened : List ℕ) → slice_get body index ≡ o → AreAlike body index jobs opened → AreAlike body (suc index) (after_action o index jobs) (open_after_action o index opened)
alike_after body index None jobs opened e alike = record { all_open = raised body index jobs alike.all_open; same = alike.same }
alike_after body index (Some (Work units)) jobs opened e alike = record { all_open = raised body index jobs alike.all_open; same = alike.same }
alike_after body index (Some (Submit class)) jobs opened e alike = record {
  all_open = open_submit body index class jobs alike.all_open (sym (ap class_of_submit e));
  same = map-append (λ (one : OpenJob). one.job) jobs (record { job = index; class = class } ∷ []) ∙ ap (λ (all : List ℕ). all ++ index ∷ []) alike.same;
}
alike_after body index (Some (Get got)) jobs opened e alike = record {
  all_open = open_get body index got jobs alike.all_open;
  same = same_removed body index got jobs alike.all_open ∙ ap (λ (all : List ℕ). filter (λ (other : ℕ). not (other == got)) all) alike.same;
}

alike : (body : List Action) (index : ℕ) → AreAlike body index (jobs_at body index) (open_in_body body index)
alike body zero = record { all_open = tt; same = refl }
alike body (suc index) = alike_after body index (slice_get body index) (jobs_at body index) (open_in_body body index) refl (alike body index)

within_at : (body : List Action) (index : ℕ) → IsWithin (jobs_at body index) body index
within_at body index = λ class.
    let both = alike body index in
    let count = same_count body index class (jobs_at body index) both.all_open ∙ ap (λ (all : List ℕ). count_by (λ submit. submitted_class body submit == class) all) both.same in
    omega (arith, count)

-- ---- a job that is not got yet is open
no_more : {X : Type 0} (p : X → Bool) (xs : List X) (index : ℕ) → list_any p (take (suc index) xs) ≡ false → (list_any p (take index xs) ≡ false) × ((x : X) → slice_get xs index ≡ Some x → p x ≡ false)
no_more p [] zero unlike = (refl, λ x e. absurd (cc))
no_more p [] (suc index) unlike = (refl, λ x e. absurd (cc))
no_more p (x ∷ xs) zero unlike = (refl, λ y e. let parts = or_parts (p x) false unlike in let same = same_Some x y e in subst (λ z. p z ≡ false) same parts.0)
no_more p (x ∷ xs) (suc index) unlike =
    let parts = or_parts (p x) (list_any p (take (suc index) xs)) unlike in
    let rest = no_more p xs index parts.1 in (or_from (p x) (list_any p (take index xs)) parts.0 rest.0, rest.1)

open_now : (index : ℕ) (o : Option Action) (jobs : List OpenJob) → submits o ≡ true → open_class index jobs ≡ None → open_class index (after_action o index jobs) ≡ Some (class_of_submit o)
open_now index None jobs is none = absurd (cc)
open_now index (Some (Work units)) jobs is none = absurd (cc)
open_now index (Some (Submit class)) jobs is none = class_last jobs (record { job = index; class = class }) none
open_now index (Some (Get got)) jobs is none = absurd (cc)

still_open : (index job class : ℕ) (o : Option Action) (jobs : List OpenJob) → job < index → ((x : Action) → o ≡ Some x → gets job x ≡ false) → open_class job jobs ≡ Some class → open_class job (after_action o index jobs) ≡ Some class
still_open index job class None jobs l unlike some = some
still_open index job class (Some (Work units)) jobs l unlike some = some
still_open index job class (Some (Submit other)) jobs l unlike some = class_before job jobs (record { job = index; class = other }) (ne_eqb index job (λ same. omega arith)) ∙ some
still_open index job class (Some (Get got)) jobs l unlike some = class_stays job got class jobs (unlike (Get got) refl) some

is_open : (body : List Action) (index job : ℕ) → job < index → submits (slice_get body job) ≡ true → has_get_of (take index body) job ≡ false → open_class job (jobs_at body index) ≡ Some (submitted_class body job)
is_open body zero job l is unlike = absurd (omega arith)
is_open body (suc index) job l is unlike =
    let goal : Type 0 = open_class job (after_action (slice_get body index) index (jobs_at body index)) ≡ Some (submitted_class body job) in
    let here : (b : Bool) → (job == index) ≡ b → goal =
    λ b. elim b as (λ b. (job == index) ≡ b → goal) [
      | true ↦ λ yes. (
          let same : index ≡ job = sym (eqb-true job index yes) in
          let now : open_class index (after_action (slice_get body index) index (jobs_at body index)) ≡ Some (class_of_submit (slice_get body index)) =
          open_now index (slice_get body index) (jobs_at body index) (subst (λ (j : ℕ). submits (slice_get body j) ≡ true) (sym same) is) (free_at body index (jobs_at body index) (alike body index).all_open) in
          subst (λ (j : ℕ). open_class j (after_action (slice_get body index) index (jobs_at body index)) ≡ Some (submitted_class body j)) same now)
      | false ↦ λ differ. (
          let parts = no_more (gets job) body index unlike in
          let below : job < index = (let apart = eqb-false job index differ in omega arith) in
          still_open index job (submitted_class body job) (slice_get body index) (jobs_at body index) below parts.1 (is_open body index job below is parts.0))
    ]
    in here (job == index) refl

-- ---- the walk
within_after : (body : List Action) (index : ℕ) (o : Option Action) → slice_get body index ≡ o → IsWithin (after_action o index (jobs_at body index)) body (suc index)
within_after body index o e = subst (λ (one : Option Action). IsWithin (after_action one index (jobs_at body index)) body (suc index)) e (within_at body (suc index))

open_at_get : (body : List Action) → HasValidGets body → (index job : ℕ) → slice_get body index ≡ Some (Get job) → open_class job (jobs_at body index) ≡ Some (submitted_class body job)
open_at_get body valid_gets index job e =
    let all = and_parts (nat_lt job index && submits (slice_get body job)) (not (has_get_of (take index body) job)) (valid_gets index job e) in
    let parts = and_parts (nat_lt job index) (submits (slice_get body job)) all.0 in
    is_open body index job (ltb-true job index parts.0) parts.1 (not-true (has_get_of (take index body) job) all.1)

may_get : (kind : ActorKind) (body : List Action) (index job : ℕ) → slice_get body index ≡ Some (Get job) → MayGet kind body index (submitted_class body job)
may_get Job body index job e = record { get = index; submit = job; later = omega arith; gets = e; of_class = refl }
may_get Round body index job e = tt

walk_on : (kind : ActorKind) (body : List Action) (path : List PathStep) → HasValidGets body → (index : ℕ) (action : Option Action) (one : Option PathStep) → slice_get body index ≡ action → slice_get path index ≡ one → is_same_step_at action one ≡ true → Walks kind body path index index (jobs_at body index) → Walks kind body path (suc index) (suc index) (after_action action index (jobs_at body index))
walk_on kind body path valid_gets index None one e there same walk = absurd (cc)
walk_on kind body path valid_gets index (Some (Work units)) None e there same walk = absurd (cc)
walk_on kind body path valid_gets index (Some (Work units)) (Some one) e there same walk = absurd (cc)
walk_on kind body path valid_gets index (Some (Submit class)) None e there same walk = absurd (cc)
walk_on kind body path valid_gets index (Some (Submit class)) (Some one) e there same walk =
    both_submit one class walk e there same (within_after body index (Some (Submit class)) e)
walk_on kind body path valid_gets index (Some (Get submit)) None e there same walk = absurd (cc)
walk_on kind body path valid_gets index (Some (Get submit)) (Some (step.Submits classes)) e there same walk = absurd (cc)
walk_on kind body path valid_gets index (Some (Get submit)) (Some (step.Gets job)) e there same walk =
    let gets_it : slice_get path index ≡ Some (step.Gets submit) = there ∙ ap (λ (j : ℕ). Some (step.Gets j)) (eqb-true job submit same) in
    let within : IsWithin (without submit (jobs_at body index)) body index = λ class. (let before = within_at body index class in let less = fewer class submit (jobs_at body index) in omega (arith, before, less)) in
    body_moves (Get submit) (path_gets submit (submitted_class body submit) walk gets_it (open_at_get body valid_gets index submit e) (may_get kind body index submit e) within) e (within_after body index (Some (Get submit)) e)

walk_to : (kind : ActorKind) (body : List Action) (path : List PathStep) → HasSameSteps body path → (index : ℕ) → index ≤ length body → Walks kind body path index index (jobs_at body index)
walk_to kind body path has zero l = starts
walk_to kind body path has (suc index) l =
    walk_on kind body path has.gets index (slice_get body index) (slice_get path index) refl refl (has.steps index l) (walk_to kind body path has index (omega (arith, l)))

pub of_same_steps : (kind : ActorKind) (path_state : PathState) (body : List Action) (path : List PathStep) → HasSameSteps body path → IsPathOf kind path_state body path
of_same_steps kind Whole body path has = (jobs_at body (length body), subst (λ (index : ℕ). Walks kind body path (length body) index (jobs_at body (length body))) has.same_length (walk_to kind body path has (length body) (omega arith)))
of_same_steps kind Prefix body path has = (length body, jobs_at body (length body), subst (λ (index : ℕ). Walks kind body path (length body) index (jobs_at body (length body))) has.same_length (walk_to kind body path has (length body) (omega arith)))
