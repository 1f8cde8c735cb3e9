-- Lemmas about the list of jobs after the stage of one job changed, and after a job was created.
use Rattle.std.proofs.Common.{◌≡◌, ◌≢◌, ℕ, zero, suc, ◌<◌, inl, inr, List, [], ◌∷◌, ◌++◌, length, get_or, set, All, refl, sym, ap, subst, ◌∙◌, Bool, arith}
use Rattle.std.specs.List.{count_by}
use Rattle.std.proofs.lemmas.Bool.{cases_lt}
use Rattle.std.proofs.lemmas.List.{length-set, length_push, get_or-set_same, get_or-set_other, get_or_append_left, get_or_push}
use Rattle.std.proofs.lemmas.List.Elements.{All-push}
use Rattle.support.specs.Places.{places_where, last_of}
use Rattle.support.proofs.PassingPlaces.{length-places, places_where-set_same}
use Rattle.pool_machine.specs.declared.parent.Parent.{Parent}
use Rattle.pool_machine.specs.declared.parent.Parent.TheVariants as parent
use Rattle.pool_machine.specs.State.{Stage, State, CreatedJob, no_job, is_made_by}
use Rattle.pool_machine.specs.Step.{moved_jobs}
use Rattle.pool_machine.specs.Laws.{HasGreaterNumber}

-- the list of jobs with this stage for job j
abbrev pub staged : List CreatedJob → ℕ → Stage → List CreatedJob
staged jobs j stage = set jobs j (record (get_or jobs j no_job) { stage = stage })

pub length-staged : (jobs : List CreatedJob) (j : ℕ) (stage : Stage) → length (staged jobs j stage) ≡ length jobs
length-staged jobs j stage = length-set jobs j (record (get_or jobs j no_job) { stage = stage })

-- job j is unchanged except for its stage
pub get_or-staged_same : (jobs : List CreatedJob) (j : ℕ) (stage : Stage) → j < length jobs → get_or (staged jobs j stage) j no_job ≡ record (get_or jobs j no_job) { stage = stage }
get_or-staged_same jobs j stage inside = get_or-set_same jobs j (record (get_or jobs j no_job) { stage = stage }) no_job inside

pub stage-staged : (jobs : List CreatedJob) (j : ℕ) (stage : Stage) → j < length jobs → (get_or (staged jobs j stage) j no_job).stage ≡ stage
stage-staged jobs j stage inside = ap (λ (job : CreatedJob). job.stage) (get_or-staged_same jobs j stage inside)

-- the jobs other than j are unchanged
pub get_or-staged_other : (jobs : List CreatedJob) (j : ℕ) (stage : Stage) (n : ℕ) (d : CreatedJob) → n ≢ j → get_or (staged jobs j stage) n d ≡ get_or jobs n d
get_or-staged_other jobs j stage n d other = get_or-set_other jobs j n (record (get_or jobs j no_job) { stage = stage }) d other

-- each job is unchanged except for its stage
job-staged : (jobs : List CreatedJob) (j : ℕ) (stage : Stage) (n : ℕ) (d : CreatedJob) → get_or (staged jobs j stage) n d ≡ record (get_or jobs n d) { stage = (get_or (staged jobs j stage) n d).stage }
job-staged [] j stage n d = refl
job-staged (x ∷ xs) zero stage zero d = refl
job-staged (x ∷ xs) zero stage (suc n) d = refl
job-staged (x ∷ xs) (suc j) stage zero d = refl
job-staged (x ∷ xs) (suc j) stage (suc n) d = job-staged xs j stage n d

pub class-staged : (jobs : List CreatedJob) (j : ℕ) (stage : Stage) (n : ℕ) (d : CreatedJob) → (get_or (staged jobs j stage) n d).class ≡ (get_or jobs n d).class
class-staged jobs j stage n d = ap (λ (job : CreatedJob). job.class) (job-staged jobs j stage n d)

pub parent-staged : (jobs : List CreatedJob) (j : ℕ) (stage : Stage) (n : ℕ) (d : CreatedJob) → (get_or (staged jobs j stage) n d).parent ≡ (get_or jobs n d).parent
parent-staged jobs j stage n d = ap (λ (job : CreatedJob). job.parent) (job-staged jobs j stage n d)

-- the latest job that an actor created at a position is unchanged
pub child-stage : (jobs : List CreatedJob) (a : Parent) (t j : ℕ) (stage : Stage) → last_of (places_where (is_made_by a t) (staged jobs j stage)) ≡ last_of (places_where (is_made_by a t) jobs)
child-stage jobs a t j stage = ap last_of (places_where-set_same (is_made_by a t) jobs j (record (get_or jobs j no_job) { stage = stage }) no_job refl)

-- the number of jobs that pass a test is unchanged if job j passes it after the change exactly when it did before
pub count-staged : (test : CreatedJob → Bool) (jobs : List CreatedJob) (j : ℕ) (stage : Stage) → test (record (get_or jobs j no_job) { stage = stage }) ≡ test (get_or jobs j no_job) → count_by test (staged jobs j stage) ≡ count_by test jobs
count-staged test jobs j stage same =
    sym (length-places test (staged jobs j stage)) ∙ ap length (places_where-set_same test jobs j (record (get_or jobs j no_job) { stage = stage }) no_job same) ∙ length-places test jobs

-- ---- after an actor moved

pub length-moved : (s : State) (a : Parent) (i : ℕ) → length (moved_jobs a i s) ≡ length s.jobs
length-moved s (parent.Client c) i = refl
length-moved s (parent.Job j) i = length-staged s.jobs j (Stage.At i)

pub child-moved : (s : State) (b : Parent) (i : ℕ) (a : Parent) (t : ℕ) → last_of (places_where (is_made_by a t) (moved_jobs b i s)) ≡ last_of (places_where (is_made_by a t) s.jobs)
child-moved s (parent.Client c) i a t = refl
child-moved s (parent.Job j) i a t = child-stage s.jobs a t j (Stage.At i)

-- ---- the classes of the jobs

abbrev pub HaveClasses : ℕ → List CreatedJob → Type 0
HaveClasses classes jobs = All (λ job. job.class < classes) jobs

pub classes_staged : (classes : ℕ) (jobs : List CreatedJob) (j : ℕ) (stage : Stage) → HaveClasses classes jobs → HaveClasses classes (staged jobs j stage)
classes_staged classes jobs j stage each n d inside =
    subst (λ (k : ℕ). k < classes) (sym (class-staged jobs j stage n d)) (each n d (omega (arith, length-staged jobs j stage)))

pub classes_moved : (classes : ℕ) (s : State) (a : Parent) (i : ℕ) → HaveClasses classes s.jobs → HaveClasses classes (moved_jobs a i s)
classes_moved classes s (parent.Client c) i each = each
classes_moved classes s (parent.Job j) i each = classes_staged classes s.jobs j (Stage.At i) each

pub classes_pushed : (classes : ℕ) (jobs : List CreatedJob) (job : CreatedJob) → HaveClasses classes jobs → job.class < classes → HaveClasses classes (jobs ++ job ∷ [])
classes_pushed classes jobs job each inside = All-push (λ (x : CreatedJob). x.class < classes) jobs job each inside

-- ---- the creators of the jobs

-- each job has a greater number than the job that created it
abbrev pub HaveParents : List CreatedJob → Type 0
HaveParents jobs = (j : ℕ) → j < length jobs → HasGreaterNumber (get_or jobs j no_job).parent j

pub parents_staged : (jobs : List CreatedJob) (j : ℕ) (stage : Stage) → HaveParents jobs → HaveParents (staged jobs j stage)
parents_staged jobs j stage each n inside =
    subst (λ (a : Parent). HasGreaterNumber a n) (sym (parent-staged jobs j stage n no_job)) (each n (omega (arith, length-staged jobs j stage)))

pub parents_moved : (s : State) (a : Parent) (i : ℕ) → HaveParents s.jobs → HaveParents (moved_jobs a i s)
parents_moved s (parent.Client c) i each = each
parents_moved s (parent.Job j) i each = parents_staged s.jobs j (Stage.At i) each

pub parents_pushed : (jobs : List CreatedJob) (job : CreatedJob) → HaveParents jobs → HasGreaterNumber job.parent (length jobs) → HaveParents (jobs ++ job ∷ [])
parents_pushed jobs job each after n inside = elim (cases_lt n (length jobs)) [
  | inl earlier ↦ subst (λ (x : CreatedJob). HasGreaterNumber x.parent n) (sym (get_or_append_left jobs (job ∷ []) no_job n earlier)) (each n earlier)
  | inr past ↦
      let last : length jobs ≡ n = omega (arith, length_push jobs job) in
      subst (λ (x : CreatedJob). HasGreaterNumber x.parent n) (sym (get_or_push jobs job no_job n last)) (subst (HasGreaterNumber job.parent) last after)
]
