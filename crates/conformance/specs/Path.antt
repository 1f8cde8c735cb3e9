-- The paths that match a body.
use Rattle.std.specs.Prelude.{◌≡◌, ◌≤◌, ℕ, zero, suc, Bool, true, false, ◌==◌, not, if◌then◌else◌, List, [], ◌∷◌, ◌++◌, Option, None, Some, ⊤, length, filter, count_by, slice_get}
use Rattle.std.specs.List.{list_any}
use Rattle.job_bodies.specs.declared.action.Action.{Action}
use Rattle.job_bodies.specs.declared.action.Action.TheVariants as action
use Rattle.job_bodies.specs.Plan.{submitted_class}
use Rattle.conformance.specs.declared.open_job.OpenJob.{OpenJob}
use Rattle.conformance.specs.declared.step.ActorKind.{ActorKind}
use Rattle.conformance.specs.declared.step.ActorKind.TheVariants as actor_kind
use Rattle.conformance.specs.declared.step.PathStep.{PathStep}
use Rattle.conformance.specs.declared.step.PathStep.TheVariants as step
use Rattle.conformance.specs.declared.step.PathState.{PathState}
use Rattle.conformance.specs.declared.step.PathState.TheVariants as path_state
use Rattle.conformance.specs.PathStep.{submits}

-- ---- the open jobs of a body
-- The submits whose jobs are open in the body after the action at this index. `jobs` has those that are open before the
-- action.
abbrev pub open_after_action : Option Action → ℕ → List ℕ → List ℕ
open_after_action None index jobs = jobs
open_after_action (Some (action.Work units)) index jobs = jobs
open_after_action (Some (action.Submit class)) index jobs = jobs ++ index ∷ []
open_after_action (Some (action.Get submit)) index jobs = filter (λ other. not (other == submit)) jobs

-- The submits whose jobs are open before an index of the body. A job is open after its submit and before its get.
abbrev pub open_in_body : List Action → ℕ → List ℕ
open_in_body body zero = []
open_in_body body (suc index) = open_after_action (slice_get body index) index (open_in_body body index)

-- The number of jobs of the class that are open before an index of the body.
abbrev pub count_in_body : ℕ → List Action → ℕ → ℕ
count_in_body class body index = count_by (λ submit. submitted_class body submit == class) (open_in_body body index)

-- ---- the open jobs of a path
-- The number of these open jobs of a path that have the class.
abbrev pub count_in : ℕ → List OpenJob → ℕ
count_in class jobs = count_by (λ one. one.class == class) jobs

-- The class of the job that the path submits at this index, or `None` if the job is not open.
abbrev pub open_class : ℕ → List OpenJob → Option ℕ
open_class job [] = None
open_class job (one ∷ others) = if one.job == job then Some one.class else open_class job others

abbrev pub without : ℕ → List OpenJob → List OpenJob
without job [] = []
without job (one ∷ others) = if one.job == job then others else one ∷ without job others

-- ---- walks
-- For each class, the list has at most as many jobs as are open in the body before the index.
abbrev pub IsWithin : List OpenJob → List Action → ℕ → Type 0
IsWithin jobs body index = (class : ℕ) → count_in class jobs ≤ count_in_body class body index

-- The body has a get of a job of this class at this index or later.
pub record HasGetFrom (body : List Action) (index class : ℕ) : Type 0 where
  pub get : ℕ
  pub submit : ℕ
  pub later : index ≤ get
  pub gets : slice_get body get ≡ Some (action.Get submit)
  pub of_class : submitted_class body submit ≡ class

-- An actor of this kind may get a job of this class when its body is at this index. A job gets only jobs of classes that its
-- body still gets. A round gets any of its jobs.
abbrev pub MayGet : ActorKind → List Action → ℕ → ℕ → Type 0
MayGet actor_kind.Job body index class = HasGetFrom body index class
MayGet actor_kind.Round body index class = ⊤

-- The body and the path can be walked together up to these indices, each in its own order. Then exactly the jobs in the list
-- are open in the path. Each has the class with which it was submitted. At each moment, for each class, the path has at most
-- as many open jobs as the body.
pub data Walks (kind : ActorKind) (body : List Action) (path : List PathStep) : ℕ → ℕ → List OpenJob → Type 0 where
  starts : Walks kind body path 0 0 []
  -- The body moves alone: it works, it submits a job that the path skips, or it gets a job.
  body_moves : {q p : ℕ} {jobs : List OpenJob} (action : Action) → Walks kind body path q p jobs
      → slice_get body q ≡ Some action
      → IsWithin jobs body (suc q)
      → Walks kind body path (suc q) p jobs
  -- The body and the path both submit a job of the same class.
  both_submit : {q p : ℕ} {jobs : List OpenJob} (step : PathStep) (class : ℕ) → Walks kind body path q p jobs
      → slice_get body q ≡ Some (action.Submit class)
      → slice_get path p ≡ Some step
      → submits step class ≡ true
      → IsWithin (jobs ++ record { job = p; class = class } ∷ []) body (suc q)
      → Walks kind body path (suc q) (suc p) (jobs ++ record { job = p; class = class } ∷ [])
  -- The path gets one of its open jobs.
  path_gets : {q p : ℕ} {jobs : List OpenJob} (job class : ℕ) → Walks kind body path q p jobs
      → slice_get path p ≡ Some (step.Gets job)
      → open_class job jobs ≡ Some class
      → MayGet kind body q class
      → IsWithin (without job jobs) body q
      → Walks kind body path q (suc p) (without job jobs)

-- ---- paths
-- The path matches the body: the two can be walked together to the end of the path. If the path is whole, the walk also
-- reaches the end of the body.
abbrev pub IsPathOf : ActorKind → PathState → List Action → List PathStep → Type 0
IsPathOf kind path_state.Whole body path = (jobs : List OpenJob) × Walks kind body path (length body) (length path) jobs
IsPathOf kind path_state.Prefix body path = (index : ℕ) × (jobs : List OpenJob) × Walks kind body path index (length path) jobs

-- ---- ambiguous jobs
-- The action is a submit of the class.
abbrev pub is_submit_of : ℕ → Option Action → Bool
is_submit_of class (Some (action.Submit other)) = other == class
is_submit_of class _ = false

-- The body submits jobs of the class.
abbrev pub has_submit_of : List Action → ℕ → Bool
has_submit_of body class = list_any (λ one. is_submit_of class (Some one)) body

-- If the step is a submit, its job can have at most one of the classes that the body submits.
abbrev pub HasOneClass : List Action → PathStep → Type 0
HasOneClass body step = (class other : ℕ) → submits step class ≡ true → submits step other ≡ true
    → has_submit_of body class ≡ true → has_submit_of body other ≡ true → class ≡ other
