-- The results of matching a path against a body.
use Rattle.std.specs.Prelude.{◌≡◌, ◌≤◌, ◌<◌, ◌==◌, ◌||◌, ◌&&◌, ℕ, true, nat_lt, is_none, is_some, if◌then◌else◌, List, None, Some, ⊤, length, take, slice_get, All}
use Rattle.job_bodies.specs.declared.action.Action.{Action}
use Rattle.conformance.specs.declared.step.ActorKind.{ActorKind}
use Rattle.conformance.specs.declared.step.PathStep.{PathStep}
use Rattle.conformance.specs.declared.step.PathState.{PathState}
use Rattle.conformance.specs.declared.step.PathState.TheVariants.{Prefix}
use Rattle.conformance.specs.declared.explained_prefix.ExplainedPrefix.{ExplainedPrefix}
use Rattle.conformance.specs.declared.path_match.PathMatch.{PathMatch}
use Rattle.conformance.specs.declared.path_match.PathMatch.TheVariants.{Fits, Deviates, Undecided}
use Rattle.conformance.specs.declared.open_job.OpenJob.{OpenJob}
use Rattle.conformance.specs.declared.path_match.TheConstants.{MAX_OPEN_LISTS}
use Rattle.conformance.specs.Path.{Walks, IsPathOf, HasOneClass}
use Rattle.conformance.specs.OpenExcess.{IsReason}
use Rattle.conformance.specs.MissingJob.{IsMissing}

-- `P` holds if the path matches.
abbrev pub OnFits : PathMatch → Type 0 → Type 0
OnFits Fits P = P
OnFits (Deviates explained) P = ⊤
OnFits Undecided P = ⊤

-- `P` holds of the explained prefix, if the path does not match.
abbrev pub IfDeviates : PathMatch → (ExplainedPrefix → Type 0) → Type 0
IfDeviates Fits P = ⊤
IfDeviates (Deviates explained) P = P explained
IfDeviates Undecided P = ⊤

-- `P` holds if the path does not match.
abbrev pub OnDeviates : PathMatch → Type 0 → Type 0
OnDeviates path_match P = IfDeviates path_match (λ explained. P)

-- `explained` is the longest prefix of the path that the body explains. It also has the reason why the body does not explain
-- the next step, or the job that the actor should have got before its end.
pub record IsExplained (kind : ActorKind) (body : List Action) (path : List PathStep) (explained : ExplainedPrefix) : Type 0 where
  pub within : explained.length ≤ length path
  pub front : IsPathOf kind Prefix body (take explained.length path)
  pub longest : (more : ℕ) → explained.length < more → more ≤ length path → ¬ IsPathOf kind Prefix body (take more path)
  pub reason : IsReason kind body path explained.length explained.excess
  pub missing : IsMissing kind body path explained.length explained.missing
  -- There is a job that the actor should have got exactly if the prefix is the whole path.
  pub named : explained.length ≡ length path → is_some explained.missing ≡ true
  pub unnamed : explained.length < length path → explained.missing ≡ None

-- The longer of two prefixes. If both have the same length, it is the first one if its `excess` is not `None`, and otherwise
-- the second one.
abbrev pub longer : ExplainedPrefix → ExplainedPrefix → ExplainedPrefix
longer one other = if nat_lt one.length other.length || ((one.length == other.length) && is_none one.excess) then other else one

-- The result is not `Undecided`: it says whether the path matches the body.
abbrev pub IsDecided : PathMatch → Type 0
IsDecided Fits = ⊤
IsDecided (Deviates explained) = ⊤
IsDecided Undecided = ⊥

-- Each job of the path can have at most one of the classes that the body submits.
abbrev pub IsUnambiguous : List Action → List PathStep → Type 0
IsUnambiguous body path = All (HasOneClass body) path

-- After the first `place` steps of the path, more than `MAX_OPEN_LISTS` lists of jobs can be open. In each list, each job has one
-- of the classes that it may belong to.
pub record HasManyOpenLists (kind : ActorKind) (body : List Action) (path : List PathStep) : Type 0 where
  pub place : ℕ
  pub within : place ≤ length path
  pub lists : List (List OpenJob)
  pub many : MAX_OPEN_LISTS < length lists
  pub distinct : (i j : ℕ) (jobs : List OpenJob) → slice_get lists i ≡ Some jobs → slice_get lists j ≡ Some jobs → i ≡ j
  pub walks : (i : ℕ) (jobs : List OpenJob) → slice_get lists i ≡ Some jobs → (index : ℕ) × Walks kind body path index place jobs

-- `P` holds if the result is `Undecided`.
abbrev pub OnUndecided : PathMatch → Type 0 → Type 0
OnUndecided Fits P = ⊤
OnUndecided (Deviates explained) P = ⊤
OnUndecided Undecided P = P

-- The result of matching the path against the body is correct.
abbrev pub IsMatch : ActorKind → PathState → List Action → List PathStep → PathMatch → Type 0
IsMatch kind path_state body path Fits = IsPathOf kind path_state body path
IsMatch kind path_state body path (Deviates explained) = (¬ IsPathOf kind path_state body path) × IsExplained kind body path explained
IsMatch kind path_state body path Undecided = HasManyOpenLists kind body path
