-- Bodies that cover paths. A body covers paths if each of them matches it.
use Rattle.std.specs.Prelude.{◌≡◌, ◌≤◌, Bool, true, false, List, [], length, filter}
use Rattle.std.specs.List.{All}
use Rattle.std.specs.declared.alloc.Global.{Global}
use Rattle.std.specs.declared.vec.Vec.{Vec}
use Rattle.job_bodies.specs.declared.action.Action.{Action}
use Rattle.job_bodies.specs.declared.action.Action.TheVariants.{Work, Submit, Get}
use Rattle.job_bodies.specs.declared.limits.TheConstants.{MAX_ACTIONS}
use Rattle.conformance.specs.declared.step.ActorKind.{ActorKind}
use Rattle.conformance.specs.declared.step.PathStep.{PathStep}
use Rattle.conformance.specs.declared.step.PathState.TheVariants.{Whole}
use Rattle.conformance.specs.Path.{IsPathOf}
use Rattle.conformance.specs.PathMatch.{IsUnambiguous}
use Rattle.conformance.specs.ValidGets.{HasValidGets}

-- Each of the paths matches the body.
abbrev pub Covers : ActorKind → List Action → List (Vec PathStep Global) → Type 0
Covers kind body paths = All (λ path. IsPathOf kind Whole body path.items) paths

abbrev pub is_work : Action → Bool
is_work (Work units) = true
is_work (Submit class) = false
is_work (Get submit) = false

-- The `work` actions of a body, in order.
abbrev pub work_of : List Action → List Action
work_of body = filter is_work body

-- The body has no `work`, is valid in a plan, and each of the paths matches it.
pub record IsCovering (kind : ActorKind) (body : List Action) (paths : List (Vec PathStep Global)) : Type 0 where
  pub covers : Covers kind body paths
  pub short : length body ≤ MAX_ACTIONS
  pub valid_gets : HasValidGets body
  pub no_work : work_of body ≡ []

-- The body is valid in a plan, and each of the paths matches it. Each job of a path can have at most one of the body's
-- classes.
pub record IsSurelyCovering (kind : ActorKind) (body : List Action) (paths : List (Vec PathStep Global)) : Type 0 where
  pub covers : Covers kind body paths
  pub short : length body ≤ MAX_ACTIONS
  pub valid_gets : HasValidGets body
  pub unambiguous : All (λ path. IsUnambiguous body path.items) paths
