-- The members of a family whose bodies a path matches, and how much of the path the bodies explain.
use Rattle.std.specs.Prelude.{◌≡◌, ◌≤◌, ◌<◌, ◌↔◌, ℕ, true, is_some, List, [], None, length, take, map, All, Any, Contains, ⊤}
use Rattle.job_bodies.specs.declared.action.Action.{Action}
use Rattle.job_bodies.specs.Plan.{Plan, class_at, client_at}
use Rattle.conformance.specs.declared.explained_prefix.ExplainedPrefix.{ExplainedPrefix}
use Rattle.conformance.specs.declared.step.ActorKind.{ActorKind}
use Rattle.conformance.specs.declared.step.ActorKind.TheVariants as actor_kind
use Rattle.conformance.specs.declared.step.PathStep.{PathStep}
use Rattle.conformance.specs.declared.step.PathStep.TheVariants as step
use Rattle.conformance.specs.declared.step.PathState.{PathState}
use Rattle.conformance.specs.declared.step.PathState.TheVariants.{Prefix}
use Rattle.conformance.specs.Path.{IsPathOf}
use Rattle.conformance.specs.Family.{class_family, client_family}
use Rattle.conformance.specs.OpenExcess.{IsReason}
use Rattle.conformance.specs.MissingJob.{IsMissing}

-- ---- one class, or one client kind
-- The body of the class with this number.
abbrev pub class_body : Plan → ℕ → List Action
class_body plan class = (class_at plan class).body

abbrev pub client_body : Plan → ℕ → List Action
client_body plan client = (client_at plan client).body

-- The class is of the family, and the path matches its body.
pub record IsClassOf (plan : Plan) (label pool : List ℕ) (path_state : PathState) (path : List PathStep) (class : ℕ) : Type 0 where
  pub among : Contains (class_family plan label pool) class
  pub path_of : IsPathOf actor_kind.Job path_state (class_body plan class) path

-- The kind is of the family, and the path matches its body.
pub record IsKindOf (plan : Plan) (label : List ℕ) (path_state : PathState) (path : List PathStep) (kind : ℕ) : Type 0 where
  pub among : Contains (client_family plan label) kind
  pub path_of : IsPathOf actor_kind.Round path_state (client_body plan kind) path

-- The list has exactly the numbers that satisfy `IsOne`.
abbrev pub AreExactly : (ℕ → Type 0) → List ℕ → Type 0
AreExactly IsOne numbers = (n : ℕ) → Contains numbers n ↔ IsOne n

-- ---- all bodies of a family
-- The bodies of the classes that jobs of this label in this pool may belong to.
abbrev pub class_bodies : Plan → List ℕ → List ℕ → List (List Action)
class_bodies plan label pool = map (class_body plan) (class_family plan label pool)

abbrev pub client_bodies : Plan → List ℕ → List (List Action)
client_bodies plan label = map (client_body plan) (client_family plan label)

-- The body explains this prefix of the path. `explained.excess` is the reason why it does not explain the next step. If
-- `explained.missing` is a job, the actor should have got this job before its end.
abbrev pub Explains : ActorKind → List PathStep → ExplainedPrefix → List Action → Type 0
Explains kind path explained body = IsPathOf kind Prefix body (take explained.length path) × IsReason kind body path explained.length explained.excess × IsMissing kind body path explained.length explained.missing

-- If the body explains the first `steps` steps of the path, it has no submit left for the next step.
abbrev pub HasNoSubmitLeft : ActorKind → List PathStep → ℕ → List Action → Type 0
HasNoSubmitLeft kind path steps body = IsPathOf kind Prefix body (take steps path) → IsReason kind body path steps None

-- `explained` is the longest prefix of the path that one of these bodies explains. It has the reason why one of the bodies
-- that explain it does not explain the next step. If there are no bodies, the prefix is empty.
pub record IsMostExplained (kind : ActorKind) (bodies : List (List Action)) (path : List PathStep) (explained : ExplainedPrefix) : Type 0 where
  pub within : explained.length ≤ length path
  pub front : 0 < length bodies → Any (Explains kind path explained) bodies
  pub longest : (more : ℕ) → explained.length < more → more ≤ length path → All (λ body. ¬ IsPathOf kind Prefix body (take more path)) bodies
  -- The excess is `None` only if no body that explains the prefix has a submit left for the next step.
  pub without : explained.excess ≡ None → All (HasNoSubmitLeft kind path explained.length) bodies
  pub none : length bodies ≡ 0 → explained ≡ record { length = 0; excess = None; missing = None }

-- If the whole path is explained and it matches none of the family's bodies, there is a job that the actor should have got before
-- its end. `members` are those whose bodies the path matches.
abbrev pub NamesMissing : List ℕ → List (List Action) → List PathStep → ExplainedPrefix → Type 0
NamesMissing members bodies path explained = members ≡ [] → 0 < length bodies → explained.length ≡ length path → is_some explained.missing ≡ true

-- If the step is a submit, its job can belong to at most one class.
abbrev pub HasAtMostOneClass : PathStep → Type 0
HasAtMostOneClass (step.Submits classes) = length classes.items ≤ 1
HasAtMostOneClass (step.Gets place) = ⊤

abbrev pub AreOneClassEach : List PathStep → Type 0
AreOneClassEach path = All HasAtMostOneClass path
