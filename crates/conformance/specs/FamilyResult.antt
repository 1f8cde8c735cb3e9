-- The result for the first bodies of a family.
use Rattle.std.specs.Prelude.{◌≡◌, ◌≤◌, ◌<◌, ℕ, Bool, false, List, length, map, All, AllPairs, Any, Contains, IsTrue}
use Rattle.job_bodies.specs.declared.action.Action.{Action}
use Rattle.conformance.specs.declared.explained_prefix.ExplainedPrefix.{ExplainedPrefix}
use Rattle.conformance.specs.declared.step.ActorKind.{ActorKind}
use Rattle.conformance.specs.declared.step.PathStep.{PathStep}
use Rattle.conformance.specs.declared.step.PathState.{PathState}
use Rattle.conformance.specs.Path.{IsPathOf}
use Rattle.conformance.specs.PathMatch.{IsUnambiguous, HasManyOpenLists}
use Rattle.conformance.specs.declared.family_match.FamilyMatch.{FamilyMatch}
use Rattle.conformance.specs.FamilyMatch.{IsMostExplained, NamesMissing, AreOneClassEach}

-- The result of matching the path against the bodies of the classes or client kinds in `matched` is correct. It has the
-- members of the family, the longest explained prefix, and the flag `is_decided`.
pub record IsCorrectResult (kind : ActorKind) (body_of : ℕ → List Action) (path_state : PathState) (path : List PathStep) (matched : List ℕ) (members : List ℕ) (longest : ExplainedPrefix) (is_decided : Bool) : Type 0 where
  pub sound : All (λ n. Contains matched n × IsPathOf kind path_state (body_of n) path) members
  pub complete : IsTrue is_decided → All (λ n. IsPathOf kind path_state (body_of n) path → Contains members n) matched
  pub sure : All (λ n. IsUnambiguous (body_of n) path → IsPathOf kind path_state (body_of n) path → Contains members n) matched
  pub explained : IsTrue is_decided → IsMostExplained kind (map body_of matched) path longest
  pub named : IsTrue is_decided → NamesMissing members (map body_of matched) path longest
  pub decided : AreOneClassEach path → IsTrue is_decided
  pub many : is_decided ≡ false → Any (λ n. HasManyOpenLists kind (body_of n) path) matched
  pub few : length members ≤ length matched
  pub ascending : AllPairs (λ m n. m < n) matched → AllPairs (λ m n. m < n) members

-- The `FamilyMatch` is the correct result of matching the path against the bodies of the classes or client kinds in
-- `matched`.
abbrev pub IsCorrectMatch : FamilyMatch → ActorKind → (ℕ → List Action) → PathState → List PathStep → List ℕ → Type 0
IsCorrectMatch reported kind body_of path_state path matched = IsCorrectResult kind body_of path_state path matched reported.members.items reported.explained reported.is_decided
