-- The client kinds whose bodies a path matches, after the whole family.
use Rattle.std.proofs.Common.{◌≡◌, ℕ, Bool, List, length, filter, subst, IsTrue}
use Rattle.std.specs.List.{All, Contains, range_with_len}
use Rattle.conformance.specs.PathMatch.{IsUnambiguous}
use Rattle.std.specs.List.Sorted.{IsStrictlyIncreasing}
use Rattle.std.proofs.lemmas.List.Elements.{All-weaker, All-contains}
use Rattle.job_bodies.specs.Plan.{Plan}
use Rattle.conformance.specs.declared.explained_prefix.ExplainedPrefix.{ExplainedPrefix}
use Rattle.conformance.specs.declared.step.ActorKind.TheVariants as actor_kind
use Rattle.conformance.specs.declared.step.PathStep.{PathStep}
use Rattle.conformance.specs.declared.step.PathState.{PathState}
use Rattle.conformance.specs.Family.{is_client_in_family, client_family}
use Rattle.conformance.specs.FamilyMatch.{IsKindOf, AreExactly, client_body}
use Rattle.conformance.specs.FamilyResult.{IsCorrectResult, IsCorrectMatch}
use Rattle.conformance.specs.declared.family_match.FamilyMatch.{FamilyMatch}
use Rattle.conformance.proofs.MatchedBodies.{IsMember, reported_complete, reported_sure, reported_ascending, range_ascends}

pub kind_sound : (plan : Plan) (label : List ℕ) (path_state : PathState) (path : List PathStep) (members : List ℕ) (longest : ExplainedPrefix) (is_decided : Bool) → IsCorrectResult actor_kind.Round (client_body plan) path_state path (client_family plan label) members longest is_decided → All (IsKindOf plan label path_state path) members
kind_sound plan label path_state path members longest is_decided reported =
    All-weaker (IsMember actor_kind.Round (client_body plan) path_state path (client_family plan label)) (IsKindOf plan label path_state path) (λ n one. record { among = one.0; path_of = one.1 }) members reported.sound

pub kind_exact : (plan : Plan) (label : List ℕ) (path_state : PathState) (path : List PathStep) (members : List ℕ) (longest : ExplainedPrefix) (is_decided : Bool) → IsCorrectResult actor_kind.Round (client_body plan) path_state path (client_family plan label) members longest is_decided → IsTrue is_decided → AreExactly (IsKindOf plan label path_state path) members
kind_exact plan label path_state path members longest is_decided reported all n = (
  λ there. All-contains (IsKindOf plan label path_state path) members n (kind_sound plan label path_state path members longest is_decided reported) there,
  λ one. reported_complete actor_kind.Round (client_body plan) path_state path (client_family plan label) members longest is_decided reported all n one.among one.path_of,
)

pub kind_ascending : (plan : Plan) (label : List ℕ) (path_state : PathState) (path : List PathStep) (members : List ℕ) (longest : ExplainedPrefix) (is_decided : Bool) → IsCorrectResult actor_kind.Round (client_body plan) path_state path (client_family plan label) members longest is_decided → IsStrictlyIncreasing members
unfolding client_family
kind_ascending plan label path_state path members longest is_decided reported =
    reported_ascending actor_kind.Round (client_body plan) path_state path (client_family plan label) members longest is_decided reported (range_ascends (is_client_in_family plan label) (length plan.clients))

-- All client kinds of the plan were tested.
pub kind_whole : (plan : Plan) (label : List ℕ) (path_state : PathState) (path : List PathStep) (reported : FamilyMatch) (count : ℕ) → count ≡ length plan.clients → IsCorrectMatch reported actor_kind.Round (client_body plan) path_state path (filter (is_client_in_family plan label) (range_with_len 0 count)) → IsCorrectMatch reported actor_kind.Round (client_body plan) path_state path (client_family plan label)
unfolding client_family
kind_whole plan label path_state path reported count all tells = subst (λ (n : ℕ). IsCorrectMatch reported actor_kind.Round (client_body plan) path_state path (filter (is_client_in_family plan label) (range_with_len 0 n))) all tells

pub kind_sure : (plan : Plan) (label : List ℕ) (path_state : PathState) (path : List PathStep) (members : List ℕ) (longest : ExplainedPrefix) (is_decided : Bool) → IsCorrectResult actor_kind.Round (client_body plan) path_state path (client_family plan label) members longest is_decided → (n : ℕ) → IsKindOf plan label path_state path n → IsUnambiguous (client_body plan n) path → Contains members n
kind_sure plan label path_state path members longest is_decided reported n one only = reported_sure actor_kind.Round (client_body plan) path_state path (client_family plan label) members longest is_decided reported n one.among only one.path_of
