-- The classes whose bodies a path matches, after the whole family.
use Rattle.std.proofs.Common.{◌≡◌, ℕ, Bool, List, length, filter, subst, IsTrue}
use Rattle.std.specs.List.{All, Contains, range_with_len}
use Rattle.conformance.specs.PathMatch.{IsUnambiguous}
use Rattle.std.specs.List.Sorted.{IsStrictlyIncreasing}
use Rattle.std.proofs.lemmas.List.Elements.{All-weaker, All-contains}
use Rattle.job_bodies.specs.Plan.{Plan}
use Rattle.conformance.specs.declared.explained_prefix.ExplainedPrefix.{ExplainedPrefix}
use Rattle.conformance.specs.declared.step.ActorKind.TheVariants as actor_kind
use Rattle.conformance.specs.declared.step.PathStep.{PathStep}
use Rattle.conformance.specs.declared.step.PathState.{PathState}
use Rattle.conformance.specs.Family.{is_class_in_family, class_family}
use Rattle.conformance.specs.FamilyMatch.{IsClassOf, AreExactly, class_body}
use Rattle.conformance.specs.FamilyResult.{IsCorrectResult, IsCorrectMatch}
use Rattle.conformance.specs.declared.family_match.FamilyMatch.{FamilyMatch}
use Rattle.conformance.proofs.MatchedBodies.{IsMember, reported_complete, reported_sure, reported_ascending, range_ascends}

pub class_sound : (plan : Plan) (label pool : List ℕ) (path_state : PathState) (path : List PathStep) (members : List ℕ) (longest : ExplainedPrefix) (is_decided : Bool) → IsCorrectResult actor_kind.Job (class_body plan) path_state path (class_family plan label pool) members longest is_decided → All (IsClassOf plan label pool path_state path) members
class_sound plan label pool path_state path members longest is_decided reported =
    All-weaker (IsMember actor_kind.Job (class_body plan) path_state path (class_family plan label pool)) (IsClassOf plan label pool path_state path) (λ n one. record { among = one.0; path_of = one.1 }) members reported.sound

pub class_exact : (plan : Plan) (label pool : List ℕ) (path_state : PathState) (path : List PathStep) (members : List ℕ) (longest : ExplainedPrefix) (is_decided : Bool) → IsCorrectResult actor_kind.Job (class_body plan) path_state path (class_family plan label pool) members longest is_decided → IsTrue is_decided → AreExactly (IsClassOf plan label pool path_state path) members
class_exact plan label pool path_state path members longest is_decided reported all n = (
  λ there. All-contains (IsClassOf plan label pool path_state path) members n (class_sound plan label pool path_state path members longest is_decided reported) there,
  λ one. reported_complete actor_kind.Job (class_body plan) path_state path (class_family plan label pool) members longest is_decided reported all n one.among one.path_of,
)

pub class_ascending : (plan : Plan) (label pool : List ℕ) (path_state : PathState) (path : List PathStep) (members : List ℕ) (longest : ExplainedPrefix) (is_decided : Bool) → IsCorrectResult actor_kind.Job (class_body plan) path_state path (class_family plan label pool) members longest is_decided → IsStrictlyIncreasing members
unfolding class_family
class_ascending plan label pool path_state path members longest is_decided reported =
    reported_ascending actor_kind.Job (class_body plan) path_state path (class_family plan label pool) members longest is_decided reported (range_ascends (is_class_in_family plan label pool) (length plan.classes))

-- All classes of the plan were tested.
pub class_whole : (plan : Plan) (label pool : List ℕ) (path_state : PathState) (path : List PathStep) (reported : FamilyMatch) (count : ℕ) → count ≡ length plan.classes → IsCorrectMatch reported actor_kind.Job (class_body plan) path_state path (filter (is_class_in_family plan label pool) (range_with_len 0 count)) → IsCorrectMatch reported actor_kind.Job (class_body plan) path_state path (class_family plan label pool)
unfolding class_family
class_whole plan label pool path_state path reported count all tells = subst (λ (n : ℕ). IsCorrectMatch reported actor_kind.Job (class_body plan) path_state path (filter (is_class_in_family plan label pool) (range_with_len 0 n))) all tells

pub class_sure : (plan : Plan) (label pool : List ℕ) (path_state : PathState) (path : List PathStep) (members : List ℕ) (longest : ExplainedPrefix) (is_decided : Bool) → IsCorrectResult actor_kind.Job (class_body plan) path_state path (class_family plan label pool) members longest is_decided → (n : ℕ) → IsClassOf plan label pool path_state path n → IsUnambiguous (class_body plan n) path → Contains members n
class_sure plan label pool path_state path members longest is_decided reported n one only = reported_sure actor_kind.Job (class_body plan) path_state path (class_family plan label pool) members longest is_decided reported n one.among only one.path_of
