-- A job that can belong to at most one class belongs to at most one class of a body.
use Rattle.std.proofs.Common.{◌≡◌, ◌==◌, ◌≤◌, ℕ, true, List, [], ◌∷◌, length, arith}
use Rattle.std.specs.List.{list_any}
use Rattle.std.proofs.lemmas.List.Elements.{All-weaker}
use Rattle.job_bodies.specs.declared.action.Action.{Action}
use Rattle.conformance.specs.declared.step.PathStep.{PathStep}
use Rattle.conformance.specs.declared.step.PathStep.TheVariants as step
use Rattle.conformance.specs.Path.{HasOneClass}
use Rattle.conformance.specs.PathMatch.{IsUnambiguous}
use Rattle.conformance.specs.FamilyMatch.{HasAtMostOneClass, AreOneClassEach}

the_only : (classes : List ℕ) (class other : ℕ) → length classes ≤ 1 → list_any (λ one. one == class) classes ≡ true → list_any (λ one. one == other) classes ≡ true → class ≡ other
the_only [] class other few h k = cc
the_only (a ∷ []) class other few h k = grind (arith, h, k)
the_only (a ∷ b ∷ more) class other few h k = absurd (omega arith)

has_one : (body : List Action) (one : PathStep) → HasAtMostOneClass one → HasOneClass body one
has_one body (step.Submits classes) few = λ class other h k _ _. the_only classes.items class other few h k
has_one body (step.Gets place) few = λ class other h k _ _. cc

pub one_class_each : (body : List Action) (path : List PathStep) → AreOneClassEach path → IsUnambiguous body path
one_class_each body path each = All-weaker HasAtMostOneClass (HasOneClass body) (has_one body) path each
