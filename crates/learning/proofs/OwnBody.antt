-- A path matches the body that consists of its own steps.
use Rattle.std.proofs.Common.{◌≡◌, ◌≤◌, ◌<◌, ℕ, true, List, [], ◌∷◌, length, refl, ap, subst, ◌∙◌, arith, eq-eqb}
use Rattle.std.specs.Prelude.{◌==◌, Option, None, Some, slice_get, slice_index}
use Rattle.std.specs.Option.{option_map}
use Rattle.std.proofs.lemmas.List.{length-map}
use Rattle.std.proofs.lemmas.List.Folds.{list_any_at}
use Rattle.std.proofs.lemmas.Option.{slice_get-map, slice_get-get_or, get_or_from_slice_get}
use Rattle.conformance.specs.declared.step.ActorKind.{ActorKind}
use Rattle.conformance.specs.declared.step.PathStep.{PathStep}
use Rattle.conformance.specs.declared.step.PathStep.TheVariants as step
use Rattle.conformance.specs.declared.step.PathState.TheVariants.{Whole}
use Rattle.conformance.specs.Path.{IsPathOf}
use Rattle.conformance.specs.SameSteps.{is_same_step_at, HasSameSteps}
use Rattle.conformance.proofs.SameSteps.{of_same_steps}
use Rattle.learning.specs.Covers.{work_of}
use Rattle.learning.specs.PathBody.{action_of, body_of, HasClass, HasBody}

same_step : (path : List PathStep) → HasBody path → (index : ℕ) (one : Option PathStep) → slice_get path index ≡ one → index < length path → is_same_step_at (option_map action_of one) one ≡ true
same_step path has index None e l = let there = slice_get-get_or path index (step.Gets 0) l in absurd (cc)
same_step path has index (Some (step.Submits classes)) e l =
    let some : 1 ≤ length classes.items = subst (λ one. HasClass one) (get_or_from_slice_get path index (step.Submits classes) (step.Submits classes) e) (has.classes index (step.Submits classes) l) in
    list_any_at (λ (one : ℕ). one == slice_index classes.items 0) classes.items 0 0 (omega (arith, some)) (eq-eqb (slice_index classes.items 0) (slice_index classes.items 0) refl)
same_step path has index (Some (step.Gets job)) e l = eq-eqb job job refl

has_own_steps : (path : List PathStep) → HasBody path → HasSameSteps (body_of path) path
has_own_steps path has =
    let long : length (body_of path) ≡ length path = length-map path action_of in
    record {
      same_length = long;
      steps = λ index l. ap (λ action. is_same_step_at action (slice_get path index)) (slice_get-map action_of path index) ∙ same_step path has index (slice_get path index) refl (omega (arith, l, long));
      gets = has.gets;
    }

pub of_own_body : (kind : ActorKind) (path : List PathStep) → HasBody path → IsPathOf kind Whole (body_of path) path
of_own_body kind path has = of_same_steps kind Whole (body_of path) path (has_own_steps path has)

-- ---- work
pub no_own_work : (path : List PathStep) → work_of (body_of path) ≡ []
no_own_work [] = refl
no_own_work (step.Submits classes ∷ path) = no_own_work path
no_own_work (step.Gets job ∷ path) = no_own_work path
