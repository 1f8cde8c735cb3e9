-- Examples with small bodies, computed from the definitions: paths that match, and one that does not.
use Rattle.std.proofs.Common.{◌≡◌, ◌≤◌, ℕ, zero, suc, true, List, [], ◌∷◌, Some, refl, ap, ◌∙◌, arith}
use Rattle.std.specs.Prelude.{slice_get}
use Rattle.std.proofs.lemmas.Bool.{false≢true}
use Rattle.std.proofs.lemmas.Option.{same_Some, none-some}
use Rattle.job_bodies.specs.declared.action.Action.{Action}
use Rattle.job_bodies.specs.declared.action.Action.TheVariants.{Submit, Get}
use Rattle.conformance.specs.declared.step.ActorKind.TheVariants.{Job, Round}
use Rattle.conformance.specs.declared.step.PathStep.{PathStep}
use Rattle.conformance.specs.declared.step.PathStep.TheVariants.{Gets}
use Rattle.conformance.specs.declared.step.PathState.TheVariants.{Whole}
use Rattle.conformance.specs.PathStep.{submits}
use Rattle.conformance.specs.Path.{IsPathOf, HasGetFrom, starts, body_moves, both_submit, path_gets}
use Rattle.conformance.proofs.Walks.{walk_last}

-- ---- two jobs that are got at the end
abbrev two : List Action
two = Submit 1 ∷ Submit 2 ∷ Get 0 ∷ Get 1 ∷ []

gets_first : (index : ℕ) → index ≤ 2 → HasGetFrom two index 1
gets_first index h = record { get = 2; submit = 0; later = h; gets = refl; of_class = refl }

gets_second : (index : ℕ) → index ≤ 2 → HasGetFrom two index 2
gets_second index h = record { get = 3; submit = 1; later = omega (arith, h); gets = refl; of_class = refl }

-- Each is got before the next submit, sooner than the body gets it.
pub got_sooner : (d e : PathStep) → submits d 1 ≡ true → submits e 2 ≡ true → IsPathOf Job Whole two (d ∷ Gets 0 ∷ e ∷ Gets 2 ∷ [])
got_sooner d e first second =
    let a = both_submit d 1 starts refl refl first (λ class. omega arith) in
    let b = path_gets 0 1 a refl refl (gets_first 1 (omega arith)) (λ class. omega arith) in
    let c = both_submit e 2 b refl refl second (λ class. omega arith) in
    let g = path_gets 2 2 c refl refl (gets_second 2 (omega arith)) (λ class. omega arith) in
    ([], body_moves (Get 1) (body_moves (Get 0) g refl (λ class. omega arith)) refl (λ class. omega arith))

-- They are got in the other order.
pub got_in_the_other_order : (d e : PathStep) → submits d 1 ≡ true → submits e 2 ≡ true → IsPathOf Job Whole two (d ∷ e ∷ Gets 1 ∷ Gets 0 ∷ [])
got_in_the_other_order d e first second =
    let a = both_submit d 1 starts refl refl first (λ class. omega arith) in
    let b = both_submit e 2 a refl refl second (λ class. omega arith) in
    let c = path_gets 1 2 b refl refl (gets_second 2 (omega arith)) (λ class. omega arith) in
    let g = path_gets 0 1 c refl refl (gets_first 2 (omega arith)) (λ class. omega arith) in
    ([], body_moves (Get 1) (body_moves (Get 0) g refl (λ class. omega arith)) refl (λ class. omega arith))

-- ---- a submit that matches only if an earlier one of its class is skipped
abbrev twice : List Action
twice = Submit 2 ∷ Get 0 ∷ Submit 2 ∷ Submit 1 ∷ []

pub second_of_twice : (d e : PathStep) → submits d 2 ≡ true → submits e 1 ≡ true → IsPathOf Round Whole twice (d ∷ e ∷ [])
second_of_twice d e first second =
    let a = body_moves (Submit 2) starts refl (λ class. omega arith) in
    let b = body_moves (Get 0) a refl (λ class. omega arith) in
    let c = both_submit d 2 b refl refl first (λ class. omega arith) in
    (record { job = 0; class = 2 } ∷ record { job = 1; class = 1 } ∷ [], both_submit e 1 c refl refl second (λ class. omega arith))

-- ---- a get that the body does not have
abbrev never_got : List Action
never_got = Submit 1 ∷ []

no_get_at : (get submit : ℕ) → slice_get never_got get ≡ Some (Get submit) → ⊥
no_get_at zero submit e = cc
no_get_at (suc get) submit e = none-some (Get submit) e

no_get : (index class : ℕ) → HasGetFrom never_got index class → ⊥
no_get index class of = no_get_at of.get of.submit of.gets

-- A round may get the job.
pub got_by_a_round : (d : PathStep) → submits d 1 ≡ true → IsPathOf Round Whole never_got (d ∷ Gets 0 ∷ [])
got_by_a_round d first =
    let a = both_submit d 1 starts refl refl first (λ class. omega arith) in
    ([], path_gets 0 1 a refl refl tt (λ class. omega arith))

-- A job may not.
pub not_got_by_a_job : (d : PathStep) → ¬ IsPathOf Job Whole never_got (d ∷ Gets 0 ∷ [])
not_got_by_a_job d = λ of.
    walk_last Job never_got (d ∷ Gets 0 ∷ []) (λ q jobs. ⊥)
    (λ q jobs action e within before. before)
    (λ q jobs one class w e s c. false≢true (ap (λ x. submits x class) (same_Some (Gets 0) one s) ∙ c))
    (λ q jobs job class w s o m. no_get q class m)
    of.1
