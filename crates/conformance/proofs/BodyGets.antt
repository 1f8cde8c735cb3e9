-- The gets of a body, one action after another.
use Rattle.std.proofs.Common.{◌≡◌, ℕ, zero, suc, ◌+◌, ◌<◌, ⊎_elim, List, [], ◌∷◌, ◌++◌, length, Some, refl, sym, ap, ◌∙◌, add-one, arith}
use Rattle.std.specs.Prelude.{slice_get}
use Rattle.std.specs.declared.option.Option.{Option}
use Rattle.std.proofs.lemmas.Bool.{cases_lt}
use Rattle.job_bodies.specs.declared.action.Action.{Action}
use Rattle.conformance.specs.declared.body_gets.BodyGet.{BodyGet}
use Rattle.conformance.specs.Path.{open_after_action, open_in_body}
use Rattle.conformance.specs.BodyGets.{get_with, get_at}

pub open_next : (body : List Action) (index : ℕ) (old new : List ℕ) → old ≡ open_in_body body index → new ≡ open_after_action (slice_get body index) index old → new ≡ open_in_body body (index + 1)
open_next body index old new old_is new_is = new_is ∙ (ap (open_after_action (slice_get body index) index) old_is ∙ sym (ap (open_in_body body) (add-one index)))

nothing_below : (i : ℕ) → i < 0 → ⊥
nothing_below i h = omega (arith, h)

get_push_before : {X : Type 0} (xs : List X) (x : X) (k : ℕ) → k < length xs → slice_get (xs ++ x ∷ []) k ≡ slice_get xs k
get_push_before [] x k h = absurd (nothing_below k h)
get_push_before (y ∷ xs) x zero h = refl
get_push_before (y ∷ xs) x (suc k) h = get_push_before xs x k (omega (arith, h))

get_push_last : {X : Type 0} (xs : List X) (x : X) → slice_get (xs ++ x ∷ []) (length xs) ≡ Some x
get_push_last [] x = refl
get_push_last (y ∷ xs) x = get_push_last xs x

pub gets_next : (body : List Action) (gets : List (Option BodyGet)) (get : Option BodyGet) (index : ℕ) (jobs : List ℕ) → length gets ≡ index → jobs ≡ open_in_body body (index + 1)
    → get ≡ get_with (slice_get body index) body jobs → ((k : ℕ) → k < index → slice_get gets k ≡ Some (get_at body k))
    → (k : ℕ) → k < index + 1 → slice_get (gets ++ get ∷ []) k ≡ Some (get_at body k)
gets_next body gets get index jobs same jobs_are get_is each k lt =
    ⊎_elim
    (λ below. get_push_before gets get k (omega (arith, below, same)) ∙ each k below)
    (λ above.
    let k_is : k ≡ length gets = omega (arith, lt, above, same) in
    let k_index : k ≡ index = k_is ∙ same in
    let at = ap (get_with (slice_get body index) body) (jobs_are ∙ ap (open_in_body body) (add-one index)) in
    ap (slice_get (gets ++ get ∷ [])) k_is ∙ (get_push_last gets get ∙ ap (λ o. Some o) (get_is ∙ (at ∙ ap (get_at body) (sym k_index)))))
    (cases_lt k index)
