-- The test of a certificate's standing vectors alone: the test is exact, and a plan that passes it refuses no submit.
use Rattle.std.proofs.Common.{◌≡◌, ◌<◌, ◌≤◌, ℕ, Bool, true, false, ◌&&◌, not, cond, List, [], ◌∷◌, length, Option, Some, None, is_some, IsTrue, refl, sym, ◌∙◌, zero-add}
use Rattle.std.specs.List.{list_all, enumerate_from}
use Rattle.std.proofs.lemmas.Bool.{and_from, and_parts, false≢true, ltb-false}
use Rattle.std.proofs.lemmas.Option.{slice_get-get_or}
use Rattle.support.proofs.Members.{In-enumerate_from, list_all_at_In}
use Rattle.job_bodies.specs.Plan.{Plan, no_pool, pool_at}
use Rattle.job_bodies.specs.WellFormed.{IsWellFormed}
use Rattle.job_bodies.proofs.Bodies.{HasValidBodies, ordered}
use Rattle.pool_machine.specs.State.{pool_of}
use Rattle.weights.specs.declared.row.Row.{Row}
use Rattle.weights.specs.declared.bound.Bound.{Bound}
use Rattle.weights.specs.declared.bound.Bound.TheVariants.{Standing, Lifetime}
use Rattle.weights.specs.Row.{fails, first_failing}
use Rattle.weights.specs.Standing.{standing_rows}
use Rattle.weights.specs.Vector.{Vector}
use Rattle.cert_text.specs.Cert.{Cert, bound_fits, cert_fits, pool_cert_at}
use Rattle.cert_text.proofs.Fitting.{parts_fit}
use Rattle.soundness.specs.WeightLaws.{RejectedAreLight}
use Rattle.soundness.specs.Headline.{HasBound, RefusesNothing, JavaRefusesNothing}
use Rattle.soundness.proofs.Bounded.{bounded_plans_refuse_nothing}
use Rattle.soundness.proofs.JavaBounded.{bounded_plans_java_refuse_nothing}
use Rattle.cert_check.specs.Standing.{is_valid_standing_vector, accepted_standing}
use Rattle.cert_check.proofs.Pools.{rest_passes, passes_all}

-- the row holds: its left side is at most its right side
abbrev holds : Row → Bool
holds row = not (fails row)

-- a list of rows has no first failing row exactly when all its rows hold
pub none_first : (rows : List Row) → not (is_some (first_failing rows)) ≡ list_all (λ row. not (fails row)) rows
none_first [] = refl
none_first (x ∷ rows) =
    elim (fails x) as (λ b. not (is_some (cond b (Some x) (first_failing rows))) ≡ (not b && list_all holds rows)) [
      | true ↦ refl
      | false ↦ none_first rows
    ]

-- if `is_some` is the negation of the answer, the answer is the negation of `is_some`
pub none_found : (found : Option Row) (answer : Bool) → is_some found ≡ not answer → answer ≡ not (is_some found)
none_found found true e = rw e refl
none_found found false e = rw e refl

not_failing : (b : Bool) → not b ≡ true → b ≡ false
not_failing true e = absurd cc
not_failing false e = refl

-- a pool with a valid standing vector must not reject jobs
must_not_reject : (plan : Plan) (p : ℕ) (bound : Option Bound) → is_valid_standing_vector plan p bound ≡ true → (pool_at plan p).may_reject ≡ false
must_not_reject plan p (Some (Standing v)) e = not_failing (pool_at plan p).may_reject (and_parts (not (pool_at plan p).may_reject) (list_all holds (standing_rows plan p v)) e).0
must_not_reject plan p (Some (Lifetime v)) e = absurd cc
must_not_reject plan p None e = absurd cc

-- if no pool may reject jobs, `RejectedAreLight` holds for every vector, because no job is rejected
none_rejected : (plan : Plan) (v : Vector) → HasValidBodies plan → ((p : ℕ) → p < length plan.pools → (pool_at plan p).may_reject ≡ false) → RejectedAreLight plan v
none_rejected plan v bodies must = λ k inside may. absurd (false≢true (sym (must (pool_of plan k) (bodies.pools k inside)) ∙ may))

valid_standing_vector_holds : (plan : Plan) (p : ℕ) (bound : Option Bound) → ((v : Vector) → RejectedAreLight plan v) → IsTrue (bound_fits plan p bound) → is_valid_standing_vector plan p bound ≡ true → HasBound plan p bound
valid_standing_vector_holds plan p (Some (Standing v)) light fits e =
    let rows = (and_parts (not (pool_at plan p).may_reject) (list_all holds (standing_rows plan p v)) e).1 in
    (fits, λ x i. ltb-false x.right x.left (not_failing (fails x) (list_all_at_In holds rows i)), light v)
valid_standing_vector_holds plan p (Some (Lifetime v)) light fits e = absurd cc
valid_standing_vector_holds plan p None light fits e = absurd cc

-- if all pools passed the test, `accepted_standing` holds for the certificate
pub passed_all : (plan : Plan) (cert : Cert) (i : ℕ) → IsTrue (cert_fits plan cert) → length plan.pools ≤ i
    → rest_passes (λ p. is_valid_standing_vector plan p (pool_cert_at cert p).bound) plan.pools i ≡ rest_passes (λ p. is_valid_standing_vector plan p (pool_cert_at cert p).bound) plan.pools 0 → accepted_standing plan cert ≡ true
passed_all plan cert i fits past prior =
    let test : ℕ → Bool = λ p. is_valid_standing_vector plan p (pool_cert_at cert p).bound in
    and_from (cert_fits plan cert) (list_all (λ entry. test entry.0) (enumerate_from 0 plan.pools)) fits (sym (passes_all test plan.pools i _ past prior))

-- if `accepted_standing` holds for a certificate, the bound of each pool is a valid standing vector
each_is_valid : (plan : Plan) (cert : Cert) → accepted_standing plan cert ≡ true → (p : ℕ) → p < length plan.pools → is_valid_standing_vector plan p (pool_cert_at cert p).bound ≡ true
each_is_valid plan cert e p inside =
    let test = λ (p : ℕ). is_valid_standing_vector plan p (pool_cert_at cert p).bound in
    let parts = and_parts (cert_fits plan cert) (list_all (λ entry. test entry.0) (enumerate_from 0 plan.pools)) e in
    list_all_at_In (λ entry. test entry.0) parts.1 (In-enumerate_from 0 plan.pools p (pool_at plan p) p (slice_get-get_or plan.pools p no_pool inside) (zero-add p))

-- if `accepted_standing` holds for a certificate, each pool has a bound whose rows hold
bounds_hold : (plan : Plan) (cert : Cert) → IsWellFormed plan → accepted_standing plan cert ≡ true → (p : ℕ) → p < length plan.pools → HasBound plan p (pool_cert_at cert p).bound
bounds_hold plan cert well_formed e p inside =
    let fits = (and_parts (cert_fits plan cert) (list_all (λ entry. is_valid_standing_vector plan entry.0 (pool_cert_at cert entry.0).bound) (enumerate_from 0 plan.pools)) e).0 in
    let must = λ (q : ℕ) (within : q < length plan.pools). must_not_reject plan q (pool_cert_at cert q).bound (each_is_valid plan cert e q within) in
    valid_standing_vector_holds plan p (pool_cert_at cert p).bound (λ v. none_rejected plan v (ordered plan well_formed) must) ((parts_fit plan cert fits).pools p inside).bound (each_is_valid plan cert e p inside)

-- if `accepted_standing` holds for a plan and a certificate, the plan refuses no submit
pub standing_refuses_nothing : (plan : Plan) (cert : Cert) → IsWellFormed plan → accepted_standing plan cert ≡ true → RefusesNothing plan
standing_refuses_nothing plan cert well_formed e = bounded_plans_refuse_nothing plan (λ p. (pool_cert_at cert p).bound) well_formed (bounds_hold plan cert well_formed e)

-- if `accepted_standing` holds for a plan and a certificate, the plan refuses no submit in Java's steps
pub standing_java_refuses_nothing : (plan : Plan) (cert : Cert) → IsWellFormed plan → accepted_standing plan cert ≡ true → JavaRefusesNothing plan
standing_java_refuses_nothing plan cert well_formed e = bounded_plans_java_refuse_nothing plan (λ p. (pool_cert_at cert p).bound) well_formed (bounds_hold plan cert well_formed e)
