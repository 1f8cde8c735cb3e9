-- The job that is missing at the end of a path.
use Rattle.std.proofs.Common.{◌≡◌, ℕ, suc, ◌+◌, ◌<◌, ◌≤◌, Bool, true, false, cond, eqb, List, [], ◌∷◌, length, Option, Some, None, refl, sym, ap, subst, option_map, slice_get, arith}
use Rattle.std.specs.List.{find}
use Rattle.std.proofs.lemmas.Option.{none-some}
use Rattle.job_bodies.specs.declared.action.Action.{Action}
use Rattle.job_bodies.specs.declared.action.Action.TheVariants.{Work, Submit, Get}
use Rattle.job_bodies.specs.Plan.{submitted_class}
use Rattle.conformance.specs.declared.body_gets.BodyGet.{BodyGet}
use Rattle.conformance.specs.declared.step.ActorKind.{ActorKind}
use Rattle.conformance.specs.declared.step.PathStep.{PathStep}
use Rattle.conformance.specs.declared.walk_state.WalkState.{WalkState}
use Rattle.conformance.specs.declared.open_job.OpenJob.{OpenJob}
use Rattle.conformance.specs.Path.{Walks, count_in, count_in_body, open_in_body}
use Rattle.conformance.specs.BodyGets.{AreGets, get_with}
use Rattle.conformance.specs.BlockingGet.{IsBlocked}
use Rattle.conformance.specs.MissingJob.{IsMissingJob, first_in}
use Rattle.conformance.specs.WalkState.{is_at, HasTables}
use Rattle.conformance.proofs.OpenCounts.{count_cons}
use Rattle.conformance.proofs.PassedGets as passed

-- ---- the get
abbrev class_in : Option BodyGet → ℕ
class_in None = 0
class_in (Some get) = get.class

-- An action that is a get of a job of the class.
pub record IsGetOf (action : Option Action) (body : List Action) (class : ℕ) : Type 0 where
  pub submit : ℕ
  pub is : action ≡ Some (Get submit)
  pub of_class : submitted_class body submit ≡ class

get_is : (action : Option Action) (body : List Action) (jobs : List ℕ) (get : BodyGet) → get_with action body jobs ≡ Some get → IsGetOf action body get.class
get_is None body jobs get e = absurd (none-some get e)
get_is (Some (Work units)) body jobs get e = absurd (none-some get e)
get_is (Some (Submit class)) body jobs get e = absurd (none-some get e)
get_is (Some (Get submit)) body jobs get e = record { submit = submit; is = refl; of_class = ap class_in e }

-- ---- the first open job of a class
pub record IsFirstIn (class : ℕ) (jobs : List OpenJob) : Type 0 where
  pub job : ℕ
  pub is : first_in class jobs ≡ Some job

first_if : (b : Bool) (class : ℕ) (one : OpenJob) (others : List OpenJob) → eqb one.class class ≡ b → 0 < cond b 1 0 + count_in class others → (0 < count_in class others → IsFirstIn class others)
    → (job : ℕ) × (option_map (λ (other : OpenJob). other.job) (cond b (Some one) (find (λ (other : OpenJob). eqb other.class class) others)) ≡ Some job)
first_if true class one others e some rest = (one.job, refl)
first_if false class one others e some rest = let first = rest (omega (arith, some)) in (first.job, first.is)

is_first : (class : ℕ) (jobs : List OpenJob) → 0 < count_in class jobs → IsFirstIn class jobs
is_first class [] some = absurd (omega (arith, some))
is_first class (one ∷ others) some =
    let count = count_cons (λ (other : OpenJob). eqb other.class class) one others in
    let first = first_if (eqb one.class class) class one others refl (omega (arith, count, some)) (is_first class others) in
    record { job = first.0; is = first.1 }

-- ---- the end of the path
-- A state in which the body may not pass a get before its end. No walk goes further.
module _ (kind : ActorKind) (body : List Action) (path : List PathStep) (place : ℕ) (state : WalkState) (tables : HasTables body state) (sound : (index : ℕ) → is_at state index ≡ true → Walks kind body path index place state.jobs.items)
    (gets : List (Option BodyGet)) (are_gets : AreGets body gets) (get : BodyGet) (way : IsBlocked state.row.items state.passes.items gets (suc (length body)) (length body) get)
    (last : (index : ℕ) (others : List OpenJob) → Walks kind body path index place others → index ≤ way.reached) where
  is_get : IsGetOf (slice_get body way.stop) body get.class
  is_get =
      let at = passed.first_at kind body path place state tables sound gets are_gets (length body) (omega arith) get way in
      subst (IsGetOf (slice_get body way.stop) body) way.same_class (get_is (slice_get body way.stop) body (open_in_body body (suc way.stop)) way.first at)

  pub missing_job : (job : ℕ) × (first_in get.class state.jobs.items ≡ Some job) × IsMissingJob kind body path place job
  missing_job =
      let count = passed.first_count kind body path place state tables sound gets are_gets (length body) (omega arith) get way in
      let exceeds = passed.first_exceeds kind body path place state tables sound gets are_gets (length body) (omega arith) get way in
      let first = is_first get.class state.jobs.items (omega (arith, exceeds)) in
      let more : count_in_body get.class body (suc way.stop) < count_in get.class state.jobs.items = omega (arith, count, exceeds) in (
        first.job,
        first.is,
        record {
          reached = way.reached;
          jobs = state.jobs.items;
          walk = sound way.reached way.from.at;
          last = last;
          get = way.stop;
          submit = is_get.submit;
          after = way.after;
          gets = is_get.is;
          fits = passed.fits_before kind body path place state tables sound gets are_gets (length body) (omega arith) get way;
          exceeds = subst (λ (class : ℕ). count_in_body class body (suc way.stop) < count_in class state.jobs.items) (sym is_get.of_class) more;
          first = subst (λ (class : ℕ). first_in class state.jobs.items ≡ Some first.job) (sym is_get.of_class) first.is;
        },
      )
