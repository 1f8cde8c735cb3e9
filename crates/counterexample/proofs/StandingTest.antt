-- The test `all_start_no_thread` of a live view is true exactly when the tested property holds in the state.
use Rattle.std.proofs.Common.{◌≡◌, ℕ, ◌<◌, ◌≤◌, ◌⊎◌, inl, inr, ⊎_elim, Bool, true, false, cond, ◌&&◌, ◌||◌, not, eqb, ltb, leb, List, length, slice_get, Option, Some, None, is_some, refl, sym, ap, subst, ◌∙◌, arith}
use Rattle.std.specs.List.{list_all}
use Rattle.std.proofs.lemmas.Bool.{false≢true, and_parts, and_from, or_left, or_right, eqb-true, eq-eqb, leb-true, le-leb, lt-ltb}
use Rattle.std.proofs.lemmas.Option.{slice_get-get_or}
use Rattle.support.proofs.Members.{list_all_at_In, list_all_from_In}
use Rattle.job_bodies.specs.Plan.{Plan, no_class, pool_at, class_at}
use Rattle.job_bodies.specs.WellFormed.{IsWellFormed}
use Rattle.job_bodies.proofs.Bodies.{ordered}
use Rattle.pool_machine.specs.PoolState.{PoolView}
use Rattle.pool_machine.specs.State.{Stage, State, CreatedJob, no_job, job_at, pool_of, is_queued, threads, child}
use Rattle.pool_machine.specs.Reach.{IsReached}
use Rattle.pool_machine.specs.Waiting.{IsMember}
use Rattle.pool_machine.specs.FullWaitingSets.{HasMaxThreads}
use Rattle.pool_machine.proofs.Positions.{job_made}
use Rattle.pool_machine.proofs.Queues.{queued_stage, pool_of_made}
use Rattle.pool_machine.proofs.Reached.{kept}
use Rattle.pool_machine.proofs.WaitingSets.{In-member, member_of_In}
use Rattle.interleaving.specs.declared.job_view.Phase.TheVariants as phase
use Rattle.interleaving.specs.LiveView.{may_get, is_number, phase_seen, job_with, View, live_view}
use Rattle.interleaving.specs.ViewStep.{live_job, pool_in}
use Rattle.interleaving.proofs.View.{view_at, length-pools, pool_at_view}
use Rattle.interleaving.specs.OfPlan.{IsReachableView}
use Rattle.weights.specs.declared.row.Row.{Row}
use Rattle.weights.specs.Row.{first_failing}
use Rattle.weights.specs.Vector.{Vector, vector_fits}
use Rattle.weights.specs.Standing.{standing_rows}
use Rattle.soundness.proofs.Faults.{all_hold, none_fails}
use Rattle.counterexample.specs.declared.ending.Reason.{Reason}
use Rattle.counterexample.specs.declared.ending.Reason.TheVariants.{PoolsAreFull, PoolsStayAtCore}
use Rattle.counterexample.specs.NoThreadStarts.{has_max_threads, has_core_threads, rejected_are_light, has_standing, stays_at_core, starts_none_for, pool_starts_no_thread, class_starts_no_thread, job_starts_no_thread, all_start_no_thread}
use Rattle.counterexample.specs.Confirmed.{GivenStanding, StartsNoneFor, AllStartNoneFor}
use Rattle.counterexample.proofs.LightJobs.{light_from_test, test_of_light}

-- ---- one pool

-- a reachable view has each pool of the plan
pub pool_in_view : (plan : Plan) (view : View) (p : ℕ) → IsReachableView plan view → p < length plan.pools → p < length view.pools
pool_in_view plan view p of_plan inside = subst (λ (v : View). p < length v.pools) of_plan.2 (omega (arith, length-pools plan of_plan.0))

or_cases : (x y : Bool) → (x || y) ≡ true → (x ≡ true) ⊎ (y ≡ true)
or_cases true y h = inl refl
or_cases false y h = inr h

none_there : (found : Option Row) → not (is_some found) ≡ true → found ≡ None
none_there None h = refl
none_there (Some x) h = absurd (false≢true h)

standing_given : (plan : Plan) (standing : List Vector) (p : ℕ) (found : Option Vector) → slice_get standing p ≡ found → has_standing plan p found ≡ true → GivenStanding plan standing p
standing_given plan standing p None there passes = absurd (false≢true passes)
standing_given plan standing p (Some v) there passes =
    let parts = and_parts (vector_fits plan v && not (is_some (first_failing (standing_rows plan p v)))) (rejected_are_light plan v) passes in
    let front = and_parts (vector_fits plan v) (not (is_some (first_failing (standing_rows plan p v)))) parts.0 in
    record {
      vector = v;
      given = there;
      fits = front.0;
      hold = all_hold (standing_rows plan p v) (none_there (first_failing (standing_rows plan p v)) front.1);
      light = light_from_test plan v parts.1;
    }

given_stands : (plan : Plan) (standing : List Vector) (p : ℕ) → GivenStanding plan standing p → has_standing plan p (slice_get standing p) ≡ true
given_stands plan standing p given =
    ap (has_standing plan p) given.given
    ∙ and_from (vector_fits plan given.vector && not (is_some (first_failing (standing_rows plan p given.vector)))) (rejected_are_light plan given.vector)
    (and_from (vector_fits plan given.vector) (not (is_some (first_failing (standing_rows plan p given.vector)))) given.fits
    (ap (λ (found : Option Row). not (is_some found)) (none_fails (standing_rows plan p given.vector) given.hold)))
    (test_of_light plan given.vector given.light)

module _ (plan : Plan) (s : State) (standing : List Vector) (p : ℕ) (inside : p < length plan.pools) where
  max_seen : has_max_threads (live_view plan s) p ≡ eqb (threads plan s p) (pool_at plan p).max
  max_seen = ap (λ (pool : PoolView). eqb pool.threads pool.max) (pool_at_view plan s p inside)

  core_seen : has_core_threads (live_view plan s) p ≡ leb (pool_at plan p).core (threads plan s p)
  core_seen = ap (λ (pool : PoolView). leb pool.core pool.threads) (pool_at_view plan s p inside)

  unbounded_seen : (pool_in (live_view plan s) p).unbounded ≡ (pool_at plan p).unbounded
  unbounded_seen = ap (λ (pool : PoolView). pool.unbounded) (pool_at_view plan s p inside)

  max_from_test : has_max_threads (live_view plan s) p ≡ true → HasMaxThreads plan s p
  max_from_test passes = eqb-true (threads plan s p) (pool_at plan p).max (sym max_seen ∙ passes)

  test_of_max : HasMaxThreads plan s p → has_max_threads (live_view plan s) p ≡ true
  test_of_max full = max_seen ∙ eq-eqb (threads plan s p) (pool_at plan p).max full

  abbrev unbounded : Bool
  unbounded = (pool_in (live_view plan s) p).unbounded

  abbrev stands : Bool
  stands = has_standing plan p (slice_get standing p)

  core_from_test : stays_at_core plan (live_view plan s) standing p ≡ true → StartsNoneFor plan standing s PoolsStayAtCore p
  core_from_test passes =
      let parts = and_parts (has_core_threads (live_view plan s) p) (unbounded || stands) passes in
      let enough : (pool_at plan p).core ≤ threads plan s p = leb-true (pool_at plan p).core (threads plan s p) (sym core_seen ∙ parts.0) in
      ⊎_elim (λ is_unbounded. inl (inr (sym unbounded_seen ∙ is_unbounded, enough))) (λ given. inr (standing_given plan standing p (slice_get standing p) refl given, enough)) (or_cases unbounded stands parts.1)

  test_of_core : (pool_at plan p).core ≤ threads plan s p → (unbounded || stands) ≡ true → stays_at_core plan (live_view plan s) standing p ≡ true
  test_of_core enough rest = and_from (has_core_threads (live_view plan s) p) (unbounded || stands) (core_seen ∙ le-leb (pool_at plan p).core (threads plan s p) enough) rest

  none_from_test : (reason : Reason) → starts_none_for plan (live_view plan s) standing reason p ≡ true → StartsNoneFor plan standing s reason p
  none_from_test PoolsAreFull passes = max_from_test passes
  none_from_test PoolsStayAtCore passes =
      ⊎_elim (λ full. inl (inl (max_from_test full))) core_from_test (or_cases (has_max_threads (live_view plan s) p) (stays_at_core plan (live_view plan s) standing p) passes)

  test_of_none : (reason : Reason) → StartsNoneFor plan standing s reason p → starts_none_for plan (live_view plan s) standing reason p ≡ true
  test_of_none PoolsAreFull full = test_of_max full
  test_of_none PoolsStayAtCore (inl (inl full)) = or_left (has_max_threads (live_view plan s) p) (stays_at_core plan (live_view plan s) standing p) (test_of_max full)
  test_of_none PoolsStayAtCore (inl (inr at_core)) =
      or_right (has_max_threads (live_view plan s) p) (stays_at_core plan (live_view plan s) standing p) (test_of_core at_core.1 (or_left unbounded stands (unbounded_seen ∙ at_core.0)))
  test_of_none PoolsStayAtCore (inr given) =
      or_right (has_max_threads (live_view plan s) p) (stays_at_core plan (live_view plan s) standing p) (test_of_core given.1 (or_right unbounded stands (given_stands plan standing p given.0)))

pool_from_test : (plan : Plan) (s : State) (standing : List Vector) (reason : Reason) (p : ℕ) → p < length plan.pools → pool_starts_no_thread plan (live_view plan s) standing reason p ≡ true → StartsNoneFor plan standing s reason p
pool_from_test plan s standing reason p inside passes =
    none_from_test plan s standing p inside reason (and_parts (ltb p (length plan.pools)) (starts_none_for plan (live_view plan s) standing reason p) passes).1

test_of_pool : (plan : Plan) (s : State) (standing : List Vector) (reason : Reason) (p : ℕ) → p < length plan.pools → StartsNoneFor plan standing s reason p → pool_starts_no_thread plan (live_view plan s) standing reason p ≡ true
test_of_pool plan s standing reason p inside shown =
    and_from (ltb p (length plan.pools)) (starts_none_for plan (live_view plan s) standing reason p) (lt-ltb p (length plan.pools) inside) (test_of_none plan s standing p inside reason shown)

-- ---- one job

done_passes : (plan : Plan) (view : View) (standing : List Vector) (reason : Reason) (job : CreatedJob) (b : Bool) → job_starts_no_thread plan view standing reason (job_with job (cond b (Some phase.Done) None)) ≡ true
done_passes plan view standing reason job true = refl
done_passes plan view standing reason job false = refl

-- the test of a job by its stage: a queued job passes if its class does, and any other job passes
abbrev stage_test : Plan → View → List Vector → Reason → ℕ → Stage → Bool
stage_test plan view standing reason k Stage.Queued = class_starts_no_thread plan view standing reason (slice_get plan.classes k)
stage_test plan view standing reason k _ = true

test_of_stage : (plan : Plan) (view : View) (s : State) (standing : List Vector) (reason : Reason) (j : ℕ) (job : CreatedJob) (stage : Stage) → job_starts_no_thread plan view standing reason (job_with job (phase_seen s j job stage)) ≡ stage_test plan view standing reason job.class stage
test_of_stage plan view s standing reason j job Stage.Queued = refl
test_of_stage plan view s standing reason j job (Stage.At i) = refl
test_of_stage plan view s standing reason j job Stage.Done = done_passes plan view standing reason job (may_get s job.parent && is_number (child s job.parent job.slot) j)
test_of_stage plan view s standing reason j job Stage.Claimed = refl

test_of_job : (plan : Plan) (s : State) (standing : List Vector) (reason : Reason) (j : ℕ)
    → job_starts_no_thread plan (live_view plan s) standing reason (live_job (live_view plan s).jobs j) ≡ stage_test plan (live_view plan s) standing reason (job_at s j).class (job_at s j).stage
test_of_job plan s standing reason j =
    ap (job_starts_no_thread plan (live_view plan s) standing reason) (view_at plan s j) ∙ test_of_stage plan (live_view plan s) s standing reason j (job_at s j) (job_at s j).stage

-- ---- the members

module _ (plan : Plan) (s : State) (well_formed : IsWellFormed plan) (reached : IsReached plan s) (standing : List Vector) (reason : Reason) where
  abbrev of_job : ℕ → Bool
  of_job j = job_starts_no_thread plan (live_view plan s) standing reason (live_job (live_view plan s).jobs j)

  -- each job that was created has a class of the plan
  class_found : (j : ℕ) → j < length s.jobs → slice_get plan.classes (job_at s j).class ≡ Some (class_at plan (job_at s j).class)
  class_found j made =
      let has_kept = kept plan s well_formed reached in
      slice_get-get_or plan.classes (job_at s j).class no_class (has_kept.classes j no_job made)

  own_test : (j : ℕ) → (job_at s j).stage ≡ Stage.Queued → of_job j ≡ pool_starts_no_thread plan (live_view plan s) standing reason (pool_of plan (job_at s j).class)
  own_test j queued =
      test_of_job plan s standing reason j
      ∙ ap (stage_test plan (live_view plan s) standing reason (job_at s j).class) queued
      ∙ ap (class_starts_no_thread plan (live_view plan s) standing reason) (class_found j (job_made s j (λ claimed. cc)))

  own_pool : (j : ℕ) → (job_at s j).stage ≡ Stage.Queued → pool_of plan (job_at s j).class < length plan.pools
  own_pool j queued = pool_of_made plan s j (ordered plan well_formed) (kept plan s well_formed reached) (job_made s j (λ claimed. cc))

  shown_from_test : (members : List ℕ) → list_all of_job members ≡ true → AllStartNoneFor plan members standing s reason
  shown_from_test members passes = λ p j member is_in.
      let own = pool_of plan (job_at s j).class in
      let parts = and_parts (is_queued (job_at s j).stage) (eqb own p) is_in in
      let queued = queued_stage (job_at s j).stage parts.0 in
      let test = sym (own_test j queued) ∙ list_all_at_In of_job passes (In-member members j member) in
      subst (StartsNoneFor plan standing s reason) (eqb-true own p parts.1) (pool_from_test plan s standing reason own (own_pool j queued) test)

  member_test : (members : List ℕ) → AllStartNoneFor plan members standing s reason → (j : ℕ) → IsMember members j → (stage : Stage) → (job_at s j).stage ≡ stage → of_job j ≡ true
  member_test members shown j member Stage.Queued is =
      let own = pool_of plan (job_at s j).class in
      own_test j is ∙ test_of_pool plan s standing reason own (own_pool j is) (shown own j member (and_from (is_queued (job_at s j).stage) (eqb own own) (ap is_queued is) (eq-eqb own own refl)))
  member_test members shown j member (Stage.At i) is = test_of_job plan s standing reason j ∙ ap (stage_test plan (live_view plan s) standing reason (job_at s j).class) is
  member_test members shown j member Stage.Done is = test_of_job plan s standing reason j ∙ ap (stage_test plan (live_view plan s) standing reason (job_at s j).class) is
  member_test members shown j member Stage.Claimed is = test_of_job plan s standing reason j ∙ ap (stage_test plan (live_view plan s) standing reason (job_at s j).class) is

  test_of_shown : (members : List ℕ) → AllStartNoneFor plan members standing s reason → list_all of_job members ≡ true
  test_of_shown members shown = list_all_from_In of_job members (λ j i. member_test members shown j (member_of_In members j i) (job_at s j).stage refl)

-- ---- the test of a world

pub are_shown : (plan : Plan) (s : State) (view : View) (standing : List Vector) (reason : Reason) (members : List ℕ) → IsWellFormed plan → IsReached plan s → live_view plan s ≡ view → all_start_no_thread plan view standing reason members ≡ true → AllStartNoneFor plan members standing s reason
are_shown plan s view standing reason members well_formed reached seen passes =
    shown_from_test plan s well_formed reached standing reason members (ap (λ (v : View). all_start_no_thread plan v standing reason members) seen ∙ passes)

pub not_shown : (plan : Plan) (s : State) (view : View) (standing : List Vector) (reason : Reason) (members : List ℕ) → IsWellFormed plan → IsReached plan s → live_view plan s ≡ view → all_start_no_thread plan view standing reason members ≡ false → ¬ AllStartNoneFor plan members standing s reason
not_shown plan s view standing reason members well_formed reached seen fails shown =
    false≢true (sym fails ∙ sym (ap (λ (v : View). all_start_no_thread plan v standing reason members) seen) ∙ test_of_shown plan s well_formed reached standing reason members shown)
