-- Proofs that the test for a waiting set holds exactly for the waiting sets.
use Rattle.std.proofs.Common.{◌≡◌, ℕ, ◌<◌, ◌↔◌, true, not, eqb, inl, inr, List, [], ◌∷◌, length, slice_get, Option, Some, None, IsTrue, refl, sym, ap, subst, ◌∙◌}
use Rattle.std.specs.List.{list_all}
use Rattle.std.proofs.lemmas.Bool.{false≢true, cases_lt, and_parts, and_from, eqb-true, eq-eqb}
use Rattle.std.proofs.lemmas.List.{get_or_past}
use Rattle.support.specs.In.{In, here}
use Rattle.support.specs.Places.{places_where}
use Rattle.support.proofs.PassingPlaces.{list_all_at_where, list_all_from_where}
use Rattle.support.proofs.Members.{list_all_at_In, list_all_from_In, list_any_at_In, In-from_list_any}
use Rattle.job_bodies.specs.declared.action.Action.{Action}
use Rattle.job_bodies.specs.declared.action.Action.TheVariants.{Work, Submit, Get}
use Rattle.job_bodies.specs.Plan.{Plan, class_at}
use Rattle.pool_machine.specs.declared.parent.Parent.TheVariants as parent
use Rattle.pool_machine.specs.State.{Stage, State, no_job, job_at, pool_part, pool_of, is_busy_in, child}
use Rattle.pool_machine.specs.Waiting.{is_member, IsMember, WaitsAtGet, WaitsAtStage, IsWaitingSet, is_some_member, waits_at, waits_at_stage, waits, is_none, is_waiting_set}

-- ---- members

pub In-member : (members : List ℕ) (j : ℕ) → IsMember members j → In j members
In-member members j member =
    let found = In-from_list_any (λ (x : ℕ). eqb x j) members member in
    subst (λ (x : ℕ). In x members) (eqb-true found.0 j found.2) found.1

pub member_of_In : (members : List ℕ) (j : ℕ) → In j members → IsMember members j
member_of_In members j i = list_any_at_In (λ (x : ℕ). eqb x j) i (eq-eqb j j refl)

some_member : (members : List ℕ) (first : ℕ) → IsMember members first → not (is_none members) ≡ true
some_member [] first member = absurd (false≢true member)
some_member (j ∷ js) first member = refl

-- ---- at a get

-- the job that the get finds exists, and is a member
record MemberChild (members : List ℕ) (found : Option ℕ) : Type 0 where
  number : ℕ
  is_child : found ≡ Some number
  member : IsMember members number

member_child : (members : List ℕ) (found : Option ℕ) → is_some_member members found ≡ true → MemberChild members found
member_child members None passes = absurd (false≢true passes)
member_child members (Some n) passes = record { number = n; is_child = refl; member = passes }

waits_at_get : (plan : Plan) (s : State) (members : List ℕ) (j i : ℕ) (there : Option Action) → slice_get (class_at plan (job_at s j).class).body i ≡ there → waits_at s members (parent.Job j) there ≡ true → WaitsAtGet plan s members j i
waits_at_get plan s members j i None is_there passes = absurd (false≢true passes)
waits_at_get plan s members j i (Some (Work u)) is_there passes = absurd (false≢true passes)
waits_at_get plan s members j i (Some (Submit k)) is_there passes = absurd (false≢true passes)
waits_at_get plan s members j i (Some (Get t)) is_there passes =
    let found = member_child members (child s (parent.Job j) t) passes in
    record { submit = t; stands = is_there; child_number = found.number; is_child = found.is_child; member = found.member }

-- ---- each stage

-- a running job exists
busy_made : (plan : Plan) (s : State) (p n : ℕ) → is_busy_in plan p (job_at s n) ≡ true → n < length s.jobs
busy_made plan s p n busy = elim (cases_lt n (length s.jobs)) [
  | inl inside ↦ inside
  | inr past ↦ absurd (false≢true (sym (ap (is_busy_in plan p) (get_or_past s.jobs n no_job past)) ∙ busy))
]

pub waits_from_test : (plan : Plan) (s : State) (members : List ℕ) (j : ℕ) (stage : Stage) → waits_at_stage plan s members j (job_at s j).class stage ≡ true → WaitsAtStage plan s members j stage
waits_from_test plan s members j Stage.Queued passes =
    let p = pool_of plan (job_at s j).class in
    let parts = and_parts (eqb (pool_part s p).idle 0) (list_all (is_member members) (places_where (is_busy_in plan p) s.jobs)) passes in
    record {
      none_idle = eqb-true (pool_part s p).idle 0 parts.0;
      all_at_work = λ n busy. list_all_at_where (is_member members) (is_busy_in plan p) s.jobs n no_job parts.1 (busy_made plan s p n busy) busy;
    }
waits_from_test plan s members j (Stage.At i) passes = waits_at_get plan s members j i (slice_get (class_at plan (job_at s j).class).body i) refl passes
waits_from_test plan s members j Stage.Done passes = absurd (false≢true passes)
waits_from_test plan s members j Stage.Claimed passes = absurd (false≢true passes)

pub test_of_waits : (plan : Plan) (s : State) (members : List ℕ) (j : ℕ) (stage : Stage) → WaitsAtStage plan s members j stage → waits_at_stage plan s members j (job_at s j).class stage ≡ true
test_of_waits plan s members j Stage.Queued waiting =
    let p = pool_of plan (job_at s j).class in
    and_from (eqb (pool_part s p).idle 0) (list_all (is_member members) (places_where (is_busy_in plan p) s.jobs)) (eq-eqb (pool_part s p).idle 0 waiting.none_idle)
    (list_all_from_where (is_member members) (is_busy_in plan p) s.jobs no_job (λ n inside busy. waiting.all_at_work n busy))
test_of_waits plan s members j (Stage.At i) waiting =
    ap (waits_at s members (parent.Job j)) waiting.stands ∙ ap (is_some_member members) waiting.is_child ∙ waiting.member
test_of_waits plan s members j Stage.Done waiting = absurd waiting
test_of_waits plan s members j Stage.Claimed waiting = absurd waiting

-- ---- the set

first_member : (plan : Plan) (s : State) (members : List ℕ) → not (is_none members) ≡ true → ((j : ℕ) → IsMember members j → WaitsAtStage plan s members j (job_at s j).stage) → IsWaitingSet plan s members
first_member plan s [] some each = absurd (false≢true some)
first_member plan s (j ∷ js) some each = record { first = j; not_empty = member_of_In (j ∷ js) j here; each = each }

pub waiting_set_test : (plan : Plan) (s : State) (members : List ℕ) → IsTrue (is_waiting_set plan s members) ↔ IsWaitingSet plan s members
waiting_set_test plan s members = (from_test, to_test)
  where
    from_test : IsTrue (is_waiting_set plan s members) → IsWaitingSet plan s members
    from_test passes =
        let parts = and_parts (not (is_none members)) (list_all (waits plan s members) members) passes in
        first_member plan s members parts.0 (λ j member. waits_from_test plan s members j (job_at s j).stage (list_all_at_In (waits plan s members) parts.1 (In-member members j member)))

    to_test : IsWaitingSet plan s members → IsTrue (is_waiting_set plan s members)
    to_test waiting =
        and_from (not (is_none members)) (list_all (waits plan s members) members) (some_member members waiting.first waiting.not_empty)
        (list_all_from_In (waits plan s members) members (λ j i. test_of_waits plan s members j (job_at s j).stage (waiting.each j (member_of_In members j i))))
