-- Proofs that an event of a job or a take is possible while a job is unfinished and no set of jobs waits only for its own members.
use Rattle.std.proofs.Common.{◌≡◌, ◌≢◌, ℕ, zero, suc, ◌≤◌, ⊎_elim, Bool, true, false, not, eqb, List, [], ◌∷◌, length, slice_get, Option, Some, None, is_some, refl, sym, ap, ap₂, ◌∙◌, arith}
use Rattle.std.specs.List.{list_all}
use Rattle.std.proofs.lemmas.Bool.{and_parts, and_cases, eqb-false, false_from_ne_true}
use Rattle.support.specs.In.{In, here, there}
use Rattle.support.specs.Places.{places_where}
use Rattle.support.proofs.PassingPlaces.{passes_at_In, In-places_where, list_all_from_where}
use Rattle.job_bodies.specs.declared.action.Action.{Action}
use Rattle.job_bodies.specs.declared.action.Action.TheVariants as action
use Rattle.job_bodies.specs.Plan.{Plan, class_at}
use Rattle.job_bodies.proofs.Bodies.{HasValidBodies}
use Rattle.pool_machine.specs.PoolState.{taken_from}
use Rattle.pool_machine.specs.declared.parent.Parent.TheVariants as parent
use Rattle.pool_machine.specs.declared.event.Event.TheVariants as event
use Rattle.pool_machine.specs.State.{Stage, State, CreatedJob, no_job, job_at, pool_part, pool_of, pool_seen, is_at, is_busy_in, is_unfinished, child}
use Rattle.pool_machine.specs.Step.{point_of_job, got, got_child, step_action, step_at_point, take_head}
use Rattle.pool_machine.specs.Waiting.{is_member, is_some_member, waits_at, waits_at_stage, waits, is_none, is_waiting_set, IsWaitingSet}
use Rattle.pool_machine.specs.Safe.{CanProgress}
use Rattle.pool_machine.proofs.Positions.{job_made}
use Rattle.pool_machine.proofs.StateInvariant.{StateInvariant}
use Rattle.pool_machine.proofs.Queues.{queued_in_queue}
use Rattle.pool_machine.proofs.WaitingSets.{member_of_In, waiting_set_test}
use Rattle.pool_machine.proofs.ReachedLaws.{child_at_get}

-- ---- an element of a list that fails a test

-- if not all elements of a list pass a test, one of them fails
fails_somewhere : {X : Type 0} (test : X → Bool) (xs : List X) → list_all test xs ≡ false → (x : X) × In x xs × (test x ≡ false)
fails_somewhere test [] none = absurd cc
fails_somewhere test (x ∷ xs) none =
    ⊎_elim (λ first. (x, here, first)) (λ later. let found = fails_somewhere test xs later in (found.0, there found.1, found.2)) (and_cases (test x) (list_all test xs) none)

-- ---- the unfinished jobs

-- the numbers of the unfinished jobs
abbrev unfinished : State → List ℕ
unfinished s = places_where (λ (job : CreatedJob). is_unfinished job.stage) s.jobs

-- an unfinished job is not claimed
unfinished_unclaimed : (stage : Stage) → is_unfinished stage ≡ true → stage ≢ Stage.Claimed
unfinished_unclaimed stage still claimed = let over : is_unfinished stage ≡ false = ap is_unfinished claimed in cc

-- the list `unfinished` contains each unfinished job
In-unfinished : (s : State) (j : ℕ) → is_unfinished (job_at s j).stage ≡ true → In j (unfinished s)
In-unfinished s j still = In-places_where (λ (job : CreatedJob). is_unfinished job.stage) s.jobs j no_job (job_made s j (unfinished_unclaimed (job_at s j).stage still)) still

-- a job at a position is unfinished
at_unfinished : (stage : Stage) → is_at stage ≡ true → is_unfinished stage ≡ true
at_unfinished (Stage.At i) at = refl
at_unfinished Stage.Queued at = absurd cc
at_unfinished Stage.Done at = absurd cc
at_unfinished Stage.Claimed at = absurd cc

-- the list `unfinished` contains all jobs that run in a pool
busy_unfinished : (plan : Plan) (s : State) (p : ℕ) → list_all (is_member (unfinished s)) (places_where (is_busy_in plan p) s.jobs) ≡ true
busy_unfinished plan s p =
    list_all_from_where (is_member (unfinished s)) (is_busy_in plan p) s.jobs no_job
    (λ j inside passes. member_of_In (unfinished s) j (In-unfinished s j (at_unfinished (job_at s j).stage (and_parts (is_at (job_at s j).stage) (eqb (pool_of plan (job_at s j).class) p) passes).0)))

-- ---- possible events

-- if a pool has an idle worker and a queued job, a take is possible
can_take : (plan : Plan) (s : State) (p idle : ℕ) (queue : List ℕ) → (pool_part s p).idle ≡ idle → (pool_part s p).queue ≡ queue → idle ≢ 0 → 1 ≤ length queue → CanProgress plan s
can_take plan s p zero queue is_idle is_queue some_idle some_queued = absurd (some_idle refl)
can_take plan s p (suc idle) [] is_idle is_queue some_idle some_queued = absurd (omega arith)
can_take plan s p (suc idle) (j ∷ queue) is_idle is_queue some_idle some_queued = record {
  event = event.Take p;
  of_job_or_pool = refl;
  possible = ap₂ (λ (n : ℕ) (jobs : List ℕ). is_some (take_head s p (taken_from (pool_seen plan s p) n jobs))) is_idle is_queue;
}

-- the event of a job at a position is possible if the step of its next action is
can_act : (plan : Plan) (s : State) (n i : ℕ) (next : Option Action) → (job_at s n).stage ≡ Stage.At i → slice_get (class_at plan (job_at s n).class).body i ≡ next → is_some (step_action plan s (parent.Job n) i next) ≡ true → CanProgress plan s
can_act plan s n i next at is_there acts = record {
  event = event.Job n;
  of_job_or_pool = refl;
  possible = ap (λ (stage : Stage). is_some (step_at_point plan s (parent.Job n) (point_of_job plan (job_at s n).class stage))) at ∙ ap (λ (x : Option Action). is_some (step_action plan s (parent.Job n) i x)) is_there ∙ acts;
}

-- a job that is not unfinished and not claimed is done
done_of : (stage : Stage) → is_unfinished stage ≡ false → stage ≢ Stage.Claimed → stage ≡ Stage.Done
done_of Stage.Queued over unclaimed = absurd cc
done_of (Stage.At i) over unclaimed = absurd cc
done_of Stage.Done over unclaimed = refl
done_of Stage.Claimed over unclaimed = absurd (unclaimed refl)

-- a job at a get can continue if the job for which it waits is not unfinished
can_get : (plan : Plan) (s : State) (n i t : ℕ) → HasValidBodies plan → StateInvariant plan s → (job_at s n).stage ≡ Stage.At i → slice_get (class_at plan (job_at s n).class).body i ≡ Some (action.Get t)
    → is_some_member (unfinished s) (child s (parent.Job n) t) ≡ false → CanProgress plan s
can_get plan s n i t ordered kept at is_there free =
    let body = (class_at plan (job_at s n).class).body in
    let latest = child_at_get plan s (parent.Job n) body i t ordered kept (record { stands = ap (point_of_job plan (job_at s n).class) at; is_there = is_there }) in
    let no_member : is_member (unfinished s) latest.number ≡ false = ap (is_some_member (unfinished s)) (sym latest.is_child) ∙ free in
    let over : is_unfinished (job_at s latest.number).stage ≡ false =
    false_from_ne_true (is_unfinished (job_at s latest.number).stage) (λ still. let member = member_of_In (unfinished s) latest.number (In-unfinished s latest.number still) in cc) in
    let done = done_of (job_at s latest.number).stage over latest.unclaimed in
    can_act plan s n i (Some (action.Get t)) at is_there
    (ap (λ (found : Option ℕ). is_some (got_child s (parent.Job n) i found)) latest.is_child ∙ ap (λ (stage : Stage). is_some (got s (parent.Job n) i latest.number stage)) done)

-- a job at any action can continue if it does not wait for an unfinished job
can_go_at : (plan : Plan) (s : State) (n i : ℕ) (next : Option Action) → HasValidBodies plan → StateInvariant plan s → (job_at s n).stage ≡ Stage.At i → slice_get (class_at plan (job_at s n).class).body i ≡ next → waits_at s (unfinished s) (parent.Job n) next ≡ false → CanProgress plan s
can_go_at plan s n i None ordered kept at is_there free = can_act plan s n i None at is_there refl
can_go_at plan s n i (Some (action.Work u)) ordered kept at is_there free = can_act plan s n i (Some (action.Work u)) at is_there refl
can_go_at plan s n i (Some (action.Submit k)) ordered kept at is_there free = can_act plan s n i (Some (action.Submit k)) at is_there refl
can_go_at plan s n i (Some (action.Get t)) ordered kept at is_there free = can_get plan s n i t ordered kept at is_there free

-- if a queued job does not wait only for unfinished jobs, its pool has an idle worker, which can take the head of the queue
can_go_queued : (plan : Plan) (s : State) (n : ℕ) → HasValidBodies plan → StateInvariant plan s → (job_at s n).stage ≡ Stage.Queued → waits_at_stage plan s (unfinished s) n (job_at s n).class Stage.Queued ≡ false → CanProgress plan s
can_go_queued plan s n ordered kept queued free =
    let p = pool_of plan (job_at s n).class in
    let busy = busy_unfinished plan s p in
    ⊎_elim
    (λ some_idle. can_take plan s p (pool_part s p).idle (pool_part s p).queue refl refl (eqb-false (pool_part s p).idle 0 some_idle) (queued_in_queue plan s n ordered kept queued))
    (λ some_other. absurd cc)
    (and_cases (eqb (pool_part s p).idle 0) (list_all (is_member (unfinished s)) (places_where (is_busy_in plan p) s.jobs)) free)

-- if an unfinished job does not wait only for unfinished jobs, an event is possible
can_go : (plan : Plan) (s : State) (n : ℕ) (stage : Stage) → HasValidBodies plan → StateInvariant plan s → (job_at s n).stage ≡ stage → is_unfinished stage ≡ true → waits_at_stage plan s (unfinished s) n (job_at s n).class stage ≡ false → CanProgress plan s
can_go plan s n Stage.Queued ordered kept is_stage still free = can_go_queued plan s n ordered kept is_stage free
can_go plan s n (Stage.At i) ordered kept is_stage still free = can_go_at plan s n i (slice_get (class_at plan (job_at s n).class).body i) ordered kept is_stage refl free
can_go plan s n Stage.Done ordered kept is_stage still free = absurd cc
can_go plan s n Stage.Claimed ordered kept is_stage still free = absurd cc

-- a list with an element is not empty
not_none : (ns : List ℕ) (n : ℕ) → In n ns → not (is_none ns) ≡ true
not_none (m ∷ ns) n i = refl
not_none [] n i = absurd (elim i [ ])

-- an event is possible, because the unfinished jobs are not a waiting set and so one of them does not wait only for the others
pub makes_progress : (plan : Plan) (s : State) (j : ℕ) → HasValidBodies plan → StateInvariant plan s → ((members : List ℕ) → ¬ IsWaitingSet plan s members) → is_unfinished (job_at s j).stage ≡ true → CanProgress plan s
makes_progress plan s j ordered kept none still =
    let members = unfinished s in
    let not_empty = not_none members j (In-unfinished s j still) in
    let no_set : is_waiting_set plan s members ≡ false = false_from_ne_true (is_waiting_set plan s members) (λ is_set. none members ((waiting_set_test plan s members).0 is_set)) in
    ⊎_elim
    (λ (empty : not (is_none members) ≡ false). absurd cc)
    (λ (some : list_all (waits plan s members) members ≡ false).
    let found = fails_somewhere (waits plan s members) members some in
    let passes = (passes_at_In (λ (job : CreatedJob). is_unfinished job.stage) s.jobs found.0 found.1).1 no_job in
    can_go plan s found.0 (job_at s found.0).stage ordered kept refl passes found.2)
    (and_cases (not (is_none members)) (list_all (waits plan s members) members) no_set)
