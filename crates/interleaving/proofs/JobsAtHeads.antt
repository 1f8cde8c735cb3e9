-- The job at the head of a queue is not done, if an idle worker can take it.
use Rattle.std.proofs.Common.{◌≡◌, ℕ, suc, true, List, [], ◌∷◌, Some, refl, sym, ap, subst, ◌∙◌, arith, zero, ◌==◌, length, inl, inr}
use Rattle.std.proofs.lemmas.Bool.{and_parts, cases_lt}
use Rattle.std.proofs.lemmas.List.{get_or_past}
use Rattle.std.proofs.lemmas.Option.{same_Some, none-some}
use Rattle.job_bodies.specs.Plan.{Plan}
use Rattle.job_bodies.specs.WellFormed.{IsWellFormed}
use Rattle.pool_machine.specs.State.{Stage, CreatedJob, State, job_at, no_job, pool_of, is_queued, is_queued_in}
use Rattle.pool_machine.specs.State.Stage.{Queued, At, Done, Claimed}
use Rattle.pool_machine.specs.Reach.{IsReached}
use Rattle.interleaving.specs.LiveView.{phase_seen, job_with, View, live_view}
use Rattle.interleaving.specs.ViewStep.{is_unfinished_job, may_get_in, no_pool_view, pool_in}
use Rattle.interleaving.proofs.View.{view_at, length-pools, pool_at_view}
use Rattle.interleaving.specs.OfPlan.{IsReachableView, WaitsAtHead}
use Rattle.support.specs.In.{In, here}
use Rattle.support.specs.Places.{places_where}
use Rattle.support.proofs.PassingPlaces.{place_at_In}
use Rattle.pool_machine.specs.PoolState.{PoolView, taken, taken_from}
use Rattle.pool_machine.specs.declared.parent.Parent.TheVariants as parent
use Rattle.pool_machine.proofs.Reached.{kept}

record HasHead (pool : PoolView) (j : ℕ) : Type 0 where
  rest : List ℕ
  queue : pool.queue ≡ j ∷ rest

head_from : (pool after : PoolView) (j idle : ℕ) (queue : List ℕ) → pool.queue ≡ queue → taken_from pool idle queue ≡ Some (j, after) → HasHead pool j
head_from pool after j zero queue e take_head = absurd cc
head_from pool after j (suc idle) [] e take_head = absurd cc
head_from pool after j (suc idle) (k ∷ queue) e take_head =
    let same : k ≡ j = ap (λ (x : ℕ × PoolView). x.0) (same_Some _ (j, after) take_head) in
    record { rest = queue; queue = e ∙ ap (λ n. n ∷ queue) same }

unfinished_queued : (s : State) (j : ℕ) (made : CreatedJob) (stage : Stage) → is_queued stage ≡ true → is_unfinished_job (job_with made (phase_seen s j made stage)) ≡ true
unfinished_queued s j made Queued e = refl
unfinished_queued s j made (At i) e = absurd cc
unfinished_queued s j made Done e = absurd cc
unfinished_queued s j made Claimed e = absurd cc

queued_asks : (plan : Plan) (s : State) (p j : ℕ) → is_queued_in plan p (job_at s j) ≡ true → may_get_in (live_view plan s).jobs (parent.Job j) ≡ true
queued_asks plan s p j e =
    let made = job_at s j in
    ap is_unfinished_job (view_at plan s j) ∙ unfinished_queued s j made made.stage (and_parts (is_queued made.stage) (pool_of plan made.class == p) e).0

head_in_state : (plan : Plan) (s : State) → IsReached plan s → IsWellFormed plan → (p : ℕ) → WaitsAtHead (live_view plan s) p
head_in_state plan s reached w p j after take_head = elim (cases_lt p (length plan.pools)) [
  | inl inside ↦
      let pool = pool_in (live_view plan s) p in
      let head = head_from pool after j pool.idle pool.queue refl take_head in
      let seen = pool_at_view plan s p inside in
      let queue : places_where (is_queued_in plan p) s.jobs ≡ j ∷ head.rest = sym ((kept plan s w reached).pools p inside).queue ∙ sym (ap (λ (x : PoolView). x.queue) seen) ∙ head.queue in
      let stands = place_at_In (is_queued_in plan p) 0 s.jobs j (subst (In j) (sym queue) here) in
      let number : stands.index ≡ j = omega (arith, stands.from) in
      queued_asks plan s p j (ap (λ i. is_queued_in plan p (job_at s i)) (sym number) ∙ stands.passes no_job)
  | inr past ↦
      let none : pool_in (live_view plan s) p ≡ no_pool_view = get_or_past (live_view plan s).pools p no_pool_view (let long = length-pools plan s in omega (arith, past)) in
      absurd (none-some (j, after) (sym (ap taken none) ∙ take_head))
]

-- the job that an idle worker would take is not done
pub waits_at_head : (plan : Plan) (view : View) (p : ℕ) → IsReachableView plan view → IsWellFormed plan → WaitsAtHead view p
waits_at_head plan view p of w = subst (λ (v : View). WaitsAtHead v p) of.2 (head_in_state plan of.0 of.1 w p)
