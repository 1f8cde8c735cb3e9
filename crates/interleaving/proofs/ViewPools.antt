-- The live view after an idle worker took the head of the queue, or ended.
use Rattle.std.proofs.Common.{◌≡◌, ℕ, zero, suc, ◌+◌, ◌-◌, ◌<◌, ◌≤◌, Bool, true, false, if◌then◌else◌, List, [], ◌∷◌, length, set, Some, None, ⊎_elim, refl, sym, ap, ◌∙◌, arith}
use Rattle.std.specs.Option.{option_map}
use Rattle.std.proofs.lemmas.Bool.{cases_lt}
use Rattle.std.proofs.lemmas.List.{get_or_past}
use Rattle.job_bodies.specs.Plan.{Plan, pool_at}
use Rattle.pool_machine.specs.PoolState.{PoolView, taken_from, taken, may_retire, retired_of, retired}
use Rattle.pool_machine.specs.declared.event.Outcome.TheVariants as outcome
use Rattle.interleaving.specs.declared.job_view.Phase.TheVariants as phase
use Rattle.pool_machine.specs.State.{Stage, State, PoolPart, no_pool_part, job_at, pool_part, pool_view, pool_seen, is_at, is_unfinished, busy}
use Rattle.pool_machine.specs.State.Stage.{Queued, At}
use Rattle.pool_machine.specs.Step.{with_stage, with_pool, take_head, retire_worker}
use Rattle.pool_machine.proofs.Stages.{get_or-staged_same}
use Rattle.pool_machine.proofs.Busy.{one_if, busy-staged_here, busy-staged_elsewhere}
use Rattle.pool_machine.proofs.StateInvariant.{StateInvariant}
use Rattle.pool_machine.proofs.Queues.{IsHead, head_of_queue}
use Rattle.interleaving.specs.LiveView.{job_seen, live_view}
use Rattle.interleaving.specs.ViewStep.{live_job, in_phase, with_phase, no_pool_view, pool_in, with_pool_in, take_head_in, retire_worker_in}
use Rattle.interleaving.specs.Laws.{seen_after}
use Rattle.interleaving.proofs.View.{seen, view_at, length-pools, pool_at_view, same_views, pools-put}
use Rattle.interleaving.proofs.Changes.{as_seen, seen_at, jobs-staged}

-- ---- a take

take_seen : (plan : Plan) (s : State) (p j idle : ℕ) (queue : List ℕ) → StateInvariant plan s → p < length plan.pools → (pool_part s p).idle ≡ suc idle → IsHead plan s p j queue
    → live_view plan (with_pool p (record (pool_seen plan s p) { idle = idle; queue = queue }) (with_stage j (At 0) s))
    ≡ record (live_view plan s) { jobs = with_phase j (phase.At 0) (live_view plan s).jobs; pools = set (live_view plan s).pools p (record (pool_seen plan s p) { idle = idle; queue = queue }) }
take_seen plan s p j idle queue kept inside is_idle head =
    let view = live_view plan s in
    let job = job_at s j in
    let s2 = with_stage j (At 0) s in
    let pool : PoolView = record (pool_seen plan s p) { idle = idle; queue = queue } in
    let before : live_job view.jobs j ≡ Some (as_seen job phase.Queued) = view_at plan s j ∙ seen_at s j Queued phase.Queued head.queued refl in
    let after : seen s2 j ≡ Some (as_seen job (phase.At 0)) = ap (job_seen s2 j) (get_or-staged_same s.jobs j (At 0) head.inside) in
    let jobs = jobs-staged plan s j (At 0) (in_phase (phase.At 0) (live_job view.jobs j)) head.inside (sym (ap is_unfinished head.queued)) (after ∙ sym (ap (in_phase (phase.At 0)) before)) in
    let threads : idle + busy plan s2 p ≡ (pool_part s p).idle + busy plan s p = omega (arith, busy-staged_here plan s.jobs j (At 0) p head.of_pool head.inside, ap (λ (stage : Stage). one_if (is_at stage)) head.queued) in
    let pool_now = ap (pool_view (pool_at plan p) (record { queue = queue; idle = idle })) threads in
    let pools = pools-put plan s s2 p pool refl kept.as_many inside pool_now (λ q other. busy-staged_elsewhere plan s.jobs j (At 0) q (λ same. other (sym same ∙ head.of_pool))) in
    same_views (live_view plan (with_pool p pool s2)) (record view { jobs = with_phase j (phase.At 0) view.jobs; pools = set view.pools p pool }) jobs pools refl refl

taken_commutes : (plan : Plan) (s : State) (p : ℕ) → StateInvariant plan s → p < length plan.pools → (idle : ℕ) (queue : List ℕ) → (pool_part s p).idle ≡ idle → (pool_part s p).queue ≡ queue
    → option_map (seen_after plan) (take_head s p (taken_from (pool_seen plan s p) idle queue)) ≡ take_head_in (live_view plan s) p (taken_from (pool_seen plan s p) idle queue)
taken_commutes plan s p kept inside zero [] is_idle is_queue = refl
taken_commutes plan s p kept inside zero (j ∷ queue) is_idle is_queue = refl
taken_commutes plan s p kept inside (suc idle) [] is_idle is_queue = refl
taken_commutes plan s p kept inside (suc idle) (j ∷ queue) is_idle is_queue =
    ap (λ v. Some (v, outcome.Took j)) (take_seen plan s p j idle queue kept inside is_idle (head_of_queue plan s p j queue kept is_queue))

-- at a number for which there is no pool, the part of the state is the empty one
no_pool_there : (plan : Plan) (s : State) (p : ℕ) → StateInvariant plan s → length plan.pools ≤ p → pool_part s p ≡ no_pool_part
no_pool_there plan s p kept past = get_or_past s.pools p no_pool_part (omega (arith, kept.as_many))

no_pool_in_view : (plan : Plan) (s : State) (p : ℕ) → length plan.pools ≤ p → pool_in (live_view plan s) p ≡ no_pool_view
no_pool_in_view plan s p past = let long = length-pools plan s in get_or_past (live_view plan s).pools p no_pool_view (omega arith)

pub take_commutes : (plan : Plan) (s : State) (p : ℕ) → StateInvariant plan s → option_map (seen_after plan) (take_head s p (taken (pool_seen plan s p))) ≡ take_head_in (live_view plan s) p (taken (pool_in (live_view plan s) p))
take_commutes plan s p kept =
    let view = live_view plan s in
    ⊎_elim
    (λ inside. taken_commutes plan s p kept inside (pool_part s p).idle (pool_part s p).queue refl refl ∙ sym (ap (λ pool. take_head_in view p (taken pool)) (pool_at_view plan s p inside)))
    (λ past. ap (λ (part : PoolPart). option_map (seen_after plan) (take_head s p (taken_from (pool_seen plan s p) part.idle part.queue))) (no_pool_there plan s p kept past)
    ∙ sym (ap (λ pool. take_head_in view p (taken pool)) (no_pool_in_view plan s p past)))
    (cases_lt p (length plan.pools))

-- ---- a retirement

retire_if : (plan : Plan) (s : State) (p : ℕ) (pool : PoolView) (b : Bool) → live_view plan (with_pool p pool s) ≡ with_pool_in p pool (live_view plan s)
    → option_map (seen_after plan) (retire_worker s p (if b then Some pool else None)) ≡ retire_worker_in (live_view plan s) p (if b then Some pool else None)
retire_if plan s p pool true same = ap (λ v. Some (v, outcome.Retired)) same
retire_if plan s p pool false same = refl

retired_commutes : (plan : Plan) (s : State) (p : ℕ) → StateInvariant plan s → p < length plan.pools → (idle : ℕ) → (pool_part s p).idle ≡ idle
    → option_map (seen_after plan) (retire_worker s p (retired_of (pool_seen plan s p) idle)) ≡ retire_worker_in (live_view plan s) p (retired_of (pool_seen plan s p) idle)
retired_commutes plan s p kept inside zero is_idle = refl
retired_commutes plan s p kept inside (suc idle) is_idle =
    let seen_pool = pool_seen plan s p in
    let pool : PoolView = record seen_pool { threads = seen_pool.threads - 1; idle = idle } in
    let threads : idle + busy plan s p ≡ (pool_part s p).idle + busy plan s p - 1 = omega arith in
    let pool_now = ap (pool_view (pool_at plan p) (record { queue = pool.queue; idle = idle })) threads in
    let pools = pools-put plan s s p pool refl kept.as_many inside pool_now (λ q other. refl) in
    retire_if plan s p pool (may_retire seen_pool idle) (same_views (live_view plan (with_pool p pool s)) (with_pool_in p pool (live_view plan s)) refl pools refl refl)

pub retire_commutes : (plan : Plan) (s : State) (p : ℕ) → StateInvariant plan s → option_map (seen_after plan) (retire_worker s p (retired (pool_seen plan s p))) ≡ retire_worker_in (live_view plan s) p (retired (pool_in (live_view plan s) p))
retire_commutes plan s p kept =
    let view = live_view plan s in
    ⊎_elim
    (λ inside. retired_commutes plan s p kept inside (pool_part s p).idle refl ∙ sym (ap (λ pool. retire_worker_in view p (retired pool)) (pool_at_view plan s p inside)))
    (λ past. ap (λ (part : PoolPart). option_map (seen_after plan) (retire_worker s p (retired_of (pool_seen plan s p) part.idle))) (no_pool_there plan s p kept past)
    ∙ sym (ap (λ pool. retire_worker_in view p (retired pool)) (no_pool_in_view plan s p past)))
    (cases_lt p (length plan.pools))
