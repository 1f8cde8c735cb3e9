-- The live view after an actor submitted a job.
use Rattle.std.proofs.Common.{◌≡◌, ◌≢◌, ℕ, ◌+◌, ◌<◌, ◌≤◌, Bool, true, false, ◌&&◌, if◌then◌else◌, List, [], ◌∷◌, ◌++◌, length, map, set, Option, Some, None, ⊎_elim, refl, sym, ap, ap₂, ◌∙◌, arith}
use Rattle.std.proofs.lemmas.Bool.{cases_lt, cases_Bool, and_right, ne_eqb, both_ways, false_from_ne_true}
use Rattle.std.proofs.lemmas.List.{length-map, length_push, get_or-map, get_or_push, get_or_append_left}
use Rattle.support.proofs.LastPlace.{last_where_push, last_where_push_fails}
use Rattle.job_bodies.specs.declared.action.Action.{Action}
use Rattle.job_bodies.specs.Plan.{Plan, pool_at}
use Rattle.pool_machine.specs.declared.offer.Offer.{Offer}
use Rattle.pool_machine.specs.declared.offer.Offer.TheVariants as offer
use Rattle.pool_machine.specs.PoolState.{PoolView, answer, apply_answer}
use Rattle.pool_machine.specs.declared.parent.Parent.{Parent}
use Rattle.pool_machine.specs.declared.parent.Parent.TheVariants as parent
use Rattle.pool_machine.specs.declared.event.Outcome.{Outcome}
use Rattle.pool_machine.specs.declared.event.Outcome.TheVariants as outcome
use Rattle.interleaving.specs.declared.job_view.Phase.{Phase}
use Rattle.interleaving.specs.declared.job_view.Phase.TheVariants as phase
use Rattle.pool_machine.specs.State.{Stage, CreatedJob, State, no_job, job_at, pool_part, pool_of, pool_view, pool_seen, is_unfinished, busy, is_made_by, child}
use Rattle.pool_machine.specs.State.Stage.{Queued, At, Done, Claimed}
use Rattle.pool_machine.specs.Step.{moved_jobs, point, with_position, with_job, with_pool, new_job, skipped, answered, submitted}
use Rattle.pool_machine.specs.Laws.{HasGreaterNumber}
use Rattle.pool_machine.proofs.Busy.{busy_in_other, busy_push_here, busy_push_same, busy-moved}
use Rattle.pool_machine.proofs.StateInvariant.{StateInvariant}
use Rattle.pool_machine.proofs.Stages.{HaveParents, parents_moved, stage-staged}
use Rattle.pool_machine.proofs.Positions.{standing_made}
use Rattle.pool_machine.proofs.ActorInvariants.{is_after}
use Rattle.pool_machine.proofs.Children.{maker_of}
use Rattle.interleaving.specs.LiveView.{may_get, is_number, phase_seen, job_with, job_seen, View, live_view}
use Rattle.interleaving.specs.ViewStep.{is_done, drop_if_stale, pool_in, move_actor, new_live_job, made, answered_in, submitted_in}
use Rattle.interleaving.proofs.View.{seen, phase_with, job_seen-with, length-view, view_at, jobs_are, pool_at_view, same_pools, one_pool, same_views, pool_seen-busy, pools-put}
use Rattle.interleaving.proofs.Changes.{as_seen, seen_same}
use Rattle.interleaving.proofs.Children.{made_by_itself, live_if_done}
use Rattle.interleaving.proofs.ViewMoves.{move_seen}

-- ---- a done job is stale once its parent has created another job at the same position

drop_if_stale-kept : (a : Parent) (t : ℕ) (job : CreatedJob) (phase : Phase) → is_done phase ≡ false → drop_if_stale a t (Some (as_seen job phase)) ≡ Some (as_seen job phase)
drop_if_stale-kept a t job phase going = ap (λ b. if b then None else Some (as_seen job phase)) (and_right (is_made_by a t job) (is_done phase) going)

drop_if_stale-other : (a : Parent) (t : ℕ) (job : CreatedJob) (o : Option Phase) → is_made_by a t job ≡ false → drop_if_stale a t (job_with job o) ≡ job_with job o
drop_if_stale-other a t job None other = refl
drop_if_stale-other a t job (Some phase) other = ap (λ b. if b && is_done phase then None else Some (as_seen job phase)) other

stale_if : (a : Parent) (t : ℕ) (job : CreatedJob) (b : Bool) → is_made_by a t job ≡ true → None ≡ drop_if_stale a t (job_with job (if b then Some phase.Done else None))
stale_if a t job true made = ap (λ b. if b && true then None else Some (as_seen job phase.Done)) (sym made)
stale_if a t job false made = refl

stale_with : (a : Parent) (t : ℕ) (job : CreatedJob) (asks : Bool) (latest latest' : Option ℕ) (n : ℕ) (stage : Stage) → is_made_by a t job ≡ true → is_number latest' n ≡ false
    → job_with job (phase_with asks latest' n stage) ≡ drop_if_stale a t (job_with job (phase_with asks latest n stage))
stale_with a t job asks latest latest' n Queued made none = sym (drop_if_stale-kept a t job phase.Queued refl)
stale_with a t job asks latest latest' n (At i) made none = sym (drop_if_stale-kept a t job (phase.At i) refl)
stale_with a t job asks latest latest' n Done made none =
    ap (λ b. job_with job (if b then Some phase.Done else None)) (and_right asks (is_number latest' n) none) ∙ stale_if a t job (asks && is_number latest n) made
stale_with a t job asks latest latest' n Claimed made none = refl

-- ---- the jobs after a new one was created

may_get-made : (s : State) (job : CreatedJob) (a : Parent) → HasGreaterNumber a (length s.jobs) → may_get (with_job job s) a ≡ may_get s a
may_get-made s job (parent.Client c) after = refl
may_get-made s job (parent.Job m) after = ap (λ (made : CreatedJob). is_unfinished made.stage) (get_or_append_left s.jobs (job ∷ []) no_job m after)

-- `same_maker` is symmetric: whether one submit of an actor created both jobs does not depend on their order
same_maker : (job old : CreatedJob) → is_made_by job.parent job.slot old ≡ true → is_made_by old.parent old.slot job ≡ true
same_maker job old e =
    let made = maker_of old job.parent job.slot e in
    ap₂ (λ a t. is_made_by a t job) (sym made.0) (sym made.1) ∙ made_by_itself job

seen-made : (s : State) (job : CreatedJob) (n : ℕ) → n < length s.jobs → HasGreaterNumber (job_at s n).parent (length s.jobs) → seen (with_job job s) n ≡ drop_if_stale job.parent job.slot (seen s n)
seen-made s job n inside after =
    let s' = with_job job s in
    let old = job_at s n in
    let same : job_at s' n ≡ old = get_or_append_left s.jobs (job ∷ []) no_job n inside in
    let asks = may_get-made s job old.parent after in
    let before = sym (ap (drop_if_stale job.parent job.slot) (job_seen-with s n old)) in
    ⊎_elim
    (λ stale.
    let latest : child s' old.parent old.slot ≡ Some (length s.jobs) = last_where_push (is_made_by old.parent old.slot) s.jobs job (same_maker job old stale) in
    let another : is_number (Some (length s.jobs)) n ≡ false = ne_eqb (length s.jobs) n (λ (e : length s.jobs ≡ n). omega arith) in
    ap (job_seen s' n) same ∙ job_seen-with s' n old ∙ ap₂ (λ b o. job_with old (phase_with b o n old.stage)) asks latest
    ∙ stale_with job.parent job.slot old (may_get s old.parent) (child s old.parent old.slot) (Some (length s.jobs)) n old.stage stale another ∙ before)
    (λ fresh.
    let other : is_made_by old.parent old.slot job ≡ false = false_from_ne_true (is_made_by old.parent old.slot job) (λ e. both_ways (is_made_by job.parent job.slot old) fresh (same_maker old job e)) in
    let latest : child s' old.parent old.slot ≡ child s old.parent old.slot = last_where_push_fails (is_made_by old.parent old.slot) s.jobs job other in
    seen_same s s' n same asks latest ∙ sym (drop_if_stale-other job.parent job.slot old (phase_seen s n old old.stage) fresh))
    (cases_Bool (is_made_by job.parent job.slot old))

later : (a : Parent) (n m : ℕ) → n < m → HasGreaterNumber a n → HasGreaterNumber a m
later (parent.Client c) n m less after = tt
later (parent.Job j) n m less after = omega arith

jobs-made : (plan : Plan) (s : State) (job : CreatedJob) (phase : Phase) → HaveParents s.jobs → phase_seen (with_job job s) (length s.jobs) job job.stage ≡ Some phase
    → (live_view plan (with_job job s)).jobs ≡ map (drop_if_stale job.parent job.slot) (live_view plan s).jobs ++ Some (as_seen job phase) ∷ []
jobs-made plan s job phase after new =
    let s' = with_job job s in
    let jobs = (live_view plan s).jobs in
    let fresh = map (drop_if_stale job.parent job.slot) jobs in
    let long = length-view plan s in
    let fresh_long = length-map jobs (drop_if_stale job.parent job.slot) in
    let pushed = length_push fresh (Some (as_seen job phase)) in
    let made_long = length_push s.jobs job in
    jobs_are plan s' (fresh ++ Some (as_seen job phase) ∷ []) (omega arith)
    (λ n within. ⊎_elim
    (λ (inside : n < length s.jobs).
    seen-made s job n inside (later (job_at s n).parent n (length s.jobs) inside (after n inside)) ∙ sym (ap (drop_if_stale job.parent job.slot) (view_at plan s n))
    ∙ sym (get_or_append_left fresh (Some (as_seen job phase) ∷ []) None n (omega arith) ∙ get_or-map (drop_if_stale job.parent job.slot) jobs n None None (omega arith)))
    (λ (past : length s.jobs ≤ n).
    let last : n ≡ length s.jobs = omega arith in
    ap (seen s') last ∙ ap (job_seen s' (length s.jobs)) (get_or_push s.jobs job no_job (length s.jobs) refl) ∙ ap (job_with job) new
    ∙ sym (get_or_push fresh (Some (as_seen job phase)) None n (omega arith)))
    (cases_lt n (length s.jobs)))

-- an actor that moved within its body can still get jobs
asks_moved : (plan : Plan) (s : State) (a : Parent) (body : List Action) (i i' : ℕ) → point plan s a ≡ Some (record { body = body; position = i }) → may_get (with_position a i' s) a ≡ true
asks_moved plan s (parent.Client c) body i i' stands = refl
asks_moved plan s (parent.Job j) body i i' stands = ap is_unfinished (stage-staged s.jobs j (At i') (standing_made plan s j body i stands))

-- ---- the submit

module _ (plan : Plan) (s : State) (a : Parent) (body : List Action) (i k : ℕ) (kept : StateInvariant plan s) (stands : point plan s a ≡ Some (record { body = body; position = i })) (inside : pool_of plan k < length plan.pools) where
  -- the jobs of the view, with the new job
  jobs_now : (stage : Stage) (phase : Phase) → phase_seen (with_job (new_job k a i stage) (with_position a (i + 1) s)) (length (with_position a (i + 1) s).jobs) (new_job k a i stage) stage ≡ Some phase
      → (live_view plan (with_job (new_job k a i stage) (with_position a (i + 1) s))).jobs ≡ (made a i (new_live_job k a i phase) (live_view plan s)).jobs
  jobs_now stage phase new =
      jobs-made plan (with_position a (i + 1) s) (new_job k a i stage) phase (parents_moved s a (i + 1) kept.parents) new
      ∙ ap (λ (v : View). map (drop_if_stale a i) v.jobs ++ Some (new_live_job k a i phase) ∷ []) (move_seen plan s a body i (i + 1) stands)

  clients_now : (with_position a (i + 1) s).clients ≡ (move_actor a (i + 1) (live_view plan s)).clients
  clients_now = ap (λ (v : View). v.clients) (move_seen plan s a body i (i + 1) stands)

  busy_other : (stage : Stage) (q : ℕ) → q ≢ pool_of plan k → busy plan (with_job (new_job k a i stage) (with_position a (i + 1) s)) q ≡ busy plan s q
  busy_other stage q other =
      let job = new_job k a i stage in
      busy_push_same plan (moved_jobs a (i + 1) s) job q (busy_in_other plan q job (λ same. other (sym same))) ∙ busy-moved plan s a body i (i + 1) q stands

  started_seen : live_view plan (answered plan s a i k offer.Started).0 ≡ (answered_in plan (live_view plan s) a i k offer.Started).0
  started_seen =
      let view = live_view plan s in
      let p = pool_of plan k in
      let moved = with_position a (i + 1) s in
      let s' = with_job (new_job k a i (At 0)) moved in
      let here = busy_push_here plan moved.jobs (new_job k a i (At 0)) in
      let was = busy-moved plan s a body i (i + 1) p stands in
      let threads : (pool_part s p).idle + busy plan s' p ≡ (pool_part s p).idle + busy plan s p + 1 = omega arith in
      let pool = ap (pool_view (pool_at plan p) (pool_part s p)) threads ∙ sym (ap (λ (pool : PoolView). apply_answer pool (length view.jobs) offer.Started) (pool_at_view plan s p inside)) in
      let pools = one_pool plan s s' p (apply_answer (pool_in view p) (length view.jobs) offer.Started) inside pool (λ q other. pool_seen-busy plan s q (busy plan s' q) (busy_other (At 0) q other)) in
      same_views (live_view plan s') (answered_in plan view a i k offer.Started).0 (jobs_now (At 0) (phase.At 0) refl) pools clients_now refl

  queued_seen : live_view plan (answered plan s a i k offer.Queued).0 ≡ (answered_in plan (live_view plan s) a i k offer.Queued).0
  queued_seen =
      let view = live_view plan s in
      let p = pool_of plan k in
      let moved = with_position a (i + 1) s in
      let s' = with_job (new_job k a i Queued) moved in
      let after = apply_answer (pool_seen plan s p) (length s.jobs) offer.Queued in
      let here = busy_push_here plan moved.jobs (new_job k a i Queued) in
      let was = busy-moved plan s a body i (i + 1) p stands in
      let threads : after.idle + busy plan s' p ≡ (pool_part s p).idle + busy plan s p = omega arith in
      let pool = ap (pool_view (pool_at plan p) (record { queue = after.queue; idle = after.idle })) threads in
      let put = pools-put plan s s' p after refl kept.as_many inside pool (busy_other Queued) in
      let same = ap₂ (λ (pool : PoolView) (n : ℕ). apply_answer pool n offer.Queued) (sym (pool_at_view plan s p inside)) (sym (length-view plan s)) in
      same_views (live_view plan (with_pool p after s')) (answered_in plan view a i k offer.Queued).0 (jobs_now Queued phase.Queued refl) (put ∙ ap (set view.pools p) same) clients_now refl

  -- the job of a skipped submit is live, because it is the latest job of this submit
  skipped_live : let moved = with_position a (i + 1) s in phase_seen (skipped s a i k) (length moved.jobs) (new_job k a i Done) Done ≡ Some phase.Done
  skipped_live =
      let moved = with_position a (i + 1) s in
      let job = new_job k a i Done in
      live_if_done (skipped s a i k) (length moved.jobs) job
      (may_get-made moved job a (is_after plan s a body i (i + 1) stands) ∙ asks_moved plan s a body i (i + 1) stands)
      (last_where_push (is_made_by a i) moved.jobs job (made_by_itself job))

  skipped_seen : live_view plan (skipped s a i k) ≡ made a i (new_live_job k a i phase.Done) (live_view plan s)
  skipped_seen =
      let view = live_view plan s in
      let moved = with_position a (i + 1) s in
      let s' = skipped s a i k in
      let busy_same : (p : ℕ) → busy plan s' p ≡ busy plan s p = λ p. busy_push_same plan moved.jobs (new_job k a i Done) p refl ∙ busy-moved plan s a body i (i + 1) p stands in
      let pools = same_pools plan s s' (λ p within. pool_seen-busy plan s p (busy plan s' p) (busy_same p)) in
      same_views (live_view plan s') (made a i (new_live_job k a i phase.Done) view) (jobs_now Done phase.Done skipped_live) pools clients_now refl

  full_commutes : (may : Bool) → ◌≡◌ {A = View × Outcome}
      (let x : State × Outcome = if may then (skipped s a i k, outcome.Rejected (pool_of plan k) (length s.jobs)) else (record s { refusals = s.refusals + 1 }, outcome.Refused (pool_of plan k)) in (live_view plan x.0, x.1))
      (if may then (made a i (new_live_job k a i phase.Done) (live_view plan s), outcome.Rejected (pool_of plan k) (length (live_view plan s).jobs)) else (record (live_view plan s) { refusals = s.refusals + 1 }, outcome.Refused (pool_of plan k)))
  full_commutes true = ap₂ (λ (v : View) (n : ℕ). (v, outcome.Rejected (pool_of plan k) n)) skipped_seen (sym (length-view plan s))
  full_commutes false = refl

  answered_commutes : (given : Offer) → ◌≡◌ {A = View × Outcome} (live_view plan (answered plan s a i k given).0, (answered plan s a i k given).1) (answered_in plan (live_view plan s) a i k given)
  answered_commutes offer.Started = ap₂ (λ (v : View) (n : ℕ). (v, outcome.Started n)) started_seen (sym (length-view plan s))
  answered_commutes offer.Queued = ap₂ (λ (v : View) (n : ℕ). (v, outcome.Queued n)) queued_seen (sym (length-view plan s))
  answered_commutes offer.Refused = full_commutes (pool_at plan (pool_of plan k)).may_reject

  pub submit_commutes : ◌≡◌ {A = View × Outcome} (live_view plan (submitted plan s a i k).0, (submitted plan s a i k).1) (submitted_in plan (live_view plan s) a i k)
  submit_commutes =
      answered_commutes (answer (pool_seen plan s (pool_of plan k))) ∙ ap (λ (pool : PoolView). answered_in plan (live_view plan s) a i k (answer pool)) (sym (pool_at_view plan s (pool_of plan k) inside))
