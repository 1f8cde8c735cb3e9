-- The live view after a job finished.
use Rattle.std.proofs.Common.{◌≡◌, ◌≢◌, ℕ, ◌+◌, ◌<◌, Bool, true, false, ◌&&◌, if◌then◌else◌, List, length, map, set, Option, Some, None, ⊎_elim, refl, sym, ap, ap₂, ◌∙◌, arith, length-set}
use Rattle.std.proofs.lemmas.Bool.{cases_eq, cases_Bool, and_right, ne_eqb, both_ways}
use Rattle.std.proofs.lemmas.List.{length-map, get_or-map, get_or-set_same, get_or-set_other}
use Rattle.support.proofs.LastPlace.{none_where}
use Rattle.job_bodies.specs.declared.action.Action.{Action}
use Rattle.job_bodies.specs.Plan.{Plan, pool_at}
use Rattle.pool_machine.specs.PoolState.{PoolView, finished}
use Rattle.pool_machine.specs.declared.parent.Parent.{Parent}
use Rattle.pool_machine.specs.declared.parent.Parent.TheVariants as parent
use Rattle.pool_machine.specs.declared.event.Outcome.{Outcome}
use Rattle.pool_machine.specs.declared.event.Outcome.TheVariants as outcome
use Rattle.interleaving.specs.declared.job_view.Phase.{Phase}
use Rattle.interleaving.specs.declared.job_view.Phase.TheVariants as phase
use Rattle.pool_machine.specs.State.{Stage, CreatedJob, State, no_job, job_at, pool_of, pool_view, pool_seen, is_at, is_unfinished, busy, same_parent, is_made_by, child}
use Rattle.pool_machine.specs.State.Stage.{Queued, At, Done, Claimed}
use Rattle.pool_machine.specs.Step.{point, with_stage, finished_job}
use Rattle.pool_machine.specs.Laws.{HasGreaterNumber}
use Rattle.pool_machine.proofs.Busy.{one_if, busy-staged_here, busy-staged_elsewhere}
use Rattle.pool_machine.proofs.StateInvariant.{StateInvariant}
use Rattle.pool_machine.proofs.Positions.{At≢Claimed}
use Rattle.pool_machine.proofs.Stages.{get_or-staged_same, get_or-staged_other, child-stage}
use Rattle.pool_machine.proofs.Children.{same_actor_true, same_actor_refl}
use Rattle.interleaving.specs.LiveView.{may_get, is_number, phase_seen, job_with, job_seen, View, live_view}
use Rattle.interleaving.specs.ViewStep.{live_job, live_child, is_done, may_get_in, pool_in, with_pool_in, drop_if_orphan, finished_if_gettable, finished_job_in}
use Rattle.interleaving.proofs.View.{seen, phase_with, job_seen-with, length-view, view_at, jobs_are, pool_at_view, same_views, may_get_seen, pools-put}
use Rattle.interleaving.proofs.Changes.{as_seen, seen_same, seen_at, may_get-staged_other, job_standing}
use Rattle.interleaving.proofs.Children.{made_by_itself, child_seen}
use Rattle.interleaving.proofs.OlderAreClaimed.{AllOlderAreClaimed, latest_unclaimed}

-- ---- no actor can get a done job whose parent has finished

drop_if_orphan-kept : (j : ℕ) (job : CreatedJob) (phase : Phase) → is_done phase ≡ false → drop_if_orphan j (Some (as_seen job phase)) ≡ Some (as_seen job phase)
drop_if_orphan-kept j job phase going = ap (λ b. if b then None else Some (as_seen job phase)) (and_right (same_parent (parent.Job j) job.parent) (is_done phase) going)

drop_if_orphan-other : (j : ℕ) (job : CreatedJob) (o : Option Phase) → same_parent (parent.Job j) job.parent ≡ false → drop_if_orphan j (job_with job o) ≡ job_with job o
drop_if_orphan-other j job None other = refl
drop_if_orphan-other j job (Some phase) other = ap (λ b. if b && is_done phase then None else Some (as_seen job phase)) other

orphan_if : (j : ℕ) (job : CreatedJob) (b : Bool) → same_parent (parent.Job j) job.parent ≡ true → None ≡ drop_if_orphan j (job_with job (if b then Some phase.Done else None))
orphan_if j job true orphan = ap (λ b. if b && true then None else Some (as_seen job phase.Done)) (sym orphan)
orphan_if j job false orphan = refl

orphan_with : (j : ℕ) (job : CreatedJob) (asks : Bool) (latest latest' : Option ℕ) (n : ℕ) (stage : Stage) → same_parent (parent.Job j) job.parent ≡ true
    → job_with job (phase_with false latest' n stage) ≡ drop_if_orphan j (job_with job (phase_with asks latest n stage))
orphan_with j job asks latest latest' n Queued orphan = sym (drop_if_orphan-kept j job phase.Queued refl)
orphan_with j job asks latest latest' n (At i) orphan = sym (drop_if_orphan-kept j job (phase.At i) refl)
orphan_with j job asks latest latest' n Done orphan = orphan_if j job (asks && is_number latest n) orphan
orphan_with j job asks latest latest' n Claimed orphan = refl

-- ---- the other jobs

seen-finished_other : (s : State) (j n : ℕ) → j < length s.jobs → n ≢ j → seen (with_stage j Done s) n ≡ drop_if_orphan j (seen s n)
seen-finished_other s j n inside other =
    let s' = with_stage j Done s in
    let old = job_at s n in
    let same = get_or-staged_other s.jobs j Done n no_job other in
    let latest = child-stage s.jobs old.parent old.slot j Done in
    ⊎_elim
    (λ orphan.
    let is_parent = same_actor_true (parent.Job j) old.parent orphan in
    let asks : may_get s' old.parent ≡ false = ap (may_get s') (sym is_parent) ∙ ap (λ (job : CreatedJob). is_unfinished job.stage) (get_or-staged_same s.jobs j Done inside) in
    ap (job_seen s' n) same ∙ job_seen-with s' n old ∙ ap (λ b. job_with old (phase_with b (child s' old.parent old.slot) n old.stage)) asks
    ∙ orphan_with j old (may_get s old.parent) (child s old.parent old.slot) (child s' old.parent old.slot) n old.stage orphan ∙ sym (ap (drop_if_orphan j) (job_seen-with s n old)))
    (λ cared.
    let not_parent : old.parent ≢ parent.Job j = λ e. both_ways (same_parent (parent.Job j) old.parent) cared (ap (same_parent (parent.Job j)) e ∙ same_actor_refl (parent.Job j)) in
    seen_same s s' n same (may_get-staged_other s j Done old.parent not_parent) latest ∙ sym (drop_if_orphan-other j old (phase_seen s n old old.stage) cared))
    (cases_Bool (same_parent (parent.Job j) old.parent))

-- ---- the job itself

own_parent : (a : Parent) (j : ℕ) → HasGreaterNumber a j → same_parent (parent.Job j) a ≡ false
own_parent (parent.Client c) j after = refl
own_parent (parent.Job m) j after = ne_eqb j m (λ (e : j ≡ m). omega arith)

and_same : (b x y : Bool) → (b ≡ true → x ≡ y) → (b && x) ≡ (b && y)
and_same true x y same = same refl
and_same false x y same = refl

finished_if : (job : CreatedJob) (stage : Stage) (b : Bool) → job_with (record job { stage = stage }) (if b then Some phase.Done else None) ≡ (if b then Some (as_seen job phase.Done) else None)
finished_if job stage true = refl
finished_if job stage false = refl

finished_stays : (j : ℕ) (job : CreatedJob) (b : Bool) → same_parent (parent.Job j) job.parent ≡ false → drop_if_orphan j (if b then Some (as_seen job phase.Done) else None) ≡ (if b then Some (as_seen job phase.Done) else None)
finished_stays j job true other = drop_if_orphan-other j job (Some phase.Done) other
finished_stays j job false other = refl

-- while the parent may still get its jobs, the view and the state agree on whether this job is the latest one
latest_seen : (plan : Plan) (s : State) (j : ℕ) → AllOlderAreClaimed plan s → j < length s.jobs → (job_at s j).stage ≢ Claimed → may_get s (job_at s j).parent ≡ true → (o : Option ℕ) → child s (job_at s j).parent (job_at s j).slot ≡ o
    → is_number o j ≡ is_number (live_child (live_view plan s).jobs (job_at s j).parent (job_at s j).slot) j
latest_seen plan s j settled inside unclaimed asks None e =
    let job = job_at s j in
    absurd (both_ways (is_made_by job.parent job.slot job) (none_where (is_made_by job.parent job.slot) s.jobs e j no_job inside) (made_by_itself job))
latest_seen plan s j settled inside unclaimed asks (Some m) e =
    let job = job_at s j in
    let last = latest_unclaimed plan s job.parent job.slot j m settled asks inside (made_by_itself job) unclaimed e in
    sym (ap (λ o. is_number o j) (child_seen plan s job.parent job.slot m asks e last))

seen-finished : (plan : Plan) (s : State) (j i : ℕ) → AllOlderAreClaimed plan s → HasGreaterNumber (job_at s j).parent j → j < length s.jobs → (job_at s j).stage ≡ At i
    → seen (with_stage j Done s) j ≡ drop_if_orphan j (finished_if_gettable (live_view plan s).jobs j (as_seen (job_at s j) (phase.At i)))
seen-finished plan s j i settled after inside stands =
    let s' = with_stage j Done s in
    let jobs = (live_view plan s).jobs in
    let job = job_at s j in
    let a = job.parent in
    let t = job.slot in
    let not_own = own_parent a j after in
    let not_itself : a ≢ parent.Job j = λ e. both_ways (same_parent (parent.Job j) a) not_own (ap (same_parent (parent.Job j)) e ∙ same_actor_refl (parent.Job j)) in
    let now = may_get s' a && is_number (child s' a t) j in
    let seen_now = may_get_in jobs a && is_number (live_child jobs a t) j in
    let stays : now ≡ (may_get s a && is_number (child s a t) j) = ap₂ (λ b o. b && is_number o j) (may_get-staged_other s j Done a not_itself) (child-stage s.jobs a t j Done) in
    let told = and_same (may_get s a) (is_number (child s a t) j) (is_number (live_child jobs a t) j) (λ asks. latest_seen plan s j settled inside (At≢Claimed stands) asks (child s a t) refl) in
    let same : now ≡ seen_now = stays ∙ told ∙ sym (ap (λ b. b && is_number (live_child jobs a t) j) (may_get_seen plan s a)) in
    ap (job_seen s' j) (get_or-staged_same s.jobs j Done inside) ∙ finished_if job Done now ∙ ap (λ b. if b then Some (as_seen job phase.Done) else None) same ∙ sym (finished_stays j job seen_now not_own)

-- ---- the event

module _ (plan : Plan) (s : State) (j : ℕ) (body : List Action) (i : ℕ) (kept : StateInvariant plan s) (settled : AllOlderAreClaimed plan s) (stands : point plan s (parent.Job j) ≡ Some (record { body = body; position = i }))
    (inside : pool_of plan (job_at s j).class < length plan.pools) where
  jobs_after : (live_view plan (with_stage j Done s)).jobs ≡ map (drop_if_orphan j) (set (live_view plan s).jobs j (finished_if_gettable (live_view plan s).jobs j (as_seen (job_at s j) (phase.At i))))
  jobs_after =
      let jobs = (live_view plan s).jobs in
      let at = job_standing plan s j body i stands in
      let here = finished_if_gettable jobs j (as_seen (job_at s j) (phase.At i)) in
      let f = drop_if_orphan j in
      let long = length-view plan s in
      let set_long = length-set jobs j here in
      let map_long = length-map (set jobs j here) f in
      let made_long = length-set s.jobs j (record (job_at s j) { stage = Done }) in
      jobs_are plan (with_stage j Done s) (map f (set jobs j here)) (omega arith)
      (λ n within. ⊎_elim
      (λ (same : n ≡ j). ap (seen (with_stage j Done s)) same ∙ seen-finished plan s j i settled (kept.parents j at.0) at.0 at.1
      ∙ sym (ap (live_job (map f (set jobs j here))) same ∙ get_or-map f (set jobs j here) j None None (omega arith) ∙ ap f (get_or-set_same jobs j here None (omega arith))))
      (λ (other : n ≢ j). seen-finished_other s j n at.0 other
      ∙ sym (get_or-map f (set jobs j here) n None None (omega arith) ∙ ap f (get_or-set_other jobs j n here None other ∙ view_at plan s n)))
      (cases_eq n j))

  pools_after : (live_view plan (finished_job plan s j (pool_of plan (job_at s j).class))).pools ≡ set (live_view plan s).pools (pool_of plan (job_at s j).class) (finished (pool_in (live_view plan s) (pool_of plan (job_at s j).class)))
  pools_after =
      let job = job_at s j in
      let p = pool_of plan job.class in
      let s2 = with_stage j Done s in
      let pools = (live_view plan s).pools in
      let at = job_standing plan s j body i stands in
      let pool = finished (pool_seen plan s p) in
      let threads : pool.idle + busy plan s2 p ≡ pool.threads = omega (arith, busy-staged_here plan s.jobs j Done p refl at.0, ap (λ (stage : Stage). one_if (is_at stage)) at.1) in
      let now = ap (pool_view (pool_at plan p) (record { queue = pool.queue; idle = pool.idle })) threads in
      pools-put plan s s2 p pool refl kept.as_many inside now (λ q other. busy-staged_elsewhere plan s.jobs j Done q (λ same. other (sym same))) ∙ ap (λ (x : PoolView). set pools p (finished x)) (sym (pool_at_view plan s p inside))

  finished_as : live_job (live_view plan s).jobs j ≡ Some (as_seen (job_at s j) (phase.At i))
  finished_as = view_at plan s j ∙ seen_at s j (At i) (phase.At i) (job_standing plan s j body i stands).1 refl

  pub finish_commutes : ◌≡◌ {A = Option (View × Outcome)} (Some (live_view plan (finished_job plan s j (pool_of plan (job_at s j).class)), outcome.Finished j)) (finished_job_in plan (live_view plan s) j (live_job (live_view plan s).jobs j))
  finish_commutes =
      let view = live_view plan s in
      let p = pool_of plan (job_at s j).class in
      let here = finished_if_gettable view.jobs j (as_seen (job_at s j) (phase.At i)) in
      let after : View = with_pool_in p (finished (pool_in view p)) (record view { jobs = map (drop_if_orphan j) (set view.jobs j here) }) in
      let same : live_view plan (finished_job plan s j p) ≡ after = same_views (live_view plan (finished_job plan s j p)) after jobs_after pools_after refl refl in
      let seen_as : finished_job_in plan view j (live_job view.jobs j) ≡ Some (after, outcome.Finished j) = ap (finished_job_in plan view j) finished_as in
      ap (λ (v : View). Some (v, outcome.Finished j)) same ∙ sym seen_as
