-- Accepted plans are safe, make progress, and drain.
use Rattle.std.proofs.Common.{◌≡◌, ℕ, ◌+◌, ◌<◌, ◌≤◌, ⊎_elim, true, false, List, [], ◌∷◌, length, IsTrue, Option, Some, None, is_some, refl, ap, arith}
use Rattle.std.specs.List.{list_all, count_by}
use Rattle.std.proofs.lemmas.Bool.{and_parts, false_from_ne_true}
use Rattle.std.proofs.lemmas.List.Sums.{sum_by-cons}
use Rattle.job_bodies.specs.Plan.{Plan, pool_at}
use Rattle.job_bodies.specs.WellFormed.{IsWellFormed}
use Rattle.job_bodies.proofs.Bodies.{HasValidBodies, ordered}
use Rattle.pool_machine.specs.declared.event.Event.{Event}
use Rattle.pool_machine.specs.declared.event.Outcome.{Outcome}
use Rattle.pool_machine.specs.State.{State, job_at, threads, is_unfinished}
use Rattle.pool_machine.specs.Step.{step}
use Rattle.pool_machine.specs.Reach.{start, state_after, replay, IsReached}
use Rattle.pool_machine.specs.Waiting.{IsWaitingSet}
use Rattle.pool_machine.specs.LooseWaiting.{IsLooseWaitingSet}
use Rattle.pool_machine.specs.Safe.{IsSafe, Safe, is_of_job_or_pool, MakesProgress}
use Rattle.pool_machine.proofs.Busy.{one_if}
use Rattle.pool_machine.proofs.Events.{Happens, happens}
use Rattle.pool_machine.proofs.LooseWaitingSets.{waiting_is_loose}
use Rattle.pool_machine.proofs.Reached.{replay_none, replay_keeps, reached_keeps, have_threads, have_threads_after}
use Rattle.pool_machine.proofs.EnoughThreads.{HaveThreads}
use Rattle.pool_machine.proofs.Progress.{makes_progress}
use Rattle.weights.specs.declared.bound.Bound.{Bound}
use Rattle.weights.specs.Bound.{bound_vector, bound_get_return}
use Rattle.weights.specs.declared.get_return.GetReturn.TheVariants.{DoneWeight}
use Rattle.cert_text.specs.Cert.{Cert, pool_cert_at}
use Rattle.soundness.proofs.NeverRises.{IsBalanced, balanced_start, never_rises, balanced_step}
use Rattle.soundness.specs.Drain.{todo, is_of_no_client, Drains}
use Rattle.soundness.proofs.CountedGets.{may_block-below_threads}
use Rattle.soundness.proofs.Descent.{MembersHaveThreads, none_waits_loosely, members_have_threads}
use Rattle.soundness.proofs.Draining.{lowers, ends_thread, no_client_cases, not_counted, same_todo}
use Rattle.soundness.specs.Accepted.{accepted}
use Rattle.soundness.specs.Headline.{AcceptedPlansAreSafe, AcceptedPlansMakeProgress, AcceptedPlansDrain, bound_of}
use Rattle.soundness.proofs.CertLaws.{CertLaws, cert_laws}
use Rattle.soundness.proofs.Bounded.{BoundHolds, Bounded, BoundsHold, bounded_start, bounded_step, bounded_spares, keeps_sizes}
use Rattle.soundness.proofs.JavaEvents.{with_spare_thread}
use Rattle.soundness.proofs.BoundLaws.{PoolBoundLaws, bound_vector_laws}
use Rattle.soundness.proofs.RankLaws.{RankLaws}
use Rattle.soundness.proofs.Walks.{rejected_are_light}

-- ---- the invariants of the reachable states of an accepted plan

bound_holds : (plan : Plan) (cert : Cert) (p : ℕ) (bound : Option Bound) → HasValidBodies plan → RankLaws plan cert.ranks → PoolBoundLaws plan p bound → BoundHolds plan p bound
bound_holds plan cert p None ordered ranked laws = laws
bound_holds plan cert p (Some bound) ordered ranked laws = (laws, rejected_are_light (bound_get_return bound) plan (bound_vector bound) cert.ranks ordered ranked (bound_vector_laws plan p bound laws))

-- the bounds of an accepted certificate hold, and a rejected job increases no weight, because the rows of the ranks hold
pub bounds_hold : (plan : Plan) (cert : Cert) → HasValidBodies plan → CertLaws plan cert → BoundsHold plan (bound_of cert)
bounds_hold plan cert ordered laws p inside = bound_holds plan cert p (bound_of cert p) ordered laws.ranks (laws.bound p inside)

-- a sound state: it satisfies the invariants for the bounds of the pools, and each blocked vector is balanced
pub record Sound (plan : Plan) (cert : Cert) (s : State) : Type 0 where
  pub bounded : Bounded plan (bound_of cert) s
  pub blocked : (p : ℕ) → p < length plan.pools → IsBalanced DoneWeight plan (pool_cert_at cert p).blocked s

-- the initial state is sound
pub sound_start : (plan : Plan) (cert : Cert) → HasValidBodies plan → Sound plan cert (start plan)
sound_start plan cert ordered = record {
  bounded = bounded_start plan (bound_of cert) ordered;
  blocked = λ p inside. balanced_start DoneWeight plan (pool_cert_at cert p).blocked;
}

-- the state after each event from a sound state is sound
pub sound_step : (plan : Plan) (cert : Cert) (s s' : State) (o : Outcome) {e : Event} → HasValidBodies plan → CertLaws plan cert → Sound plan cert s → Happens plan s e s' o → Sound plan cert s'
sound_step plan cert s s' o ordered laws sound happened = record {
  bounded = bounded_step plan (bound_of cert) s s' o ordered (bounds_hold plan cert ordered laws) sound.bounded happened;
  blocked = λ p inside.
      let v = (pool_cert_at cert p).blocked in
      balanced_step DoneWeight plan v s s' (never_rises DoneWeight plan v s s' o ordered (laws.blocked p inside).laws (rejected_are_light DoneWeight plan v cert.ranks ordered laws.ranks (laws.blocked p inside).laws) sound.bounded.kept happened) (sound.blocked p inside);
}

-- a thread that starts without a job, in a pool whose core threads may time out, leaves a sound state sound
pub sound_spares : (plan : Plan) (cert : Cert) (s : State) (p : ℕ) → Sound plan cert s → (pool_at plan p).core_timeout ≡ true → threads plan s p < (pool_at plan p).max → Sound plan cert (with_spare_thread p s)
sound_spares plan cert s p sound timeout below = record { bounded = bounded_spares plan (bound_of cert) s p sound.bounded timeout below; blocked = sound.blocked }

-- every reachable state is sound
pub sound : (plan : Plan) (cert : Cert) (s : State) → HasValidBodies plan → CertLaws plan cert → IsReached plan s → Sound plan cert s
sound plan cert s ordered laws reached = reached_keeps plan (Sound plan cert) (sound_start plan cert ordered) (λ s₁ e s₂ o held happened. sound_step plan cert s₁ s₂ o ordered laws held happened) s reached

-- ---- safety and progress

-- in a sound state no set of jobs waits only for its own members, now or at later gets
pub sound_waits_loosely : (plan : Plan) (cert : Cert) (s : State) → HasValidBodies plan → CertLaws plan cert → Sound plan cert s → (members : List ℕ) → MembersHaveThreads plan s members → ¬ IsLooseWaitingSet plan s members
sound_waits_loosely plan cert s ordered laws held members have =
    none_waits_loosely plan cert.ranks s members ordered laws.ranks held.bounded.kept
    (λ p inside. may_block-below_threads plan cert.ranks (pool_cert_at cert p).blocked p s ordered laws.ranks (laws.blocked p inside) held.bounded.kept inside (held.blocked p inside)) have

-- in a sound state no set of jobs waits only for its own members at their current positions, since such a set is a loose one
pub sound_waits : (plan : Plan) (cert : Cert) (s : State) → HasValidBodies plan → CertLaws plan cert → Sound plan cert s → (members : List ℕ) → MembersHaveThreads plan s members → ¬ IsWaitingSet plan s members
sound_waits plan cert s ordered laws held members have waiting = sound_waits_loosely plan cert s ordered laws held members have (waiting_is_loose plan s members ordered held.bounded.kept waiting)

-- a sound state in which each pool with a queued job has enough threads is safe
pub sound_safe : (plan : Plan) (cert : Cert) (s : State) → HasValidBodies plan → CertLaws plan cert → Sound plan cert s → HaveThreads plan s → IsSafe plan s
sound_safe plan cert s ordered laws held have =
    let sizes = keeps_sizes plan (bound_of cert) s held.bounded in
    record {
      none_refused = sizes.none_refused;
      within_max = sizes.within_max;
      within_queue = sizes.within_queue;
      none_waits = λ members. sound_waits plan cert s ordered laws held members (members_have_threads plan s members ordered held.bounded.kept have);
      none_waits_loosely = λ members. sound_waits_loosely plan cert s ordered laws held members (members_have_threads plan s members ordered held.bounded.kept have);
    }

-- every reachable state is safe
pub safe : (plan : Plan) (cert : Cert) → IsWellFormed plan → IsTrue (accepted plan cert) → Safe plan
safe plan cert well_formed is_accepted events s reached =
    let is_ordered = ordered plan well_formed in
    let laws = cert_laws plan cert is_accepted in
    sound_safe plan cert s is_ordered laws (sound plan cert s is_ordered laws (events, reached)) (have_threads plan s well_formed (events, reached))

-- in every reachable state with an unfinished job an event of a job or a take is possible
pub makes_progress_everywhere : (plan : Plan) (cert : Cert) → IsWellFormed plan → IsTrue (accepted plan cert) → MakesProgress plan
makes_progress_everywhere plan cert well_formed is_accepted events s reached j still =
    let is_ordered = ordered plan well_formed in
    let laws = cert_laws plan cert is_accepted in
    let held = sound plan cert s is_ordered laws (events, reached) in
    let have = have_threads plan s well_formed (events, reached) in
    makes_progress plan s j is_ordered held.bounded.kept (λ members. sound_waits plan cert s is_ordered laws held members (members_have_threads plan s members is_ordered held.bounded.kept have)) still

-- ---- draining

-- a job event or a take reduces the remaining work, and the end of a thread leaves it unchanged
lowers_or_leaves : (plan : Plan) (cert : Cert) (s s' : State) (o : Outcome) (e : Event) → CertLaws plan cert → Sound plan cert s → Sound plan cert s' → is_of_no_client e ≡ true → Happens plan s e s' o
    → todo plan cert.ranks s' + one_if (is_of_job_or_pool e) ≤ todo plan cert.ranks s
lowers_or_leaves plan cert s s' o e laws held held' of_no_client happened =
    ⊎_elim
    (λ (counted : is_of_job_or_pool e ≡ true).
    omega (arith, ap one_if counted, lowers plan cert.ranks s s' o e laws.ranks held.bounded.kept held.bounded.none_refused held'.bounded.none_refused counted happened))
    (λ (is_end : ends_thread e ≡ true). omega (arith, ap one_if (not_counted e is_end), same_todo plan cert.ranks s s' o is_end happened))
    (no_client_cases e of_no_client)

-- the number of job events and takes of a list is at most the remaining work if this holds for the events after the first one
after_first : (plan : Plan) (cert : Cert) (s : State) (e : Event) (events : List Event) (s' : State) → HasValidBodies plan → CertLaws plan cert → Sound plan cert s → is_of_no_client e ≡ true
    → ((next : State) → Sound plan cert next → replay plan (Some next) events ≡ Some s' → count_by is_of_job_or_pool events ≤ todo plan cert.ranks next)
    → (found : Option (State × Outcome)) → step plan s e ≡ found → replay plan (state_after found) events ≡ Some s' → count_by is_of_job_or_pool (e ∷ events) ≤ todo plan cert.ranks s
after_first plan cert s e events s' ordered laws held of_no_client onward None is_step replayed =
    let none : replay plan None events ≡ None = replay_none plan events in
    absurd cc
after_first plan cert s e events s' ordered laws held of_no_client onward (Some (next, o)) is_step replayed =
    let happened = happens plan s e next o is_step in
    let held' = sound_step plan cert s next o ordered laws held happened in
    omega (arith, lowers_or_leaves plan cert s next o e laws held held' of_no_client happened, onward next held' replayed, sum_by-cons (λ (x : Event). one_if (is_of_job_or_pool x)) e events)

-- if no client acts, the number of job events and takes of a list is at most the remaining work of the first state
no_more_events : (plan : Plan) (cert : Cert) (events : List Event) (s s' : State) → HasValidBodies plan → CertLaws plan cert → Sound plan cert s → list_all is_of_no_client events ≡ true → replay plan (Some s) events ≡ Some s' → count_by is_of_job_or_pool events ≤ todo plan cert.ranks s
no_more_events plan cert [] s s' ordered laws held each replayed = omega arith
no_more_events plan cert (e ∷ events) s s' ordered laws held each replayed =
    let parts = and_parts (is_of_no_client e) (list_all is_of_no_client events) each in
    after_first plan cert s e events s' ordered laws held parts.0 (λ next held' rest. no_more_events plan cert events next s' ordered laws held' parts.1 rest) (step plan s e) refl replayed

-- if no client acts, the number of job events and takes is bounded, and no job is unfinished when none of them is possible
pub drains : (plan : Plan) (cert : Cert) → IsWellFormed plan → IsTrue (accepted plan cert) → Drains plan cert.ranks
drains plan cert well_formed is_accepted =
    let is_ordered = ordered plan well_formed in
    let laws = cert_laws plan cert is_accepted in
    record {
      bounded = λ s s' events leads. no_more_events plan cert events s s' is_ordered laws (sound plan cert s is_ordered laws leads.reached) leads.of_no_client leads.replayed;
      drained = λ s s' events leads rests j.
          let held : Sound plan cert s' = replay_keeps plan (Sound plan cert) (λ s₁ e s₂ o before happened. sound_step plan cert s₁ s₂ o is_ordered laws before happened) events s s' (sound plan cert s is_ordered laws leads.reached) leads.replayed in
          false_from_ne_true (is_unfinished (job_at s' j).stage)
          (λ still.
          let have = have_threads_after plan s s' events well_formed leads.reached leads.replayed in
          let goes = makes_progress plan s' j is_ordered held.bounded.kept (λ members. sound_waits plan cert s' is_ordered laws held members (members_have_threads plan s' members is_ordered held.bounded.kept have)) still in
          let rest : is_some (step plan s' goes.event) ≡ false = ap (λ (x : Option (State × Outcome)). is_some x) (rests goes.event goes.of_job_or_pool) in
          let possible = goes.possible in
          cc);
    }

-- the law that accepted plans are safe
pub accepted_plans_are_safe : AcceptedPlansAreSafe
accepted_plans_are_safe plan cert well_formed is_accepted = safe plan cert well_formed is_accepted

-- the law that accepted plans make progress
pub accepted_plans_make_progress : AcceptedPlansMakeProgress
accepted_plans_make_progress plan cert well_formed is_accepted = makes_progress_everywhere plan cert well_formed is_accepted

-- the law that accepted plans drain
pub accepted_plans_drain : AcceptedPlansDrain
accepted_plans_drain plan cert well_formed is_accepted = drains plan cert well_formed is_accepted
