-- Accepted plans are safe and make progress if each submit is the separate steps of Java's `execute`.
use Rattle.std.proofs.Common.{◌≡◌, ℕ, ◌<◌, ◌≤◌, inl, inr, Bool, true, false, cond, ◌||◌, eqb, ltb, List, [], ◌∷◌, length, Some, None, is_some, refl, sym, ap, ◌∙◌, arith}
use Rattle.std.proofs.lemmas.Bool.{false≢true, and_from, or_left, eq-eqb, lt-ltb, ltb-false}
use Rattle.job_bodies.specs.Plan.{Plan, pool_at}
use Rattle.job_bodies.proofs.Bodies.{HasValidBodies, ordered}
use Rattle.pool_machine.specs.State.{job_at, pool_of, pool_part, threads, is_queued, is_queued_in, is_unfinished}
use Rattle.pool_machine.specs.Reach.{start}
use Rattle.pool_machine.proofs.StateInvariant.{StateInvariant}
use Rattle.pool_machine.proofs.Positions.{job_made}
use Rattle.pool_machine.proofs.Queues.{Queued≢Claimed, queued_in_queue, pool_of_made}
use Rattle.pool_machine.proofs.EnoughThreads.{have_threads_start}
use Rattle.pool_machine.proofs.Progress.{makes_progress}
use Rattle.soundness.specs.Execute.{JavaState, JavaEvent, is_looking, looked_once, submission, java_step, without_calls}
use Rattle.soundness.specs.JavaSafe.{JavaReaches, NoneLooks, IsJavaSafe, JavaCanProgress}
use Rattle.soundness.proofs.JavaEvents.{JavaHappens, with_spare_thread, java_happens}
use Rattle.soundness.proofs.JavaReplays.{java_replay_keeps, java_possible}
use Rattle.soundness.proofs.SpareThreads.{timeout_inside}
use Rattle.soundness.proofs.Looking.{LooksKept}
use Rattle.soundness.proofs.Descent.{MembersHaveThreads}
use Rattle.cert_text.specs.Cert.{Cert}
use Rattle.soundness.specs.Headline.{AcceptedPlansAreJavaSafe, AcceptedPlansMakeJavaProgress, bound_of}
use Rattle.soundness.proofs.CertLaws.{CertLaws, cert_laws}
use Rattle.soundness.proofs.Bounded.{keeps_sizes}
use Rattle.soundness.proofs.Theorem.{bounds_hold, Sound, sound_start, sound_step, sound_spares, sound_waits, sound_waits_loosely}
use Rattle.soundness.proofs.Calls.{CallsKept, calls_none, calls_found, machine_keeps, calls_step}

-- ---- the invariants of the reachable states of an accepted plan

pub record JavaSound (plan : Plan) (cert : Cert) (s : JavaState) : Type 0 where
  pub sound : Sound plan cert s.machine
  pub calls : CallsKept plan (bound_of cert) s

-- the initial state satisfies the invariants
pub java_sound_start : (plan : Plan) (cert : Cert) → HasValidBodies plan → JavaSound plan cert (without_calls (start plan))
java_sound_start plan cert ordered = record { sound = sound_start plan cert ordered; calls = calls_none plan (bound_of cert) (start plan) (have_threads_start plan) }

-- each possible event in Java's steps preserves the invariants
pub java_sound_after : (plan : Plan) (cert : Cert) (s s' : JavaState) {e : JavaEvent} → HasValidBodies plan → CertLaws plan cert → JavaSound plan cert s → JavaHappens plan s e s' → JavaSound plan cert s'
java_sound_after plan cert s s' ordered laws held happened =
    let bounds = bound_of cert in
    record {
      sound = machine_keeps plan bounds (Sound plan cert) s s' ordered (bounds_hold plan cert ordered laws) held.sound.bounded held.calls (λ e' after o. sound_step plan cert s.machine after o ordered laws held.sound) (λ p. sound_spares plan cert s.machine p held.sound) held.sound happened;
      calls = calls_step plan bounds s s' ordered (bounds_hold plan cert ordered laws) held.sound.bounded held.calls happened;
    }

pub java_sound_step : (plan : Plan) (cert : Cert) → HasValidBodies plan → CertLaws plan cert → (s : JavaState) (e : JavaEvent) (s' : JavaState) → JavaSound plan cert s → java_step plan s e ≡ Some s' → JavaSound plan cert s'
java_sound_step plan cert ordered laws s e s' held is_step = java_sound_after plan cert s s' ordered laws held (java_happens plan s e s' ordered (calls_found plan (bound_of cert) s held.calls) is_step)

-- every state that is reachable in Java's steps satisfies the invariants
pub java_sound : (plan : Plan) (cert : Cert) → HasValidBodies plan → CertLaws plan cert → (events : List JavaEvent) (s : JavaState) → JavaReaches plan events s → JavaSound plan cert s
java_sound plan cert ordered laws events s reached = java_replay_keeps plan (JavaSound plan cert) (java_sound_step plan cert ordered laws) events (without_calls (start plan)) s (java_sound_start plan cert ordered) reached

-- ---- safety

-- the pools of queued members have enough threads if Java will look at none of them
none_looks_threads : (plan : Plan) (s : JavaState) (members : List ℕ) → HasValidBodies plan → StateInvariant plan s.machine → LooksKept plan s.machine s.looking → NoneLooks plan s members → MembersHaveThreads plan s.machine members
none_looks_threads plan s members ordered kept looks none n member queued =
    let p = pool_of plan (job_at s.machine n).class in
    let inside = pool_of_made plan s.machine n ordered kept (job_made s.machine n (Queued≢Claimed queued)) in
    let here : is_queued_in plan p (job_at s.machine n) ≡ true = and_from (is_queued (job_at s.machine n).stage) (eqb p p) (ap is_queued queued) (eq-eqb p p refl) in
    elim (looks.enough p inside) [
      | inl is_there ↦ absurd (false≢true (sym (none p n member here) ∙ is_there))
      | inr had ↦ had (queued_in_queue plan s.machine n ordered kept queued)
    ]

-- a state that satisfies the invariants is safe
pub java_sound_safe : (plan : Plan) (cert : Cert) (s : JavaState) → HasValidBodies plan → CertLaws plan cert → JavaSound plan cert s → IsJavaSafe plan s
java_sound_safe plan cert s ordered laws held =
    let sizes = keeps_sizes plan (bound_of cert) s.machine held.sound.bounded in
    let kept = held.sound.bounded.kept in
    record {
      none_refused = sizes.none_refused;
      within_max = sizes.within_max;
      within_queue = sizes.within_queue;
      none_waits = λ members none. sound_waits plan cert s.machine ordered laws held.sound members (none_looks_threads plan s members ordered kept held.calls.looks none);
      none_waits_loosely = λ members none. sound_waits_loosely plan cert s.machine ordered laws held.sound members (none_looks_threads plan s members ordered kept held.calls.looks none);
      looks_at_timeouts = held.calls.looks.timeouts;
    }

-- ---- progress

-- Java can look at a pool of the list: it starts a thread there if the pool has none, and does nothing otherwise
can_look : (plan : Plan) (s : JavaState) (p : ℕ) → HasValidBodies plan → p < length plan.pools → is_looking s.looking p ≡ true → (has_thread : Bool) → ltb 0 (threads plan s.machine p) ≡ has_thread → JavaCanProgress plan s
can_look plan s p ordered inside is_there true some =
    let both = and_from (is_looking s.looking p) (ltb 0 (threads plan s.machine p) || eqb (length (pool_part s.machine p).queue) 0) is_there (or_left (ltb 0 (threads plan s.machine p)) (eqb (length (pool_part s.machine p).queue) 0) some) in
    record { event = JavaEvent.Leaves p; of_job_or_pool = refl; possible = ap (λ (b : Bool). is_some (cond b (Some (record s { looking = looked_once p s.looking })) None)) both }
can_look plan s p ordered inside is_there false none =
    let few = ltb-false 0 (threads plan s.machine p) none in
    let below = lt-ltb (threads plan s.machine p) (pool_at plan p).max (omega (arith, ordered.core p inside, ordered.max p inside)) in
    let both = and_from (is_looking s.looking p) (ltb (threads plan s.machine p) (pool_at plan p).max) is_there below in
    record { event = JavaEvent.Spares p; of_job_or_pool = refl; possible = ap (λ (b : Bool). is_some (cond b (Some (record s { machine = with_spare_thread p s.machine; looking = looked_once p s.looking })) None)) both }

-- in each state with an unfinished job that satisfies the invariants, an event of a job, a take or a look at a pool is possible
progress_from : (plan : Plan) (cert : Cert) (s : JavaState) (j : ℕ) → HasValidBodies plan → CertLaws plan cert → JavaSound plan cert s → (looking : List ℕ) → s.looking ≡ looking → is_unfinished (job_at s.machine j).stage ≡ true → JavaCanProgress plan s
progress_from plan cert s j ordered laws held [] none still =
    let kept = held.sound.bounded.kept in
    let looks_nowhere : (members : List ℕ) → NoneLooks plan s members = λ members p n member queued. ap (λ (looking : List ℕ). is_looking looking p) none in
    let goes = makes_progress plan s.machine j ordered kept (λ members. sound_waits plan cert s.machine ordered laws held.sound members (none_looks_threads plan s members ordered kept held.calls.looks (looks_nowhere members))) still in
    record { event = JavaEvent.Acts goes.event; of_job_or_pool = goes.of_job_or_pool; possible = java_possible plan s goes.event (submission plan s.machine goes.event) goes.of_job_or_pool goes.possible }
progress_from plan cert s j ordered laws held (p ∷ looking) some still =
    let is_there : is_looking s.looking p ≡ true = ap (λ (all : List ℕ). is_looking all p) some ∙ or_left (eqb p p) (is_looking looking p) (eq-eqb p p refl) in
    can_look plan s p ordered (timeout_inside plan p (held.calls.looks.timeouts p is_there)) is_there (ltb 0 (threads plan s.machine p)) refl

pub java_makes_progress : (plan : Plan) (cert : Cert) (s : JavaState) (j : ℕ) → HasValidBodies plan → CertLaws plan cert → JavaSound plan cert s → is_unfinished (job_at s.machine j).stage ≡ true → JavaCanProgress plan s
java_makes_progress plan cert s j ordered laws held still = progress_from plan cert s j ordered laws held s.looking refl still

-- ---- the laws

-- the law that every state that is reachable in Java's steps is safe
pub accepted_plans_are_java_safe : AcceptedPlansAreJavaSafe
accepted_plans_are_java_safe plan cert well_formed is_accepted events s reached =
    let is_ordered = ordered plan well_formed in
    let laws = cert_laws plan cert is_accepted in
    java_sound_safe plan cert s is_ordered laws (java_sound plan cert is_ordered laws events s reached)

-- the law that in every state with an unfinished job that is reachable in Java's steps, an event of a job, a take or a look at a pool is
-- possible
pub accepted_plans_make_java_progress : AcceptedPlansMakeJavaProgress
accepted_plans_make_java_progress plan cert well_formed is_accepted events s reached j still =
    let is_ordered = ordered plan well_formed in
    let laws = cert_laws plan cert is_accepted in
    java_makes_progress plan cert s j is_ordered laws (java_sound plan cert is_ordered laws events s reached) still
