-- Accepted plans drain if each submit is the separate steps of Java's `execute`.
use Rattle.std.proofs.Common.{◌≡◌, ℕ, ◌+◌, ◌*◌, ◌≤◌, ⊎_elim, true, false, List, [], ◌∷◌, Option, Some, None, is_some, refl, sym, ap, subst, ◌∙◌, arith}
use Rattle.std.specs.List.{list_all, count_by}
use Rattle.std.proofs.lemmas.Bool.{and_parts, false_from_ne_true}
use Rattle.std.proofs.lemmas.List.Sums.{sum_by-cons}
use Rattle.std.proofs.lemmas.Option.{same_Some}
use Rattle.job_bodies.specs.Plan.{Plan}
use Rattle.job_bodies.proofs.Bodies.{HasValidBodies, ordered}
use Rattle.pool_machine.specs.State.{job_at, is_unfinished}
use Rattle.pool_machine.specs.Reach.{start}
use Rattle.pool_machine.proofs.Busy.{one_if}
use Rattle.cert_text.specs.Cert.{Cert}
use Rattle.soundness.specs.Drain.{todo}
use Rattle.soundness.specs.Execute.{JavaState, JavaEvent, java_step, java_replay, without_calls}
use Rattle.soundness.specs.JavaSafe.{IsJavaReached, is_java_job_or_take, is_of_no_java_client}
use Rattle.soundness.proofs.JavaEvents.{JavaHappens, java_happens}
use Rattle.soundness.proofs.JavaReplays.{java_replay_none, java_replay_keeps}
use Rattle.soundness.proofs.JobCalls.{JobCalls, job_calls_start, job_calls_step}
use Rattle.soundness.proofs.Costs.{calls_done, calls_done-le, costs, is_of_threads, java_cases, java_not_counted, costs_nothing}
use Rattle.soundness.proofs.Calls.{calls_found}
use Rattle.soundness.specs.Headline.{AcceptedPlansJavaDrain, bound_of}
use Rattle.soundness.proofs.CertLaws.{CertLaws, cert_laws}
use Rattle.soundness.proofs.JavaTheorem.{JavaSound, java_sound_start, java_sound_after, java_makes_progress}

-- ---- the invariants of the reachable states of an accepted plan, with the calls of its jobs

pub record JavaHeld (plan : Plan) (cert : Cert) (s : JavaState) : Type 0 where
  pub java : JavaSound plan cert s
  pub jobs : JobCalls plan s

-- each possible event in Java's steps preserves the invariants of an accepted plan and of the calls of its jobs
pub held_happened : (plan : Plan) (cert : Cert) (s s' : JavaState) {e : JavaEvent} → HasValidBodies plan → CertLaws plan cert → JavaHeld plan cert s → JavaHappens plan s e s' → JavaHeld plan cert s'
held_happened plan cert s s' ordered laws held happened =
    let java' = java_sound_after plan cert s s' ordered laws held.java happened in
    record {
      java = java';
      jobs = job_calls_step plan s s' held.java.sound.bounded.kept (java'.sound.bounded.none_refused ∙ sym held.java.sound.bounded.none_refused) held.jobs happened;
    }

pub held_step : (plan : Plan) (cert : Cert) → HasValidBodies plan → CertLaws plan cert → (s : JavaState) (e : JavaEvent) (s' : JavaState) → JavaHeld plan cert s → java_step plan s e ≡ Some s' → JavaHeld plan cert s'
held_step plan cert ordered laws s e s' held is_step = held_happened plan cert s s' ordered laws held (java_happens plan s e s' ordered (calls_found plan (bound_of cert) s held.java.calls) is_step)

-- every state that is reachable in Java's steps satisfies the invariants of an accepted plan and of the calls of its jobs
java_held : (plan : Plan) (cert : Cert) → HasValidBodies plan → CertLaws plan cert → (s : JavaState) → IsJavaReached plan s → JavaHeld plan cert s
java_held plan cert ordered laws s reached =
    java_replay_keeps plan (JavaHeld plan cert) (held_step plan cert ordered laws) reached.0 (without_calls (start plan)) s
    (record { java = java_sound_start plan cert ordered; jobs = job_calls_start plan (start plan) }) reached.1

-- ---- lists of events

-- the events from s to s' pay for n events: three times the remaining work, minus the completed steps of calls, falls by at least n
abbrev pub Pays : Plan → Cert → ℕ → JavaState → JavaState → Type 0
Pays plan cert n s s' = n + 3 * todo plan cert.ranks s'.machine + calls_done s ≤ 3 * todo plan cert.ranks s.machine + calls_done s'

-- each possible event of no client pays for itself: for 1 event if it is a job event or a take, and for 0 if it is the end of a thread or a
-- look at a pool
pub happened_pays : (plan : Plan) (cert : Cert) (s : JavaState) (e : JavaEvent) (s' : JavaState) → CertLaws plan cert → JavaHeld plan cert s → JavaHeld plan cert s' → is_of_no_java_client e ≡ true → JavaHappens plan s e s' → Pays plan cert (one_if (is_java_job_or_take e)) s s'
happened_pays plan cert s e s' laws held held' of_no_client happened =
    ⊎_elim
    (λ (counted : is_java_job_or_take e ≡ true).
    let bounded = held.java.sound.bounded in
    omega (arith, ap one_if counted, costs plan cert.ranks s s' e laws.ranks bounded.kept bounded.none_refused held'.java.sound.bounded.none_refused held.jobs counted happened))
    (λ (is_end : is_of_threads e ≡ true). omega (arith, ap one_if (java_not_counted e is_end), costs_nothing plan cert.ranks s s' e is_end happened))
    (java_cases e of_no_client)

pub event_pays : (plan : Plan) (cert : Cert) (s : JavaState) (e : JavaEvent) (s' : JavaState) → HasValidBodies plan → CertLaws plan cert → JavaHeld plan cert s → JavaHeld plan cert s' → is_of_no_java_client e ≡ true → java_step plan s e ≡ Some s' → Pays plan cert (one_if (is_java_job_or_take e)) s s'
event_pays plan cert s e s' ordered laws held held' of_no_client is_step = happened_pays plan cert s e s' laws held held' of_no_client (java_happens plan s e s' ordered (calls_found plan (bound_of cert) s held.java.calls) is_step)

-- a list of events pays for its job events and takes if the events after the first one do
after_first : (plan : Plan) (cert : Cert) (s : JavaState) (e : JavaEvent) (events : List JavaEvent) (s' : JavaState) → HasValidBodies plan → CertLaws plan cert → JavaHeld plan cert s → is_of_no_java_client e ≡ true
    → ((next : JavaState) → JavaHeld plan cert next → java_replay plan (Some next) events ≡ Some s' → Pays plan cert (count_by is_java_job_or_take events) next s')
    → (found : Option JavaState) → java_step plan s e ≡ found → java_replay plan found events ≡ Some s' → Pays plan cert (count_by is_java_job_or_take (e ∷ events)) s s'
after_first plan cert s e events s' ordered laws held of_no_client onward None is_step replayed =
    let none : java_replay plan None events ≡ None = java_replay_none plan events in
    absurd cc
after_first plan cert s e events s' ordered laws held of_no_client onward (Some next) is_step replayed =
    let held' = held_step plan cert ordered laws s e next held is_step in
    omega (arith, event_pays plan cert s e next ordered laws held held' of_no_client is_step, onward next held' replayed, sum_by-cons (λ (x : JavaEvent). one_if (is_java_job_or_take x)) e events)

events_pay : (plan : Plan) (cert : Cert) (events : List JavaEvent) (s s' : JavaState) → HasValidBodies plan → CertLaws plan cert → JavaHeld plan cert s → list_all is_of_no_java_client events ≡ true → java_replay plan (Some s) events ≡ Some s' → Pays plan cert (count_by is_java_job_or_take events) s s'
events_pay plan cert [] s s' ordered laws held each replayed = subst (λ (x : JavaState). Pays plan cert 0 s x) (same_Some s s' replayed) (omega arith)
events_pay plan cert (e ∷ events) s s' ordered laws held each replayed =
    let parts = and_parts (is_of_no_java_client e) (list_all is_of_no_java_client events) each in
    after_first plan cert s e events s' ordered laws held parts.0 (λ next held' rest. events_pay plan cert events next s' ordered laws held' parts.1 rest) (java_step plan s e) refl replayed

-- the law that the number of job events and takes is bounded, and that no job is unfinished when none of them is possible
pub accepted_plans_java_drain : AcceptedPlansJavaDrain
accepted_plans_java_drain plan cert well_formed is_accepted =
    let is_ordered = ordered plan well_formed in
    let laws = cert_laws plan cert is_accepted in
    -- the state at the end of a list of events satisfies the invariants
    let held_after : (s s' : JavaState) (events : List JavaEvent) → IsJavaReached plan s → java_replay plan (Some s) events ≡ Some s' → JavaHeld plan cert s' =
    λ s s' events reached replayed. java_replay_keeps plan (JavaHeld plan cert) (held_step plan cert is_ordered laws) events s s' (java_held plan cert is_ordered laws s reached) replayed in
    record {
      bounded = λ s s' events leads.
          omega (arith, events_pay plan cert events s s' is_ordered laws (java_held plan cert is_ordered laws s leads.reached) leads.of_no_client leads.replayed, calls_done-le plan cert.ranks s' (held_after s s' events leads.reached leads.replayed).jobs);
      drained = λ s s' events leads rests j.
          false_from_ne_true (is_unfinished (job_at s'.machine j).stage)
          (λ still.
          let goes = java_makes_progress plan cert s' j is_ordered laws (held_after s s' events leads.reached leads.replayed).java still in
          let rest : is_some (java_step plan s' goes.event) ≡ false = ap (λ (x : Option JavaState). is_some x) (rests goes.event goes.of_job_or_pool) in
          let possible = goes.possible in
          cc);
    }
