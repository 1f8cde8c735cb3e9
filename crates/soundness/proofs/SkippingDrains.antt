-- Accepted plans drain if actors skip submits together with their gets and exchange alike jobs.
use Rattle.std.proofs.Common.{◌≡◌, ⊎_elim, true, false, List, [], ◌∷◌, Option, Some, None, is_some, refl, sym, ap, subst, ◌∙◌, arith}
use Rattle.std.specs.List.{list_all, count_by}
use Rattle.std.proofs.lemmas.Bool.{false≢true, and_parts, false_from_ne_true}
use Rattle.std.proofs.lemmas.List.Sums.{sum_by-cons}
use Rattle.std.proofs.lemmas.Option.{same_Some}
use Rattle.job_bodies.specs.Plan.{Plan}
use Rattle.job_bodies.proofs.Bodies.{HasValidBodies, ordered}
use Rattle.pool_machine.specs.State.{job_at, is_unfinished}
use Rattle.pool_machine.specs.Reach.{start}
use Rattle.pool_machine.specs.Safe.{is_of_job_or_pool}
use Rattle.pool_machine.proofs.Busy.{one_if}
use Rattle.cert_text.specs.Cert.{Cert}
use Rattle.soundness.proofs.Draining.{ends_thread, no_client_cases}
use Rattle.soundness.specs.Execute.{JavaState, JavaEvent, java_step, without_calls}
use Rattle.soundness.proofs.JobCalls.{JobCalls, job_calls_start}
use Rattle.soundness.proofs.Costs.{calls_done-le}
use Rattle.soundness.specs.Skipping.{Choice, choice_step, choices_replay, ChoicesReach, is_of_jobs, no_client_acts}
use Rattle.soundness.specs.Skipping.Choice.{Acts, Skips, Misses, Exchanges, Leaves, Spares}
use Rattle.soundness.proofs.Choices.{is_skipped, is_missed, choices_none, choices_keep}
use Rattle.soundness.proofs.SkipCosts.{skip_costs}
use Rattle.soundness.proofs.ExchangedJobs.{is_exchange}
use Rattle.soundness.proofs.ExchangeCosts.{job_calls_exchanged, todo-exchanged, calls_done-exchanged}
use Rattle.soundness.specs.Headline.{AcceptedPlansDrainWithSkips}
use Rattle.soundness.proofs.CertLaws.{CertLaws, cert_laws}
use Rattle.soundness.proofs.JavaTheorem.{java_sound_start, java_makes_progress}
use Rattle.soundness.proofs.JavaDrains.{JavaHeld, held_happened, held_step, Pays, happened_pays, event_pays}
use Rattle.soundness.proofs.Skipping.{choice_keeps}

-- ---- every choice

-- each choice preserves the invariants of an accepted plan and of the calls of its jobs
choice_held : (plan : Plan) (cert : Cert) → HasValidBodies plan → CertLaws plan cert → (s : JavaState) (x : Choice) (s' : JavaState) → JavaHeld plan cert s → choice_step plan s x ≡ Some s' → JavaHeld plan cert s'
choice_held plan cert ordered laws s (Acts e) s' held is_step = held_step plan cert ordered laws s (JavaEvent.Acts e) s' held is_step
choice_held plan cert ordered laws s (Skips e) s' held is_step = record {
  java = choice_keeps plan cert ordered laws s (Skips e) s' held.java is_step;
  jobs = (skip_costs plan cert.ranks s e s' (is_skipped plan s e s' is_step)).calls held.jobs;
}
choice_held plan cert ordered laws s (Misses e) s' held is_step = held_happened plan cert s s' ordered laws held (is_missed plan s e s' is_step)
choice_held plan cert ordered laws s (Exchanges a t u) s' held is_step = record {
  java = choice_keeps plan cert ordered laws s (Exchanges a t u) s' held.java is_step;
  jobs = subst (JobCalls plan) (is_exchange plan s a t u s' is_step).after (job_calls_exchanged plan s a t u held.jobs);
}
choice_held plan cert ordered laws s (Leaves p) s' held is_step = held_step plan cert ordered laws s (JavaEvent.Leaves p) s' held is_step
choice_held plan cert ordered laws s (Spares p) s' held is_step = held_step plan cert ordered laws s (JavaEvent.Spares p) s' held is_step

-- every state that choices reach satisfies the invariants of an accepted plan and of the calls of its jobs
choices_held : (plan : Plan) (cert : Cert) → HasValidBodies plan → CertLaws plan cert → (choices : List Choice) (s : JavaState) → ChoicesReach plan choices s → JavaHeld plan cert s
choices_held plan cert ordered laws choices s reached =
    choices_keep plan (JavaHeld plan cert) (choice_held plan cert ordered laws) choices (without_calls (start plan)) s
    (record { java = java_sound_start plan cert ordered; jobs = job_calls_start plan (start plan) }) reached

-- each choice in which no client acts pays: 1 if it is a job event, a take or a skip by a job, and otherwise 0
choice_pays : (plan : Plan) (cert : Cert) (s : JavaState) (x : Choice) (s' : JavaState) → HasValidBodies plan → CertLaws plan cert → JavaHeld plan cert s → JavaHeld plan cert s' → no_client_acts x ≡ true → choice_step plan s x ≡ Some s' → Pays plan cert (one_if (is_of_jobs x)) s s'
choice_pays plan cert s (Acts e) s' ordered laws held held' of_no_client is_step = event_pays plan cert s (JavaEvent.Acts e) s' ordered laws held held' of_no_client is_step
choice_pays plan cert s (Skips e) s' ordered laws held held' of_no_client is_step =
    let cost = skip_costs plan cert.ranks s e s' (is_skipped plan s e s' is_step) in
    ⊎_elim
    (λ (counted : is_of_job_or_pool e ≡ true). omega (arith, ap one_if counted, cost.costs counted))
    (λ (is_end : ends_thread e ≡ true). absurd (false≢true (sym cost.by_actor ∙ is_end)))
    (no_client_cases e of_no_client)
choice_pays plan cert s (Misses e) s' ordered laws held held' of_no_client is_step = happened_pays plan cert s (JavaEvent.Acts e) s' laws held held' of_no_client (is_missed plan s e s' is_step)
choice_pays plan cert s (Exchanges a t u) s' ordered laws held held' of_no_client is_step =
    subst (Pays plan cert 0 s) (is_exchange plan s a t u s' is_step).after (omega (arith, todo-exchanged plan cert.ranks s.machine a t u, calls_done-exchanged s a t u))
choice_pays plan cert s (Leaves p) s' ordered laws held held' of_no_client is_step = event_pays plan cert s (JavaEvent.Leaves p) s' ordered laws held held' of_no_client is_step
choice_pays plan cert s (Spares p) s' ordered laws held held' of_no_client is_step = event_pays plan cert s (JavaEvent.Spares p) s' ordered laws held held' of_no_client is_step

-- ---- lists of choices

-- a list of choices pays for its counted choices if the choices after the first one do
after_first : (plan : Plan) (cert : Cert) (s : JavaState) (x : Choice) (choices : List Choice) (s' : JavaState) → HasValidBodies plan → CertLaws plan cert → JavaHeld plan cert s → no_client_acts x ≡ true
    → ((next : JavaState) → JavaHeld plan cert next → choices_replay plan (Some next) choices ≡ Some s' → Pays plan cert (count_by is_of_jobs choices) next s')
    → (found : Option JavaState) → choice_step plan s x ≡ found → choices_replay plan found choices ≡ Some s' → Pays plan cert (count_by is_of_jobs (x ∷ choices)) s s'
after_first plan cert s x choices s' ordered laws held of_no_client onward None is_step replayed =
    let none = choices_none plan choices in
    absurd cc
after_first plan cert s x choices s' ordered laws held of_no_client onward (Some next) is_step replayed =
    let held' = choice_held plan cert ordered laws s x next held is_step in
    omega (arith, choice_pays plan cert s x next ordered laws held held' of_no_client is_step, onward next held' replayed, sum_by-cons (λ (y : Choice). one_if (is_of_jobs y)) x choices)

choices_pay : (plan : Plan) (cert : Cert) (choices : List Choice) (s s' : JavaState) → HasValidBodies plan → CertLaws plan cert → JavaHeld plan cert s → list_all no_client_acts choices ≡ true → choices_replay plan (Some s) choices ≡ Some s'
    → Pays plan cert (count_by is_of_jobs choices) s s'
choices_pay plan cert [] s s' ordered laws held each replayed = subst (λ (x : JavaState). Pays plan cert 0 s x) (same_Some s s' replayed) (omega arith)
choices_pay plan cert (x ∷ choices) s s' ordered laws held each replayed =
    let parts = and_parts (no_client_acts x) (list_all no_client_acts choices) each in
    after_first plan cert s x choices s' ordered laws held parts.0 (λ next held' rest. choices_pay plan cert choices next s' ordered laws held' parts.1 rest) (choice_step plan s x) refl replayed

-- the law that the number of counted choices is bounded, and that no job is unfinished when no job event and no take is possible
pub accepted_plans_drain_with_skips : AcceptedPlansDrainWithSkips
accepted_plans_drain_with_skips plan cert well_formed is_accepted =
    let is_ordered = ordered plan well_formed in
    let laws = cert_laws plan cert is_accepted in
    -- the state at the end of a list of choices satisfies the invariants
    let held_after : (s s' : JavaState) (before choices : List Choice) → ChoicesReach plan before s → choices_replay plan (Some s) choices ≡ Some s' → JavaHeld plan cert s' =
    λ s s' before choices reached replayed. choices_keep plan (JavaHeld plan cert) (choice_held plan cert is_ordered laws) choices s s' (choices_held plan cert is_ordered laws before s reached) replayed in
    record {
      bounded = λ s s' choices leads.
          omega (
            arith,
            choices_pay plan cert choices s s' is_ordered laws (choices_held plan cert is_ordered laws leads.before s leads.reached) leads.of_no_client leads.replayed,
            calls_done-le plan cert.ranks s' (held_after s s' leads.before choices leads.reached leads.replayed).jobs,
          );
      drained = λ s s' choices leads rests j.
          false_from_ne_true (is_unfinished (job_at s'.machine j).stage)
          (λ still.
          let goes = java_makes_progress plan cert s' j is_ordered laws (held_after s s' leads.before choices leads.reached leads.replayed).java still in
          let rest : is_some (java_step plan s' goes.event) ≡ false = ap (λ (x : Option JavaState). is_some x) (rests goes.event goes.of_job_or_pool) in
          let possible = goes.possible in
          cc);
    }
