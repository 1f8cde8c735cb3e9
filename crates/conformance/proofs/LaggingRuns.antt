-- The machine can follow each path that matches the body of an actor.
use Rattle.std.proofs.Common.{◌≡◌, ◌≢◌, ℕ, zero, suc, ◌+◌, ◌-◌, ◌<◌, ◌≤◌, inl, inr, ⊎_elim, Bool, true, false, cond, ltb, List, [], ◌∷◌, ◌++◌, length, get_or, map, drop, slice_get, Option, Some, refl, sym, ap, subst, ◌∙◌, arith, add-one}
use Rattle.std.proofs.lemmas.Bool.{false≢true, cases_lt}
use Rattle.std.proofs.lemmas.List.{length_push, get_or_push}
use Rattle.std.proofs.lemmas.Option.{none-some, same_Some, slice_get_within}
use Rattle.support.specs.In.{In}
use Rattle.support.proofs.Members.{not_In_nil, In-push_cases}
use Rattle.job_bodies.specs.declared.action.Action.{Action}
use Rattle.job_bodies.specs.declared.action.Action.TheVariants as action
use Rattle.job_bodies.specs.Plan.{Plan, pool_at}
use Rattle.job_bodies.proofs.Bodies.{HasValidBodies, ordered}
use Rattle.pool_machine.specs.PoolState.{room_limit}
use Rattle.pool_machine.specs.declared.offer.Offer.TheVariants as offer
use Rattle.pool_machine.specs.declared.parent.Parent.{Parent}
use Rattle.pool_machine.specs.declared.event.Outcome.{Outcome}
use Rattle.pool_machine.specs.declared.event.Outcome.TheVariants as outcome
use Rattle.pool_machine.specs.State.{Stage, State, CreatedJob, no_job, pool_of, pool_part, threads}
use Rattle.pool_machine.specs.Step.{moved_jobs, moved_clients, with_position, with_job, new_job, skipped}
use Rattle.pool_machine.specs.Reach.{start}
use Rattle.pool_machine.proofs.Stages.{length-moved}
use Rattle.pool_machine.proofs.Actors.{point_same}
use Rattle.pool_machine.proofs.Children.{same_actor_refl}
use Rattle.cert_text.specs.Cert.{Cert}
use Rattle.soundness.specs.Execute.{Call, JavaState, is_calling, without_calls, without_calls_of, submission_at, submission_of, answers, checks_core, offers_job, requests_thread, executes, java_stepped}
use Rattle.soundness.specs.Skipping.{choice_step, event_of_actor}
use Rattle.soundness.specs.Skipping.Choice.{Acts}
use Rattle.soundness.proofs.CertLaws.{CertLaws, cert_laws}
use Rattle.soundness.proofs.JavaEvents.{ends_with, call_of_others}
use Rattle.soundness.proofs.JavaTheorem.{JavaSound, java_sound_start}
use Rattle.soundness.proofs.Choices.{choices_keep}
use Rattle.soundness.proofs.Skipping.{choice_keeps}
use Rattle.conformance.specs.declared.open_job.OpenJob.{OpenJob}
use Rattle.conformance.specs.declared.step.ActorKind.{ActorKind}
use Rattle.conformance.specs.declared.step.ActorKind.TheVariants as actor_kind
use Rattle.conformance.specs.declared.step.PathStep.{PathStep}
use Rattle.conformance.specs.declared.step.PathStep.TheVariants as step
use Rattle.conformance.specs.declared.step.PathState.{PathState}
use Rattle.conformance.specs.declared.step.PathState.TheVariants as path_state
use Rattle.conformance.specs.PathStep.{submits}
use Rattle.conformance.specs.Path.{Walks, starts, body_moves, both_submit, path_gets, open_after_action, open_in_body, IsWithin, MayGet, open_class, without, IsPathOf}
use Rattle.conformance.specs.LaggingRun.{MachineJob, is_open, open_job, without_job, IsSubmitted, others_act, calls, is_taken, Follows, PathsAreFollowed}
use Rattle.conformance.proofs.MachineJobs.{as_open, is_open_job, without-as, push-as, open_push, open_last, still_open, In-without}
use Rattle.conformance.proofs.OpenSubmits.{open_below}
use Rattle.conformance.proofs.OpenCounts.{within_without}
use Rattle.conformance.proofs.Undisturbed.{KeepsJobs, at_not_claimed, done_not_claimed, HasPosition, has_position_moved, stands_pushed}
use Rattle.conformance.proofs.OthersAct.{IsQuiet, IsUndisturbed, same_machine, choice_other}
use Rattle.conformance.proofs.Lagging.{HasSlot, IsOwn, Lags, slot_kept, own_kept, undisturbed_lags, others_lag}
use Rattle.conformance.proofs.LaggingSteps.{submission_of_actor, slot_new, keeps_submit, HasReached, reaches}
use Rattle.conformance.proofs.TakenJobs.{taken_within}

-- ---- the end of a submit
-- The submit has ended: a thread runs the job, or it is queued, or the pool rejected it and it is done. The call of the actor is over.
record IsTaken (a : Parent) (i k : ℕ) (s s' : JavaState) : Type 0 where
  stage : Stage
  unclaimed : stage ≢ Stage.Claimed
  jobs : s'.machine.jobs ≡ moved_jobs a (i + 1) s.machine ++ new_job k a i stage ∷ []
  clients : s'.machine.clients ≡ moved_clients a (i + 1) s.machine
  offering : s'.offering ≡ without_calls_of a s.offering
  requesting : s'.requesting ≡ without_calls_of a s.requesting

queued_not_claimed : Stage.Queued ≢ Stage.Claimed
queued_not_claimed e = cc

taken_started : (plan : Plan) (a : Parent) (i k : ℕ) (s : JavaState) → IsTaken a i k s (answers plan s a i k offer.Started)
taken_started plan a i k s = record { stage = Stage.At 0; unclaimed = at_not_claimed 0; jobs = refl; clients = refl; offering = refl; requesting = refl }

taken_queued : (plan : Plan) (a : Parent) (i k : ℕ) (s : JavaState) → IsTaken a i k s (answers plan s a i k offer.Queued)
taken_queued plan a i k s = record { stage = Stage.Queued; unclaimed = queued_not_claimed; jobs = refl; clients = refl; offering = refl; requesting = refl }

taken_rejected : (plan : Plan) (a : Parent) (i k : ℕ) (s : JavaState) → IsTaken a i k s (ends_with s a (skipped s.machine a i k) s.looking)
taken_rejected plan a i k s = record { stage = Stage.Done; unclaimed = done_not_claimed; jobs = refl; clients = refl; offering = refl; requesting = refl }

-- The number of jobs grows.
abbrev Grows : JavaState → JavaState → Type 0
Grows s s' = length s'.machine.jobs ≡ suc (length s.machine.jobs)

no_growth : (n : ℕ) → n ≡ suc n → ⊥
no_growth n e = omega (arith, e)

-- The state after a third step that finds max threads.
abbrev declined : Plan → Parent → ℕ → ℕ → JavaState → Bool → JavaState
declined plan a i k s may = let x : State × Outcome = cond may (skipped s.machine a i k, outcome.Rejected (pool_of plan k) (length s.machine.jobs)) (record s.machine { refusals = s.machine.refusals + 1 }, outcome.Refused (pool_of plan k)) in ends_with s a x.0 s.looking

taken_declined : (plan : Plan) (a : Parent) (i k : ℕ) (s : JavaState) (may : Bool) → Grows s (declined plan a i k s may) → IsTaken a i k s (declined plan a i k s may)
taken_declined plan a i k s true grows = taken_rejected plan a i k s
taken_declined plan a i k s false grows = absurd (no_growth (length s.machine.jobs) grows)

taken_requested : (plan : Plan) (a : Parent) (i k : ℕ) (s : JavaState) (below : Bool) → Grows s (answers plan s a i k (cond below offer.Started offer.Refused)) → IsTaken a i k s (answers plan s a i k (cond below offer.Started offer.Refused))
taken_requested plan a i k s true grows = taken_started plan a i k s
taken_requested plan a i k s false grows = taken_declined plan a i k s (pool_at plan (pool_of plan k)).may_reject grows

taken_offered : (plan : Plan) (a : Parent) (i k : ℕ) (s other : JavaState) (room : Bool) → other.machine ≡ s.machine → Grows s (cond room (answers plan s a i k offer.Queued) other) → IsTaken a i k s (cond room (answers plan s a i k offer.Queued) other)
taken_offered plan a i k s other true same grows = taken_queued plan a i k s
taken_offered plan a i k s other false same grows = absurd (no_growth (length s.machine.jobs) (sym (ap (λ (m : State). length m.jobs) same) ∙ grows))

taken_checked : (plan : Plan) (a : Parent) (i k : ℕ) (s other : JavaState) (below : Bool) → other.machine ≡ s.machine → Grows s (cond below (answers plan s a i k offer.Started) other) → IsTaken a i k s (cond below (answers plan s a i k offer.Started) other)
taken_checked plan a i k s other true same grows = taken_started plan a i k s
taken_checked plan a i k s other false same grows = absurd (no_growth (length s.machine.jobs) (sym (ap (λ (m : State). length m.jobs) same) ∙ grows))

taken_if : (plan : Plan) (a : Parent) (i k : ℕ) (s : JavaState) (requesting offering : Bool) → Grows s (cond requesting (requests_thread plan s a i k) (cond offering (offers_job plan s a i k) (checks_core plan s a i k)))
    → IsTaken a i k s (cond requesting (requests_thread plan s a i k) (cond offering (offers_job plan s a i k) (checks_core plan s a i k)))
taken_if plan a i k s true offering grows = taken_requested plan a i k s (ltb (threads plan s.machine (pool_of plan k)) (pool_at plan (pool_of plan k)).max) grows
taken_if plan a i k s false true grows =
    taken_offered plan a i k s (record s { offering = without_calls_of a s.offering; requesting = record { actor = a; pool = pool_of plan k } ∷ s.requesting })
    (ltb (length (pool_part s.machine (pool_of plan k)).queue) (room_limit (pool_at plan (pool_of plan k)).unbounded (pool_at plan (pool_of plan k)).queue (pool_part s.machine (pool_of plan k)).idle (length (pool_part s.machine (pool_of plan k)).queue))) refl grows
taken_if plan a i k s false false grows =
    taken_checked plan a i k s (record s { offering = record { actor = a; pool = pool_of plan k } ∷ s.offering })
    (ltb (threads plan s.machine (pool_of plan k)) (pool_at plan (pool_of plan k)).core) refl grows

taken : (plan : Plan) (a : Parent) (body : List Action) (i k : ℕ) (s s' : JavaState) → HasPosition plan s.machine a body i → slice_get body i ≡ Some (action.Submit k) → choice_step plan s (Acts (event_of_actor a)) ≡ Some s' → Grows s s' → IsTaken a i k s s'
taken plan a body i k s s' stands e stepped grows =
    let found = submission_of_actor plan s.machine a ∙ ap (submission_of a) stands ∙ ap (submission_at a i) e in
    let executed : Some (executes plan s a i k) ≡ Some s' = sym (ap (java_stepped plan s (event_of_actor a)) found) ∙ stepped in
    let same : executes plan s a i k ≡ s' = same_Some (executes plan s a i k) s' executed in
    subst (IsTaken a i k s) same (taken_if plan a i k s (is_calling s.requesting a (pool_of plan k)) (is_calling s.offering a (pool_of plan k)) (ap (λ (x : JavaState). length x.machine.jobs) same ∙ grows))

-- ---- the steps of the path
drop_at : {X : Type 0} (xs : List X) (n : ℕ) (x : X) → slice_get xs n ≡ Some x → drop n xs ≡ x ∷ drop (suc n) xs
drop_at [] n x e = absurd (none-some x e)
drop_at {X = X} (y ∷ ys) zero x e = ap (λ (z : X). z ∷ ys) (same_Some y x e)
drop_at (y ∷ ys) (suc n) x e = drop_at ys n x e

drop_end : {X : Type 0} (xs : List X) → drop (length xs) xs ≡ []
drop_end [] = refl
drop_end (x ∷ xs) = drop_end xs

may_get_from : (kind : ActorKind) (body : List Action) (m q class : ℕ) → m ≤ q → MayGet kind body q class → MayGet kind body m class
may_get_from actor_kind.Job body m q class le has = record { get = has.get; submit = has.submit; later = let more = has.later in omega (arith, le, more); gets = has.gets; of_class = has.of_class }
may_get_from actor_kind.Round body m q class le has = has

module _ (plan : Plan) (cert : Cert) (a : Parent) (body : List Action) (is_ordered : HasValidBodies plan) (laws : CertLaws plan cert) where
  -- `Lags` still holds after the pool takes or rejects the job.
  taken_lags : (jobs : List MachineJob) (p q k : ℕ) (s s' : JavaState) → Lags plan cert a body jobs q q s → slice_get body q ≡ Some (action.Submit k) → choice_step plan s (Acts (event_of_actor a)) ≡ Some s' → IsTaken a q k s s'
      → IsWithin (map as_open (jobs ++ record { job = p; class = k; number = length s.machine.jobs } ∷ [])) body (suc q)
      → Lags plan cert a body (jobs ++ record { job = p; class = k; number = length s.machine.jobs } ∷ []) (suc q) (suc q) s' × IsQuiet a s'
  taken_lags jobs p q k s s' lags e stepped is within =
      let one : MachineJob = record { job = p; class = k; number = length s.machine.jobs } in
      let more = jobs ++ one ∷ [] in
      let moved : State = with_position a (q + 1) s.machine in
      let job = new_job k a q is.stage in
      let list = moved.jobs ++ job ∷ [] in
      let long : length moved.jobs ≡ length s.machine.jobs = length-moved s.machine a (q + 1) in
      let keeps : KeepsJobs a q s.machine.jobs s'.machine.jobs = subst (KeepsJobs a q s.machine.jobs) (sym is.jobs) (keeps_submit plan a body q k is.stage s.machine lags.stands) in
      let is_new : get_or s'.machine.jobs (length s.machine.jobs) no_job ≡ job = ap (λ (xs : List CreatedJob). get_or xs (length s.machine.jobs) no_job) is.jobs ∙ get_or_push moved.jobs job no_job (length s.machine.jobs) long in
      let opened : is_open (length moved.jobs) more ≡ true = ap (λ (n : ℕ). is_open n more) long ∙ open_last jobs one in
      let widen : (t : ℕ) → HasSlot s.machine.jobs a body jobs t → HasSlot s.machine.jobs a body more t =
      λ t slot. record { number = slot.number; is_child = slot.is_child; of_class = slot.of_class; unclaimed = slot.unclaimed; filled = ⊎_elim (λ there. inl (open_push slot.number jobs one there)) (λ done. inr done) slot.filled } in (
        record {
          sound = choice_keeps plan cert is_ordered laws s (Acts (event_of_actor a)) s' lags.sound stepped;
          stands = point_same plan (with_job job moved) s'.machine a is.jobs is.clients
              ∙ subst (HasPosition plan (with_job job moved) a body) (add-one q) (stands_pushed plan moved a job body (q + 1) (has_position_moved plan s.machine a body q (q + 1) lags.stands));
          behind = omega arith;
          inside = slice_get_within body q (action.Submit k) e;
          within = λ i le le'. let same : suc q ≡ i = omega (arith, le, le') in subst (IsWithin (map as_open more) body) same within;
          own = λ x i. ⊎_elim
              (λ old. own_kept a q x s.machine.jobs s'.machine.jobs keeps (lags.own x old))
              (λ (new : x ≡ one). subst (IsOwn s'.machine.jobs a) (sym new) (record {
                inside = let grown = ap length is.jobs ∙ length_push moved.jobs job in omega (arith, grown, long);
                of_actor = ap (λ (c : CreatedJob). c.parent) is_new;
                of_class = ap (λ (c : CreatedJob). c.class) is_new;
                unclaimed = λ claimed. is.unclaimed (sym (ap (λ (c : CreatedJob). c.stage) is_new) ∙ claimed);
              }))
              (In-push_cases jobs one i);
          slots = λ t i. ⊎_elim
              (λ old. slot_kept a body more q t s.machine.jobs s'.machine.jobs keeps (open_below body q t old) (widen t (lags.slots t old)))
              (λ (new : t ≡ q). subst (HasSlot s'.machine.jobs a body more) (sym new) (subst (λ (xs : List CreatedJob). HasSlot xs a body more q) (sym is.jobs) (slot_new a body more moved.jobs k q is.stage e is.unclaimed (inl opened))))
              (In-push_cases (open_in_body body q) q (subst (In t) (ap (λ (o : Option Action). open_after_action o q (open_in_body body q)) e) i));
        },
        λ r. (
          λ there. false≢true (sym (call_of_others a a r s.offering (subst (λ (cs : List Call). is_calling cs a r ≡ true) is.offering there)).1 ∙ same_actor_refl a),
          λ there. false≢true (sym (call_of_others a a r s.requesting (subst (λ (cs : List Call). is_calling cs a r ≡ true) is.requesting there)).1 ∙ same_actor_refl a),
        ),
      )

  submitted_lags : (jobs : List MachineJob) (p q k : ℕ) {s s' : JavaState} {number : ℕ} → IsSubmitted plan a s number s' → Lags plan cert a body jobs q q s → slice_get body q ≡ Some (action.Submit k)
      → IsWithin (map as_open (jobs ++ record { job = p; class = k; number = number } ∷ [])) body (suc q)
      → Lags plan cert a body (jobs ++ record { job = p; class = k; number = number } ∷ []) (suc q) (suc q) s' × IsQuiet a s'
  submitted_lags jobs p q k (others_act {s = s} {next = next} x other stepped rest) lags e within =
      let change = choice_other plan cert a body q q s x next is_ordered lags.sound other lags.stands stepped in
      submitted_lags jobs p q k rest (undisturbed_lags plan cert a body is_ordered laws jobs q q s next change.undisturbed (choice_keeps plan cert is_ordered laws s x next lags.sound stepped) lags) e within
  submitted_lags jobs p q k (calls {s = s} {next = next} stepped same rest) lags e within =
      let undisturbed = subst (IsUndisturbed plan a body q q s.machine) (sym same) (same_machine plan a body q q s.machine lags.stands) in
      submitted_lags jobs p q k rest (undisturbed_lags plan cert a body is_ordered laws jobs q q s next undisturbed (choice_keeps plan cert is_ordered laws s (Acts (event_of_actor a)) next lags.sound stepped) lags) e within
  submitted_lags jobs p q k (is_taken {s = s} {s' = s'} stepped grows) lags e within =
      taken_lags jobs p q k s s' lags e stepped (taken plan a body q k s s' lags.stands e stepped grows) within

  -- The relation after the path gets a job that is done.
  got_lags : (jobs : List MachineJob) (m q job : ℕ) (one : MachineJob) (s : JavaState) → Lags plan cert a body jobs m q s → open_job job jobs ≡ Some one → (get_or s.machine.jobs one.number no_job).stage ≡ Stage.Done → Lags plan cert a body (without_job job jobs) m q s
  got_lags jobs m q job one s lags is_one done = record {
    sound = lags.sound;
    stands = lags.stands;
    behind = lags.behind;
    inside = lags.inside;
    within = λ i le le'. subst (λ (xs : List OpenJob). IsWithin xs body i) (without-as job jobs) (within_without (map as_open jobs) body i job (lags.within i le le'));
    own = λ x i. lags.own x (In-without job x jobs i);
    slots = λ t i.
        let slot = lags.slots t i in
        record {
          number = slot.number;
          is_child = slot.is_child;
          of_class = slot.of_class;
          unclaimed = slot.unclaimed;
          filled = ⊎_elim
              (λ there. ⊎_elim (λ (same : slot.number ≡ one.number). inr (ap (λ (n : ℕ). (get_or s.machine.jobs n no_job).stage) same ∙ done)) (λ still. inl still) (still_open job slot.number jobs one is_one there))
              (λ is. inr is) slot.filled;
        };
  }

  -- The relation after the body moves alone.
  moves_lags : (jobs : List MachineJob) (m q : ℕ) (o : Action) (s : JavaState) → Lags plan cert a body jobs m q s → slice_get body q ≡ Some o → IsWithin (map as_open jobs) body (suc q) → Lags plan cert a body jobs m (suc q) s
  moves_lags jobs m q o s lags e within = record {
    sound = lags.sound;
    stands = lags.stands;
    behind = let le = lags.behind in omega (arith, le);
    inside = slice_get_within body q o e;
    within = λ i le le'. ⊎_elim (λ (earlier : i < suc q). lags.within i le (omega (arith, earlier))) (λ (late : suc q ≤ i). let same : suc q ≡ i = omega (arith, late, le') in subst (IsWithin (map as_open jobs) body) same within) (cases_lt i (suc q));
    own = lags.own;
    slots = lags.slots;
  }

  -- The actor can reach the index of the walk.
  can_reach : (jobs : List MachineJob) (m q : ℕ) (s : JavaState) → Lags plan cert a body jobs m q s → IsQuiet a s → HasReached plan cert a body is_ordered laws jobs m q s
  can_reach jobs m q s lags quiet = reaches plan cert a body is_ordered laws (q - m) jobs m q s (let le = lags.behind in omega (arith, le)) lags quiet

  module _ (kind : ActorKind) (path_state : PathState) (path : List PathStep) where
    -- The machine can follow the rest of the path from each state in the relation with this place of the walk.
    abbrev CanFollow : ℕ → ℕ → List OpenJob → Type 0
    CanFollow q p opens = (jobs : List MachineJob) (m : ℕ) (s : JavaState) → map as_open jobs ≡ opens → Lags plan cert a body jobs m q s → IsQuiet a s → Follows plan a kind path_state body p jobs (drop p path) s

    -- The path submits a job together with the body.
    follow_submit : (one : PathStep) (steps : List PathStep) (jobs : List MachineJob) (opens : List OpenJob) (m q p k : ℕ) (s : JavaState) → map as_open jobs ≡ opens → Lags plan cert a body jobs m q s → IsQuiet a s
        → slice_get body q ≡ Some (action.Submit k) → submits one k ≡ true → IsWithin (opens ++ record { job = p; class = k } ∷ []) body (suc q)
        → ((more : List MachineJob) (m' : ℕ) (s' : JavaState) → map as_open more ≡ opens ++ record { job = p; class = k } ∷ [] → Lags plan cert a body more m' (suc q) s' → IsQuiet a s' → Follows plan a kind path_state body (suc p) more steps s')
        → Follows plan a kind path_state body p jobs (one ∷ steps) s
    follow_submit (step.Gets job) steps jobs opens m q p k s same lags quiet e of_class within next = absurd (false≢true of_class)
    follow_submit (step.Submits classes) steps jobs opens m q p k s same lags quiet e of_class within next = λ s' others.
        let now = others_lag plan cert a body is_ordered laws jobs m q others lags quiet in
        let reach = can_reach jobs m q s' now.0 now.1 in
        record {
          index = q;
          class = k;
          reaches = record { position = m; stands = now.0.stands; after = reach.after; passes = reach.passes };
          submit = e;
          of_class = of_class;
          is_taken = taken_within plan cert a body q k is_ordered laws e reach.after reach.lags.sound reach.lags.stands reach.quiet;
          onward = λ number s'' submitted.
              let new : MachineJob = record { job = p; class = k; number = number } in
              let opened : map as_open (jobs ++ new ∷ []) ≡ opens ++ record { job = p; class = k } ∷ [] = push-as jobs new ∙ ap (λ (xs : List OpenJob). xs ++ as_open new ∷ []) same in
              let after = submitted_lags jobs p q k submitted reach.lags e (subst (λ (xs : List OpenJob). IsWithin xs body (suc q)) (sym opened) within) in
              next (jobs ++ new ∷ []) (suc q) s'' opened after.0 after.1;
        }

    -- The path gets a job.
    follow_get : (steps : List PathStep) (jobs : List MachineJob) (opens : List OpenJob) (job class m q p : ℕ) (s : JavaState) → map as_open jobs ≡ opens → Lags plan cert a body jobs m q s → IsQuiet a s
        → open_class job opens ≡ Some class → MayGet kind body q class
        → ((fewer : List MachineJob) (m' : ℕ) (s' : JavaState) → map as_open fewer ≡ without job opens → Lags plan cert a body fewer m' q s' → IsQuiet a s' → Follows plan a kind path_state body (suc p) fewer steps s')
        → Follows plan a kind path_state body p jobs (step.Gets job ∷ steps) s
    follow_get steps jobs opens job class m q p s same lags quiet is may next = λ s' others.
        let now = others_lag plan cert a body is_ordered laws jobs m q others lags quiet in
        let found = is_open_job job class jobs (ap (open_class job) same ∙ is) in
        let own = now.0.own found.one found.member in
        record {
          one = found.one;
          is_one = found.is_one;
          of_actor = own.of_actor;
          of_class = own.of_class;
          unclaimed = own.unclaimed;
          position = m;
          stands = now.0.stands;
          may_get = subst (MayGet kind body m) (sym found.of_class) (may_get_from kind body m q class now.0.behind may);
          onward = λ done. next (without_job job jobs) m s' (sym (without-as job jobs) ∙ ap (without job) same) (got_lags jobs m q job found.one s' now.0 found.is_one done) now.1;
        }

    follow : {q p : ℕ} {opens : List OpenJob} → Walks kind body path q p opens → CanFollow q p opens → (s : JavaState) → Lags plan cert a body [] 0 0 s → IsQuiet a s → Follows plan a kind path_state body 0 [] path s
    follow starts next s lags quiet = next [] 0 s refl lags quiet
    follow (body_moves {q = q} {p = p} {jobs = opens} o w e within) next s lags quiet =
        follow w
        (λ jobs m s' same lags' quiet'. next jobs m s' same (moves_lags jobs m q o s' lags' e (subst (λ (xs : List OpenJob). IsWithin xs body (suc q)) (sym same) within)) quiet')
        s lags quiet
    follow (both_submit {q = q} {p = p} {jobs = opens} one class w e at of_class within) next s lags quiet =
        follow w
        (λ jobs m s' same lags' quiet'.
        subst (λ (xs : List PathStep). Follows plan a kind path_state body p jobs xs s') (sym (drop_at path p one at))
        (follow_submit one (drop (suc p) path) jobs opens m q p class s' same lags' quiet' e of_class within next))
        s lags quiet
    follow (path_gets {q = q} {p = p} {jobs = opens} job class w at is may within) next s lags quiet =
        follow w
        (λ jobs m s' same lags' quiet'.
        subst (λ (xs : List PathStep). Follows plan a kind path_state body p jobs xs s') (sym (drop_at path p (step.Gets job) at))
        (follow_get (drop (suc p) path) jobs opens job class m q p s' same lags' quiet' is may next))
        s lags quiet

  -- The end of the path.
  end_whole : (kind : ActorKind) (path : List PathStep) (jobs : List MachineJob) (m : ℕ) (s : JavaState) → Lags plan cert a body jobs m (length body) s → IsQuiet a s → Follows plan a kind path_state.Whole body (length path) jobs (drop (length path) path) s
  end_whole kind path jobs m s lags quiet =
      subst (λ (xs : List PathStep). Follows plan a kind path_state.Whole body (length path) jobs xs s) (sym (drop_end path))
      (λ s' others.
      let now = others_lag plan cert a body is_ordered laws jobs m (length body) others lags quiet in
      let reach = can_reach jobs m (length body) s' now.0 now.1 in
      record { position = m; stands = now.0.stands; after = reach.after; passes = reach.passes })

  end_prefix : (kind : ActorKind) (path : List PathStep) (jobs : List MachineJob) (s : JavaState) → Follows plan a kind path_state.Prefix body (length path) jobs (drop (length path) path) s
  end_prefix kind path jobs s = subst (λ (xs : List PathStep). Follows plan a kind path_state.Prefix body (length path) jobs xs s) (sym (drop_end path)) tt

  follow_path : (kind : ActorKind) (path_state : PathState) (path : List PathStep) (s : JavaState) → IsPathOf kind path_state body path → Lags plan cert a body [] 0 0 s → IsQuiet a s → Follows plan a kind path_state body 0 [] path s
  follow_path kind path_state.Whole path s of lags quiet = follow kind path_state.Whole path of.1 (λ jobs m s' same lags' quiet'. end_whole kind path jobs m s' lags' quiet') s lags quiet
  follow_path kind path_state.Prefix path s of lags quiet = follow kind path_state.Prefix path of.2 (λ jobs m s' same lags' quiet'. end_prefix kind path jobs s') s lags quiet

-- The law that the machine can follow each path that matches.
pub paths_are_followed : PathsAreFollowed
paths_are_followed plan cert a kind path_state body path choices s well_formed is_accepted reached begins of =
    let is_ordered = ordered plan well_formed in
    let laws = cert_laws plan cert is_accepted in
    let sound = choices_keep plan (JavaSound plan cert) (choice_keeps plan cert is_ordered laws) choices (without_calls (start plan)) s (java_sound_start plan cert is_ordered) reached in
    follow_path plan cert a body is_ordered laws kind path_state path s of
    (record {
      sound = sound;
      stands = begins.stands;
      behind = omega arith;
      inside = omega arith;
      within = λ i le le' class. omega arith;
      own = λ one i. absurd (not_In_nil i);
      slots = λ t i. absurd (not_In_nil i);
    })
    (λ p. (λ there. false≢true (sym (begins.not_offering p) ∙ there), λ there. false≢true (sym (begins.not_requesting p) ∙ there)))
