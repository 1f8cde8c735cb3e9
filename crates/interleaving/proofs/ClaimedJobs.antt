-- Every event preserves a property of the jobs of a submit with a get: only the latest of them can be unclaimed.
use Rattle.std.proofs.Common.{◌≡◌, ◌≢◌, ℕ, ◌+◌, ◌<◌, ◌≤◌, true, ⊎_elim, List, [], ◌∷◌, ◌++◌, length, get_or, slice_get, Some, None, refl, sym, ap, subst, ◌∙◌, arith, length-set}
use Rattle.std.proofs.lemmas.Bool.{cases_lt, cases_eq}
use Rattle.std.proofs.lemmas.List.{length_push, get_or_push, get_or_append_left}
use Rattle.std.proofs.lemmas.Option.{slice_get_within, slice_get-get_or, none-some}
use Rattle.support.specs.Places.{places_where, last_of}
use Rattle.job_bodies.specs.declared.action.Action.{Action}
use Rattle.job_bodies.specs.declared.action.Action.TheVariants.{Work, Submit, Get}
use Rattle.job_bodies.specs.Plan.{Plan}
use Rattle.job_bodies.specs.ValidBody.{IsValidBody}
use Rattle.job_bodies.proofs.Bodies.{HasValidBodies}
use Rattle.pool_machine.specs.declared.parent.Parent.{Parent}
use Rattle.pool_machine.specs.declared.parent.Parent.TheVariants as parent
use Rattle.pool_machine.specs.declared.event.Event.{Event}
use Rattle.pool_machine.specs.declared.event.Outcome.{Outcome}
use Rattle.pool_machine.specs.State.{Stage, CreatedJob, State, PoolPart, no_job, is_made_by, child, client_state}
use Rattle.pool_machine.specs.State.Stage.{Queued, At, Done, Claimed}
use Rattle.pool_machine.specs.Step.{point, with_stage, with_position, with_job, new_job, moved_jobs, moved_clients}
use Rattle.pool_machine.specs.Reach.{start}
use Rattle.pool_machine.specs.Laws.{HasGreaterNumber}
use Rattle.pool_machine.proofs.Events.{Happens, works, starts, queues, is_refused, is_rejected, gets, finishes, loops, takes, retires}
use Rattle.pool_machine.proofs.StateInvariant.{StateInvariant}
use Rattle.pool_machine.proofs.Positions.{At≢Claimed, standing_made, client_standing, valid_point}
use Rattle.pool_machine.proofs.Stages.{staged, length-staged, stage-staged, get_or-staged_other, parent-staged, child-moved, HaveParents, parents_moved, parents_pushed}
use Rattle.pool_machine.proofs.Queues.{Queued≢Claimed, IsHead, head_of_queue}
use Rattle.pool_machine.proofs.Children.{maker_of, one_maker, child_is}
use Rattle.pool_machine.proofs.Actors.{same_job, same_client, standing-moved, standing-staged, standing-pushed}
use Rattle.pool_machine.proofs.ActorInvariants.{is_after}
use Rattle.interleaving.proofs.Changes.{job_standing}
use Rattle.interleaving.proofs.OlderAreClaimed.{OlderAreClaimed, QueuedAreChildless, HaveMakers, AllOlderAreClaimed, same_made-staged, same_made-moved, same_made-pushed, older_changes, older_stays, older_none, passes_get, older_submits, older_gets}

-- ---- queued jobs, and the creators of jobs

childless_staged : (jobs : List CreatedJob) (j : ℕ) (stage : Stage) → j < length jobs → stage ≢ Queued → QueuedAreChildless jobs → QueuedAreChildless (staged jobs j stage)
childless_staged jobs j stage inside going childless m n within made queued =
    let long = length-staged jobs j stage in
    let before = sym (parent-staged jobs j stage m no_job) ∙ made in
    ⊎_elim
    (λ (same : n ≡ j). going (sym (ap (λ k. (get_or (staged jobs j stage) k no_job).stage) same ∙ stage-staged jobs j stage inside) ∙ queued))
    (λ (other : n ≢ j). childless m n (omega arith) before (ap (λ (job : CreatedJob). job.stage) (sym (get_or-staged_other jobs j stage n no_job other)) ∙ queued))
    (cases_eq n j)

makers_staged : (jobs : List CreatedJob) (j : ℕ) (stage : Stage) (clients : ℕ) → HaveMakers jobs clients → HaveMakers (staged jobs j stage) clients
makers_staged jobs j stage clients makers m c within made = let long = length-staged jobs j stage in makers m c (omega arith) (sym (parent-staged jobs j stage m no_job) ∙ made)

childless_pushed : (jobs : List CreatedJob) (job : CreatedJob) → HaveParents jobs → HasGreaterNumber job.parent (length jobs) → ((n : ℕ) → job.parent ≡ parent.Job n → (get_or jobs n no_job).stage ≢ Queued) → QueuedAreChildless jobs
    → QueuedAreChildless (jobs ++ job ∷ [])
childless_pushed jobs job parents after at_work childless m n within made queued =
    let jobs' : List CreatedJob = jobs ++ job ∷ [] in
    let long = length_push jobs job in
    let was = λ (inside : n < length jobs). ap (λ (x : CreatedJob). x.stage) (sym (get_or_append_left jobs (job ∷ []) no_job n inside)) ∙ queued in
    ⊎_elim
    (λ (before : m < length jobs).
    let made_by : (get_or jobs m no_job).parent ≡ parent.Job n = ap (λ (x : CreatedJob). x.parent) (sym (get_or_append_left jobs (job ∷ []) no_job m before)) ∙ made in
    let earlier : n < m = subst (λ (a : Parent). HasGreaterNumber a m) made_by (parents m before) in
    childless m n before made_by (was (omega arith)))
    (λ (past : length jobs ≤ m).
    let made_by : job.parent ≡ parent.Job n = ap (λ (x : CreatedJob). x.parent) (sym (get_or_push jobs job no_job m (omega arith))) ∙ made in
    let earlier : n < length jobs = subst (λ (a : Parent). HasGreaterNumber a (length jobs)) made_by after in
    at_work n made_by (was earlier))
    (cases_lt m (length jobs))

makers_pushed : (jobs : List CreatedJob) (job : CreatedJob) (clients : ℕ) → ((c : ℕ) → job.parent ≡ parent.Client c → c < clients) → HaveMakers jobs clients → HaveMakers (jobs ++ job ∷ []) clients
makers_pushed jobs job clients there makers m c within made =
    let long = length_push jobs job in
    ⊎_elim
    (λ (before : m < length jobs). makers m c before (ap (λ (x : CreatedJob). x.parent) (sym (get_or_append_left jobs (job ∷ []) no_job m before)) ∙ made))
    (λ (past : length jobs ≤ m). there c (ap (λ (x : CreatedJob). x.parent) (sym (get_or_push jobs job no_job m (omega arith))) ∙ made))
    (cases_lt m (length jobs))

childless_moved : (plan : Plan) (s : State) (a : Parent) (body : List Action) (i i' : ℕ) → point plan s a ≡ Some (record { body = body; position = i }) → QueuedAreChildless s.jobs → QueuedAreChildless (moved_jobs a i' s)
childless_moved plan s (parent.Client c) body i i' stands childless = childless
childless_moved plan s (parent.Job j) body i i' stands childless = childless_staged s.jobs j (At i') (standing_made plan s j body i stands) (λ e. absurd cc) childless

makers_moved : (s : State) (a : Parent) (i' clients : ℕ) → HaveMakers s.jobs clients → HaveMakers (moved_jobs a i' s) clients
makers_moved s (parent.Client c) i' clients makers = makers
makers_moved s (parent.Job j) i' clients makers = makers_staged s.jobs j (At i') clients makers

length-clients : (s : State) (a : Parent) (i' : ℕ) → length (moved_clients a i' s) ≡ length s.clients
length-clients s (parent.Client c) i' = length-set s.clients c (record (client_state s c) { position = i' })
length-clients s (parent.Job j) i' = refl

-- an actor that is at a position of its body is not a queued job, before or after a move
moved_going : (plan : Plan) (s : State) (a : Parent) (body : List Action) (i i' : ℕ) → point plan s a ≡ Some (record { body = body; position = i }) → (n : ℕ) → a ≡ parent.Job n → (get_or (moved_jobs a i' s) n no_job).stage ≢ Queued
moved_going plan s (parent.Client c) body i i' stands n e queued = absurd cc
moved_going plan s (parent.Job j) body i i' stands n e queued =
    let at : (get_or (moved_jobs (parent.Job j) i' s) n no_job).stage ≡ At i' =
    ap (λ k. (get_or (staged s.jobs j (At i')) k no_job).stage) (sym (same_job j n e)) ∙ stage-staged s.jobs j (At i') (standing_made plan s j body i stands) in
    absurd cc

client_there : (plan : Plan) (s : State) (a : Parent) (body : List Action) (i : ℕ) → point plan s a ≡ Some (record { body = body; position = i }) → (c : ℕ) → a ≡ parent.Client c → c < length s.clients
client_there plan s (parent.Client d) body i stands c e =
    let client = client_standing plan (slice_get s.clients d) body i stands in
    let inside = slice_get_within s.clients d client.0 client.1 in
    let same = same_client d c e in
    omega arith
client_there plan s (parent.Job j) body i stands c e = absurd cc

-- ---- an actor moves

older_at : (jobs : List CreatedJob) (a b : Parent) (body body' : List Action) (i i' : ℕ) → a ≡ b → body ≡ body' → i ≡ i' → OlderAreClaimed jobs b body' i' → OlderAreClaimed jobs a body i
older_at jobs a b body body' i i' same_actor same_body same_position older =
    subst (λ x. OlderAreClaimed jobs x body i) (sym same_actor) (subst (λ x. OlderAreClaimed jobs b x i) (sym same_body) (subst (λ x. OlderAreClaimed jobs b body' x) (sym same_position) older))

settled_moved : (plan : Plan) (s : State) (b : Parent) (body : List Action) (i i' : ℕ) → point plan s b ≡ Some (record { body = body; position = i })
    → ((g t : ℕ) → slice_get body g ≡ Some (Get t) → t < i → i ≤ g → (t < i') × (i' ≤ g)) → AllOlderAreClaimed plan s → AllOlderAreClaimed plan (with_position b i' s)
settled_moved plan s b body i i' stands passes settled =
    let jobs' = moved_jobs b i' s in
    record {
      actors = λ a body' k e. ⊎_elim
          (λ same. older_at jobs' a b body' body k i' same.0 same.1 same.2 (older_changes s.jobs jobs' b body i i' (same_made-moved plan s b body i i' stands b) passes (settled.actors b body i stands)))
          (λ other. older_stays s.jobs jobs' a body' k (same_made-moved plan s b body i i' stands a) (settled.actors a body' k other.1))
          (standing-moved plan s b body i i' stands a body' k e);
      childless = childless_moved plan s b body i i' stands settled.childless;
      makers = subst (HaveMakers jobs') (sym (length-clients s b i')) (makers_moved s b i' (length s.clients) settled.makers);
    }

-- after the end of the body there is no get
none_behind : (body : List Action) (i g t : ℕ) → slice_get body i ≡ None → slice_get body g ≡ Some (Get t) → i ≤ g → ⊥
none_behind body i g t none e above =
    let inside = slice_get_within body g (Get t) e in
    none-some (get_or body i (Work 0)) (sym none ∙ slice_get-get_or body i (Work 0) (omega arith))

-- ---- an actor submits

-- the new job has created no jobs
new_is_childless : (plan : Plan) (s : State) (a : Parent) (body : List Action) (i k : ℕ) (stage : Stage) → StateInvariant plan s → point plan s a ≡ Some (record { body = body; position = i }) → (t j : ℕ)
    → j < length (moved_jobs a (i + 1) s ++ new_job k a i stage ∷ []) → is_made_by (parent.Job (length (moved_jobs a (i + 1) s))) t (get_or (moved_jobs a (i + 1) s ++ new_job k a i stage ∷ []) j no_job) ≡ true → ⊥
new_is_childless plan s a body i k stage kept stands t j inside made =
    let jobs = moved_jobs a (i + 1) s in
    let new = new_job k a i stage in
    let long = length_push jobs new in
    let parents = parents_pushed jobs new (parents_moved s a (i + 1) kept.parents) (is_after plan s a body i (i + 1) stands) in
    let made_by = (maker_of (get_or (jobs ++ new ∷ []) j no_job) (parent.Job (length jobs)) t made).0 in
    let earlier : length jobs < j = subst (λ (b : Parent). HasGreaterNumber b j) (sym made_by) (parents j inside) in
    absurd (omega arith)

settled_submits : (plan : Plan) (s : State) (a : Parent) (body : List Action) (i k : ℕ) (stage : Stage) → IsValidBody plan body → StateInvariant plan s → point plan s a ≡ Some (record { body = body; position = i }) → slice_get body i ≡ Some (Submit k) → stage ≢ Claimed
    → AllOlderAreClaimed plan s → AllOlderAreClaimed plan (with_job (new_job k a i stage) (with_position a (i + 1) s))
settled_submits plan s a body i k stage valid kept stands there unclaimed settled =
    let moved = with_position a (i + 1) s in
    let jobs = moved_jobs a (i + 1) s in
    let new = new_job k a i stage in
    let jobs' : List CreatedJob = jobs ++ new ∷ [] in
    let stays = λ (b : Parent) (body' : List Action) (n : ℕ) (older : OlderAreClaimed s.jobs b body' n). older_stays s.jobs jobs b body' n (same_made-moved plan s a body i (i + 1) stands b) older in
    let clients = length-clients s a (i + 1) in
    record {
      actors = λ b body' n e. ⊎_elim
          (λ now. older_none jobs' b body' n (λ t j inside made. new_is_childless plan s a body i k stage kept stands t j inside (ap (λ x. is_made_by x t (get_or jobs' j no_job)) (sym now.0) ∙ made)))
          (λ before. ⊎_elim
          (λ same. older_at jobs' b a body' body n (i + 1) same.0 same.1 same.2 (older_submits plan jobs a body i k stage valid there unclaimed (stays a body i (settled.actors a body i stands))))
          (λ other. older_stays jobs jobs' b body' n (same_made-pushed jobs new b (λ f. other.0 (sym f))) (stays b body' n (settled.actors b body' n other.1)))
          (standing-moved plan s a body i (i + 1) stands b body' n before))
          (standing-pushed plan moved new b body' n e);
      childless = childless_pushed jobs new (parents_moved s a (i + 1) kept.parents) (is_after plan s a body i (i + 1) stands) (moved_going plan s a body i (i + 1) stands) (childless_moved plan s a body i (i + 1) stands settled.childless);
      makers = makers_pushed jobs new (length moved.clients) (λ c e. let inside = client_there plan s a body i stands c e in omega arith)
          (subst (HaveMakers jobs) (sym clients) (makers_moved s a (i + 1) (length s.clients) settled.makers));
    }

-- ---- an actor gets its job

settled_gets : (plan : Plan) (s : State) (a : Parent) (body : List Action) (i t j : ℕ) → point plan s a ≡ Some (record { body = body; position = i }) → slice_get body i ≡ Some (Get t) → child s a t ≡ Some j
    → AllOlderAreClaimed plan s → AllOlderAreClaimed plan (with_stage j Claimed (with_position a (i + 1) s))
settled_gets plan s a body i t j stands there is_child settled =
    let moved = with_position a (i + 1) s in
    let jobs = moved_jobs a (i + 1) s in
    let jobs' = staged jobs j Claimed in
    let latest : last_of (places_where (is_made_by a t) jobs) ≡ Some j = child-moved s a (i + 1) a t ∙ is_child in
    let found = child_is jobs a t j latest in
    let stays = λ (b : Parent) (body' : List Action) (n : ℕ) (older : OlderAreClaimed s.jobs b body' n). older_stays s.jobs jobs b body' n (same_made-moved plan s a body i (i + 1) stands b) older in
    record {
      actors = λ b body' n e. ⊎_elim
          (λ now. absurd (At≢Claimed {stage = Claimed} {i = n} now.1 refl))
          (λ before. ⊎_elim
          (λ same. older_at jobs' b a body' body n (i + 1) same.0 same.1 same.2 (older_gets jobs a body i t j there latest (stays a body i (settled.actors a body i stands))))
          (λ other. older_stays jobs jobs' b body' n (same_made-staged jobs j Claimed b (λ u made. absurd (other.0 (one_maker (get_or jobs j no_job) b a u t made found.1).0))) (stays b body' n (settled.actors b body' n other.1)))
          (standing-moved plan s a body i (i + 1) stands b body' n before.1))
          (standing-staged plan moved j Claimed b body' n e);
      childless = childless_staged jobs j Claimed found.0 (λ e. absurd cc) (childless_moved plan s a body i (i + 1) stands settled.childless);
      makers = makers_staged jobs j Claimed (length moved.clients) (subst (HaveMakers jobs) (sym (length-clients s a (i + 1))) (makers_moved s a (i + 1) (length s.clients) settled.makers));
    }

-- ---- a job finishes, or is taken

settled_finishes : (plan : Plan) (s : State) (j : ℕ) (body : List Action) (i : ℕ) → point plan s (parent.Job j) ≡ Some (record { body = body; position = i }) → AllOlderAreClaimed plan s → AllOlderAreClaimed plan (with_stage j Done s)
settled_finishes plan s j body i stands settled =
    let at = job_standing plan s j body i stands in
    let jobs' = staged s.jobs j Done in
    record {
      actors = λ b body' n e. ⊎_elim
          (λ now. let f : Done ≡ At n = now.1 in absurd cc)
          (λ before. older_stays s.jobs jobs' b body' n (same_made-staged s.jobs j Done b (λ t made. (At≢Claimed at.1, λ f. absurd cc))) (settled.actors b body' n before.1))
          (standing-staged plan s j Done b body' n e);
      childless = childless_staged s.jobs j Done at.0 (λ f. absurd cc) settled.childless;
      makers = makers_staged s.jobs j Done (length s.clients) settled.makers;
    }

settled_takes : (plan : Plan) (s : State) (p j : ℕ) (rest : List ℕ) → IsHead plan s p j rest → AllOlderAreClaimed plan s → AllOlderAreClaimed plan (with_stage j (At 0) s)
settled_takes plan s p j rest head settled =
    let jobs' = staged s.jobs j (At 0) in
    let long = length-staged s.jobs j (At 0) in
    record {
      actors = λ b body' n e. ⊎_elim
          (λ now. older_none jobs' b body' n (λ t m inside made.
          settled.childless m j (omega arith) (sym (parent-staged s.jobs j (At 0) m no_job) ∙ sym (maker_of (get_or jobs' m no_job) b t made).0 ∙ now.0) head.queued))
          (λ before. older_stays s.jobs jobs' b body' n (same_made-staged s.jobs j (At 0) b (λ t made. (Queued≢Claimed head.queued, λ f. absurd cc))) (settled.actors b body' n before.1))
          (standing-staged plan s j (At 0) b body' n e);
      childless = childless_staged s.jobs j (At 0) head.inside (λ f. absurd cc) settled.childless;
      makers = makers_staged s.jobs j (At 0) (length s.clients) settled.makers;
    }

-- ---- the property holds after every event

settled_put : (plan : Plan) (s : State) (pools : List PoolPart) (refusals : ℕ) → AllOlderAreClaimed plan s → AllOlderAreClaimed plan (record s { pools = pools; refusals = refusals })
settled_put plan s pools refusals settled = record { actors = settled.actors; childless = settled.childless; makers = settled.makers }

pub settled_start : (plan : Plan) → AllOlderAreClaimed plan (start plan)
settled_start plan = record {
  actors = λ a body i stands. older_none [] a body i (λ t j inside made. absurd (omega arith));
  childless = λ j n inside made. absurd (omega arith);
  makers = λ j c inside made. absurd (omega arith);
}

pub settled_step : (plan : Plan) (s s' : State) (o : Outcome) {e : Event} → HasValidBodies plan → StateInvariant plan s → AllOlderAreClaimed plan s → Happens plan s e s' o → AllOlderAreClaimed plan s'
settled_step plan s s' o ordered kept settled (works a body i u at) =
    settled_moved plan s a body i (i + 1) at.stands (λ g t e below above. (omega arith, passes_get body i g t (Work u) at.is_there (λ f. absurd cc) e above)) settled
settled_step plan s s' o ordered kept settled (starts a body i k at below) =
    settled_submits plan s a body i k (At 0) (valid_point plan s a body i ordered at.stands) kept at.stands at.is_there (λ f. absurd cc) settled
settled_step plan s s' o ordered kept settled (queues a body i k at room) =
    let after = settled_submits plan s a body i k Queued (valid_point plan s a body i ordered at.stands) kept at.stands at.is_there (λ f. absurd cc) settled in
    settled_put plan (with_job (new_job k a i Queued) (with_position a (i + 1) s)) s'.pools s'.refusals after
settled_step plan s s' o ordered kept settled (is_refused a body i k at must no_room all_started) = settled_put plan s s.pools (s.refusals + 1) settled
settled_step plan s s' o ordered kept settled (is_rejected a body i k at may) =
    settled_submits plan s a body i k Done (valid_point plan s a body i ordered at.stands) kept at.stands at.is_there (λ f. absurd cc) settled
settled_step plan s s' o ordered kept settled (gets a body i t j at is_child done) = settled_gets plan s a body i t j at.stands at.is_there is_child settled
settled_step plan s s' o ordered kept settled (finishes j body i at) = settled_put plan (with_stage j Done s) s'.pools s'.refusals (settled_finishes plan s j body i at.stands settled)
settled_step plan s s' o ordered kept settled (loops c client body i at is_client repeat) =
    settled_moved plan s (parent.Client c) body i 0 at.stands (λ g t e below above. absurd (none_behind body i g t at.is_there e above)) settled
settled_step plan s s' o ordered kept settled (takes p j queue idle is_queue is_idle) =
    settled_put plan (with_stage j (At 0) s) s'.pools s'.refusals (settled_takes plan s p j queue (head_of_queue plan s p j queue kept is_queue) settled)
settled_step plan s s' o ordered kept settled (retires p idle is_idle not_handed) = settled_put plan s s'.pools s'.refusals settled
