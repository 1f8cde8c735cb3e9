-- If a body has a get for a submit, only the latest job of that submit can be unclaimed.
use Rattle.std.proofs.Common.{◌≡◌, ◌≢◌, ℕ, ◌+◌, ◌<◌, ◌≤◌, true, ◌⊎◌, inl, inr, ⊎_elim, List, [], ◌∷◌, ◌++◌, length, get_or, slice_get, Some, refl, sym, ap, subst, ◌∙◌, arith}
use Rattle.std.specs.Option.{option_map}
use Rattle.std.proofs.lemmas.Bool.{cases_lt, cases_eq, false_from_ne_true}
use Rattle.std.proofs.lemmas.List.{length_push, get_or_push, get_or_append_left, get_or-set_same}
use Rattle.std.proofs.lemmas.Option.{same_Some, slice_get-get_or}
use Rattle.support.specs.Places.{places_where, last_of}
use Rattle.support.proofs.LastPlace.{last_where_push, last_where_push_fails}
use Rattle.job_bodies.specs.declared.action.Action.{Action}
use Rattle.job_bodies.specs.declared.action.Action.TheVariants.{Submit, Get}
use Rattle.job_bodies.specs.Plan.{Plan, class_at}
use Rattle.job_bodies.specs.ValidBody.{IsValidBody}
use Rattle.pool_machine.specs.declared.parent.Parent.{Parent}
use Rattle.pool_machine.specs.declared.parent.Parent.TheVariants as parent
use Rattle.pool_machine.specs.State.{Stage, CreatedJob, State, no_job, no_client_state, job_at, is_unfinished, is_made_by, child}
use Rattle.pool_machine.specs.State.Stage.{Queued, At, Done, Claimed}
use Rattle.pool_machine.specs.Step.{point, point_of_client, point_of_job, moved_jobs, new_job}
use Rattle.pool_machine.proofs.Positions.{At≢Claimed, stage_of_standing}
use Rattle.pool_machine.proofs.Stages.{staged, length-staged, stage-staged, get_or-staged_other, child-stage}
use Rattle.pool_machine.proofs.Children.{maker_of, one_maker, child_is, not_at_slot}
use Rattle.interleaving.specs.LiveView.{may_get}

-- actor a is at position i of its body; of the jobs that it created by a submit with a get, only the latest can be unclaimed
pub record OlderAreClaimed (jobs : List CreatedJob) (a : Parent) (body : List Action) (i : ℕ) : Type 0 where
  -- a job whose submit has a get is claimed, or it is the latest of its submit and the actor has passed the submit but not the get
  pub settled : (g t j : ℕ) → slice_get body g ≡ Some (Get t) → j < length jobs → is_made_by a t (get_or jobs j no_job) ≡ true
      → ((get_or jobs j no_job).stage ≡ Claimed) ⊎ ((t < i) × (i ≤ g) × (last_of (places_where (is_made_by a t) jobs) ≡ Some j))
  -- if a job is claimed, the body has a get of the job's submit
  pub has_get : (t j : ℕ) → j < length jobs → is_made_by a t (get_or jobs j no_job) ≡ true → (get_or jobs j no_job).stage ≡ Claimed → (g : ℕ) × (slice_get body g ≡ Some (Get t))

-- a queued job has created no jobs
abbrev pub QueuedAreChildless : List CreatedJob → Type 0
QueuedAreChildless jobs = (j n : ℕ) → j < length jobs → (get_or jobs j no_job).parent ≡ parent.Job n → (get_or jobs n no_job).stage ≢ Queued

-- each client that created a job exists
abbrev pub HaveMakers : List CreatedJob → ℕ → Type 0
HaveMakers jobs clients = (j c : ℕ) → j < length jobs → (get_or jobs j no_job).parent ≡ parent.Client c → c < clients

pub record AllOlderAreClaimed (plan : Plan) (s : State) : Type 0 where
  pub actors : (a : Parent) (body : List Action) (i : ℕ) → point plan s a ≡ Some (record { body = body; position = i }) → OlderAreClaimed s.jobs a body i
  pub childless : QueuedAreChildless s.jobs
  pub makers : HaveMakers s.jobs (length s.clients)

-- ---- consequences

-- while a job of a submit is unclaimed, the latest job of that submit is unclaimed too
older_latest : (jobs : List CreatedJob) (a : Parent) (body : List Action) (i t j m : ℕ) → OlderAreClaimed jobs a body i → j < length jobs → is_made_by a t (get_or jobs j no_job) ≡ true → (get_or jobs j no_job).stage ≢ Claimed
    → last_of (places_where (is_made_by a t) jobs) ≡ Some m → (get_or jobs m no_job).stage ≢ Claimed
older_latest jobs a body i t j m older inside made unclaimed e claimed =
    let last = child_is jobs a t m e in
    let get = older.has_get t m last.0 last.1 claimed in
    ⊎_elim unclaimed (λ latest. unclaimed (ap (λ k. (get_or jobs k no_job).stage) (same_Some j m (sym latest.2 ∙ e)) ∙ claimed)) (older.settled get.0 t j get.1 inside made)

-- if an unfinished job has an unclaimed job of a submit, its latest job of that submit is unclaimed too
unfinished_latest : (plan : Plan) (s : State) (n t j m : ℕ) → AllOlderAreClaimed plan s → (stage : Stage) → (job_at s n).stage ≡ stage → is_unfinished stage ≡ true → j < length s.jobs → is_made_by (parent.Job n) t (job_at s j) ≡ true → (job_at s j).stage ≢ Claimed
    → child s (parent.Job n) t ≡ Some m → (job_at s m).stage ≢ Claimed
unfinished_latest plan s n t j m settled Queued e asks inside made unclaimed is_child =
    absurd (settled.childless j n inside (sym (maker_of (job_at s j) (parent.Job n) t made).0) e)
unfinished_latest plan s n t j m settled (At i) e asks inside made unclaimed is_child =
    let body = (class_at plan (job_at s n).class).body in
    let stands : point plan s (parent.Job n) ≡ Some (record { body = body; position = i }) = ap (point_of_job plan (job_at s n).class) e in
    older_latest s.jobs (parent.Job n) body i t j m (settled.actors (parent.Job n) body i stands) inside made unclaimed is_child
unfinished_latest plan s n t j m settled Done e asks inside made unclaimed is_child = absurd cc
unfinished_latest plan s n t j m settled Claimed e asks inside made unclaimed is_child = absurd cc

-- if an actor that may still get its jobs has an unclaimed job of a submit, its latest job of that submit is unclaimed too
pub latest_unclaimed : (plan : Plan) (s : State) (a : Parent) (t j m : ℕ) → AllOlderAreClaimed plan s → may_get s a ≡ true → j < length s.jobs → is_made_by a t (job_at s j) ≡ true → (job_at s j).stage ≢ Claimed
    → child s a t ≡ Some m → (job_at s m).stage ≢ Claimed
latest_unclaimed plan s (parent.Client c) t j m settled asks inside made unclaimed e =
    let there = settled.makers j c inside (sym (maker_of (job_at s j) (parent.Client c) t made).0) in
    let client = get_or s.clients c no_client_state in
    let at = point_of_client plan client in
    let stands : point plan s (parent.Client c) ≡ Some at = ap (option_map (point_of_client plan)) (slice_get-get_or s.clients c no_client_state there) in
    older_latest s.jobs (parent.Client c) at.body at.position t j m (settled.actors (parent.Client c) at.body at.position stands) inside made unclaimed e
latest_unclaimed plan s (parent.Job n) t j m settled asks inside made unclaimed e = unfinished_latest plan s n t j m settled (job_at s n).stage refl asks inside made unclaimed e

-- ---- changes that leave an actor's jobs unchanged

-- job j existed before with the same parent and slot, and it is claimed afterwards exactly when it was claimed before
pub record WasMade (jobs jobs' : List CreatedJob) (a : Parent) (t j : ℕ) : Type 0 where
  pub inside : j < length jobs
  pub made : is_made_by a t (get_or jobs j no_job) ≡ true
  pub stays : (get_or jobs j no_job).stage ≡ Claimed → (get_or jobs' j no_job).stage ≡ Claimed
  pub was : (get_or jobs' j no_job).stage ≡ Claimed → (get_or jobs j no_job).stage ≡ Claimed

pub record SameMade (jobs jobs' : List CreatedJob) (a : Parent) : Type 0 where
  pub each : (t j : ℕ) → j < length jobs' → is_made_by a t (get_or jobs' j no_job) ≡ true → WasMade jobs jobs' a t j
  pub last : (t : ℕ) → last_of (places_where (is_made_by a t) jobs') ≡ last_of (places_where (is_made_by a t) jobs)

was_as_it_is : (jobs jobs' : List CreatedJob) (a : Parent) (t j : ℕ) → get_or jobs' j no_job ≡ get_or jobs j no_job → j < length jobs → is_made_by a t (get_or jobs' j no_job) ≡ true → WasMade jobs jobs' a t j
was_as_it_is jobs jobs' a t j same inside made = record {
  inside = inside;
  made = ap (is_made_by a t) (sym same) ∙ made;
  stays = λ claimed. ap (λ (job : CreatedJob). job.stage) same ∙ claimed;
  was = λ claimed. ap (λ (job : CreatedJob). job.stage) (sym same) ∙ claimed;
}

was_staged : (jobs : List CreatedJob) (j : ℕ) (stage : Stage) (a : Parent) (t : ℕ) → (is_made_by a t (get_or jobs j no_job) ≡ true → ((get_or jobs j no_job).stage ≢ Claimed) × (stage ≢ Claimed)) → j < length jobs
    → is_made_by a t (get_or (staged jobs j stage) j no_job) ≡ true → WasMade jobs (staged jobs j stage) a t j
was_staged jobs j stage a t unclaimed inside made =
    let before : is_made_by a t (get_or jobs j no_job) ≡ true = ap (is_made_by a t) (sym (get_or-set_same jobs j (record (get_or jobs j no_job) { stage = stage }) no_job inside)) ∙ made in
    record {
      inside = inside;
      made = before;
      stays = λ claimed. absurd ((unclaimed before).0 claimed);
      was = λ claimed. absurd ((unclaimed before).1 (sym (stage-staged jobs j stage inside) ∙ claimed));
    }

-- a change of one job's stage changes neither the jobs of actor a nor whether they are claimed, if the actor did not create that job, or if
-- the job is claimed neither before nor after the change
pub same_made-staged : (jobs : List CreatedJob) (j : ℕ) (stage : Stage) (a : Parent) → ((t : ℕ) → is_made_by a t (get_or jobs j no_job) ≡ true → ((get_or jobs j no_job).stage ≢ Claimed) × (stage ≢ Claimed)) → SameMade jobs (staged jobs j stage) a
same_made-staged jobs j stage a unclaimed =
    let long = length-staged jobs j stage in
    record {
      each = λ t n inside made. ⊎_elim
          (λ (same : n ≡ j).
          let here = was_staged jobs j stage a t (unclaimed t) (omega arith) (ap (λ k. is_made_by a t (get_or (staged jobs j stage) k no_job)) (sym same) ∙ made) in
          subst (λ k. WasMade jobs (staged jobs j stage) a t k) (sym same) here)
          (λ (other : n ≢ j). was_as_it_is jobs (staged jobs j stage) a t n (get_or-staged_other jobs j stage n no_job other) (omega arith) made)
          (cases_eq n j);
      last = λ t. child-stage jobs a t j stage;
    }

pub same_made-moved : (plan : Plan) (s : State) (b : Parent) (body : List Action) (i i' : ℕ) → point plan s b ≡ Some (record { body = body; position = i }) → (a : Parent) → SameMade s.jobs (moved_jobs b i' s) a
same_made-moved plan s (parent.Client c) body i i' stands a = record { each = λ t j inside made. was_as_it_is s.jobs s.jobs a t j refl inside made; last = λ t. refl }
same_made-moved plan s (parent.Job j) body i i' stands a =
    let at = (stage_of_standing plan (job_at s j).class (job_at s j).stage body i stands).0 in
    same_made-staged s.jobs j (At i') a (λ t made. (At≢Claimed at, At≢Claimed refl))

-- the jobs of actor a are unchanged if another actor creates a job
pub same_made-pushed : (jobs : List CreatedJob) (job : CreatedJob) (a : Parent) → job.parent ≢ a → SameMade jobs (jobs ++ job ∷ []) a
same_made-pushed jobs job a other =
    let long = length_push jobs job in
    record {
      each = λ t n inside made. ⊎_elim
          (λ (before : n < length jobs). was_as_it_is jobs (jobs ++ job ∷ []) a t n (get_or_append_left jobs (job ∷ []) no_job n before) before made)
          (λ (past : length jobs ≤ n). absurd (other (sym (maker_of job a t (ap (is_made_by a t) (sym (get_or_push jobs job no_job n (omega arith))) ∙ made)).0)))
          (cases_lt n (length jobs));
      last = λ t. last_where_push_fails (is_made_by a t) jobs job (false_from_ne_true (is_made_by a t job) (λ made. other (sym (maker_of job a t made).0)));
    }

-- ---- changes that keep the property of an actor

pub older_changes : (jobs jobs' : List CreatedJob) (a : Parent) (body : List Action) (i i' : ℕ) → SameMade jobs jobs' a → ((g t : ℕ) → slice_get body g ≡ Some (Get t) → t < i → i ≤ g → (t < i') × (i' ≤ g)) → OlderAreClaimed jobs a body i → OlderAreClaimed jobs' a body i'
older_changes jobs jobs' a body i i' same passes older = record {
  settled = λ g t j e inside made.
      let before = same.each t j inside made in
      ⊎_elim (λ claimed. inl (before.stays claimed)) (λ latest. let place = passes g t e latest.0 latest.1 in inr (place.0, place.1, same.last t ∙ latest.2)) (older.settled g t j e before.inside before.made);
  has_get = λ t j inside made claimed. let before = same.each t j inside made in older.has_get t j before.inside before.made (before.was claimed);
}

pub older_stays : (jobs jobs' : List CreatedJob) (a : Parent) (body : List Action) (i : ℕ) → SameMade jobs jobs' a → OlderAreClaimed jobs a body i → OlderAreClaimed jobs' a body i
older_stays jobs jobs' a body i same older = older_changes jobs jobs' a body i i same (λ g t e below above. (below, above)) older

-- `OlderAreClaimed` holds for an actor that created no job
pub older_none : (jobs : List CreatedJob) (a : Parent) (body : List Action) (i : ℕ) → ((t j : ℕ) → j < length jobs → is_made_by a t (get_or jobs j no_job) ≡ true → ⊥) → OlderAreClaimed jobs a body i
older_none jobs a body i none = record {
  settled = λ g t j e inside made. absurd (none t j inside made);
  has_get = λ t j inside made claimed. absurd (none t j inside made);
}

-- a get at position i or later is later than i if the action at i is not this get
pub passes_get : (body : List Action) (i g t : ℕ) (there : Action) → slice_get body i ≡ Some there → there ≢ Get t → slice_get body g ≡ Some (Get t) → i ≤ g → i + 1 ≤ g
passes_get body i g t there is_there other e above =
    ⊎_elim (λ (same : i ≡ g). absurd (other (same_Some there (Get t) (sym is_there ∙ ap (slice_get body) same ∙ e)))) (λ (apart : i ≢ g). omega arith) (cases_eq i g)

-- `OlderAreClaimed` holds after the actor submits a job at position i
pub older_submits : (plan : Plan) (jobs : List CreatedJob) (a : Parent) (body : List Action) (i k : ℕ) (stage : Stage) → IsValidBody plan body → slice_get body i ≡ Some (Submit k) → stage ≢ Claimed → OlderAreClaimed jobs a body i
    → OlderAreClaimed (jobs ++ new_job k a i stage ∷ []) a body (i + 1)
older_submits plan jobs a body i k stage valid there unclaimed older =
    let new = new_job k a i stage in
    let jobs' : List CreatedJob = jobs ++ new ∷ [] in
    let long = length_push jobs new in
    let same = λ (j : ℕ) (before : j < length jobs). get_or_append_left jobs (new ∷ []) no_job j before in
    let last = λ (j : ℕ) (is_last : length jobs ≡ j). get_or_push jobs new no_job j is_last in
    record {
      settled = λ g t j e inside made. ⊎_elim
          (λ (before : j < length jobs). ⊎_elim
          (λ claimed. inl (ap (λ (job : CreatedJob). job.stage) (same j before) ∙ claimed))
          (λ latest.
          let above = passes_get body i g t (Submit k) there (λ f. absurd cc) e latest.1 in
          let below : t < i = latest.0 in
          let other = not_at_slot k a i stage t (λ (f : t ≡ i). omega arith) in
          inr (omega arith, above, last_where_push_fails (is_made_by a t) jobs new other ∙ latest.2))
          (older.settled g t j e before (ap (is_made_by a t) (sym (same j before)) ∙ made)))
          (λ (past : length jobs ≤ j).
          let is_last : length jobs ≡ j = omega arith in
          let here : is_made_by a t new ≡ true = ap (is_made_by a t) (sym (last j is_last)) ∙ made in
          let slot : t ≡ i = (maker_of new a t here).1 in
          let behind = valid.behind g t e in
          inr (omega arith, omega arith, last_where_push (is_made_by a t) jobs new here ∙ ap Some is_last))
          (cases_lt j (length jobs));
      has_get = λ t j inside made claimed. ⊎_elim
          (λ (before : j < length jobs). older.has_get t j before (ap (is_made_by a t) (sym (same j before)) ∙ made) (ap (λ (job : CreatedJob). job.stage) (sym (same j before)) ∙ claimed))
          (λ (past : length jobs ≤ j). let is_last : length jobs ≡ j = omega arith in absurd (unclaimed (ap (λ (job : CreatedJob). job.stage) (sym (last j is_last)) ∙ claimed)))
          (cases_lt j (length jobs));
    }

-- `OlderAreClaimed` holds after the actor, at position i, gets the latest job that it created at position t
pub older_gets : (jobs : List CreatedJob) (a : Parent) (body : List Action) (i t j : ℕ) → slice_get body i ≡ Some (Get t) → last_of (places_where (is_made_by a t) jobs) ≡ Some j → OlderAreClaimed jobs a body i → OlderAreClaimed (staged jobs j Claimed) a body (i + 1)
older_gets jobs a body i t j there latest older =
    let jobs' = staged jobs j Claimed in
    let long = length-staged jobs j Claimed in
    let found = child_is jobs a t j latest in
    record {
      settled = λ g u n e inside made. ⊎_elim
          (λ (same : n ≡ j). inl (ap (λ k. (get_or jobs' k no_job).stage) same ∙ stage-staged jobs j Claimed found.0))
          (λ (other : n ≢ j).
          let as_before = get_or-staged_other jobs j Claimed n no_job other in
          ⊎_elim (λ claimed. inl (ap (λ (job : CreatedJob). job.stage) as_before ∙ claimed))
          (λ last.
          let another : Get t ≢ Get u = λ f. let slot : t ≡ u = cc f in other (same_Some n j (sym last.2 ∙ ap (λ v. last_of (places_where (is_made_by a v) jobs)) (sym slot) ∙ latest)) in
          let above = passes_get body i g u (Get t) there another e last.1 in
          let below : u < i = last.0 in
          inr (omega arith, above, child-stage jobs a u j Claimed ∙ last.2))
          (older.settled g u n e (omega arith) (ap (is_made_by a u) (sym as_before) ∙ made)))
          (cases_eq n j);
      has_get = λ u n inside made claimed. ⊎_elim
          (λ (same : n ≡ j).
          let here : is_made_by a u (get_or jobs' j no_job) ≡ true = ap (λ k. is_made_by a u (get_or jobs' k no_job)) (sym same) ∙ made in
          let before : is_made_by a u (get_or jobs j no_job) ≡ true = ap (is_made_by a u) (sym (get_or-set_same jobs j (record (get_or jobs j no_job) { stage = Claimed }) no_job found.0)) ∙ here in
          let slot = (one_maker (get_or jobs j no_job) a a u t before found.1).1 in
          (i, there ∙ ap (λ v. Some (Get v)) (sym slot)))
          (λ (other : n ≢ j).
          let as_before = get_or-staged_other jobs j Claimed n no_job other in
          older.has_get u n (omega arith) (ap (is_made_by a u) (sym as_before) ∙ made) (ap (λ (job : CreatedJob). job.stage) (sym as_before) ∙ claimed))
          (cases_eq n j);
    }
