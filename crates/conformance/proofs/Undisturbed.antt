-- What choices of others leave as it is: an actor's position, its calls, and its jobs, except that these may run and end.
use Rattle.std.proofs.Common.{◌≡◌, ◌≢◌, ℕ, ◌<◌, ◌≤◌, inl, inr, false, List, [], ◌∷◌, ◌++◌, length, get_or, slice_get, Some, refl, sym, ap, subst, ◌∙◌, arith}
use Rattle.std.specs.Option.{option_map}
use Rattle.std.proofs.lemmas.Bool.{false≢true, cases_eq, eq-eqb}
use Rattle.std.proofs.lemmas.List.{length_push, get_or_append_left}
use Rattle.std.proofs.lemmas.Option.{get_or_from_slice_get, slice_get_within}
use Rattle.support.specs.Places.{places_where, last_of}
use Rattle.support.proofs.Elements.{slice_get-set_same, slice_get-set_other}
use Rattle.support.proofs.LastPlace.{last_where_push_fails}
use Rattle.job_bodies.specs.declared.action.Action.{Action}
use Rattle.job_bodies.specs.Plan.{Plan, client_at}
use Rattle.pool_machine.specs.declared.client_state.ClientState.{ClientState}
use Rattle.pool_machine.specs.declared.parent.Parent.{Parent}
use Rattle.pool_machine.specs.declared.parent.Parent.TheVariants as parent
use Rattle.pool_machine.specs.State.{Stage, State, CreatedJob, no_job, no_client_state, same_parent, is_made_by, job_at, client_state}
use Rattle.pool_machine.specs.Step.{point, point_of_client, point_of_job, moved_jobs, with_position, with_stage, with_job}
use Rattle.pool_machine.proofs.Stages.{staged, length-staged, stage-staged, get_or-staged_same, get_or-staged_other, class-staged, parent-staged, child-stage}
use Rattle.pool_machine.proofs.Positions.{stage_of_standing, standing_made, client_standing}

-- ---- the jobs of an actor
-- Between two lists of jobs, the actor's submits before position m have the same latest jobs. Each job keeps its class and its
-- submitter. A job of the actor that was not got is not got, and one that was done is done.
pub record KeepsJobs (a : Parent) (m : ℕ) (jobs jobs' : List CreatedJob) : Type 0 where
  pub children : (t : ℕ) → t < m → last_of (places_where (is_made_by a t) jobs') ≡ last_of (places_where (is_made_by a t) jobs)
  pub longer : length jobs ≤ length jobs'
  pub classes : (n : ℕ) → n < length jobs → (get_or jobs' n no_job).class ≡ (get_or jobs n no_job).class
  pub parents : (n : ℕ) → n < length jobs → (get_or jobs' n no_job).parent ≡ (get_or jobs n no_job).parent
  pub unclaimed : (n : ℕ) → n < length jobs → (get_or jobs n no_job).parent ≡ a → (get_or jobs n no_job).stage ≢ Stage.Claimed → (get_or jobs' n no_job).stage ≢ Stage.Claimed
  pub done : (n : ℕ) → n < length jobs → (get_or jobs n no_job).parent ≡ a → (get_or jobs n no_job).stage ≡ Stage.Done → (get_or jobs' n no_job).stage ≡ Stage.Done

pub keeps_same : (a : Parent) (m : ℕ) (jobs : List CreatedJob) → KeepsJobs a m jobs jobs
keeps_same a m jobs = record {
  children = λ t lt. refl;
  longer = omega arith;
  classes = λ n inside. refl;
  parents = λ n inside. refl;
  unclaimed = λ n inside own kept. kept;
  done = λ n inside own is. is;
}

pub keeps_both : (a : Parent) (m : ℕ) (first second third : List CreatedJob) → KeepsJobs a m first second → KeepsJobs a m second third → KeepsJobs a m first third
keeps_both a m first second third f g =
    let inside : (n : ℕ) → n < length first → n < length second = λ n lt. let le = f.longer in omega (arith, lt, le) in
    record {
      children = λ t lt. g.children t lt ∙ f.children t lt;
      longer = let le = f.longer in let le' = g.longer in omega (arith, le, le');
      classes = λ n lt. g.classes n (inside n lt) ∙ f.classes n lt;
      parents = λ n lt. g.parents n (inside n lt) ∙ f.parents n lt;
      unclaimed = λ n lt own kept. g.unclaimed n (inside n lt) (f.parents n lt ∙ own) (f.unclaimed n lt own kept);
      done = λ n lt own is. g.done n (inside n lt) (f.parents n lt ∙ own) (f.done n lt own is);
    }

-- The stage of one job changes. If it is the actor's, it is not got, and stays done.
pub keeps_staged : (a : Parent) (m : ℕ) (jobs : List CreatedJob) (j : ℕ) (stage : Stage) → ((get_or jobs j no_job).parent ≡ a → (stage ≢ Stage.Claimed) × ((get_or jobs j no_job).stage ≡ Stage.Done → stage ≡ Stage.Done)) → KeepsJobs a m jobs (staged jobs j stage)
keeps_staged a m jobs j stage allowed = record {
  children = λ t lt. child-stage jobs a t j stage;
  longer = let same = length-staged jobs j stage in omega (arith, same);
  classes = λ n inside. class-staged jobs j stage n no_job;
  parents = λ n inside. parent-staged jobs j stage n no_job;
  unclaimed = λ n inside own kept claimed. elim (cases_eq n j) [
    | inl same ↦ (allowed (ap (λ (i : ℕ). (get_or jobs i no_job).parent) (sym same) ∙ own)).0
        (sym (stage-staged jobs j stage (subst (λ (i : ℕ). i < length jobs) same inside)) ∙ ap (λ (i : ℕ). (get_or (staged jobs j stage) i no_job).stage) (sym same) ∙ claimed)
    | inr other ↦ kept (ap (λ (job : CreatedJob). job.stage) (sym (get_or-staged_other jobs j stage n no_job other)) ∙ claimed)
  ];
  done = λ n inside own is. elim (cases_eq n j) [
    | inl same ↦ ap (λ (i : ℕ). (get_or (staged jobs j stage) i no_job).stage) same ∙ stage-staged jobs j stage (subst (λ (i : ℕ). i < length jobs) same inside)
        ∙ (allowed (ap (λ (i : ℕ). (get_or jobs i no_job).parent) (sym same) ∙ own)).1 (ap (λ (i : ℕ). (get_or jobs i no_job).stage) (sym same) ∙ is)
    | inr other ↦ ap (λ (job : CreatedJob). job.stage) (get_or-staged_other jobs j stage n no_job other) ∙ is
  ];
}

pub at_not_claimed : (i : ℕ) → Stage.At i ≢ Stage.Claimed
at_not_claimed i e = cc

pub at_not_done : (i : ℕ) {stage : Stage} → stage ≡ Stage.At i → stage ≡ Stage.Done → ⊥
at_not_done i at done = cc

pub queued_not_done : {stage : Stage} → stage ≡ Stage.Queued → stage ≡ Stage.Done → ⊥
queued_not_done queued done = cc

pub queued_not_at : (i : ℕ) {stage : Stage} → stage ≡ Stage.Queued → stage ≡ Stage.At i → ⊥
queued_not_at i queued at = cc

pub done_not_claimed : Stage.Done ≢ Stage.Claimed
done_not_claimed e = cc

-- An actor moves in its body.
pub keeps_moved : (plan : Plan) (a : Parent) (m : ℕ) (s : State) (b : Parent) (body : List Action) (i i' : ℕ) → point plan s b ≡ Some (record { body = body; position = i }) → KeepsJobs a m s.jobs (moved_jobs b i' s)
keeps_moved plan a m s (parent.Client c) body i i' stands = keeps_same a m s.jobs
keeps_moved plan a m s (parent.Job j) body i i' stands =
    keeps_staged a m s.jobs j (Stage.At i') (λ own. (at_not_claimed i', λ done. absurd (at_not_done i (stage_of_standing plan (job_at s j).class (job_at s j).stage body i stands).0 done)))

-- A job is created that is of no submit of the actor before position m.
pub keeps_pushed : (a : Parent) (m : ℕ) (jobs : List CreatedJob) (job : CreatedJob) → ((t : ℕ) → t < m → is_made_by a t job ≡ false) → KeepsJobs a m jobs (jobs ++ job ∷ [])
keeps_pushed a m jobs job of_other =
    let as_before : (n : ℕ) → n < length jobs → get_or (jobs ++ job ∷ []) n no_job ≡ get_or jobs n no_job = λ n inside. get_or_append_left jobs (job ∷ []) no_job n inside in
    record {
      children = λ t lt. last_where_push_fails (is_made_by a t) jobs job (of_other t lt);
      longer = let more = length_push jobs job in omega (arith, more);
      classes = λ n inside. ap (λ (x : CreatedJob). x.class) (as_before n inside);
      parents = λ n inside. ap (λ (x : CreatedJob). x.parent) (as_before n inside);
      unclaimed = λ n inside own kept claimed. kept (ap (λ (x : CreatedJob). x.stage) (sym (as_before n inside)) ∙ claimed);
      done = λ n inside own is. ap (λ (x : CreatedJob). x.stage) (as_before n inside) ∙ is;
    }

-- ---- the position of an actor
-- The actor is at this position of the body.
abbrev pub HasPosition : Plan → State → Parent → List Action → ℕ → Type 0
HasPosition plan s a body i = point plan s a ≡ Some (record { body = body; position = i })

-- The actor has moved.
pub has_position_moved : (plan : Plan) (s : State) (a : Parent) (body : List Action) (i i' : ℕ) → HasPosition plan s a body i → HasPosition plan (with_position a i' s) a body i'
has_position_moved plan s (parent.Client c) body i i' stands =
    let before = client_standing plan (slice_get s.clients c) body i stands in
    let moved : ClientState = record (client_state s c) { position = i' } in
    let kind : (client_state s c).kind ≡ before.0.kind = ap (λ (x : ClientState). x.kind) (get_or_from_slice_get s.clients c before.0 no_client_state before.1) in
    ap (option_map (point_of_client plan)) (slice_get-set_same s.clients c moved (slice_get_within s.clients c before.0 before.1))
    ∙ ap (λ (bd : List Action). Some (record { body = bd; position = i' })) (ap (λ (k : ℕ). (client_at plan k).body) kind ∙ sym before.2)
has_position_moved plan s (parent.Job j) body i i' stands =
    let before = stage_of_standing plan (job_at s j).class (job_at s j).stage body i stands in
    let inside = standing_made plan s j body i stands in
    ap (λ (x : CreatedJob). point_of_job plan x.class x.stage) (get_or-staged_same s.jobs j (Stage.At i') inside)
    ∙ ap (λ (bd : List Action). Some (record { body = bd; position = i' })) (sym before.1)

-- Another actor has moved.
pub stands_other : (plan : Plan) (s : State) (a b : Parent) (body : List Action) (i i' : ℕ) → same_parent a b ≡ false → HasPosition plan s a body i → HasPosition plan (with_position b i' s) a body i
stands_other plan s (parent.Client c) (parent.Client d) body i i' other stands =
    ap (option_map (point_of_client plan)) (slice_get-set_other s.clients d c (record (client_state s d) { position = i' }) (λ (same : c ≡ d). false≢true (sym other ∙ eq-eqb c d same))) ∙ stands
stands_other plan s (parent.Client c) (parent.Job k) body i i' other stands = stands
stands_other plan s (parent.Job j) (parent.Client d) body i i' other stands = stands
stands_other plan s (parent.Job j) (parent.Job k) body i i' other stands =
    ap (λ (x : CreatedJob). point_of_job plan x.class x.stage) (get_or-staged_other s.jobs k (Stage.At i') j no_job (λ (same : j ≡ k). false≢true (sym other ∙ eq-eqb j k same))) ∙ stands

-- The stage of a job changes that is not the actor.
pub stands_staged : (plan : Plan) (s : State) (a : Parent) (j : ℕ) (stage : Stage) (body : List Action) (i : ℕ) → a ≢ parent.Job j → HasPosition plan s a body i → HasPosition plan (with_stage j stage s) a body i
stands_staged plan s (parent.Client c) j stage body i other stands = stands
stands_staged plan s (parent.Job n) j stage body i other stands =
    ap (λ (x : CreatedJob). point_of_job plan x.class x.stage) (get_or-staged_other s.jobs j stage n no_job (λ (same : n ≡ j). other (ap parent.Job same))) ∙ stands

pub stands_pushed : (plan : Plan) (s : State) (a : Parent) (job : CreatedJob) (body : List Action) (i : ℕ) → HasPosition plan s a body i → HasPosition plan (with_job job s) a body i
stands_pushed plan s (parent.Client c) job body i stands = stands
stands_pushed plan s (parent.Job n) job body i stands =
    ap (λ (x : CreatedJob). point_of_job plan x.class x.stage) (get_or_append_left s.jobs (job ∷ []) no_job n (standing_made plan s n body i stands)) ∙ stands

-- An actor at a position is no job at another stage.
pub not_that_job : (plan : Plan) (s : State) (a : Parent) (j : ℕ) (body : List Action) (i : ℕ) → ((n : ℕ) → (job_at s j).stage ≢ Stage.At n) → HasPosition plan s a body i → a ≢ parent.Job j
not_that_job plan s (parent.Client c) j body i elsewhere stands same = absurd cc
not_that_job plan s (parent.Job n) j body i elsewhere stands same =
    let at = (stage_of_standing plan (job_at s n).class (job_at s n).stage body i stands).0 in
    let number : n ≡ j = cc in
    elsewhere i (ap (λ (k : ℕ). (job_at s k).stage) (sym number) ∙ at)
