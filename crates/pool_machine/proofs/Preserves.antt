-- Changes of a state that preserve a set of jobs, and the pools in whose queues they wait.
use Rattle.std.proofs.Common.{◌≡◌, ◌≢◌, ℕ, zero, suc, ◌<◌, true, false, inl, inr, List, [], ◌∷◌, ◌++◌, length, get_or, set, refl, sym, ap, ◌∙◌, arith}
use Rattle.std.proofs.lemmas.Bool.{false≢true, cases_lt, cases_eq}
use Rattle.std.proofs.lemmas.List.{length_push, get_or-set_other, get_or_append_left, get_or_push, get_or_past}
use Rattle.support.proofs.LastPlace.{last_where_push_fails}
use Rattle.job_bodies.specs.declared.action.Action.{Action}
use Rattle.job_bodies.specs.Plan.{Plan}
use Rattle.pool_machine.specs.declared.client_state.ClientState.{ClientState}
use Rattle.pool_machine.specs.declared.parent.Parent.{Parent}
use Rattle.pool_machine.specs.declared.parent.Parent.TheVariants as parent
use Rattle.pool_machine.specs.State.{Stage, State, CreatedJob, PoolPart, no_job, no_pool_part, job_at, pool_part, client_state, is_at, is_busy_in, busy, child, is_made_by}
use Rattle.pool_machine.specs.Step.{with_stage, with_position, with_job}
use Rattle.pool_machine.specs.Waiting.{IsMember}
use Rattle.pool_machine.proofs.Events.{with_part}
use Rattle.pool_machine.proofs.Positions.{stage_of_standing, standing_made}
use Rattle.pool_machine.proofs.Stages.{staged, get_or-staged_same, get_or-staged_other, child-stage}
use Rattle.pool_machine.proofs.Busy.{busy_in-as, busy-staged_same, busy_push_same}
use Rattle.pool_machine.proofs.Actors.{IsAtPosition}

-- pool p has in s' as many idle workers and running jobs as in s, and each job that runs in it in s' ran in it in s
pub record SamePool (plan : Plan) (s s' : State) (p : ℕ) : Type 0 where
  pub idle : (pool_part s' p).idle ≡ (pool_part s p).idle
  pub busy_as_many : busy plan s' p ≡ busy plan s p
  pub were_busy : (n : ℕ) → is_busy_in plan p (job_at s' n) ≡ true → is_busy_in plan p (job_at s n) ≡ true

-- the members, their latest jobs and the pools in `among` are the same in s' as in s
pub record Preserves (plan : Plan) (members : List ℕ) (among : ℕ → Type 0) (s s' : State) : Type 0 where
  pub jobs : (j : ℕ) → IsMember members j → job_at s' j ≡ job_at s j
  pub children : (j t : ℕ) → IsMember members j → child s' (parent.Job j) t ≡ child s (parent.Job j) t
  pub pools : (p : ℕ) → among p → SamePool plan s s' p

-- the actor is not a member
abbrev pub IsOutside : List ℕ → Parent → Type 0
IsOutside members a = (j : ℕ) → IsMember members j → a ≢ parent.Job j

-- ---- the pools

same_pool_twice : (plan : Plan) (s s₁ s₂ : State) (p : ℕ) → SamePool plan s s₁ p → SamePool plan s₁ s₂ p → SamePool plan s s₂ p
same_pool_twice plan s s₁ s₂ p one two = record {
  idle = two.idle ∙ one.idle;
  busy_as_many = two.busy_as_many ∙ one.busy_as_many;
  were_busy = λ n at_work. one.were_busy n (two.were_busy n at_work);
}

-- if a job runs in a pool after a new stage exactly when it did before, the new stage preserves the pool
same_pool-staged : (plan : Plan) (s : State) (m : ℕ) (stage : Stage) (p : ℕ) → m < length s.jobs → is_busy_in plan p (record (job_at s m) { stage = stage }) ≡ is_busy_in plan p (job_at s m) → SamePool plan s (with_stage m stage s) p
same_pool-staged plan s m stage p inside same =
    let job : CreatedJob = record (job_at s m) { stage = stage } in
    record {
      idle = refl;
      busy_as_many = busy-staged_same plan s.jobs m stage p same;
      were_busy = λ n at_work. elim (cases_eq n m) [
        | inl itself ↦
            let is_job : job_at (with_stage m stage s) n ≡ job = ap (λ (x : ℕ). get_or (staged s.jobs m stage) x no_job) itself ∙ get_or-staged_same s.jobs m stage inside in
            ap (λ (x : ℕ). is_busy_in plan p (job_at s x)) itself ∙ sym same ∙ sym (ap (is_busy_in plan p) is_job) ∙ at_work
        | inr other ↦ sym (ap (is_busy_in plan p) (get_or-staged_other s.jobs m stage n no_job other)) ∙ at_work
      ];
    }

-- a new job preserves each pool in which it does not run
same_pool-pushed : (plan : Plan) (s : State) (job : CreatedJob) (p : ℕ) → is_busy_in plan p job ≡ false → SamePool plan s (with_job job s) p
same_pool-pushed plan s job p elsewhere =
    record {
      idle = refl;
      busy_as_many = busy_push_same plan s.jobs job p elsewhere;
      were_busy = λ n at_work. elim (cases_lt n (length s.jobs)) [
        | inl earlier ↦ sym (ap (is_busy_in plan p) (get_or_append_left s.jobs (job ∷ []) no_job n earlier)) ∙ at_work
        | inr past ↦ elim (cases_eq n (length s.jobs)) [
          | inl last ↦ absurd (false≢true (sym elsewhere ∙ sym (ap (is_busy_in plan p) (get_or_push s.jobs job no_job n (sym last))) ∙ at_work))
          | inr beyond ↦ absurd (false≢true (sym (ap (is_busy_in plan p) (get_or_past (s.jobs ++ job ∷ []) n no_job (omega (arith, length_push s.jobs job)))) ∙ at_work))
        ]
      ];
    }

-- a change of pool q does not change the idle workers of another pool
pub idle_elsewhere : (s : State) (q : ℕ) (queue : List ℕ) (idle p : ℕ) → p ≢ q → (pool_part (with_part q queue idle s) p).idle ≡ (pool_part s p).idle
idle_elsewhere s q queue idle p other = ap (λ (part : PoolPart). part.idle) (get_or-set_other s.pools q p (record { queue = queue; idle = idle }) no_pool_part other)

-- a new queue of a pool does not change the idle workers of any pool
pub idle_as_before : (parts : List PoolPart) (q : ℕ) (queue : List ℕ) (p : ℕ) → (get_or (set parts q (record { queue = queue; idle = (get_or parts q no_pool_part).idle })) p no_pool_part).idle ≡ (get_or parts p no_pool_part).idle
idle_as_before [] q queue p = refl
idle_as_before (x ∷ xs) zero queue zero = refl
idle_as_before (x ∷ xs) zero queue (suc p) = refl
idle_as_before (x ∷ xs) (suc q) queue zero = refl
idle_as_before (x ∷ xs) (suc q) queue (suc p) = idle_as_before xs q queue p

-- ---- the changes that make up an event

module _ (plan : Plan) (members : List ℕ) (among : ℕ → Type 0) where
  -- two changes that preserve the members and pools, in order, preserve them
  pub leaves_twice : (s s₁ s₂ : State) → Preserves plan members among s s₁ → Preserves plan members among s₁ s₂ → Preserves plan members among s s₂
  leaves_twice s s₁ s₂ first second = record {
    jobs = λ j member. second.jobs j member ∙ first.jobs j member;
    children = λ j t member. second.children j t member ∙ first.children j t member;
    pools = λ p is_among. same_pool_twice plan s s₁ s₂ p (first.pools p is_among) (second.pools p is_among);
  }

  -- a new queue and new idle workers of pool q preserve the members and pools if they do not change the number of idle workers of a pool in
  -- `among`
  pub leaves-part : (s : State) (q : ℕ) (queue : List ℕ) (idle : ℕ) → ((p : ℕ) → among p → (pool_part (with_part q queue idle s) p).idle ≡ (pool_part s p).idle) → Preserves plan members among s (with_part q queue idle s)
  leaves-part s q queue idle same = record {
    jobs = λ j member. refl;
    children = λ j t member. refl;
    pools = λ p is_among. record { idle = same p is_among; busy_as_many = refl; were_busy = λ n at_work. at_work };
  }

  -- new clients and a new number of refusals preserve the members and pools
  pub leaves-clients : (s : State) (clients : List ClientState) (refusals : ℕ) → Preserves plan members among s (record s { clients = clients; refusals = refusals })
  leaves-clients s clients refusals =
      record { jobs = λ j member. refl; children = λ j t member. refl; pools = λ p is_among. record { idle = refl; busy_as_many = refl; were_busy = λ n at_work. at_work } }

  -- a new stage of a job that is not a member preserves the members and pools if the job runs in pools in `among` exactly when it did
  -- before
  pub leaves-staged : (s : State) (m : ℕ) (stage : Stage) → m < length s.jobs → ¬ IsMember members m → ((p : ℕ) → among p → is_busy_in plan p (record (job_at s m) { stage = stage }) ≡ is_busy_in plan p (job_at s m)) → Preserves plan members among s (with_stage m stage s)
  leaves-staged s m stage inside outside same = record {
    jobs = λ j member. get_or-staged_other s.jobs m stage j no_job (λ (itself : j ≡ m). outside (rw itself at member));
    children = λ j t member. child-stage s.jobs (parent.Job j) t m stage;
    pools = λ p is_among. same_pool-staged plan s m stage p inside (same p is_among);
  }

  -- a move of an actor that is not a member preserves the members and pools
  pub leaves-moved : (s : State) (a : Parent) (body : List Action) (i i' : ℕ) → IsAtPosition plan s a body i → IsOutside members a → Preserves plan members among s (with_position a i' s)
  leaves-moved s (parent.Client c) body i i' stands outside = leaves-clients s (set s.clients c (record (client_state s c) { position = i' })) s.refusals
  leaves-moved s (parent.Job m) body i i' stands outside =
      let was = stage_of_standing plan (job_at s m).class (job_at s m).stage body i stands in
      leaves-staged s m (Stage.At i') (standing_made plan s m body i stands) (λ member. outside m member refl)
      (λ p is_among. busy_in-as plan p (job_at s m) (Stage.At i') (sym (ap is_at was.0)))

  -- a new job preserves the members and pools if no member created it and it does not run in a pool in `among`
  pub leaves-pushed : (s : State) (job : CreatedJob) → ((j : ℕ) → IsMember members j → j < length s.jobs) → ((j t : ℕ) → IsMember members j → is_made_by (parent.Job j) t job ≡ false) → ((p : ℕ) → among p → is_busy_in plan p job ≡ false)
      → Preserves plan members among s (with_job job s)
  leaves-pushed s job made of_others elsewhere = record {
    jobs = λ j member. get_or_append_left s.jobs (job ∷ []) no_job j (made j member);
    children = λ j t member. last_where_push_fails (is_made_by (parent.Job j) t) s.jobs job (of_others j t member);
    pools = λ p is_among. same_pool-pushed plan s job p (elsewhere p is_among);
  }
