-- Proofs that full waiting sets are permanent: no event moves a member, gives its pool an idle worker or starts another job in its pool.
use Rattle.std.proofs.Common.{◌≡◌, ◌≢◌, ℕ, suc, ◌+◌, ◌<◌, inl, inr, true, false, eqb, List, [], ◌∷◌, ◌++◌, length, slice_get, Option, Some, None, refl, sym, ap, subst, ◌∙◌, arith}
use Rattle.std.proofs.lemmas.Bool.{false≢true, and_parts, eqb-true, ne_eqb, and_from, eq-eqb}
use Rattle.std.proofs.lemmas.Option.{same_Some}
use Rattle.job_bodies.specs.declared.action.Action.{Action}
use Rattle.job_bodies.specs.declared.action.Action.TheVariants as action
use Rattle.job_bodies.specs.Plan.{Plan, pool_at, class_at}
use Rattle.job_bodies.proofs.Bodies.{HasValidBodies}
use Rattle.pool_machine.specs.declared.parent.Parent.{Parent}
use Rattle.pool_machine.specs.declared.parent.Parent.TheVariants as parent
use Rattle.pool_machine.specs.declared.event.Event.{Event}
use Rattle.pool_machine.specs.declared.event.Outcome.{Outcome}
use Rattle.pool_machine.specs.State.{Stage, State, CreatedJob, job_at, pool_part, pool_of, is_at, is_queued, is_queued_in, is_busy_in, threads, child}
use Rattle.pool_machine.specs.Step.{with_stage, with_position, with_job, new_job, finished_job}
use Rattle.pool_machine.specs.Waiting.{IsMember, WaitsAtGet, WaitsAtStage, IsWaitingSet}
use Rattle.pool_machine.specs.FullWaitingSets.{WhereMembersQueue, HasMaxThreads, IsFull, IsFixed, IsFullWaitingSet, StaysFull}
use Rattle.pool_machine.proofs.Events.{IsAtAction, MayStart, with_part, Happens, works, starts, queues, is_refused, is_rejected, gets, finishes, loops, takes, retires}
use Rattle.pool_machine.proofs.Positions.{stage_of_standing, standing_made, job_made}
use Rattle.pool_machine.proofs.StateInvariant.{StateInvariant}
use Rattle.pool_machine.proofs.Stages.{length-moved}
use Rattle.pool_machine.proofs.Children.{not_by_other}
use Rattle.pool_machine.proofs.Queues.{queued_stage, head_of_queue, pool_of_made, queued_in_queue}
use Rattle.pool_machine.proofs.Busy.{busy_in-as, busy_in_other, busy_in_own}
use Rattle.pool_machine.proofs.InvariantSubmits.{class_exists, room_for_thread}
use Rattle.pool_machine.proofs.InvariantStep.{done_still, kept_step}
use Rattle.pool_machine.proofs.EnoughThreads.{HaveThreads}
use Rattle.pool_machine.proofs.Preserves.{SamePool, Preserves, IsOutside, leaves_twice, leaves-clients, leaves-staged, leaves-moved, leaves-pushed, leaves-part, idle_elsewhere, idle_as_before}

-- a queued job is queued in the pool of its class
queued_in_own : (plan : Plan) (job : CreatedJob) → is_queued job.stage ≡ true → is_queued_in plan (pool_of plan job.class) job ≡ true
queued_in_own plan job queued = and_from (is_queued job.stage) (eqb (pool_of plan job.class) (pool_of plan job.class)) queued (eq-eqb (pool_of plan job.class) (pool_of plan job.class) refl)

-- equal gets name the same submit
same_get : (t u : ℕ) → Some (action.Get t) ≡ Some (action.Get u) → t ≡ u
same_get t u e = cc

-- ---- the members of a waiting set

module _ (plan : Plan) (s : State) (members : List ℕ) (waiting : IsWaitingSet plan s members) where
  -- a member at this stage waits as `WaitsAtStage` says for the stage
  member_waits : (j : ℕ) (stage : Stage) → IsMember members j → (job_at s j).stage ≡ stage → WaitsAtStage plan s members j stage
  member_waits j stage member is_stage = subst (WaitsAtStage plan s members j) is_stage (waiting.each j member)

  -- no member is done
  not_done : (j : ℕ) → (job_at s j).stage ≡ Stage.Done → ¬ IsMember members j
  not_done j done member = member_waits j Stage.Done member done

  member_made : (j : ℕ) → IsMember members j → j < length s.jobs
  member_made j member = job_made s j (λ claimed. member_waits j Stage.Claimed member claimed)

  -- a member at a position of its body is at a get, and the job for which it waits is a member
  member_at_get : (j : ℕ) (body : List Action) (i : ℕ) (there : Option Action) → IsMember members j → IsAtAction plan s (parent.Job j) body i there
      → (t : ℕ) × (there ≡ Some (action.Get t)) × (n : ℕ) × (child s (parent.Job j) t ≡ Some n) × IsMember members n
  member_at_get j body i there member at =
      let was = stage_of_standing plan (job_at s j).class (job_at s j).stage body i at.stands in
      let waits : WaitsAtGet plan s members j i = member_waits j (Stage.At i) member was.0 in
      (waits.submit, sym at.is_there ∙ ap (λ (b : List Action). slice_get b i) was.1 ∙ waits.stands, waits.child_number, waits.is_child, waits.member)

  -- an actor whose next action is not a get is not a member
  acts_outside : (a : Parent) (body : List Action) (i : ℕ) (there : Option Action) → IsAtAction plan s a body i there → ((t : ℕ) → there ≢ Some (action.Get t)) → IsOutside members a
  acts_outside a body i there at no_get j member same =
      let found = member_at_get j body i there member (subst (λ (b : Parent). IsAtAction plan s b body i there) same at) in
      no_get found.0 found.1

  -- an actor whose get finds a done job is not a member
  gets_outside : (a : Parent) (body : List Action) (i t n : ℕ) → IsAtAction plan s a body i (Some (action.Get t)) → child s a t ≡ Some n → (job_at s n).stage ≡ Stage.Done → IsOutside members a
  gets_outside a body i t n at is_child done j member same =
      let found = member_at_get j body i (Some (action.Get t)) member (subst (λ (b : Parent). IsAtAction plan s b body i (Some (action.Get t))) same at) in
      let of_member : child s (parent.Job j) t ≡ Some n = subst (λ (b : Parent). child s b t ≡ Some n) same is_child in
      let submit : t ≡ found.0 = same_get t found.0 found.1 in
      let same_child : found.2 ≡ n = same_Some found.2 n (sym found.3 ∙ ap (child s (parent.Job j)) (sym submit) ∙ of_member) in
      not_done n done (subst (IsMember members) same_child found.4)

-- ---- the pools with queued members

-- a member of the set is queued in pool p
abbrev QueuesMember : Plan → State → List ℕ → ℕ → Type 0
QueuesMember plan s members p = (j : ℕ) × IsMember members j × (is_queued_in plan p (job_at s j) ≡ true)

-- pool p is full, none of its workers is idle, and all jobs that run in it are members
record IsFullOfMembers (plan : Plan) (s : State) (members : List ℕ) (p : ℕ) : Type 0 where
  full : IsFull plan s p
  none_idle : (pool_part s p).idle ≡ 0
  all_at_work : (n : ℕ) → is_busy_in plan p (job_at s n) ≡ true → IsMember members n

-- the change from s to s' preserves the members and the pools in which members are queued
abbrev PreservesSet : Plan → List ℕ → State → State → Type 0
PreservesSet plan members s s' = Preserves plan members (QueuesMember plan s members) s s'

-- no thread starts in a full pool
full_starts_none : (plan : Plan) (s : State) (q : ℕ) → HasValidBodies plan → q < length plan.pools → MayStart plan s q → ¬ IsFull plan s q
full_starts_none plan s q ordered inside below (inl full) =
    let room = room_for_thread plan s q ordered inside below in
    omega arith
full_starts_none plan s q ordered inside (inl below) (inr at_core) = false≢true (sym below.1 ∙ at_core.0)
full_starts_none plan s q ordered inside (inr below) (inr at_core) =
    let enough = at_core.1 in
    omega arith

-- a full pool is still full if it has as many threads as before
still_full : (plan : Plan) (s s' : State) (p : ℕ) → threads plan s' p ≡ threads plan s p → IsFull plan s p → IsFull plan s' p
still_full plan s s' p as_many (inl full) = inl (as_many ∙ full)
still_full plan s s' p as_many (inr at_core) =
    let enough = at_core.1 in
    inr (at_core.0, omega arith)

-- ---- every event preserves the full waiting set

module _ (plan : Plan) (s : State) (members : List ℕ) (ordered : HasValidBodies plan) (kept : StateInvariant plan s) (set : IsFullWaitingSet plan s members) where
  abbrev among : ℕ → Type 0
  among = QueuesMember plan s members

  -- a pool with a queued member is full, and has no idle worker, and only members that run in it
  closed : (p : ℕ) → among p → IsFullOfMembers plan s members p
  closed p queuing =
      let job = job_at s queuing.0 in
      let parts = and_parts (is_queued job.stage) (eqb (pool_of plan job.class) p) queuing.2 in
      let waits = member_waits plan s members set.waits queuing.0 Stage.Queued queuing.1 (queued_stage job.stage parts.0) in
      subst (IsFullOfMembers plan s members) (eqb-true (pool_of plan job.class) p parts.1)
      (record { full = set.full (pool_of plan job.class) queuing.0 queuing.1 (queued_in_own plan job parts.0); none_idle = waits.none_idle; all_at_work = waits.all_at_work })

  -- a pool with an idle worker has no queued member
  idle_not_among : (p q idle : ℕ) → (pool_part s q).idle ≡ suc idle → among p → p ≢ q
  idle_not_among p q idle is_idle queuing same =
      let none : (pool_part s q).idle ≡ 0 = subst (λ (x : ℕ). (pool_part s x).idle ≡ 0) same (closed p queuing).none_idle in
      omega arith

  -- a pool that can start another thread has no queued member
  started_elsewhere : (q p : ℕ) → q < length plan.pools → MayStart plan s q → among p → q ≢ p
  started_elsewhere q p inside below queuing same = full_starts_none plan s q ordered inside below (subst (IsFull plan s) (sym same) (closed p queuing).full)

  -- an actor that moves by an action other than a get preserves the full waiting set
  leaves_acts : (a : Parent) (body : List Action) (i i' : ℕ) (there : Option Action) → IsAtAction plan s a body i there → ((t : ℕ) → there ≢ Some (action.Get t)) → PreservesSet plan members s (with_position a i' s)
  leaves_acts a body i i' there at no_get = leaves-moved plan members among s a body i i' at.stands (acts_outside plan s members set.waits a body i there at no_get)

  -- a new job that does not run in a pool with queued members preserves the full waiting set
  leaves_submit : (a : Parent) (body : List Action) (i k : ℕ) (stage : Stage) → IsAtAction plan s a body i (Some (action.Submit k)) → ((p : ℕ) → among p → is_busy_in plan p (new_job k a i stage) ≡ false)
      → PreservesSet plan members s (with_job (new_job k a i stage) (with_position a (i + 1) s))
  leaves_submit a body i k stage at elsewhere =
      let job = new_job k a i stage in
      let moved : State = with_position a (i + 1) s in
      leaves_twice plan members among s moved (with_job job moved) (leaves_acts a body i (i + 1) (Some (action.Submit k)) at (λ t same. cc))
      (leaves-pushed plan members among moved job
      (λ j member. let made = member_made plan s members set.waits j member in omega (arith, length-moved s a (i + 1)))
      (λ j t member. not_by_other k a i stage (parent.Job j) t (λ same. acts_outside plan s members set.waits a body i (Some (action.Submit k)) at (λ t same. cc) j member (sym same))) elsewhere)

  -- a get that claims a done job preserves the full waiting set
  leaves_gets : (a : Parent) (body : List Action) (i t n : ℕ) → IsAtAction plan s a body i (Some (action.Get t)) → child s a t ≡ Some n → (job_at s n).stage ≡ Stage.Done → PreservesSet plan members s (with_stage n Stage.Claimed (with_position a (i + 1) s))
  leaves_gets a body i t n at is_child done =
      let moved : State = with_position a (i + 1) s in
      let still = done_still plan s a body i (i + 1) n at.stands done in
      leaves_twice plan members among s moved (with_stage n Stage.Claimed moved)
      (leaves-moved plan members among s a body i (i + 1) at.stands (gets_outside plan s members set.waits a body i t n at is_child done))
      (leaves-staged plan members among moved n Stage.Claimed (job_made moved n (λ claimed. cc)) (not_done plan s members set.waits n done)
      (λ p is_among. busy_in-as plan p (job_at moved n) Stage.Claimed (sym (ap is_at still))))

  -- a new stage of a job that is not a member, with a new queue and new idle workers of its pool, preserves the full waiting set if the
  -- pool has no queued member
  leaves_worker : (j : ℕ) (stage : Stage) (q : ℕ) (queue : List ℕ) (idle : ℕ) → j < length s.jobs → pool_of plan (job_at s j).class ≡ q → ¬ IsMember members j → ((p : ℕ) → among p → p ≢ q) → PreservesSet plan members s (with_part q queue idle (with_stage j stage s))
  leaves_worker j stage q queue idle inside of_pool outside elsewhere =
      let changed : State = with_stage j stage s in
      leaves_twice plan members among s changed (with_part q queue idle changed)
      (leaves-staged plan members among s j stage inside outside (λ p is_among. busy_in_other plan p (record (job_at s j) { stage = stage }) (not_own p is_among) ∙ sym (busy_in_other plan p (job_at s j) (not_own p is_among))))
      (leaves-part plan members among changed q queue idle (λ p is_among. idle_elsewhere changed q queue idle p (elsewhere p is_among)))
    where
      not_own : (p : ℕ) → among p → pool_of plan (job_at s j).class ≢ p
      not_own p is_among same = elsewhere p is_among (sym same ∙ of_pool)

  -- the end of a running job preserves the full waiting set
  leaves_finishes : (j : ℕ) (body : List Action) (i : ℕ) → IsAtAction plan s (parent.Job j) body i None → PreservesSet plan members s (finished_job plan s j (pool_of plan (job_at s j).class))
  leaves_finishes j body i at =
      let q = pool_of plan (job_at s j).class in
      let was = stage_of_standing plan (job_at s j).class (job_at s j).stage body i at.stands in
      let outside = λ (member : IsMember members j). acts_outside plan s members set.waits (parent.Job j) body i None at (λ t same. cc) j member refl in
      leaves_worker j Stage.Done q (pool_part s q).queue ((pool_part s q).idle + 1) (standing_made plan s j body i at.stands) refl outside
      (λ p is_among same. outside ((closed p is_among).all_at_work j (busy_in_own plan p (job_at s j) (sym same) ∙ ap is_at was.0)))

  -- an idle worker that takes the head of a queue preserves the full waiting set
  leaves_takes : (p j : ℕ) (queue : List ℕ) (idle : ℕ) → (pool_part s p).queue ≡ j ∷ queue → (pool_part s p).idle ≡ suc idle → PreservesSet plan members s (with_part p queue idle (with_stage j (Stage.At 0) s))
  leaves_takes p j queue idle is_queue is_idle =
      let head = head_of_queue plan s p j queue kept is_queue in
      let queued : is_queued_in plan p (job_at s j) ≡ true = subst (λ (q : ℕ). is_queued_in plan q (job_at s j) ≡ true) head.of_pool (queued_in_own plan (job_at s j) (ap is_queued head.queued)) in
      leaves_worker j (Stage.At 0) p queue idle head.inside head.of_pool (λ member. idle_not_among p p idle is_idle (j, member, queued) refl) (λ q is_among. idle_not_among q p idle is_idle is_among)

  -- every event preserves the full waiting set
  leaves : (s' : State) (o : Outcome) {e : Event} → Happens plan s e s' o → PreservesSet plan members s s'
  leaves s' o (works a body i u at) = leaves_acts a body i (i + 1) (Some (action.Work u)) at (λ t same. cc)
  leaves s' o (starts a body i k at below) =
      leaves_submit a body i k (Stage.At 0) at (λ p is_among. ne_eqb (pool_of plan k) p (started_elsewhere (pool_of plan k) p (ordered.pools k (class_exists plan s a body i k ordered at)) below is_among))
  leaves s' o (queues a body i k at room) =
      let q = pool_of plan k in
      let made : State = with_job (new_job k a i Stage.Queued) (with_position a (i + 1) s) in
      let queue = (pool_part s q).queue ++ length s.jobs ∷ [] in
      leaves_twice plan members among s made s' (leaves_submit a body i k Stage.Queued at (λ p is_among. refl))
      (leaves-part plan members among made q queue (pool_part s q).idle (λ p is_among. idle_as_before s.pools q queue p))
  leaves s' o (is_refused a body i k at must no_room all_started) = leaves-clients plan members among s s.clients (s.refusals + 1)
  leaves s' o (is_rejected a body i k at may) = leaves_submit a body i k Stage.Done at (λ p is_among. refl)
  leaves s' o (gets a body i t j at is_child done) = leaves_gets a body i t j at is_child done
  leaves s' o (finishes j body i at) = leaves_finishes j body i at
  leaves s' o (loops c client body i at is_client repeats) = leaves_acts (parent.Client c) body i 0 None at (λ t same. cc)
  leaves s' o (takes p j queue idle is_queue is_idle) = leaves_takes p j queue idle is_queue is_idle
  leaves s' o (retires p idle is_idle not_handed) =
      leaves-part plan members among s p (pool_part s p).queue idle (λ q is_among. idle_elsewhere s p (pool_part s p).queue idle q (idle_not_among q p idle is_idle is_among))

-- ---- the set is permanent

module _ (plan : Plan) (s s' : State) (members : List ℕ) (left : PreservesSet plan members s s') where
  -- a member that waited before a change that preserves the full waiting set waits after it
  still_waits : (j : ℕ) (stage : Stage) → IsMember members j → (job_at s j).stage ≡ stage → WaitsAtStage plan s members j stage → WaitsAtStage plan s' members j stage
  still_waits j Stage.Queued member is_stage waits =
      let q = pool_of plan (job_at s j).class in
      let same_class : q ≡ pool_of plan (job_at s' j).class = ap (λ (job : CreatedJob). pool_of plan job.class) (sym (left.jobs j member)) in
      let same : SamePool plan s s' q = left.pools q (j, member, queued_in_own plan (job_at s j) (ap is_queued is_stage)) in
      record {
        none_idle = subst (λ (x : ℕ). (pool_part s' x).idle ≡ 0) same_class (same.idle ∙ waits.none_idle);
        all_at_work = subst (λ (x : ℕ). (n : ℕ) → is_busy_in plan x (job_at s' n) ≡ true → IsMember members n) same_class (λ n at_work. waits.all_at_work n (same.were_busy n at_work));
      }
  still_waits j (Stage.At i) member is_stage waits = record {
    submit = waits.submit;
    stands = ap (λ (job : CreatedJob). slice_get (class_at plan job.class).body i) (left.jobs j member) ∙ waits.stands;
    child_number = waits.child_number;
    is_child = left.children j waits.submit member ∙ waits.is_child;
    member = waits.member;
  }
  still_waits j Stage.Done member is_stage waits = waits
  still_waits j Stage.Claimed member is_stage waits = waits

  -- after a change that preserves the full waiting set, the set is still a full waiting set
  still_set : IsFullWaitingSet plan s members → IsFullWaitingSet plan s' members
  still_set set = record {
    waits = record {
      first = set.waits.first;
      not_empty = set.waits.not_empty;
      each = λ j member. subst (WaitsAtStage plan s' members j) (sym (ap (λ (job : CreatedJob). job.stage) (left.jobs j member))) (still_waits j (job_at s j).stage member refl (set.waits.each j member));
    };
    full = λ p j member queued.
        let was_queued : is_queued_in plan p (job_at s j) ≡ true = ap (is_queued_in plan p) (sym (left.jobs j member)) ∙ queued in
        let same : SamePool plan s s' p = left.pools p (j, member, was_queued) in
        still_full plan s s' p (omega (arith, same.idle, same.busy_as_many)) (set.full p j member was_queued);
  }

-- the induction hypothesis for a list of events: the state satisfies the invariant, and the set is still a full waiting set
pub record Stayed (plan : Plan) (members : List ℕ) (first s : State) : Type 0 where
  pub is_kept : StateInvariant plan s
  pub has_stayed : StaysFull plan first s members

-- one event preserves the induction hypothesis
pub stays_through : (plan : Plan) (members : List ℕ) (first s s' : State) (o : Outcome) {e : Event} → HasValidBodies plan → Stayed plan members first s → Happens plan s e s' o → Stayed plan members first s'
stays_through plan members first s s' o ordered stayed happened =
    let set = stayed.has_stayed.still in
    let left = leaves plan s members ordered stayed.is_kept set s' o happened in
    record {
      is_kept = kept_step plan s s' o ordered stayed.is_kept happened;
      has_stayed = record {
        still = still_set plan s s' members left set;
        unmoved = λ j member. left.jobs j member ∙ stayed.has_stayed.unmoved j member;
        as_many_threads = λ p j member queued.
            let still_queued : is_queued_in plan p (job_at s j) ≡ true = ap (is_queued_in plan p) (stayed.has_stayed.unmoved j member) ∙ queued in
            let same : SamePool plan s s' p = left.pools p (j, member, still_queued) in
            omega (arith, same.idle, same.busy_as_many, stayed.has_stayed.as_many_threads p j member queued);
      };
    }

-- ---- pools in which core equals the maximum

-- a fixed pool has its maximum of threads if a job is queued in it, because it has enough threads then
fixed_have_max : (plan : Plan) (s : State) (members : List ℕ) → HasValidBodies plan → StateInvariant plan s → HaveThreads plan s → IsWaitingSet plan s members → WhereMembersQueue plan s members (IsFixed plan) → WhereMembersQueue plan s members (HasMaxThreads plan s)
fixed_have_max plan s members ordered kept have waiting fixed p j member queued =
    let q = pool_of plan (job_at s j).class in
    let parts = and_parts (is_queued (job_at s j).stage) (eqb q p) queued in
    let of_pool : q ≡ p = eqb-true q p parts.1 in
    let inside = pool_of_made plan s j ordered kept (member_made plan s members waiting j member) in
    let pool = kept.pools q inside in
    let enough = have q inside (queued_in_queue plan s j ordered kept (queued_stage (job_at s j).stage parts.0)) in
    let fixed_size = subst (IsFixed plan) (sym of_pool) (fixed p j member queued) in
    let full : threads plan s q ≡ (pool_at plan q).max = omega (arith, pool.within_max) in
    subst (HasMaxThreads plan s) of_pool full

-- a waiting set is full if each pool with a queued member is fixed
pub fixed_are_full : (plan : Plan) (s : State) (members : List ℕ) → HasValidBodies plan → StateInvariant plan s → HaveThreads plan s → IsWaitingSet plan s members → WhereMembersQueue plan s members (IsFixed plan)
    → IsFullWaitingSet plan s members × WhereMembersQueue plan s members (HasMaxThreads plan s)
fixed_are_full plan s members ordered kept have waiting fixed =
    let full = fixed_have_max plan s members ordered kept have waiting fixed in
    (record { waits = waiting; full = λ p j member queued. inl (full p j member queued) }, full)
