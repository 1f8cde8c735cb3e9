-- No set of unfinished jobs waits only for its own members, now or at later gets: for each queued member there would be a queued
-- member in a pool of lower rank. A job *may block* if it is at a counted get or before one.
use Rattle.std.proofs.Common.{◌≡◌, ℕ, zero, suc, ◌+◌, ◌-◌, ◌<◌, ◌≤◌, true, false, eqb, List, length, refl, sym, ap, subst, ◌∙◌, arith}
use Rattle.std.proofs.lemmas.Bool.{and_parts, and_from, eqb-true, eq-eqb, false_from_ne_true}
use Rattle.std.proofs.lemmas.Option.{slice_get_within}
use Rattle.support.proofs.PassingPlaces.{passes_without}
use Rattle.job_bodies.specs.declared.action.Action.TheVariants as action
use Rattle.job_bodies.specs.Plan.{Plan, pool_at, class_at, least_threads, submitted_class}
use Rattle.job_bodies.proofs.Bodies.{HasValidBodies, ordered}
use Rattle.pool_machine.specs.declared.parent.Parent.{Parent}
use Rattle.pool_machine.specs.State.{Stage, State, CreatedJob, no_job, job_at, pool_of, is_at, is_busy_in, threads}
use Rattle.pool_machine.specs.Waiting.{IsMember, WaitsInQueue}
use Rattle.pool_machine.specs.LooseWaiting.{WaitsForChild, WaitsLoosely, IsLooseWaitingSet}
use Rattle.pool_machine.specs.Laws.{HasGreaterNumber}
use Rattle.pool_machine.proofs.Positions.{job_made}
use Rattle.pool_machine.proofs.StateInvariant.{StateInvariant}
use Rattle.pool_machine.proofs.Queues.{Queued≢Claimed, queued_in_queue, pool_of_made}
use Rattle.pool_machine.proofs.Reached.{kept, have_threads}
use Rattle.pool_machine.proofs.EnoughThreads.{HaveThreads}
use Rattle.weights.specs.Ranks.{Ranks, rank, reach, is_counted}
use Rattle.soundness.specs.CountedGets.{passes_from, may_block_at, may_block_in, may_block, NoLooseWaitingSets}
use Rattle.soundness.proofs.RankLaws.{RankLaws, rank_laws}
use Rattle.soundness.proofs.CountedGets.{fails_from, uncounted_reach, fewer_than_core_may_block}

-- in each pool fewer jobs may block than the threads that it has while a job is queued
abbrev pub FewMayBlock : Plan → Ranks → State → Type 0
FewMayBlock plan ranks s = (p : ℕ) → p < length plan.pools → may_block plan ranks s p < least_threads (pool_at plan p)

-- the pool of each queued member has enough threads
abbrev pub MembersHaveThreads : Plan → State → List ℕ → Type 0
MembersHaveThreads plan s members = (n : ℕ) → IsMember members n → (job_at s n).stage ≡ Stage.Queued → let p = pool_of plan (job_at s n).class in least_threads (pool_at plan p) ≤ threads plan s p

-- ---- queued and running members

-- the job is running in pool p, at `position` of its body
record IsRunningIn (plan : Plan) (p : ℕ) (job : CreatedJob) : Type 0 where
  position : ℕ
  stands : job.stage ≡ Stage.At position
  of_pool : pool_of plan job.class ≡ p

position_of : (stage : Stage) → is_at stage ≡ true → (i : ℕ) × (stage ≡ Stage.At i)
position_of (Stage.At i) at = (i, refl)
position_of Stage.Queued at = absurd cc
position_of Stage.Done at = absurd cc
position_of Stage.Claimed at = absurd cc

is_running : (plan : Plan) (p : ℕ) (job : CreatedJob) → is_busy_in plan p job ≡ true → IsRunningIn plan p job
is_running plan p job busy =
    let parts = and_parts (is_at job.stage) (eqb (pool_of plan job.class) p) busy in
    let at = position_of job.stage parts.0 in
    record { position = at.0; stands = at.1; of_pool = eqb-true (pool_of plan job.class) p parts.1 }

-- a queued member in a pool whose rank is below r
record QueuedBelow (plan : Plan) (ranks : Ranks) (s : State) (members : List ℕ) (r : ℕ) : Type 0 where
  number : ℕ
  member : IsMember members number
  queued : (job_at s number).stage ≡ Stage.Queued
  below : rank ranks (pool_of plan (job_at s number).class) < r

module _ (plan : Plan) (ranks : Ranks) (s : State) (members : List ℕ) (laws : RankLaws plan ranks) (kept : StateInvariant plan s) (waiting : IsLooseWaitingSet plan s members) where
  -- ---- members

  waits_at : (j : ℕ) (stage : Stage) → IsMember members j → (job_at s j).stage ≡ stage → WaitsLoosely plan s members j stage
  waits_at j stage member is_stage = subst (WaitsLoosely plan s members j) is_stage (waiting.each j member)

  -- each member is one of the state's jobs, because it is not claimed
  member_made : (j : ℕ) → IsMember members j → j < length s.jobs
  member_made j member = job_made s j (λ claimed. waits_at j Stage.Claimed member claimed)

  -- ---- each chain of children ends

  -- the child for which a job waits has a greater number than the job
  child_later : (j i : ℕ) (waits : WaitsForChild plan s members j i) → j < waits.child_number
  child_later j i waits = subst (λ (a : Parent). HasGreaterNumber a waits.child_number) waits.is_child (kept.parents waits.child_number (member_made waits.child_number waits.member))

  -- for each member with a number above j and a class with a reach below r, there is a queued member in a pool of rank below r
  abbrev LaterLead : ℕ → ℕ → Type 0
  LaterLead r j = (n : ℕ) → j < n → IsMember members n → reach ranks (job_at s n).class < r → QueuedBelow plan ranks s members r

  -- if a running member j waits for a child of a class with a reach below r, and `LaterLead r j` holds, there is a queued member
  -- in a pool of rank below r
  lead_by_child : (r j i : ℕ) → LaterLead r j → (waits : WaitsForChild plan s members j i) → reach ranks (submitted_class (class_at plan (job_at s j).class).body waits.submit) < r → QueuedBelow plan ranks s members r
  lead_by_child r j i onward waits low = onward waits.child_number (child_later j i waits) waits.member (subst (λ (k : ℕ). reach ranks k < r) (sym waits.of_class) low)

  -- if the class of member j has a reach below r, and `LaterLead r j` holds, there is a queued member in a pool of rank below r
  one_step : (r j : ℕ) (stage : Stage) → LaterLead r j → IsMember members j → (job_at s j).stage ≡ stage → WaitsLoosely plan s members j stage → reach ranks (job_at s j).class < r → QueuedBelow plan ranks s members r
  one_step r j Stage.Queued onward member is_stage waits low =
      let reaches = laws.reaches (job_at s j).class (kept.classes j no_job (member_made j member)) in
      record { number = j; member = member; queued = is_stage; below = omega arith }
  one_step r j (Stage.At i) onward member is_stage waits low =
      let falls = laws.falls (job_at s j).class waits.get waits.submit waits.stands in
      lead_by_child r j i onward waits (omega arith)
  one_step r j Stage.Done onward member is_stage waits low = absurd waits
  one_step r j Stage.Claimed onward member is_stage waits low = absurd waits

  -- for each member of a class with a reach below r there is a queued member in a pool of rank below r, by induction on the
  -- number of jobs with greater numbers
  leads_within : (r later j : ℕ) → length s.jobs ≤ j + later → IsMember members j → reach ranks (job_at s j).class < r → QueuedBelow plan ranks s members r
  leads_within r zero j few member low = let made = member_made j member in absurd (omega arith)
  leads_within r (suc later) j few member low = one_step r j (job_at s j).stage (λ n after member' low'. leads_within r later n (omega arith) member' low') member refl (waiting.each j member) low

  leads : (r j : ℕ) → IsMember members j → reach ranks (job_at s j).class < r → QueuedBelow plan ranks s members r
  leads r j member low = leads_within r (length s.jobs) j (omega arith) member low

  -- ---- ranks decrease

  -- a running member that may not block waits for a child whose class has a reach below the rank of the member's pool
  child_below : (m i : ℕ) → (job_at s m).stage ≡ Stage.At i → may_block_in plan ranks (pool_of plan (job_at s m).class) (job_at s m) ≡ false → (waits : WaitsForChild plan s members m i)
      → reach ranks (submitted_class (class_at plan (job_at s m).class).body waits.submit) < rank ranks (pool_of plan (job_at s m).class)
  child_below m i at free waits =
      let k = (job_at s m).class in
      let body = (class_at plan k).body in
      let inside = slice_get_within body waits.get (action.Get waits.submit) waits.stands in
      let ahead = waits.not_passed in
      let none : passes_from (is_counted plan ranks k) i (length body - i) ≡ false =
      false_from_ne_true (passes_from (is_counted plan ranks k) i (length body - i))
      (λ some.
      let both = and_from (may_block_at plan ranks k (job_at s m).stage) (eqb (pool_of plan k) (pool_of plan k)) (ap (may_block_at plan ranks k) at ∙ some) (eq-eqb (pool_of plan k) (pool_of plan k) refl) in
      cc) in
      uncounted_reach plan ranks k waits.get waits.submit waits.stands (fails_from (is_counted plan ranks k) i (length body - i) waits.get none ahead (omega arith))

  -- for each running member that may not block there is a queued member in a pool of a rank below the rank of its own pool
  leads_below_own : (m i : ℕ) → IsMember members m → (job_at s m).stage ≡ Stage.At i → may_block_in plan ranks (pool_of plan (job_at s m).class) (job_at s m) ≡ false → QueuedBelow plan ranks s members (rank ranks (pool_of plan (job_at s m).class))
  leads_below_own m i member at free =
      let r = rank ranks (pool_of plan (job_at s m).class) in
      let waits : WaitsForChild plan s members m i = waits_at m (Stage.At i) member at in
      lead_by_child r m i (λ n after member' low. leads r n member' low) waits (child_below m i at free waits)

  module _ (valid : HasValidBodies plan) (few : FewMayBlock plan ranks s) (have : MembersHaveThreads plan s members) where
    -- for each queued member there is a queued member in a pool of lower rank, because a running job of its pool is a member that
    -- may not block
    next_below : (n : ℕ) → IsMember members n → (job_at s n).stage ≡ Stage.Queued → QueuedBelow plan ranks s members (rank ranks (pool_of plan (job_at s n).class))
    next_below n member queued =
        let p = pool_of plan (job_at s n).class in
        let waits : WaitsInQueue plan s members n = waits_at n Stage.Queued member queued in
        let inside = pool_of_made plan s n valid kept (job_made s n (Queued≢Claimed queued)) in
        let enough = have n member queued in
        let none_idle = waits.none_idle in
        let few_here = few p inside in
        let found = passes_without (is_busy_in plan p) (may_block_in plan ranks p) s.jobs (omega arith) in
        let m = found.index in
        let running = is_running plan p (job_at s m) (found.passes no_job) in
        let free = subst (λ (q : ℕ). may_block_in plan ranks q (job_at s m) ≡ false) (sym running.of_pool) (found.fails no_job) in
        subst (λ (q : ℕ). QueuedBelow plan ranks s members (rank ranks q)) running.of_pool (leads_below_own m running.position (waits.all_at_work m (found.passes no_job)) running.stands free)

    -- there is no queued member, because ranks cannot decrease forever
    none_below : (most r : ℕ) → r ≤ most → QueuedBelow plan ranks s members r → ⊥
    none_below zero r within found = omega (arith, found.below)
    none_below (suc most) r within found = none_below most (rank ranks (pool_of plan (job_at s found.number).class)) (omega (arith, found.below)) (next_below found.number found.member found.queued)

    impossible : ⊥
    impossible =
        let r = reach ranks (job_at s waiting.first).class + 1 in
        none_below r r (omega arith) (leads r waiting.first waiting.not_empty (omega arith))

-- no set of unfinished jobs waits only for its own members, now or at later gets
pub none_waits_loosely : (plan : Plan) (ranks : Ranks) (s : State) (members : List ℕ) → HasValidBodies plan → RankLaws plan ranks → StateInvariant plan s → FewMayBlock plan ranks s → MembersHaveThreads plan s members → ¬ IsLooseWaitingSet plan s members
none_waits_loosely plan ranks s members valid laws kept few have waiting = impossible plan ranks s members laws kept waiting valid few have

-- the pools of queued members have enough threads if each pool with a queued job has
pub members_have_threads : (plan : Plan) (s : State) (members : List ℕ) → HasValidBodies plan → StateInvariant plan s → HaveThreads plan s → MembersHaveThreads plan s members
members_have_threads plan s members valid kept have n member queued =
    have (pool_of plan (job_at s n).class) (pool_of_made plan s n valid kept (job_made s n (Queued≢Claimed queued))) (queued_in_queue plan s n valid kept queued)

-- the law that no reachable state has a loose waiting set
pub no_loose_waiting_sets : NoLooseWaitingSets
no_loose_waiting_sets plan ranks vectors s well_formed ranks_hold hold reached members =
    let is_ordered = ordered plan well_formed in
    let invariant = kept plan s well_formed reached in
    none_waits_loosely plan ranks s members is_ordered (rank_laws plan ranks ranks_hold) invariant (λ p inside. (fewer_than_core_may_block plan ranks p (vectors p) s well_formed inside ranks_hold (hold p inside) reached).1)
    (members_have_threads plan s members is_ordered invariant (have_threads plan s well_formed reached))
