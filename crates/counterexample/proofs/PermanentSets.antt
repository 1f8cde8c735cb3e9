-- Permanent waiting sets last. Take the plan in which each pool with queued members has its current number of threads as its
-- maximum. There the set is full, and each event has the same effect as in the original plan.
use Rattle.std.proofs.Common.{◌≡◌, ℕ, Bool, true, false, cond, eqb, ◌<◌, ◌≤◌, ◌⊎◌, inl, inr, ⊎_elim, List, length, refl, sym, ap, subst, ◌∙◌, arith}
use Rattle.std.specs.List.{list_any}
use Rattle.std.proofs.lemmas.Bool.{false≢true, and_parts, eqb-true}
use Rattle.support.proofs.Members.{list_any_at_In, In-from_list_any}
use Rattle.job_bodies.specs.Plan.{Plan, pool_at}
use Rattle.job_bodies.specs.WellFormed.{IsWellFormed}
use Rattle.job_bodies.proofs.Bodies.{HasValidBodies, ordered}
use Rattle.pool_machine.proofs.PoolEvents.{started_below}
use Rattle.pool_machine.specs.State.{Stage, State, job_at, pool_of, pool_seen, is_queued, is_queued_in, threads}
use Rattle.pool_machine.specs.Reach.{IsReached}
use Rattle.pool_machine.specs.Waiting.{IsMember}
use Rattle.pool_machine.specs.FullWaitingSets.{IsFullWaitingSet, StaysFull}
use Rattle.pool_machine.proofs.Events.{happens}
use Rattle.pool_machine.proofs.Positions.{job_made}
use Rattle.pool_machine.proofs.StateInvariant.{StateInvariant}
use Rattle.pool_machine.proofs.Queues.{queued_stage, pool_of_made}
use Rattle.pool_machine.proofs.Reached.{kept}
use Rattle.pool_machine.proofs.WaitingSets.{In-member, member_of_In, waiting_set_test}
use Rattle.pool_machine.proofs.FullWaitingSets.{Stayed, stays_through}
use Rattle.interleaving.proofs.Reached.{reached_after}
use Rattle.counterexample.specs.PermanentSets.{StartsNoThread, IsPermanentWaitingSet, StaysPermanent, PermanentWaitingSetsStay}
use Rattle.counterexample.proofs.Lowered.{lowered, IsBetween, max-lowered, ordered-lowered, kept-lowered, StartsBelow, happens-lowered}
use Rattle.counterexample.proofs.StandingPools.{StaysThroughSteps, steps_keep, starts_below_core}

-- ---- the lowered maximums

-- some member waits in the queue of pool q
abbrev queues_member : Plan → State → List ℕ → ℕ → Bool
queues_member plan s members q = list_any (λ j. is_queued_in plan q (job_at s j)) members

-- the lowered maximum of pool q: its current number of threads if a member waits in its queue, and otherwise its maximum
abbrev threads_for_max : Plan → State → List ℕ → ℕ → ℕ
threads_for_max plan s members q = cond (queues_member plan s members q) (threads plan s q) (pool_at plan q).max

-- the plan has each pool with a queued job
queued_inside : (plan : Plan) (s : State) (j q : ℕ) → HasValidBodies plan → StateInvariant plan s → is_queued_in plan q (job_at s j) ≡ true → q < length plan.pools
queued_inside plan s j q ordered kept is_in =
    let own = pool_of plan (job_at s j).class in
    let parts = and_parts (is_queued (job_at s j).stage) (eqb own q) is_in in
    let queued : (job_at s j).stage ≡ Stage.Queued = queued_stage (job_at s j).stage parts.0 in
    subst (λ (p : ℕ). p < length plan.pools) (eqb-true own q parts.1) (pool_of_made plan s j ordered kept (job_made s j (λ claimed. cc)))

-- a pool that starts no thread has at least core threads
at_core : (plan : Plan) (s : State) (q : ℕ) → (pool_at plan q).core ≤ (pool_at plan q).max → StartsNoThread plan s q → (pool_at plan q).core ≤ threads plan s q
at_core plan s q sizes (inl (inl full)) = omega arith
at_core plan s q sizes (inl (inr enough)) = enough.1
at_core plan s q sizes (inr standing) = standing.1

-- a pool that starts no thread still starts none if it has as many threads
still_starts_none : (plan : Plan) (s s' : State) (q : ℕ) → threads plan s' q ≡ threads plan s q → StartsNoThread plan s q → StartsNoThread plan s' q
still_starts_none plan s s' q as_many (inl (inl full)) = inl (inl (as_many ∙ full))
still_starts_none plan s s' q as_many (inl (inr enough)) =
    let before : (pool_at plan q).core ≤ threads plan s q = enough.1 in
    inl (inr (enough.0, omega arith))
still_starts_none plan s s' q as_many (inr standing) =
    let enough : (pool_at plan q).core ≤ threads plan s q = standing.1 in
    inr (standing.0, omega arith)

between_cond : (b : Bool) (n low high : ℕ) → (b ≡ true → (low ≤ n) × (n ≤ high)) → low ≤ high → (low ≤ cond b n high) × (cond b n high ≤ high)
between_cond true n low high here sizes = here refl
between_cond false n low high here sizes = (sizes, omega arith)

within_cond : (b : Bool) (n high : ℕ) → n ≤ high → n ≤ cond b n high
within_cond true n high h = omega arith
within_cond false n high h = h

below_cond : (b : Bool) (now then low high : ℕ) {Bounded : Type 0} → (b ≡ true → (then ≡ high) ⊎ (now < low)) → (now < low) ⊎ ((now < high) × Bounded) → ((now < cond b then high) × Bounded) ⊎ (now < low)
below_cond true now then low high {Bounded} here given =
    ⊎_elim
    (λ (full : then ≡ high). ⊎_elim (λ (few : now < low). inr few) (λ (room : (now < high) × Bounded). let below : now < high = room.0 in inl (omega arith, room.1)) given)
    (λ (few : now < low). inr few) (here refl)
below_cond false now then low high {Bounded} here given = ⊎_elim (λ (few : now < low). inr few) (λ (room : (now < high) × Bounded). inl room) given

-- a pool that has at least core threads and an unbounded queue starts a thread only below core
starts_unbounded : {now low high : ℕ} {bounded : Bool} → bounded ≡ true → (now < low) ⊎ ((now < high) × (bounded ≡ false)) → now < low
starts_unbounded is_unbounded (inl few) = few
starts_unbounded is_unbounded (inr room) = absurd (false≢true (sym room.1 ∙ is_unbounded))

module _ (plan : Plan) (s : State) (members : List ℕ) (well_formed : IsWellFormed plan) (reached : IsReached plan s) (set : IsPermanentWaitingSet plan s members) where
  abbrev most : ℕ → ℕ
  most = threads_for_max plan s members

  abbrev low : Plan
  low = lowered plan most

  -- if `queues_member` holds for a pool, some member waits in its queue
  known : (q : ℕ) → queues_member plan s members q ≡ true → (j : ℕ) × IsMember members j × (is_queued_in plan q (job_at s j) ≡ true)
  known q queues =
      let found = In-from_list_any (λ (j : ℕ). is_queued_in plan q (job_at s j)) members queues in
      (found.0, member_of_In members found.0 found.1, found.2)

  queues : (q j : ℕ) → IsMember members j → is_queued_in plan q (job_at s j) ≡ true → queues_member plan s members q ≡ true
  queues q j member queued = list_any_at_In (λ (n : ℕ). is_queued_in plan q (job_at s n)) (In-member members j member) queued

  has_kept : StateInvariant plan s
  has_kept = kept plan s well_formed reached

  between : IsBetween plan most
  between q inside =
      between_cond (queues_member plan s members q) (threads plan s q) (pool_at plan q).core (pool_at plan q).max
      (λ is_queue. let found = known q is_queue in (at_core plan s q ((ordered plan well_formed).max q inside) (set.starts_no_thread q found.0 found.1 found.2), (has_kept.pools q inside).within_max))
      ((ordered plan well_formed).max q inside)

  low_ordered : HasValidBodies low
  low_ordered = ordered-lowered plan most (ordered plan well_formed) between

  -- the lowered maximum of a pool with a queued member is its current number of threads
  max_is : (q j : ℕ) → IsMember members j → is_queued_in plan q (job_at s j) ≡ true → (pool_at low q).max ≡ threads plan s q
  max_is q j member queued =
      max-lowered plan most q (queued_inside plan s j q (ordered plan well_formed) has_kept queued)
      ∙ ap (λ (b : Bool). cond b (threads plan s q) (pool_at plan q).max) (queues q j member queued)

  -- in the lowered plan, each pool with a queued member has all its threads
  full_set : IsFullWaitingSet low s members
  full_set = record {
    waits = (waiting_set_test low s members).0 ((waiting_set_test plan s members).1 set.waits);
    full = λ q j member queued. inl (sym (max_is q j member queued));
  }

  -- if a pool starts a thread later, it has fewer threads than its lowered maximum, or fewer than core
  starts_below : (now : State) → IsReached plan now → StartsBelow plan most now
  starts_below now reached_now a body i k at starts =
      let q = pool_of plan k in
      below_cond (queues_member plan s members q) (threads plan now q) (threads plan s q) (pool_at plan q).core (pool_at plan q).max
      (λ is_queue. let found = known q is_queue in full_or_below (set.starts_no_thread q found.0 found.1 found.2)) (started_below (pool_seen plan now q) starts)
    where
      full_or_below : StartsNoThread plan s (pool_of plan k) → (threads plan s (pool_of plan k) ≡ (pool_at plan (pool_of plan k)).max) ⊎ (threads plan now (pool_of plan k) < (pool_at plan (pool_of plan k)).core)
      full_or_below (inl (inl full)) = inl full
      full_or_below (inl (inr enough)) = inr (starts_unbounded enough.0 (started_below (pool_seen plan now (pool_of plan k)) starts))
      full_or_below (inr standing) = inr (starts_below_core plan now a body i k well_formed reached_now standing.0 at starts)

  -- the induction hypothesis for a list of events: the plan reaches its last state, and in the lowered plan the set has stayed
  -- since s
  record BothStay (now : State) : Type 0 where
    reached_now : IsReached plan now
    stayed : Stayed low members s now

  both_stay : StaysThroughSteps plan BothStay
  both_stay now e next o both is_step = record {
    reached_now = reached_after plan now next e o both.reached_now is_step;
    stayed = stays_through low members s now next o low_ordered both.stayed
        (happens-lowered plan most now next e o (ordered plan well_formed) between (starts_below now both.reached_now) (happens plan now e next o is_step) is_step);
  }

  at_first : BothStay s
  at_first = record {
    reached_now = reached;
    stayed = record {
      is_kept = kept-lowered plan most s has_kept (λ q inside. within_cond (queues_member plan s members q) (threads plan s q) (pool_at plan q).max (has_kept.pools q inside).within_max);
      has_stayed = record { still = full_set; unmoved = λ j member. refl; as_many_threads = λ q j member queued. refl };
    };
  }

  -- the result for the original plan, from that for the lowered plan
  lasts : (s' : State) → StaysFull low s s' members → StaysPermanent plan s s' members
  lasts s' stayed = record {
    still = record {
      waits = (waiting_set_test plan s' members).0 ((waiting_set_test low s' members).1 stayed.still.waits);
      starts_no_thread = λ q j member queued.
          let was_queued : is_queued_in plan q (job_at s j) ≡ true = ap (is_queued_in plan q) (sym (stayed.unmoved j member)) ∙ queued in
          still_starts_none plan s s' q (stayed.as_many_threads q j member was_queued) (set.starts_no_thread q j member was_queued);
    };
    unmoved = stayed.unmoved;
  }

pub permanent_sets_stay : PermanentWaitingSetsStay
permanent_sets_stay plan s s' events members well_formed reached set replayed =
    lasts plan s members well_formed reached set s'
    (steps_keep plan (BothStay plan s members well_formed reached set) (both_stay plan s members well_formed reached set) events s s' (at_first plan s members well_formed reached set) replayed).stayed.has_stayed
