-- A reachable state with a loose waiting set that is not a waiting set: a job works before it gets the job that is queued for
-- its thread.
use Rattle.std.proofs.Common.{◌≡◌, ℕ, zero, suc, [], ◌∷◌, Some, IsTrue, false, eqb, refl, sym, ◌∙◌, arith}
use Rattle.std.proofs.lemmas.Bool.{false≢true, or_from, ne_eqb}
use Rattle.job_bodies.specs.declared.action.Action.TheVariants.{Work, Submit, Get}
use Rattle.job_bodies.specs.Plan.{Plan}
use Rattle.pool_machine.specs.declared.event.Event.TheVariants as event
use Rattle.pool_machine.specs.declared.parent.Parent.TheVariants as parent
use Rattle.pool_machine.specs.State.{Stage, State, job_at, is_busy_in}
use Rattle.pool_machine.specs.Reach.{start, replay}
use Rattle.pool_machine.specs.Waiting.{is_member, IsMember, is_waiting_set}
use Rattle.pool_machine.specs.LooseWaiting.{WaitsLoosely, IsLooseWaitingSet}

-- a pool of one thread, and an outer job that submits an inner job, works, and gets the inner job
abbrev works_first : Plan
works_first = record {
  pools = record { name = 112 ∷ []; core = 1; max = 1; queue = 1; prestart = false; may_reject = false; unbounded = false; core_timeout = false } ∷ [];
  classes = record { name = 111 ∷ []; pool = 0; body = Submit 1 ∷ Work 1 ∷ Get 0 ∷ [] } ∷ record { name = 105 ∷ []; pool = 0; body = Work 1 ∷ [] } ∷ [];
  clients = record { name = 99 ∷ []; count = 1; repeat = false; body = Submit 0 ∷ Get 0 ∷ [] } ∷ [];
}

-- the outer job is at its work, and the inner job is queued
abbrev at_work : State
at_work = record {
  jobs = record { class = 0; parent = parent.Client 0; slot = 0; stage = Stage.At 1 } ∷ record { class = 1; parent = parent.Job 0; slot = 0; stage = Stage.Queued } ∷ [];
  pools = record { queue = 1 ∷ []; idle = 0 } ∷ [];
  clients = record { kind = 0; position = 1 } ∷ [];
  refusals = 0;
}

is_reached : replay works_first (Some (start works_first)) (event.Client 0 ∷ event.Job 0 ∷ []) ≡ Some at_work
is_reached = refl

-- the two jobs are not a waiting set, because the outer job is not at a get
not_a_waiting_set : is_waiting_set works_first at_work (0 ∷ 1 ∷ []) ≡ false
not_a_waiting_set = refl

-- only the outer job runs, and it is a member
runs_alone : (n : ℕ) → IsTrue (is_busy_in works_first 0 (job_at at_work n)) → IsMember (0 ∷ 1 ∷ []) n
runs_alone zero busy = refl
runs_alone (suc zero) busy = refl
runs_alone (suc (suc n)) busy = absurd (false≢true busy)

-- the outer job waits loosely for the inner one, and the inner one for a thread
each_waits : (j : ℕ) → IsMember (0 ∷ 1 ∷ []) j → WaitsLoosely works_first at_work (0 ∷ 1 ∷ []) j (job_at at_work j).stage
each_waits zero member = record { child_number = 1; is_child = refl; member = refl; get = 2; submit = 0; not_passed = omega arith; stands = refl; of_class = refl }
each_waits (suc zero) member = record { none_idle = refl; all_at_work = runs_alone }
each_waits (suc (suc j)) member =
    let none : is_member (0 ∷ 1 ∷ []) (suc (suc j)) ≡ false =
    or_from (eqb 0 (suc (suc j))) (is_member (1 ∷ []) (suc (suc j))) (ne_eqb 0 (suc (suc j)) (λ e. omega arith)) (or_from (eqb 1 (suc (suc j))) false (ne_eqb 1 (suc (suc j)) (λ e. omega arith)) refl) in
    absurd (false≢true (sym none ∙ member))

is_loose : IsLooseWaitingSet works_first at_work (0 ∷ 1 ∷ [])
is_loose = record { first = 0; not_empty = refl; each = each_waits }
