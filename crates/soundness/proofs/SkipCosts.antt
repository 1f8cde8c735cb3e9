-- The cost of a skip by a job: three times the remaining work, minus the completed steps of calls, falls by at least one.
use Rattle.std.proofs.Common.{◌≡◌, ◌≢◌, ℕ, ◌+◌, ◌*◌, ◌≤◌, true, false, List, [], ◌∷◌, ◌++◌, Some, refl, sym, ap, subst, ◌∙◌, arith}
use Rattle.std.proofs.lemmas.Bool.{false≢true}
use Rattle.std.proofs.lemmas.List.{length_push}
use Rattle.job_bodies.specs.declared.action.Action.{Action}
use Rattle.job_bodies.specs.declared.action.Action.TheVariants as action
use Rattle.job_bodies.specs.Plan.{Plan}
use Rattle.weights.specs.Ranks.{Ranks}
use Rattle.pool_machine.specs.declared.parent.Parent.{Parent}
use Rattle.pool_machine.specs.declared.parent.Parent.TheVariants as parent
use Rattle.pool_machine.specs.declared.event.Event.{Event}
use Rattle.pool_machine.specs.State.{Stage, State, job_at, pool_of}
use Rattle.pool_machine.specs.Step.{new_job, skipped, moved_jobs}
use Rattle.pool_machine.specs.Safe.{is_of_job_or_pool}
use Rattle.pool_machine.proofs.Events.{IsAtAction, event_of}
use Rattle.pool_machine.proofs.Positions.{job_made}
use Rattle.pool_machine.proofs.Stages.{length-moved}
use Rattle.soundness.specs.Drain.{todo}
use Rattle.soundness.proofs.Draining.{lowers_skips, ends_thread}
use Rattle.soundness.specs.Execute.{Call, JavaState, is_calling}
use Rattle.soundness.proofs.JobCalls.{IsAtSubmitTo, is_at_submit_to, pushed_leaves, JobCalls}
use Rattle.soundness.proofs.CompletedSteps.{mark, by_place-longer}
use Rattle.soundness.proofs.Costs.{one_pool, calls_done}
use Rattle.soundness.proofs.Choices.{IsSkipped, leaves}

-- ---- the calls of jobs

-- after an actor skips a submit that it has not begun, each job with a call is still at the submit of its call
before_skipped : (plan : Plan) (s : State) (a : Parent) (body : List Action) (i k : ℕ) (calls : List Call) → IsAtAction plan s a body i (Some (action.Submit k)) → is_calling calls a (pool_of plan k) ≡ false
    → ((n p : ℕ) → is_calling calls (parent.Job n) p ≡ true → IsAtSubmitTo plan (job_at s n) p) → (n p : ℕ) → is_calling calls (parent.Job n) p ≡ true → IsAtSubmitTo plan (job_at (skipped s a i k) n) p
before_skipped plan s a body i k calls at none before n p is_there =
    let standing = before n p is_there in
    let at_position = standing.stage in
    let other : a ≢ parent.Job n = λ own.
    let here = is_at_submit_to plan s n body i k (subst (λ (b : Parent). IsAtAction plan s b body i (Some (action.Submit k))) own at) in
    let to_pool = one_pool plan (job_at s n) p (pool_of plan k) standing here in
    let calling : is_calling calls a (pool_of plan k) ≡ true = ap (λ (b : Parent). is_calling calls b (pool_of plan k)) own ∙ ap (is_calling calls (parent.Job n)) (sym to_pool) ∙ is_there in
    false≢true (sym none ∙ calling) in
    subst (λ job. IsAtSubmitTo plan job p) (sym (pushed_leaves s a (i + 1) n (new_job k a i Stage.Done) (job_made s n (λ claimed. cc)) other)) standing

-- ---- the remaining work

-- a skip does not reduce the number of completed steps of the calls in progress
calls_done_skipped : (s : JavaState) (a : Parent) (i k : ℕ) → calls_done s ≤ calls_done (record s { machine = skipped s.machine a i k })
calls_done_skipped s a i k =
    by_place-longer (mark s) 0 s.machine.jobs (moved_jobs a (i + 1) s.machine ++ new_job k a i Stage.Done ∷ []) (omega (arith, length-moved s.machine a (i + 1), length_push (moved_jobs a (i + 1) s.machine) (new_job k a i Stage.Done)))

-- ---- the calls and the remaining work together

-- the effects of a skip: each job with a call is still at its submit, a skip by a job costs at least one, and the skipping actor
-- is a client or a job
pub record SkipCost (plan : Plan) (ranks : Ranks) (s : JavaState) (e : Event) (s' : JavaState) : Type 0 where
  pub calls : JobCalls plan s → JobCalls plan s'
  pub costs : is_of_job_or_pool e ≡ true → 3 * todo plan ranks s'.machine + calls_done s + 1 ≤ 3 * todo plan ranks s.machine + calls_done s'
  pub by_actor : ends_thread e ≡ false

costs_skipped : (plan : Plan) (ranks : Ranks) (s : JavaState) (a : Parent) (body : List Action) (i k : ℕ) → IsAtAction plan s.machine a body i (Some (action.Submit k)) → is_of_job_or_pool (event_of a) ≡ true
    → 3 * todo plan ranks (skipped s.machine a i k) + calls_done s + 1 ≤ 3 * todo plan ranks s.machine + calls_done (record s { machine = skipped s.machine a i k })
costs_skipped plan ranks s (parent.Client c) body i k at of_job = absurd cc
costs_skipped plan ranks s (parent.Job n) body i k at of_job = omega (arith, lowers_skips plan ranks s.machine n body i k at, calls_done_skipped s (parent.Job n) i k)

of_actor : (a : Parent) → ends_thread (event_of a) ≡ false
of_actor (parent.Client c) = refl
of_actor (parent.Job n) = refl

pub skip_costs : (plan : Plan) (ranks : Ranks) (s : JavaState) (e : Event) (s' : JavaState) → IsSkipped plan s e s' → SkipCost plan ranks s e s'
skip_costs plan ranks s e s' (leaves a body i k at not_offering not_requesting) = record {
  calls = λ calls. record {
    offering = before_skipped plan s.machine a body i k s.offering at not_offering calls.offering;
    requesting = before_skipped plan s.machine a body i k s.requesting at not_requesting calls.requesting;
  };
  costs = costs_skipped plan ranks s a body i k at;
  by_actor = of_actor a;
}
