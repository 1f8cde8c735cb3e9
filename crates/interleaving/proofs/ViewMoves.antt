-- The live view after an actor moved: it worked, started again, or got the job for which it waited.
use Rattle.std.proofs.Common.{◌≡◌, ◌≢◌, ℕ, ◌+◌, Bool, true, false, if◌then◌else◌, List, set, slice_get, Option, Some, None, refl, sym, ap, subst, ◌∙◌, le_refl}
use Rattle.std.specs.Option.{option_map}
use Rattle.job_bodies.specs.declared.action.Action.{Action}
use Rattle.job_bodies.specs.declared.action.Action.TheVariants.{Get}
use Rattle.job_bodies.specs.Plan.{Plan, client_at}
use Rattle.job_bodies.specs.ValidBody.{IsValidBody}
use Rattle.pool_machine.specs.declared.client_state.ClientState.{ClientState}
use Rattle.pool_machine.specs.declared.parent.Parent.{Parent}
use Rattle.pool_machine.specs.declared.parent.Parent.TheVariants as parent
use Rattle.pool_machine.specs.declared.event.Outcome.TheVariants.{Got, Looped}
use Rattle.interleaving.specs.declared.job_view.Phase.TheVariants as phase
use Rattle.pool_machine.specs.State.{Stage, CreatedJob, State, job_at, is_at, is_unfinished, busy, child}
use Rattle.pool_machine.specs.State.Stage.{Queued, At, Done, Claimed}
use Rattle.pool_machine.specs.Step.{point, with_stage, with_position, got, got_child, looped}
use Rattle.pool_machine.proofs.Stages.{get_or-staged_same}
use Rattle.pool_machine.proofs.Busy.{busy_in-as, busy-staged_same, busy-moved}
use Rattle.pool_machine.proofs.StateInvariant.{StateInvariant}
use Rattle.pool_machine.proofs.Positions.{job_made, job_at-with_position}
use Rattle.interleaving.specs.LiveView.{job_seen, View, live_view}
use Rattle.interleaving.specs.ViewStep.{live_job, live_child, in_phase, move_actor, got_in, got_child_in, looped_in}
use Rattle.interleaving.specs.Laws.{seen_after}
use Rattle.interleaving.proofs.View.{seen, view_at, same_pools, same_views, pool_seen-busy}
use Rattle.interleaving.proofs.Changes.{as_seen, seen_at, jobs-staged, job_standing, standing_asks}
use Rattle.interleaving.proofs.Children.{child_seen, done_seen}

pub move_seen : (plan : Plan) (s : State) (a : Parent) (body : List Action) (i i' : ℕ) → point plan s a ≡ Some (record { body = body; position = i }) → live_view plan (with_position a i' s) ≡ move_actor a i' (live_view plan s)
move_seen plan s (parent.Client c) body i i' e = refl
move_seen plan s (parent.Job j) body i i' e =
    let s' = with_position (parent.Job j) i' s in
    let found = job_standing plan s j body i e in
    let before : live_job (live_view plan s).jobs j ≡ Some (as_seen (job_at s j) (phase.At i)) = view_at plan s j ∙ seen_at s j (At i) (phase.At i) found.1 refl in
    let after : seen s' j ≡ Some (as_seen (job_at s j) (phase.At i')) = ap (job_seen s' j) (get_or-staged_same s.jobs j (At i') found.0) in
    let same : is_unfinished (At i') ≡ is_unfinished (job_at s j).stage = sym (ap is_unfinished found.1) in
    let jobs = jobs-staged plan s j (At i') (in_phase (phase.At i') (live_job (live_view plan s).jobs j)) found.0 same (after ∙ sym (ap (in_phase (phase.At i')) before)) in
    let pools = same_pools plan s s' (λ p inside. pool_seen-busy plan s p (busy plan s' p) (busy-moved plan s (parent.Job j) body i i' p e)) in
    same_views (live_view plan s') (move_actor (parent.Job j) i' (live_view plan s)) jobs pools refl refl

-- ---- a client starts again

loops_if : (plan : Plan) (s : State) (c : ℕ) (b : Bool) → option_map (seen_after plan) (if b then Some (with_position (parent.Client c) 0 s, Looped) else None) ≡ (if b then Some (move_actor (parent.Client c) 0 (live_view plan s), Looped) else None)
loops_if plan s c true = refl
loops_if plan s c false = refl

pub loop_commutes : (plan : Plan) (s : State) (c : ℕ) (o : Option ClientState) → option_map (seen_after plan) (looped plan s c o) ≡ looped_in plan (live_view plan s) c o
loop_commutes plan s c None = refl
loop_commutes plan s c (Some client) = loops_if plan s c (client_at plan client.kind).repeat

-- ---- an actor gets its job

-- the view after a done job was claimed
claim_seen : (plan : Plan) (s : State) (j : ℕ) → (job_at s j).stage ≡ Done → live_view plan (with_stage j Claimed s) ≡ record (live_view plan s) { jobs = set (live_view plan s).jobs j None }
claim_seen plan s j done =
    let s' = with_stage j Claimed s in
    let inside = job_made s j (λ claimed. let e : Done ≡ Claimed = sym done ∙ claimed in absurd cc) in
    let jobs = jobs-staged plan s j Claimed None inside (sym (ap is_unfinished done)) (ap (job_seen s' j) (get_or-staged_same s.jobs j Claimed inside)) in
    let same = λ (p : ℕ). busy-staged_same plan s.jobs j Claimed p (busy_in-as plan p (job_at s j) Claimed (sym (ap is_at done))) in
    let pools = same_pools plan s s' (λ p within. pool_seen-busy plan s p (busy plan s' p) (same p)) in
    same_views (live_view plan s') (record (live_view plan s) { jobs = set (live_view plan s).jobs j None }) jobs pools refl refl

-- the view after the actor moved and claimed the job
claimed_seen : (plan : Plan) (s : State) (a : Parent) (body : List Action) (i j : ℕ) → point plan s a ≡ Some (record { body = body; position = i }) → (job_at s j).stage ≡ Done
    → live_view plan (with_stage j Claimed (with_position a (i + 1) s)) ≡ record (move_actor a (i + 1) (live_view plan s)) { jobs = set (move_actor a (i + 1) (live_view plan s)).jobs j None }
claimed_seen plan s a body i j stands done =
    let moved = with_position a (i + 1) s in
    let elsewhere = λ (n : ℕ) (at : (job_at s j).stage ≡ At n). let f : Done ≡ At n = sym done ∙ at in absurd cc in
    let stays : job_at moved j ≡ job_at s j = job_at-with_position plan s a body i (i + 1) j stands elsewhere in
    let claimed : live_view plan (with_stage j Claimed moved) ≡ record (live_view plan moved) { jobs = set (live_view plan moved).jobs j None } = claim_seen plan moved j (ap (λ (job : CreatedJob). job.stage) stays ∙ done) in
    let now : live_view plan moved ≡ move_actor a (i + 1) (live_view plan s) = move_seen plan s a body i (i + 1) stands in
    subst (λ (v : View). live_view plan (with_stage j Claimed moved) ≡ record v { jobs = set v.jobs j None }) now claimed

got_commutes : (plan : Plan) (s : State) (a : Parent) (body : List Action) (i t j : ℕ) (stage : Stage) → point plan s a ≡ Some (record { body = body; position = i }) → child s a t ≡ Some j → (job_at s j).stage ≢ Claimed
    → (job_at s j).stage ≡ stage → option_map (seen_after plan) (got s a i j stage) ≡ got_in (live_view plan s) a i j (seen s j)
got_commutes plan s a body i t j Queued stands is_child unclaimed e = sym (ap (got_in (live_view plan s) a i j) (seen_at s j Queued phase.Queued e refl))
got_commutes plan s a body i t j (At n) stands is_child unclaimed e = sym (ap (got_in (live_view plan s) a i j) (seen_at s j (At n) (phase.At n) e refl))
got_commutes plan s a body i t j Done stands is_child unclaimed e =
    let view = live_view plan s in
    ap (λ v. Some (v, Got j)) (claimed_seen plan s a body i j stands e) ∙ sym (ap (got_in view a i j) (done_seen s a t j (standing_asks plan s a body i stands) is_child e))
got_commutes plan s a body i t j Claimed stands is_child unclaimed e = absurd (unclaimed e)

pub get_commutes : (plan : Plan) (s : State) (a : Parent) (body : List Action) (i t : ℕ) → IsValidBody plan body → StateInvariant plan s → point plan s a ≡ Some (record { body = body; position = i }) → slice_get body i ≡ Some (Get t)
    → option_map (seen_after plan) (got_child s a i (child s a t)) ≡ got_child_in (live_view plan s) a i (live_child (live_view plan s).jobs a t)
get_commutes plan s a body i t valid kept stands there =
    let view = live_view plan s in
    let found = (kept.actors a body i stands).ready i t (le_refl i) (valid.behind i t there) there in
    let j = found.number in
    let is_child : child s a t ≡ Some j = found.is_child in
    ap (λ o. option_map (seen_after plan) (got_child s a i o)) is_child
    ∙ got_commutes plan s a body i t j (job_at s j).stage stands is_child found.unclaimed refl
    ∙ ap (got_in view a i j) (sym (view_at plan s j))
    ∙ sym (ap (got_child_in view a i) (child_seen plan s a t j (standing_asks plan s a body i stands) is_child found.unclaimed))
