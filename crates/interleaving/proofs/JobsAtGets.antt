-- The live jobs of a submit that has a get: none while the actor is at the submit, and at most one while it is at the get.
use Rattle.std.proofs.Common.{◌≡◌, ◌≢◌, ℕ, suc, ◌&&◌, Bool, true, false, if◌then◌else◌, List, [], ◌∷◌, slice_get, Some, None, ⊎_elim, sym, ap, subst, ◌∙◌, arith}
use Rattle.std.specs.Option.{option_map}
use Rattle.std.proofs.lemmas.Bool.{and_parts, eqb-true, false_from_ne_true, or_cases}
use Rattle.std.proofs.lemmas.List.{get_or_default}
use Rattle.std.proofs.lemmas.Option.{same_Some}
use Rattle.support.proofs.LastPlace.{last_where_none}
use Rattle.job_bodies.specs.declared.action.Action.{Action}
use Rattle.job_bodies.specs.declared.action.Action.TheVariants.{Work, Submit, Get}
use Rattle.job_bodies.specs.Plan.{Plan, submits, gets, has_get_of}
use Rattle.job_bodies.specs.WellFormed.{IsWellFormed}
use Rattle.pool_machine.specs.declared.parent.Parent.{Parent}
use Rattle.pool_machine.specs.State.{Stage, CreatedJob, State, job_at, is_made_by, child}
use Rattle.pool_machine.specs.State.Stage.{Queued, At, Done, Claimed}
use Rattle.pool_machine.specs.Step.{Point, point}
use Rattle.pool_machine.specs.Reach.{IsReached}
use Rattle.pool_machine.proofs.Positions.{job_made}
use Rattle.interleaving.specs.declared.job_view.Phase.TheVariants as phase
use Rattle.interleaving.specs.LiveView.{may_get, is_number, phase_seen, job_with, View, live_view}
use Rattle.interleaving.specs.ViewStep.{live_job, is_live_child, live_child, point_in}
use Rattle.interleaving.proofs.View.{view_at, point_seen}
use Rattle.interleaving.proofs.Reached.{settled}
use Rattle.interleaving.specs.declared.next_action.NextAction.{NextAction}
use Rattle.interleaving.specs.NextAction.{next_action_at}
use Rattle.interleaving.specs.LiveJobs.{IsOnlyLiveJob}
use Rattle.interleaving.specs.OfPlan.{IsReachableView}
use Rattle.interleaving.proofs.OfPlan.{point_of_next}

made_if : (a : Parent) (t : ℕ) (made : CreatedJob) (b : Bool) → is_live_child a t (job_with made (if b then Some phase.Done else None)) ≡ true → is_made_by a t made ≡ true
made_if a t made true live = live
made_if a t made false live = absurd cc

live_unclaimed : (s : State) (a : Parent) (t k : ℕ) (made : CreatedJob) (stage : Stage) → is_live_child a t (job_with made (phase_seen s k made stage)) ≡ true → (is_made_by a t made ≡ true) × (stage ≢ Claimed)
live_unclaimed s a t k made Queued live = (live, λ f. absurd cc)
live_unclaimed s a t k made (At i) live = (live, λ f. absurd cc)
live_unclaimed s a t k made Done live = (made_if a t made (may_get s made.parent && is_number (child s made.parent made.slot) k) live, λ f. absurd cc)
live_unclaimed s a t k made Claimed live = absurd cc

-- no job of a submit that has a get is live when the actor reaches the submit again
none_left_at : (plan : Plan) (s : State) (a : Parent) (body : List Action) (i g : ℕ) → IsWellFormed plan → IsReached plan s → point plan s a ≡ Some (record { body = body; position = i }) → slice_get body g ≡ Some (Get i)
    → (k : ℕ) → is_live_child a i (live_job (live_view plan s).jobs k) ≡ false
none_left_at plan s a body i g w reached stands asks k = false_from_ne_true (is_live_child a i (live_job (live_view plan s).jobs k)) (λ live.
    let made = job_at s k in
    let found = live_unclaimed s a i k made made.stage (sym (ap (is_live_child a i) (view_at plan s k)) ∙ live) in
    ⊎_elim found.1 (λ latest. absurd (omega (arith, latest.0))) (((settled plan s w reached).actors a body i stands).settled g i k asks (job_made s k found.1) found.0))

get_of : (body : List Action) (t : ℕ) → has_get_of body t ≡ true → (g : ℕ) × (slice_get body g ≡ Some (Get t))
get_of [] t e = absurd cc
get_of (action ∷ body) t e = ⊎_elim (λ here. (0, ap Some (is_get action t here))) (λ later. let found = get_of body t later in (suc found.0, found.1)) (or_cases (gets t action) (has_get_of body t) e)
  where
    is_get : (action : Action) (t : ℕ) → gets t action ≡ true → action ≡ Get t
    is_get (Work u) t e = absurd cc
    is_get (Submit k) t e = absurd cc
    is_get (Get u) t e = ap Get (sym (eqb-true t u e))

none_left_in_state : (plan : Plan) (s : State) (a : Parent) (x : Point) → IsWellFormed plan → IsReached plan s → point_in plan (live_view plan s) a ≡ Some x → has_get_of x.body x.position ≡ true → live_child (live_view plan s).jobs a x.position ≡ None
none_left_in_state plan s a x w reached stands has_get =
    let get = get_of x.body x.position has_get in
    let jobs = (live_view plan s).jobs in
    let test = is_live_child a x.position in
    last_where_none test jobs (λ i d inside. ap test (get_or_default jobs i d None inside) ∙ none_left_at plan s a x.body x.position get.0 w reached (sym (point_seen plan s a) ∙ stands) get.1 i)

-- an actor at a submit that has a get has no live job of that submit
pub none_left : (plan : Plan) (view : View) (a : Parent) (next : NextAction) → IsReachableView plan view → IsWellFormed plan → option_map next_action_at (point_in plan view a) ≡ Some next → next.has_get ≡ true → live_child view.jobs a next.position ≡ None
none_left plan view a next of w e has_get =
    let found = point_of_next (point_in plan view a) next e in
    let x = found.0 in
    let names : (submits (slice_get x.body x.position) && has_get_of x.body x.position) ≡ true = ap (λ (p : NextAction). p.has_get) found.2 ∙ has_get in
    let gone : live_child view.jobs a x.position ≡ None =
    subst (λ (v : View). point_in plan v a ≡ Some x → live_child v.jobs a x.position ≡ None) of.2
    (λ stands. none_left_in_state plan of.0 a x w of.1 stands (and_parts (submits (slice_get x.body x.position)) (has_get_of x.body x.position) names).1) found.1 in
    subst (λ n. live_child view.jobs a n ≡ None) (ap (λ (p : NextAction). p.position) found.2) gone

-- ---- the live jobs of an actor at a get

latest_at_get : (plan : Plan) (s : State) (a : Parent) (x : Point) (t : ℕ) → IsReached plan s → IsWellFormed plan → point_in plan (live_view plan s) a ≡ Some x → slice_get x.body x.position ≡ Some (Get t)
    → (k : ℕ) → is_live_child a t (live_job (live_view plan s).jobs k) ≡ true → child s a t ≡ Some k
latest_at_get plan s a x t reached w stands asks k live =
    let made = job_at s k in
    let found = live_unclaimed s a t k made made.stage (sym (ap (is_live_child a t) (view_at plan s k)) ∙ live) in
    ⊎_elim (λ claimed. absurd (found.1 claimed)) (λ latest. latest.2) (((settled plan s w reached).actors a x.body x.position (sym (point_seen plan s a) ∙ stands)).settled x.position t k asks (job_made s k found.1) found.0)

alone_in_state : (plan : Plan) (s : State) (a : Parent) (x : Point) (t : ℕ) → IsReached plan s → IsWellFormed plan → point_in plan (live_view plan s) a ≡ Some x → slice_get x.body x.position ≡ Some (Get t) → IsOnlyLiveJob (live_view plan s).jobs a t
alone_in_state plan s a x t reached w stands asks i k one two =
    same_Some i k (sym (latest_at_get plan s a x t reached w stands asks i one) ∙ latest_at_get plan s a x t reached w stands asks k two)

-- an actor at a get has at most one live job from the submit that the get names
pub alone_at_get : (plan : Plan) (view : View) (a : Parent) (next : NextAction) (t : ℕ) → IsReachableView plan view → IsWellFormed plan → option_map next_action_at (point_in plan view a) ≡ Some next → next.action ≡ Some (Get t) → IsOnlyLiveJob view.jobs a t
alone_at_get plan view a next t of w e asks =
    let found = point_of_next (point_in plan view a) next e in
    let x = found.0 in
    let gets : slice_get x.body x.position ≡ Some (Get t) = ap (λ (p : NextAction). p.action) found.2 ∙ asks in
    subst (λ (v : View). point_in plan v a ≡ Some x → IsOnlyLiveJob v.jobs a t) of.2 (λ stands. alone_in_state plan of.0 a x t of.1 w stands gets) found.1
