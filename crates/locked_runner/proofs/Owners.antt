-- The owners of the events of a history to which an event is added.
use Rattle.std.proofs.Common.{◌≡◌, ◌≢◌, ℕ, ◌+◌, ◌<◌, List, [], ◌∷◌, ◌++◌, length, take, drop, map, append_assoc, Option, Some, None, slice_get, inl, inr, sym, ap, ◌∙◌, subst, arith, length-append}
use Rattle.std.proofs.lemmas.Bool.{cases_lt, cases_eq}
use Rattle.std.proofs.lemmas.Option.{none-some, same_Some, slice_get_past}
use Rattle.std.proofs.lemmas.List.{take-append-le, take_all, at_drop_more, get_or_past}
use Rattle.std.specs.List.{enumerate_from}
use Rattle.support.proofs.Elements.{slice_get-append_left, slice_get_push}
use Rattle.job_bodies.specs.Plan.{Plan}
use Rattle.job_bodies.specs.WellFormed.{IsWellFormed}
use Rattle.pool_machine.specs.declared.event.Event.{Event}
use Rattle.pool_machine.specs.declared.event.Event.TheVariants as event
use Rattle.pool_machine.specs.declared.parent.Parent.TheVariants as parent
use Rattle.pool_machine.specs.State.{CreatedJob, State, job_at, no_job, pool_of}
use Rattle.pool_machine.specs.Step.{step, step_at_point}
use Rattle.pool_machine.specs.Reach.{Reaches, IsReached}
use Rattle.pool_machine.proofs.Reached.{kept}
use Rattle.interleaving.specs.declared.job_view.Phase.{Phase}
use Rattle.interleaving.specs.declared.job_view.JobView.{JobView}
use Rattle.interleaving.specs.LiveView.{View, live_view, job_with, phase_seen}
use Rattle.interleaving.specs.ViewStep.{live_job, point_in, point_of_live_job}
use Rattle.interleaving.proofs.View.{view_at, point_seen, length-view}
use Rattle.locked_runner.specs.declared.owner.Owner.{Owner}
use Rattle.locked_runner.specs.declared.owner.Owner.TheVariants as owner
use Rattle.locked_runner.specs.Owner.{owner_in, owner_by, client_list, ArePoolsOf}

class_with : (job : CreatedJob) (phase : Option Phase) (view : JobView) → job_with job phase ≡ Some view → view.class ≡ job.class
class_with job None view e = absurd (none-some view e)
class_with job (Some phase) view e = sym (ap (λ (v : JobView). v.class) (same_Some _ view e))

-- a live job has the class of the job in the state
pub class_seen : (plan : Plan) (s : State) (view : View) (j : ℕ) (job : JobView) → live_view plan s ≡ view → live_job view.jobs j ≡ Some job → job.class ≡ (job_at s j).class
class_seen plan s view j job same e =
    class_with (job_at s j) (phase_seen s j (job_at s j) (job_at s j).stage) job (sym (view_at plan s j) ∙ (ap (λ (v : View). live_job v.jobs j) same ∙ e))

-- a job that can step is live
pub job_is_live : (plan : Plan) (s : State) (view : View) (j : ℕ) → live_view plan s ≡ view → step plan s (event.Job j) ≢ None → live_job view.jobs j ≢ None
job_is_live plan s view j seen possible none =
    let nowhere : point_in plan (live_view plan s) (parent.Job j) ≡ None = ap (point_of_live_job plan) (ap (λ (v : View). live_job v.jobs j) seen ∙ none) in
    possible (ap (step_at_point plan s (parent.Job j)) (sym (point_seen plan s (parent.Job j)) ∙ nowhere))

-- a live job has a class of the plan
pub class_exists : (plan : Plan) (s : State) (view : View) (j : ℕ) (job : JobView) → IsWellFormed plan → IsReached plan s → live_view plan s ≡ view → live_job view.jobs j ≡ Some job → job.class < length plan.classes
class_exists plan s view j job formed reached seen at = elim (cases_lt j (length s.jobs)) [
  | inl made ↦ subst (λ (k : ℕ). k < length plan.classes) (sym (class_seen plan s view j job seen at)) ((kept plan s formed reached).classes j no_job made)
  | inr past ↦
      let long : length view.jobs ≡ length s.jobs = ap (λ (v : View). length v.jobs) (sym seen) ∙ length-view plan s in
      absurd (none-some job (sym (get_or_past view.jobs j None (omega arith)) ∙ at))
]

-- the pool of a live job determines the owner of its events
pub owner_of_job : (plan : Plan) (s : State) (view : View) (j : ℕ) (job : JobView) (p : ℕ) → live_view plan s ≡ view → live_job view.jobs j ≡ Some job → p ≡ pool_of plan job.class → owner_by (event.Job j) p ≡ owner_in plan s (event.Job j)
owner_of_job plan s view j job p seen at is = ap (λ (q : ℕ). Some (owner.Pool q)) (is ∙ ap (pool_of plan) (class_seen plan s view j job seen at))

-- the last pool determines the owner of the last event
last_owned : (plan : Plan) (history : List Event) (pools : List ℕ) (event : Event) (pool : ℕ) → length pools ≡ length history
    → ((s : State) → Reaches plan history s → owner_by event pool ≡ owner_in plan s event)
    → (n : ℕ) (s : State) (e : Event) (p : ℕ) → n ≡ length history → slice_get (history ++ event ∷ []) n ≡ Some e → slice_get (pools ++ pool ∷ []) n ≡ Some p → Reaches plan (take n (history ++ event ∷ [])) s
    → owner_in plan s e ≡ owner_by e p
last_owned plan history pools event pool as_many owned n s e p at is_event is_pool reached =
    let same_event : event ≡ e = same_Some event e (sym (slice_get_push history event) ∙ (ap (slice_get (history ++ event ∷ [])) (sym at) ∙ is_event)) in
    let same_pool : pool ≡ p = same_Some pool p (sym (slice_get_push pools pool) ∙ (ap (slice_get (pools ++ pool ∷ [])) (as_many ∙ sym at) ∙ is_pool)) in
    let front : take n (history ++ event ∷ []) ≡ history = take-append-le n history (event ∷ []) (omega (arith, at)) ∙ take_all n history (omega (arith, at)) in
    subst (λ x. owner_in plan s x ≡ owner_by x p) same_event (sym (owned s (subst (λ h. Reaches plan h s) front reached)) ∙ ap (owner_by event) same_pool)

-- the pools of a history, followed by the pool of one more event, are the pools of the history with this event
pub pools_grow : (plan : Plan) (history : List Event) (pools : List ℕ) (event : Event) (pool : ℕ) → ArePoolsOf plan history pools
    → ((s : State) → Reaches plan history s → owner_by event pool ≡ owner_in plan s event) → ArePoolsOf plan (history ++ event ∷ []) (pools ++ pool ∷ [])
pools_grow plan history pools event pool are owned = record {
  as_many = (let many = are.as_many in omega (arith, length-append pools (pool ∷ []), length-append history (event ∷ [])));
  each = λ n s e p is_event is_pool reached. elim (cases_lt n (length history)) [
    | inl inside ↦ are.each n s e p (sym (slice_get-append_left history (event ∷ []) n inside) ∙ is_event)
        (sym (slice_get-append_left pools (pool ∷ []) n (let many = are.as_many in omega arith)) ∙ is_pool)
        (subst (λ h. Reaches plan h s) (take-append-le n history (event ∷ []) (omega arith)) reached)
    | inr past ↦ elim (cases_eq n (length history)) [
      | inl at ↦ last_owned plan history pools event pool are.as_many owned n s e p at is_event is_pool reached
      | inr beyond ↦ absurd (none-some e (sym (slice_get_past (history ++ event ∷ []) n (omega (arith, length-append history (event ∷ [])))) ∙ is_event))
    ]
  ];
}

-- the lists so far, followed by that of client n and those of the later clients, are all lists
pub client_more : (kinds : List ℕ) (n : ℕ) (front all : List Owner) → n < length kinds → front ++ map client_list (enumerate_from n (drop n kinds)) ≡ all
    → (front ++ owner.Client n ∷ []) ++ map client_list (enumerate_from (n + 1) (drop (n + 1) kinds)) ≡ all
client_more kinds n front all inside so_far =
    append_assoc front (owner.Client n ∷ []) (map client_list (enumerate_from (n + 1) (drop (n + 1) kinds)))
    ∙ (sym (ap (λ (ys : List Owner). front ++ ys) (at_drop_more (λ (ks : List ℕ). map client_list (enumerate_from n ks)) kinds n 0 inside)) ∙ so_far)
