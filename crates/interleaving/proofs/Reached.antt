-- The invariants of live views, in every reachable state.
use Rattle.std.proofs.Common.{◌≡◌, List, [], ◌∷◌, ◌++◌, Option, Some, None, refl, sym, ap, subst, ◌∙◌, arith}
use Rattle.std.specs.Option.{option_map}
use Rattle.std.proofs.lemmas.Option.{some_pair_parts}
use Rattle.job_bodies.specs.Plan.{Plan}
use Rattle.job_bodies.specs.WellFormed.{IsWellFormed}
use Rattle.job_bodies.proofs.Bodies.{ordered}
use Rattle.pool_machine.specs.declared.event.Event.{Event}
use Rattle.pool_machine.specs.declared.event.Outcome.{Outcome}
use Rattle.pool_machine.specs.State.{State}
use Rattle.pool_machine.specs.Step.{step}
use Rattle.pool_machine.specs.Reach.{start, state_after, replay, IsReached}
use Rattle.pool_machine.proofs.StateInvariant.{StateInvariant}
use Rattle.pool_machine.proofs.InvariantAtStart.{kept_start}
use Rattle.pool_machine.proofs.InvariantStep.{kept_step}
use Rattle.pool_machine.proofs.Reached.{replay_none, reached_keeps, kept}
use Rattle.interleaving.specs.LiveView.{View, live_view}
use Rattle.interleaving.specs.ViewStep.{view_step}
use Rattle.interleaving.specs.ViewAnswers.{AnswersAs}
use Rattle.interleaving.specs.Laws.{seen_after, StartIsSeen, StepsCommute, UnfinishedJobsAreLive, WaitingSetsAreSeen, DeadJobsStayDead}
use Rattle.interleaving.proofs.View.{length-view}
use Rattle.interleaving.proofs.OlderAreClaimed.{AllOlderAreClaimed}
use Rattle.interleaving.proofs.ClaimedJobs.{settled_start, settled_step}
use Rattle.interleaving.proofs.Commute.{step_commutes}
use Rattle.interleaving.proofs.Waiting.{unfinished_counted, waiting_seen, start_seen}
use Rattle.interleaving.proofs.Dead.{StaysDeadAfter, step_leaves}

pub settled : (plan : Plan) (s : State) → IsWellFormed plan → IsReached plan s → AllOlderAreClaimed plan s
settled plan s well_formed reached =
    let both = reached_keeps plan (λ s. StateInvariant plan s × AllOlderAreClaimed plan s) (kept_start plan (ordered plan well_formed), settled_start plan)
    (λ s₁ e s₂ o held happened. (kept_step plan s₁ s₂ o (ordered plan well_formed) held.0 happened, settled_step plan s₁ s₂ o (ordered plan well_formed) held.0 held.1 happened)) s reached in
    both.1

-- ---- replays with one more event

replay_append : (plan : Plan) (first : Option State) (events more : List Event) → replay plan first (events ++ more) ≡ replay plan (replay plan first events) more
replay_append plan first [] more = refl
replay_append plan None (e ∷ events) more = sym (replay_none plan more)
replay_append plan (Some s) (e ∷ events) more = replay_append plan (state_after (step plan s e)) events more

-- the state after an event from a reachable state is reachable
pub reached_after : (plan : Plan) (s s' : State) (event : Event) (outcome : Outcome) → IsReached plan s → step plan s event ≡ Some (s', outcome) → IsReached plan s'
reached_after plan s s' event outcome reached happened =
    (reached.0 ++ event ∷ [], replay_append plan (Some (start plan)) reached.0 (event ∷ []) ∙ ap (λ first. replay plan first (event ∷ [])) reached.1 ∙ ap state_after happened)

-- ---- the laws

pub starts_seen : StartIsSeen
starts_seen = start_seen

pub commutes : StepsCommute
commutes plan s event well_formed reached = step_commutes plan s (ordered plan well_formed) (kept plan s well_formed reached) (settled plan s well_formed reached) event

pub unfinished : UnfinishedJobsAreLive
unfinished = unfinished_counted

pub sets_seen : WaitingSetsAreSeen
sets_seen plan s members well_formed reached = waiting_seen plan s members (ordered plan well_formed) (kept plan s well_formed reached)

pub stays_dead : DeadJobsStayDead
stays_dead plan s s' event outcome j well_formed reached happened inside dead =
    let view = live_view plan s in
    let seen : view_step plan view event ≡ Some (live_view plan s', outcome) = sym (commutes plan s event well_formed reached) ∙ ap (option_map (seen_after plan)) happened in
    let gone = subst (StaysDeadAfter view) seen (step_leaves plan view event) in
    gone.stays j (let long = length-view plan s in omega arith) dead

-- ---- the answers of a world

-- the outcome of an event in the view is the answer that the state requires
answered_as : (plan : Plan) (s : State) (event : Event) (outcome : Outcome) (after : View) (o : Option (State × Outcome)) → step plan s event ≡ o → option_map (seen_after plan) o ≡ Some (after, outcome) → AnswersAs plan s event (Some outcome) after
answered_as plan s event outcome after None is_step e = absurd cc
answered_as plan s event outcome after (Some (s', o')) is_step e =
    let same = some_pair_parts (live_view plan s') after o' outcome e in
    (s', is_step ∙ ap (λ o. Some (s', o)) same.1, sym same.0)

impossible_as : (plan : Plan) (s : State) (event : Event) (o : Option (State × Outcome)) → step plan s event ≡ o → option_map (seen_after plan) o ≡ None → step plan s event ≡ None
impossible_as plan s event None is_step e = is_step
impossible_as plan s event (Some x) is_step e = absurd cc

pub answers_possible : (plan : Plan) (s : State) (event : Event) (outcome : Outcome) (after : View) → IsWellFormed plan → IsReached plan s → view_step plan (live_view plan s) event ≡ Some (after, outcome) → AnswersAs plan s event (Some outcome) after
answers_possible plan s event outcome after well_formed reached e =
    answered_as plan s event outcome after (step plan s event) refl (commutes plan s event well_formed reached ∙ e)

pub answers_impossible : (plan : Plan) (s : State) (event : Event) (after : View) → IsWellFormed plan → IsReached plan s → view_step plan (live_view plan s) event ≡ None → after ≡ live_view plan s → AnswersAs plan s event None after
answers_impossible plan s event after well_formed reached e stays = (impossible_as plan s event (step plan s event) refl (commutes plan s event well_formed reached ∙ e), stays)
