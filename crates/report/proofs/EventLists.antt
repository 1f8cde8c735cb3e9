-- A list of events, of which some were performed.
use Rattle.std.proofs.Common.{◌≡◌, List, [], ◌∷◌, ◌++◌, map, Some, None, refl, sym, ap, subst, ◌∙◌, append_assoc, append-nil}
use Rattle.job_bodies.specs.Plan.{Plan}
use Rattle.pool_machine.specs.declared.event.Event.{Event}
use Rattle.pool_machine.specs.State.{State}
use Rattle.pool_machine.specs.Reach.{IsReached}
use Rattle.interleaving.specs.LiveView.{View, live_view}
use Rattle.interleaving.proofs.Reached.{reached_after}
use Rattle.report.specs.declared.event_steps.EventStep.{EventStep}
use Rattle.report.specs.EventRows.{EventRow, rows_from, last_state}
use Rattle.report.specs.EventSteps.{step_of}
use Rattle.report.specs.Performed.{Performs, Appends}
use Rattle.report.proofs.EventsSeen.{rows_end, rows_more}

-- in state s the rest of the events leads to what all of them lead to from state `from`
pub record GoesFrom (plan : Plan) (from : State) (all : List Event) (old : List EventStep) (rest : List Event) (new : List EventStep) (view : View) : Type 0 where
  pub state : State
  pub reached : IsReached plan state
  pub seen : live_view plan state ≡ view
  pub steps : new ++ map (step_of plan) (rows_from plan (Some state) rest) ≡ old ++ map (step_of plan) (rows_from plan (Some from) all)
  pub ends : last_state state (rows_from plan (Some state) rest) ≡ last_state from (rows_from plan (Some from) all)

-- the events are performed up to `rest`
abbrev pub Goes : Plan → List Event → List EventStep → View → List Event → List EventStep → View → Type 0
Goes plan all old first rest new view = (from : State) → IsReached plan from → live_view plan from ≡ first → GoesFrom plan from all old rest new view

pub goes_first : (plan : Plan) (all : List Event) (old : List EventStep) (view : View) → Goes plan all old view all old view
goes_first plan all old view from reached seen = record { state = from; reached = reached; seen = seen; steps = refl; ends = refl }

-- one more event is performed
pub goes_on : (plan : Plan) (all : List Event) (old : List EventStep) (first : View) (e : Event) (rest : List Event) (new : List EventStep) (view after : View) (what : EventStep)
    → Goes plan all old first (e ∷ rest) new view → ((s : State) → IsReached plan s → live_view plan s ≡ view → Performs plan s e (Some what) after)
    → Goes plan all old first rest (new ++ what ∷ []) after
goes_on plan all old first e rest new view after what goes performs from reached seen =
    let here = goes from reached seen in
    let did = performs here.state here.reached here.seen in
    let s' = did.0 in
    let row : EventRow = record { event = e; before = here.state; outcome = did.1; after = s' } in
    let more : rows_from plan (Some here.state) (e ∷ rest) ≡ row ∷ rows_from plan (Some s') rest = rows_more plan here.state s' e did.1 rest did.2 in
    record {
      state = s';
      reached = reached_after plan here.state s' e did.1 here.reached did.2;
      seen = sym did.3;
      steps = append_assoc new (what ∷ []) (map (step_of plan) (rows_from plan (Some s') rest)) ∙ ap (λ (x : EventStep). new ++ x ∷ map (step_of plan) (rows_from plan (Some s') rest)) did.4
          ∙ sym (ap (λ (rows : List EventRow). new ++ map (step_of plan) rows) more) ∙ here.steps;
      ends = sym (ap (last_state here.state) more) ∙ here.ends;
    }

-- the events end, because the next one is not possible
pub goes_no_further : (plan : Plan) (all : List Event) (old : List EventStep) (first : View) (e : Event) (rest : List Event) (new : List EventStep) (view after : View)
    → Goes plan all old first (e ∷ rest) new view → ((s : State) → IsReached plan s → live_view plan s ≡ view → Performs plan s e None after)
    → (from : State) → IsReached plan from → live_view plan from ≡ first → Appends plan from all old new after
goes_no_further plan all old first e rest new view after goes performs from reached seen =
    let here = goes from reached seen in
    let did = performs here.state here.reached here.seen in
    let none = rows_end plan here.state e rest did.0 in
    record {
      steps = sym (append-nil new) ∙ sym (ap (λ (rows : List EventRow). new ++ map (step_of plan) rows) none) ∙ here.steps;
      seen = did.1 ∙ ap (live_view plan) (sym (ap (last_state here.state) none) ∙ here.ends);
      reached = subst (IsReached plan) (sym (ap (last_state here.state) none) ∙ here.ends) here.reached;
    }

-- the events end, because there are none left
pub goes_to_end : (plan : Plan) (all : List Event) (old : List EventStep) (first : View) (new : List EventStep) (view : View)
    → Goes plan all old first [] new view
    → (from : State) → IsReached plan from → live_view plan from ≡ first → Appends plan from all old new view
goes_to_end plan all old first new view goes from reached seen =
    let here = goes from reached seen in
    record {
      steps = sym (append-nil new) ∙ here.steps;
      seen = sym here.seen ∙ ap (live_view plan) here.ends;
      reached = subst (IsReached plan) here.ends here.reached;
    }
