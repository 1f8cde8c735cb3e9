-- Replays of lists of events, and their outcomes.
use Rattle.std.proofs.Common.{◌≡◌, ◌≢◌, ℕ, ◌+◌, ◌<◌, List, [], ◌∷◌, ◌++◌, length, get_or, take, drop, Option, Some, None, refl, sym, ap, subst, ◌∙◌, ⊎_elim, add-one}
use Rattle.std.proofs.Math.Seq.{drop-cons}
use Rattle.std.proofs.lemmas.List.{take-append-drop, take_more}
use Rattle.std.proofs.lemmas.Option.{none-some, same_Some}
use Rattle.support.specs.In.{In}
use Rattle.support.proofs.Members.{not_In_nil, In-cons_cases, In-append_cases}
use Rattle.job_bodies.specs.Plan.{Plan}
use Rattle.pool_machine.specs.declared.event.Event.{Event}
use Rattle.pool_machine.specs.declared.event.Event.TheVariants as event
use Rattle.pool_machine.specs.declared.event.Outcome.{Outcome}
use Rattle.pool_machine.specs.declared.event.Outcome.TheVariants as outcome
use Rattle.pool_machine.specs.State.{State}
use Rattle.pool_machine.specs.Step.{step}
use Rattle.pool_machine.specs.Reach.{start, state_after, replay, outcome_of, outcomes, Reaches, IsReached}
use Rattle.pool_machine.proofs.Reached.{replay_none}
use Rattle.interleaving.specs.LiveView.{View, live_view}
use Rattle.interleaving.specs.ViewAnswers.{AnswersAs}
use Rattle.counterexample.specs.Witness.{NoneRefused, EndsRefused}
use Rattle.counterexample.specs.ReplayResult.{ComesTo, StopsShort}

-- ---- lists of events

-- the replay of two lists in sequence is the replay of the second from the state after the first
pub replay-append : (plan : Plan) (s : Option State) (front rest : List Event) → replay plan s (front ++ rest) ≡ replay plan (replay plan s front) rest
replay-append plan s [] rest = refl
replay-append plan None (e ∷ front) rest = sym (replay_none plan rest)
replay-append plan (Some s) (e ∷ front) rest = replay-append plan (state_after (step plan s e)) front rest

pub outcomes-append : (plan : Plan) (s : Option State) (front rest : List Event) → outcomes plan s (front ++ rest) ≡ outcomes plan s front ++ outcomes plan (replay plan s front) rest
outcomes-append plan s [] rest = refl
outcomes-append plan None (e ∷ front) rest =
    ap (λ (xs : List (Option Outcome)). None ∷ xs) (outcomes-append plan None front rest ∙ ap (λ (s : Option State). outcomes plan None front ++ outcomes plan s rest) (replay_none plan front))
outcomes-append plan (Some s) (e ∷ front) rest = ap (λ (xs : List (Option Outcome)). outcome_of (step plan s e) ∷ xs) (outcomes-append plan (state_after (step plan s e)) front rest)

-- after an event that is not possible, no event has an outcome
none_of_none : (plan : Plan) (events : List Event) (o : Outcome) → In (Some o) (outcomes plan None events) → ⊥
none_of_none plan [] o i = not_In_nil i
none_of_none plan (e ∷ events) o i = ⊎_elim (λ (same : Some o ≡ None). absurd cc) (λ later. none_of_none plan events o later) (In-cons_cases i)

-- the replay with one more event leads to the state after that event
pub reaches_more : (plan : Plan) (front : List Event) (e : Event) (s : State) → Reaches plan front s → replay plan (Some (start plan)) (front ++ e ∷ []) ≡ state_after (step plan s e)
reaches_more plan front e s reached = replay-append plan (Some (start plan)) front (e ∷ []) ∙ ap (λ (x : Option State). replay plan x (e ∷ [])) reached

-- the outcomes with one more event are the earlier outcomes, the outcome of that event, and the later ones
outcomes_more : (plan : Plan) (front rest : List Event) (e : Event) (s : State) (found : Option (State × Outcome)) → Reaches plan front s → step plan s e ≡ found
    → outcomes plan (Some (start plan)) (front ++ e ∷ rest) ≡ outcomes plan (Some (start plan)) front ++ outcome_of found ∷ outcomes plan (state_after found) rest
outcomes_more plan front rest e s found reached is_step =
    outcomes-append plan (Some (start plan)) front (e ∷ rest)
    ∙ ap (λ (x : Option State). outcomes plan (Some (start plan)) front ++ outcomes plan x (e ∷ rest)) reached
    ∙ ap (λ (x : Option (State × Outcome)). outcomes plan (Some (start plan)) front ++ outcome_of x ∷ outcomes plan (state_after x) rest) is_step

-- an outcome that is neither among those of the events nor that of the next event is not among the outcomes of all of them
pub none_more : (plan : Plan) (front : List Event) (e : Event) (o other : Outcome) (s s' : State) → ¬ In (Some other) (outcomes plan (Some (start plan)) front) → Reaches plan front s → step plan s e ≡ Some (s', o) → o ≢ other
    → ¬ In (Some other) (outcomes plan (Some (start plan)) (front ++ e ∷ []))
none_more plan front e o other s s' none reached is_step differs i =
    let j = subst (λ (xs : List (Option Outcome)). In (Some other) xs) (outcomes_more plan front [] e s (Some (s', o)) reached is_step) i in
    ⊎_elim (λ before. none before)
    (λ behind. ⊎_elim (λ (same : Some other ≡ Some o). differs (sym (same_Some other o same))) (λ later. not_In_nil later) (In-cons_cases behind))
    (In-append_cases (outcomes plan (Some (start plan)) front) (Some o ∷ []) j)

-- a list consists of the events before index i, the event at index i, and the events after it
pub split_at : (events : List Event) (i : ℕ) (d : Event) → i < length events → take i events ++ get_or events i d ∷ drop (i + 1) events ≡ events
split_at events i d inside =
    let tail : drop i events ≡ get_or events i d ∷ drop (i + 1) events = drop-cons events i d inside ∙ ap (λ (n : ℕ). get_or events i d ∷ drop n events) (sym (add-one i)) in
    ap (λ (xs : List Event). take i events ++ xs) (sym tail) ∙ take-append-drop i events

-- ---- the result of a replay

-- without events, the replay reaches the live view of the start
pub comes_to_start : (plan : Plan) (view : View) → view ≡ live_view plan (start plan) → ComesTo plan [] view
comes_to_start plan view seen = record { state = start plan; reaches = refl; seen = sym seen; none_refused = λ p i. not_In_nil i }

-- one more possible event, which is not a refused submit, leads to the view after it
pub comes_further : (plan : Plan) (front : List Event) (view after : View) (e : Event) (o : Outcome) (s s' : State) → NoneRefused plan front → Reaches plan front s → step plan s e ≡ Some (s', o) → after ≡ live_view plan s' → ((p : ℕ) → o ≢ outcome.Refused p)
    → ComesTo plan (front ++ e ∷ []) after
comes_further plan front view after e o s s' none reached is_step seen no_refusal = record {
  state = s';
  reaches = reaches_more plan front e s reached ∙ ap state_after is_step;
  seen = sym seen;
  none_refused = λ p. none_more plan front e o (outcome.Refused p) s s' (none p) reached is_step (no_refusal p);
}

-- the replay stops at an event that is not possible, if no earlier event is a refused submit
pub stops_short : (plan : Plan) (front rest : List Event) (e : Event) (s : State) → NoneRefused plan front → Reaches plan front s → step plan s e ≡ None → StopsShort plan (front ++ e ∷ rest)
stops_short plan front rest e s none reached is_step = record {
  none_refused = λ p i.
      let j = subst (λ (xs : List (Option Outcome)). In (Some (outcome.Refused p)) xs) (outcomes_more plan front rest e s None reached is_step) i in
      ⊎_elim (λ before. none p before)
      (λ behind. ⊎_elim (λ (same : Some (outcome.Refused p) ≡ None). absurd cc) (λ later. none_of_none plan rest (outcome.Refused p) later) (In-cons_cases behind))
      (In-append_cases (outcomes plan (Some (start plan)) front) (None ∷ outcomes plan None rest) j);
  reaches_none = λ s' reaches.
      none-some s'
      (sym (replay_none plan rest)
      ∙ sym (ap (λ (x : Option (State × Outcome)). replay plan (state_after x) rest) is_step)
      ∙ sym (ap (λ (x : Option State). replay plan x (e ∷ rest)) reached)
      ∙ sym (replay-append plan (Some (start plan)) front (e ∷ rest))
      ∙ reaches);
}

-- ---- the answer of a world to the event at index i

abbrev pub AnswersAt : Plan → List Event → ℕ → View → Option Outcome → View → Type 0
AnswersAt plan events i view answer after = (s : State) → IsReached plan s → live_view plan s ≡ view → AnswersAs plan s (get_or events i (event.Client 0)) answer after

pub answer_here : (plan : Plan) (events : List Event) (i : ℕ) (view after : View) (answer : Option Outcome) → (held : ComesTo plan (take i events) view) → AnswersAt plan events i view answer after
    → AnswersAs plan held.state (get_or events i (event.Client 0)) answer after
answer_here plan events i view after answer held answered = answered held.state (take i events, held.reaches) held.seen

pub goes_on : (plan : Plan) (events : List Event) (i : ℕ) (view after : View) (o : Outcome) → ComesTo plan (take i events) view → i < length events → AnswersAt plan events i view (Some o) after → ((p : ℕ) → o ≢ outcome.Refused p) → ComesTo plan (take (i + 1) events) after
goes_on plan events i view after o held inside answered no_refusal =
    let e = get_or events i (event.Client 0) in
    let here = answer_here plan events i view after (Some o) held answered in
    subst (λ (list : List Event). ComesTo plan list after) (sym (take_more events i (event.Client 0) inside)) (comes_further plan (take i events) view after e o held.state here.0 held.none_refused held.reaches here.1 here.2 no_refusal)

pub refuses : (plan : Plan) (events : List Event) (i : ℕ) (view after : View) (p : ℕ) → ComesTo plan (take i events) view → i < length events → AnswersAt plan events i view (Some (outcome.Refused p)) after → EndsRefused plan (take (i + 1) events) p
refuses plan events i view after p held inside answered =
    let here = answer_here plan events i view after (Some (outcome.Refused p)) held answered in
    record {
      front = take i events;
      last = get_or events i (event.Client 0);
      is_last = take_more events i (event.Client 0) inside;
      none_before = held.none_refused;
      before = held.state;
      reaches = held.reaches;
      after = here.0;
      refused = here.1;
    }

pub stops : (plan : Plan) (events : List Event) (i : ℕ) (view after : View) → ComesTo plan (take i events) view → i < length events → AnswersAt plan events i view None after → StopsShort plan events
stops plan events i view after held inside answered =
    let e = get_or events i (event.Client 0) in
    let here = answer_here plan events i view after None held answered in
    subst (StopsShort plan) (split_at events i (event.Client 0) inside) (stops_short plan (take i events) (drop (i + 1) events) e held.state held.none_refused held.reaches here.0)
