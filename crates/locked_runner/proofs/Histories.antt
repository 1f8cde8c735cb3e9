-- Lengths of legal histories, and properties of a history that was replayed in a world.
use Rattle.std.proofs.Common.{◌≡◌, ◌<◌, ◌≤◌, ◌+◌, ◌↔◌, ℕ, Bool, IsTrue, [], List, length, take, refl, sym, ap, subst, ◌∙◌, arith}
use Rattle.std.proofs.lemmas.List.{take_all, length-take, length-take-le}
use Rattle.std.proofs.lemmas.Option.{same_Some}
use Rattle.job_bodies.specs.Plan.{Plan}
use Rattle.pool_machine.specs.declared.event.Event.{Event}
use Rattle.pool_machine.specs.State.{State}
use Rattle.pool_machine.specs.Reach.{start, Reaches}
use Rattle.held_machines.specs.declared.held.Receipt.{Receipt}
use Rattle.interleaving.specs.LiveView.{View, live_view}
use Rattle.interleaving.proofs.View.{length-view}
use Rattle.locked_runner.specs.HeldWorld.{IsReachedBy}
use Rattle.locked_runner.specs.Complete.{IsComplete}
use Rattle.locked_runner.specs.Owner.{lists_of}
use Rattle.locked_runner.specs.Receipts.{AreListsOf, places_of}
use Rattle.locked_runner.specs.Run.{IsLegal, IsRun, Makes, Works, IsLengthOfLegal, IsLegalPrefix, IsLegalPart}
use Rattle.locked_runner.proofs.Prefixes.{prefix_is_legal}

-- the empty history is legal
pub nothing_is_legal : (plan : Plan) → IsLengthOfLegal plan 0
nothing_is_legal plan = ([], (start plan, refl), refl)

pub empty_prefix : (plan : Plan) (history : List Event) → IsLegalPrefix plan history 0
empty_prefix plan history = record { within = omega arith; legal = (start plan, refl) }

pub length_of_prefix : (plan : Plan) (history : List Event) (n : ℕ) → IsLegalPrefix plan history n → IsLengthOfLegal plan n
length_of_prefix plan history n front = (take n history, front.legal, length-take-le n history front.within)

-- the replayed events are a legal prefix
pub prefix_of : (plan : Plan) (history part : List Event) (view : View) → part ≡ take (length part) history → IsReachedBy plan part view → IsLegalPrefix plan history (length part)
prefix_of plan history part view is led =
    let within : length part ≤ length history = (let long = ap (λ (xs : List Event). length xs) is in omega (arith, length-take (length part) history)) in
    record { within = within; legal = subst (IsLegal plan) is (led.0, led.1) }

pub all_of : (history part : List Event) → part ≡ take (length part) history → length history ≤ length part → part ≡ history
all_of history part is all = is ∙ take_all (length part) history all

-- a history with an event that is not possible is not a run
pub cut_short : (plan : Plan) (rounds : ℕ) (history : List Event) (lists : List (List (Receipt Event))) (n : ℕ) → IsLegalPart plan history n → n < length history → ¬ IsRun plan rounds history lists
cut_short plan rounds history lists n part more run = part.ends more (prefix_is_legal plan history run.last (n + 1) run.legal)

-- the view that a history reaches is the live view of the state that the history reaches
same_last : (plan : Plan) (history : List Event) (view : View) (s : State) → IsReachedBy plan history view → Reaches plan history s → live_view plan s ≡ view
same_last plan history view s led reached = subst (λ (x : State). live_view plan x ≡ view) (same_Some led.0 s (sym led.1 ∙ reached)) led.2

pub made_of : (plan : Plan) (history : List Event) (view : View) (jobs : ℕ) → IsReachedBy plan history view → length view.jobs ≡ jobs → Makes plan history jobs
made_of plan history view jobs led seen s reached = sym (length-view plan s) ∙ (ap (λ (v : View). length v.jobs) (same_last plan history view s led reached) ∙ seen)

pub jobs_of : (plan : Plan) (history : List Event) (view : View) (jobs : ℕ) → IsReachedBy plan history view → Makes plan history jobs → length view.jobs ≡ jobs
jobs_of plan history view jobs led makes = ap (λ (v : View). length v.jobs) (sym led.2) ∙ (length-view plan led.0 ∙ makes led.0 led.1)

-- if the history is a run, the completeness test is true, provided that the test is exact for each state with this view
pub complete_of : (plan : Plan) (rounds : ℕ) (history : List Event) (view : View) (lists : List (List (Receipt Event))) (complete : Bool) → IsReachedBy plan history view
    → ((s : State) → live_view plan s ≡ view → IsTrue complete ↔ IsComplete plan rounds history s) → IsRun plan rounds history lists → IsTrue complete
complete_of plan rounds history view lists complete led tested run = (tested run.last (same_last plan history view run.last led run.legal)).1 run.complete

run_here : (plan : Plan) (rounds jobs units : ℕ) (history : List Event) (view : View) (lists : List (List (Receipt Event))) (complete once : Bool) → IsReachedBy plan history view
    → AreListsOf plan history (lists_of plan) lists → length view.jobs ≡ jobs → Works plan history units → ((s : State) → live_view plan s ≡ view → IsTrue complete ↔ IsComplete plan rounds history s) → IsTrue complete
    → (IsTrue once ↔ ((k : ℕ) → k < length history → places_of k lists ≡ 1)) → IsTrue once ↔ (IsRun plan rounds history lists × Makes plan history jobs × Works plan history units)
run_here plan rounds jobs units history view lists complete once led owner_lists jobs_made units_worked tested is counted = (
  λ so. (record { last = led.0; legal = led.1; complete = (tested led.0 led.2).0 is; received = record { owner_lists = owner_lists; once = counted.0 so } }, made_of plan history view jobs led jobs_made, units_worked),
  λ both. counted.1 both.0.received.once,
)

-- if all other tests passed, the history is a run exactly when each number is in one place of the lists
pub run_of : (plan : Plan) (rounds jobs units n : ℕ) (history shown : List Event) (view : View) (lists ls : List (List (Receipt Event))) (complete once : Bool) → IsReachedBy plan history view → shown ≡ history
    → AreListsOf plan history (lists_of plan) lists → length view.jobs ≡ jobs → Works plan history units → ((s : State) → live_view plan s ≡ view → IsTrue complete ↔ IsComplete plan rounds shown s) → IsTrue complete
    → n ≡ length history → ls ≡ lists → (IsTrue once ↔ ((k : ℕ) → k < n → places_of k ls ≡ 1)) → IsTrue once ↔ (IsRun plan rounds history lists × Makes plan history jobs × Works plan history units)
run_of plan rounds jobs units n history shown view lists ls complete once led all owner_lists jobs_made units_worked tested is long same counted =
    let here = subst (λ (xs : List (List (Receipt Event))). IsTrue once ↔ ((k : ℕ) → k < length history → places_of k xs ≡ 1)) same (subst (λ (m : ℕ). IsTrue once ↔ ((k : ℕ) → k < m → places_of k ls ≡ 1)) long counted) in
    run_here plan rounds jobs units history view lists complete once led owner_lists jobs_made units_worked (λ s seen. subst (λ (h : List Event). IsTrue complete ↔ IsComplete plan rounds h s) all (tested s seen)) is here
