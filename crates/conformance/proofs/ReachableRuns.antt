-- The states of a run that follows a path are reachable.
use Rattle.std.proofs.Common.{◌≡◌, ℕ, List, [], ◌∷◌, ◌++◌, Option, Some, None, ap, ◌∙◌}
use Rattle.std.proofs.lemmas.Option.{none-some, same_Some}
use Rattle.job_bodies.specs.declared.action.Action.{Action}
use Rattle.job_bodies.specs.Plan.{Plan}
use Rattle.pool_machine.specs.declared.parent.Parent.{Parent}
use Rattle.pool_machine.specs.Reach.{start}
use Rattle.soundness.specs.Execute.{JavaState, without_calls}
use Rattle.soundness.specs.Skipping.{Choice, choice_step, choices_replay, event_of_actor}
use Rattle.soundness.specs.Skipping.Choice.{Acts, Skips, Exchanges}
use Rattle.conformance.specs.LaggingRun.{MachineJob, OthersAct, stays, acts, Passes, arrives, works, skips, gets, exchanges, IsSubmitted, others_act, calls, is_taken, IsReachedByChoices, RunsStayReachable}

-- One more choice.
replay_push : (plan : Plan) (choices : List Choice) (x : Choice) (first : Option JavaState) (s s' : JavaState) → choices_replay plan first choices ≡ Some s → choice_step plan s x ≡ Some s' → choices_replay plan first (choices ++ x ∷ []) ≡ Some s'
replay_push plan [] x None s s' e stepped = absurd (none-some s e)
replay_push plan [] x (Some first) s s' e stepped = ap (λ (y : JavaState). choice_step plan y x) (same_Some first s e) ∙ stepped
replay_push plan (y ∷ ys) x None s s' e stepped = absurd (none-some s e)
replay_push plan (y ∷ ys) x (Some first) s s' e stepped = replay_push plan ys x (choice_step plan first y) s s' e stepped

reached_push : (plan : Plan) (x : Choice) (s s' : JavaState) → choice_step plan s x ≡ Some s' → IsReachedByChoices plan s → IsReachedByChoices plan s'
reached_push plan x s s' stepped reached = (reached.0 ++ x ∷ [], replay_push plan reached.0 x (Some (without_calls (start plan))) s s' reached.1 stepped)

others_reach : (plan : Plan) (a : Parent) {s s' : JavaState} → OthersAct plan a s s' → IsReachedByChoices plan s → IsReachedByChoices plan s'
others_reach plan a stays reached = reached
others_reach plan a (acts {s = s} {next = next} x other stepped rest) reached = others_reach plan a rest (reached_push plan x s next stepped reached)

passes_reach : (plan : Plan) (a : Parent) (body : List Action) (jobs : List MachineJob) {i j : ℕ} {s s' : JavaState} → Passes plan a body jobs i s j s' → IsReachedByChoices plan s → IsReachedByChoices plan s'
passes_reach plan a body jobs arrives reached = reached
passes_reach plan a body jobs (works {s = s} {next = next} units e stepped rest) reached = passes_reach plan a body jobs rest (reached_push plan (Acts (event_of_actor a)) s next stepped reached)
passes_reach plan a body jobs (skips {s = s} {next = next} class e stepped rest) reached = passes_reach plan a body jobs rest (reached_push plan (Skips (event_of_actor a)) s next stepped reached)
passes_reach plan a body jobs (gets {s = s} {next = next} submit number e is free stepped rest) reached = passes_reach plan a body jobs rest (reached_push plan (Acts (event_of_actor a)) s next stepped reached)
passes_reach plan a body jobs (exchanges {s = s} {next = next} t u stepped rest) reached = passes_reach plan a body jobs rest (reached_push plan (Exchanges a t u) s next stepped reached)

submitted_reach : (plan : Plan) (a : Parent) {number : ℕ} {s s' : JavaState} → IsSubmitted plan a s number s' → IsReachedByChoices plan s → IsReachedByChoices plan s'
submitted_reach plan a (others_act {s = s} {next = next} x other stepped rest) reached = submitted_reach plan a rest (reached_push plan x s next stepped reached)
submitted_reach plan a (calls {s = s} {next = next} stepped same rest) reached = submitted_reach plan a rest (reached_push plan (Acts (event_of_actor a)) s next stepped reached)
submitted_reach plan a (is_taken {s = s} {s' = s'} stepped grows) reached = reached_push plan (Acts (event_of_actor a)) s s' stepped reached

-- The law that runs which follow paths stay reachable.
pub runs_stay_reachable : RunsStayReachable
runs_stay_reachable plan a = record {
  others = λ s s' others. others_reach plan a others;
  passes = λ body jobs i j s s' passed. passes_reach plan a body jobs passed;
  submits = λ number s s' submitted. submitted_reach plan a submitted;
}
