use Rattle.std.proofs.Common.{◌≡◌, ◌++◌, ◌∙◌, ap, List, ℕ, map}
use Rattle.serde_json.specs.View.{view}
use Rattle.pool_machine.specs.declared.event.Event.{Event}
use Rattle.interleaving.specs.EventLine.{Perform}
use Rattle.counterexample.specs.EventLines.{stuck_members, question}
use Rattle.report.specs.JsonEvents.{list_data}
use Rattle.report.specs.JsonWitness.{replay_line}
use Rattle.report.proofs.ReplayLines.{all_lines}
use Rattle.report.proofs.json_replay.replay_value.Goals as goal

pub returns : goal.returns
returns c =
    let plan = c.args.plan.now in
    let events = c.args.witness.now.events.items in
    let members = stuck_members c.args.witness.now.ending in
    let front : map view c.push_events.new.values.items ≡ map (λ event. replay_line plan (Perform event)) events =
    c.in_ok-push_events.ensures ∙ ap (λ (xs : List _). map view xs ++ map (λ event. replay_line plan (Perform event)) c.deref.result.now) c.new-values.ensures.items ∙ ap (λ (xs : List Event). map (λ event. replay_line plan (Perform event)) xs) c.deref.ensures.value in
    let whole : map view c.push_question.new.values.items ≡ map view c.push_events.new.values.items ++ map (replay_line plan) (question members) =
    c.in_ok-push_question.ensures ∙ ap (λ (xs : List ℕ). map view c.push_events.new.values.items ++ map (replay_line plan) (question xs)) c.members_of.ensures in
    c.array_value.ensures ∙ ap list_data (all_lines plan events members (map view c.push_events.new.values.items) (map view c.push_question.new.values.items) front whole)
