use Rattle.std.proofs.Common.{◌≡◌, ◌∙◌, ap, ap₂, List, [], subst, map}
use Rattle.std.specs.Prelude.{IfOk}
use Rattle.serde_json.specs.Data.{Data}
use Rattle.serde_json.specs.View.{view}
use Rattle.pool_machine.specs.declared.event.Event.{Event}
use Rattle.report.specs.Performed.{PerformsAll}
use Rattle.report.specs.declared.event_steps.EventStep.{EventStep}
use Rattle.report.specs.EventRuns.{runs}
use Rattle.report.specs.EventsShown.{shown_from}
use Rattle.report.specs.JsonEvents.{list_data, run_data}
use Rattle.report.specs.JsonWitness.{witness_parts, replay_data, witness_data}
use Rattle.report.proofs.Witnesses.{ending_whole, events_whole}
use Rattle.report.proofs.json_witness.witness_value.Goals as goal

pub returns : goal.returns
unfolding witness_data
returns c =
    let plan = c.args.plan.now in
    let places = c.args.places.now in
    let witness = c.args.witness.now in
    let events = witness.events.items in
    let world = c.perform_all.new.world.view in
    let steps = c.in_ok-steps.steps.items in
    let ok = c.in_ok-steps.ensures.well_formed in
    let did : PerformsAll plan events world steps = subst (λ (es : List Event). PerformsAll plan es world steps) c.deref.ensures.value c.in_ok-steps.ensures.value in
    let is_ending = ending_whole plan events world steps witness.ending ok did in
    let is_events = ap (λ (xs : List EventStep). list_data (map (run_data plan places) (runs (shown_from [] xs)))) c.deref-2.ensures.value ∙ events_whole plan places events world steps ok did in
    subst (λ (d : Data). IfOk c.parts_value.result (λ value. view value ≡ d)) (ap₂ (λ (e v : Data). witness_parts e v (replay_data plan witness)) is_ending is_events) c.parts_value.ensures
