-- The parts of a witness make the whole.
use Rattle.std.proofs.Common.{◌≡◌, List, [], map, ap, ◌∙◌}
use Rattle.std.specs.Prelude.{flat_map}
use Rattle.serde_json.specs.Data.{Data}
use Rattle.job_bodies.specs.Plan.{Plan}
use Rattle.job_bodies.specs.WellFormed.{IsWellFormed}
use Rattle.diagnostics.specs.declared.entry_places.PlanPlaces.{PlanPlaces}
use Rattle.pool_machine.specs.declared.event.Event.{Event}
use Rattle.interleaving.specs.LiveView.{View}
use Rattle.counterexample.specs.declared.ending.Ending.{Ending}
use Rattle.counterexample.specs.EventLines.{stuck_members}
use Rattle.report.specs.declared.event_steps.EventStep.{EventStep}
use Rattle.report.specs.EventRows.{state_at_end}
use Rattle.report.specs.Performed.{PerformsAll}
use Rattle.report.specs.EventRuns.{EventShown, runs}
use Rattle.report.specs.EventsShown.{shown_from}
use Rattle.report.specs.JsonEvents.{list_data, run_data, events_data}
use Rattle.report.specs.JsonEnding.{kind_word, refusing_pool, ending_parts, ending_data}
use Rattle.report.specs.WaitsSeen.{wait_seen}
use Rattle.report.proofs.EventQueues.{shown_from_start}
use Rattle.report.proofs.WaitsShown.{waits_shown}

pub ending_whole : (plan : Plan) (events : List Event) (view : View) (steps : List EventStep) (ending : Ending) → IsWellFormed plan → PerformsAll plan events view steps
    → ending_parts (stuck_members ending) (kind_word ending) (refusing_pool plan ending) (flat_map (wait_seen plan view) (stuck_members ending)) ≡ ending_data plan (state_at_end plan events) ending
ending_whole plan events view steps ending ok did =
    ap (λ (waits : List Data). ending_parts (stuck_members ending) (kind_word ending) (refusing_pool plan ending) waits)
    (ap (λ (v : View). flat_map (wait_seen plan v) (stuck_members ending)) did.seen ∙ waits_shown plan (state_at_end plan events) (stuck_members ending) ok did.reached)

pub events_whole : (plan : Plan) (places : PlanPlaces) (events : List Event) (view : View) (steps : List EventStep) → IsWellFormed plan → PerformsAll plan events view steps
    → list_data (map (run_data plan places) (runs (shown_from [] steps))) ≡ events_data places plan events
events_whole plan places events view steps ok did =
    ap (λ (shown : List EventShown). list_data (map (run_data plan places) (runs shown)))
    (ap (λ (xs : List EventStep). shown_from [] xs) did.each ∙ shown_from_start plan events ok)
