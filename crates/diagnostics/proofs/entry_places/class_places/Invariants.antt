-- The bodies so far have as many places as those of the classes before the current index have actions.
use Rattle.std.proofs.Common.{◌≡◌, take}
use Rattle.diagnostics.specs.PlanPlaces.{action_counts, class_lengths}
use Rattle.diagnostics.proofs.entry_places.class_places.Given as goal

abbrev pub invariant-loop-index : goal.invariant-loop-index
invariant-loop-index l = action_counts l.found.items ≡ take l.index (class_lengths l.plan.classes)
