-- For each client, the number of its events among the events so far.
use Rattle.std.proofs.Common.{◌≡◌, ◌<◌, ◌-◌, ◌^◌, ℕ, length, take, min, slice_index, count_by}
use Rattle.locked_runner.specs.Complete.{is_of_client}
use Rattle.locked_runner.proofs.completeness.events_made.Given as goal

abbrev pub invariant-loop-event : goal.invariant-loop-event
invariant-loop-event l = (length l.made.items ≡ l.clients) × ((c : ℕ) → c < l.clients → slice_index l.made.items c ≡ min (count_by (is_of_client c) (take l.event-index l.history)) (2 ^ 64 - 1))
