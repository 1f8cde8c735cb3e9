use Rattle.std.proofs.Common.{◌≡◌, ℕ, ◌<◌, length, Some}
use Rattle.std.specs.Prelude.{slice_get}
use Rattle.conformance.specs.Path.{open_in_body}
use Rattle.conformance.specs.BodyGets.{get_at}
use Rattle.conformance.proofs.body_gets.body_gets.Given as goal

abbrev pub invariant-loop-index : goal.invariant-loop-index
invariant-loop-index l = record {
  open_jobs : l.jobs.items ≡ open_in_body l.body l.index;
  same_length : length l.gets.items ≡ l.index;
  each : (k : ℕ) → k < l.index → slice_get l.gets.items k ≡ Some (get_at l.body k);
}
