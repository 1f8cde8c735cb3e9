-- The first open job is that of the remaining steps.
use Rattle.std.proofs.Common.{◌≡◌, ◌+◌, length, slice_get}
use Rattle.std.specs.Prelude.{flat_map}
use Rattle.std.specs.List.{enumerate_from}
use Rattle.conformance.specs.Description.{open_job_at, first_open}
use Rattle.conformance.proofs.describe_mismatch.open_job.Given as goal

abbrev pub invariant-loop-step : goal.invariant-loop-step
invariant-loop-step l =
    (slice_get (flat_map (open_job_at l.path) (enumerate_from l.place l.rest)) 0 ≡ first_open l.path)
    × (l.place + length l.rest ≡ length l.path)

abbrev pub decreases-loop-step : goal.decreases-loop-step
decreases-loop-step l = length l.rest
