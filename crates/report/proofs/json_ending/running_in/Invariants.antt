-- The list has those of the jobs so far that run in the pool.
use Rattle.std.proofs.Common.{◌≡◌, take}
use Rattle.support.specs.Places.{places_where}
use Rattle.interleaving.specs.Waiting.{is_busy_job}
use Rattle.report.proofs.json_ending.running_in.Given as goal

abbrev pub invariant-loop-job : goal.invariant-loop-job
invariant-loop-job l = l.jobs.items ≡ places_where (is_busy_job l.plan l.pool) (take l.job l.world.view.jobs)
