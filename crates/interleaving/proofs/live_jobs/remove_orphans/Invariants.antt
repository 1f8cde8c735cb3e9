use Rattle.std.proofs.Common.{◌≡◌}
use Rattle.interleaving.specs.LiveJobs.{AreOrphaned, SubmitBoundsStay, jobs_in}
use Rattle.interleaving.proofs.live_jobs.remove_orphans.Given as goal

-- the done jobs that the parent created at positions before this one are removed
abbrev pub invariant-loop-submit : goal.invariant-loop-submit
invariant-loop-submit l = record {
  orphaned : AreOrphaned l.parent l.submit (jobs_in l.fn.kept.items) (jobs_in l.kept.items) l.fn.latest l.latest;
  reaches : SubmitBoundsStay l.fn.kept.items l.kept.items;
  places : l.kept.places ≡ l.fn.kept.places;
}
