-- Sets of jobs.
use Rattle.std.specs.Prelude.{ℕ, nat_eq, Bool}
use Rattle.std.specs.HashSet.{contains}
use Rattle.conformance.specs.declared.job_set.JobSet.{JobSet}

abbrev pub has_job : JobSet → ℕ → Bool
has_job set job = contains nat_eq set.jobs job
