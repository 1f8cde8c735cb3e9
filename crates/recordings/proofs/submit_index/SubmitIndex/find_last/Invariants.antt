use Rattle.std.proofs.Common.{◌≤◌, ◌<◌, ◌≢◌, ℕ, length}
use Rattle.recordings.specs.SubmitIndex.{job_at}
use Rattle.recordings.proofs.submit_index.SubmitIndex.find_last.Given as goal

-- no entry from `at` on is one of the job
abbrev pub invariant-loop-at : goal.invariant-loop-at
invariant-loop-at l = (l.at ≤ length l.self.entries.items) × ((k : ℕ) → l.at ≤ k → k < length l.self.entries.items → job_at l.self.entries.items k ≢ l.job)

abbrev pub decreases-loop-at : goal.decreases-loop-at
decreases-loop-at l = l.at
