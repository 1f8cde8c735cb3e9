use Rattle.std.proofs.Common.{length}
use Rattle.interleaving.proofs.WordByWord.{Front}
use Rattle.interleaving.proofs.named_jobs.NamedJobs.to_vec.Given as goal

abbrev pub invariant-loop-word : goal.invariant-loop-word
invariant-loop-word l = Front l.numbers.items l.rest l.self

abbrev pub decreases-loop-word : goal.decreases-loop-word
decreases-loop-word l = length l.rest
