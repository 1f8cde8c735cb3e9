use Rattle.std.proofs.Common.{length}
use Rattle.interleaving.proofs.WordByWord.{SameReading}
use Rattle.interleaving.proofs.named_jobs.NamedJobs.read.Given as goal

abbrev pub invariant-loop-word : goal.invariant-loop-word
invariant-loop-word l = SameReading l.rest l.words

abbrev pub decreases-loop-word : goal.decreases-loop-word
decreases-loop-word l = length l.rest
