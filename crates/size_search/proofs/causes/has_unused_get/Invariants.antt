-- Clients submit each class before this one that has a get and whose pool's core threads may time out.
use Rattle.std.proofs.Common.{ℕ, ◌<◌}
use Rattle.job_bodies.specs.Plan.{class_at}
use Rattle.size_search.specs.Submitted.{IsSubmitted}
use Rattle.size_search.specs.ByClients.{client_bodies}
use Rattle.size_search.specs.Waiting.{GetsClass, MayLoseThreads}
use Rattle.size_search.proofs.causes.has_unused_get.Given as goal

abbrev pub invariant-loop-number : goal.invariant-loop-number
invariant-loop-number l = (k : ℕ) → k < l.number → (j : ℕ) → MayLoseThreads l.plan k → GetsClass (class_at l.plan k).body j → IsSubmitted l.plan (client_bodies l.plan) k
