use Rattle.std.proofs.Common.{◌≡◌, ℕ, ◌<◌, true}
use Rattle.interleaving.specs.Waiting.{waits_in_queue_of}
use Rattle.interleaving.specs.Stuck.{has_queued}
use Rattle.interleaving.proofs.world.World.queues_wait.Given as goal

-- each pool before this one has no queued member, or passes the test of its queue
abbrev pub invariant-loop-pool : goal.invariant-loop-pool
invariant-loop-pool l = (p : ℕ) → p < l.pool → has_queued l.plan l.self.view l.members p ≡ true → waits_in_queue_of l.plan l.self.view l.members p ≡ true
