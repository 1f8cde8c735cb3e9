use Rattle.std.proofs.Common.{◌≡◌, ◌+◌, ◌++◌}
use Rattle.std.specs.VecDeque.{deque_len, deque_capacity}
use Rattle.interleaving.specs.JobRing.{gaps}
use Rattle.interleaving.proofs.job_ring.skip_gaps.Given as goal

abbrev pub invariant-loop-recent : goal.invariant-loop-recent
invariant-loop-recent l = record {
  items : l.fn.recent.items ≡ gaps l.skipped ++ l.recent.items;
  len : deque_len l.recent + l.skipped ≡ deque_len l.fn.recent;
  capacity : deque_capacity l.recent ≡ deque_capacity l.fn.recent;
}

abbrev pub decreases-loop-recent : goal.decreases-loop-recent
decreases-loop-recent l = deque_len l.recent
