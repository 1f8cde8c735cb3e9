use Rattle.std.proofs.Common.{◌≡◌, take}
use Rattle.std.specs.List.{filter_map, enumerate_from}
use Rattle.conformance.specs.Rejections.{count_if}
use Rattle.conformance.proofs.rejections.Rejections.counts.Given as goal

abbrev pub invariant-loop-number : goal.invariant-loop-number
invariant-loop-number l = l.counts.items ≡ filter_map (count_if l.self.pools.items) (take l.number (enumerate_from 0 l.plan.pools))
