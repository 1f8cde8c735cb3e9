use Rattle.std.proofs.Common.{◌≡◌, map}
use Rattle.std.specs.Map.Iter.{deref}
use Rattle.recordings.specs.Invalidations.{first_of_each}
use Rattle.recordings.proofs.invalidation_list.firsts_of.Given as goal

-- The list has the first event of each type among the events read.
abbrev pub invariant-loop-one : goal.invariant-loop-one
invariant-loop-one l = l.firsts.items ≡ first_of_each (map deref l.yielded)
