-- The lists so far, followed by those of the remaining pools, are all lists.
use Rattle.std.proofs.Common.{◌≡◌, ◌++◌, drop}
use Rattle.std.specs.List.{flat_map, enumerate_from}
use Rattle.locked_runner.specs.Owner.{pool_lists, lists_of}
use Rattle.locked_runner.proofs.owner.lists_of.Given as goal

abbrev pub invariant-loop-number : goal.invariant-loop-number
invariant-loop-number l = l.owners.items ++ flat_map pool_lists (enumerate_from l.number (drop l.number l.plan.pools)) ≡ lists_of l.plan
