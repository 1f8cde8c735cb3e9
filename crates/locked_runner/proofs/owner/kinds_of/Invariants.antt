-- The kinds so far, followed by those of the clients of the remaining client kinds, are all kinds.
use Rattle.std.proofs.Common.{◌≡◌, ◌++◌, drop}
use Rattle.std.specs.List.{flat_map, enumerate_from}
use Rattle.locked_runner.specs.Owner.{kinds_of_entry}
use Rattle.locked_runner.proofs.owner.kinds_of.Given as goal

abbrev pub invariant-loop-kind : goal.invariant-loop-kind
invariant-loop-kind l = l.kinds.items ++ flat_map kinds_of_entry (enumerate_from l.kind (drop l.kind l.plan.clients)) ≡ flat_map kinds_of_entry (enumerate_from 0 l.plan.clients)
