use Rattle.std.proofs.Common.{◌≡◌, ◌≤◌, ◌*◌, ◌++◌, drop}
use Rattle.interleaving.specs.Clients.{ends_from}
use Rattle.interleaving.proofs.clients.ends_of.Given as goal

-- the ends so far, followed by those of the remaining kinds, are all ends
abbrev pub invariant-loop-kind : goal.invariant-loop-kind
invariant-loop-kind l = (l.end ≤ l.kind-index * 1000000) × (l.ends.items ++ ends_from l.end (drop l.kind-index l.kinds) ≡ ends_from 0 l.kinds)
