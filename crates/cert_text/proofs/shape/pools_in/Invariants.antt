use Rattle.std.proofs.Common.{map}
use Rattle.serde_json.specs.View.{view}
use Rattle.support.proofs.Loops.{Reads}
use Rattle.cert_text.specs.Shape.{pool_of}
use Rattle.cert_text.proofs.shape.pools_in.Given as goal

abbrev pub invariant-loop-pool : goal.invariant-loop-pool
invariant-loop-pool l = Reads (pool_of l.version l.plan) (map view l.values) l.pool l.pools.items
