use Rattle.std.proofs.Common.{arith}
use Rattle.weights.proofs.vector.Vector.total.Goals as goal

pub overflow_add-result : goal.overflow_add-result
overflow_add-result c = omega (arith, c.clients_total.ensures.few, c.workers_total.ensures.few)
