use Rattle.std.proofs.Common.{map}
use Rattle.serde_json.specs.View.{view}
use Rattle.support.proofs.Loops.{Reads}
use Rattle.cert_text.specs.Vectors.{numbers_of, client_points}
use Rattle.cert_text.proofs.vectors.client_rows_in.Given as goal

abbrev pub invariant-loop-client : goal.invariant-loop-client
invariant-loop-client l = Reads (λ i. numbers_of (client_points l.plan i)) (map view l.values) l.client (map (λ row. row.items) l.rows.items)
