use Rattle.std.proofs.Common.{map}
use Rattle.serde_json.specs.View.{view}
use Rattle.support.proofs.Loops.{Reads}
use Rattle.cert_text.specs.Vectors.{numbers_of, class_points}
use Rattle.cert_text.proofs.vectors.class_rows_in.Given as goal

abbrev pub invariant-loop-class : goal.invariant-loop-class
invariant-loop-class l = Reads (λ i. numbers_of (class_points l.plan i)) (map view l.values) l.class (map (λ row. row.items) l.rows.items)
