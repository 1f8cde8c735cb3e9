use Rattle.std.proofs.Common.{map}
use Rattle.serde_json.specs.View.{view}
use Rattle.support.proofs.Loops.{Reads}
use Rattle.cert_text.specs.Values.{number_of}
use Rattle.cert_text.proofs.vectors.numbers_in.Given as goal

abbrev pub invariant-loop-value : goal.invariant-loop-value
invariant-loop-value l = Reads (λ _. number_of) (map view l.values) l.value-index l.numbers.items
