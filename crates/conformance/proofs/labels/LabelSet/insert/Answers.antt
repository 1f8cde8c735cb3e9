use Rattle.std.proofs.Common.{true, arith}
use Rattle.std.specs.String.{string_bytes}
use Rattle.std.proofs.lemmas.Grind.{common_steps}
use Rattle.std.proofs.lemmas.Map.Text.{hash_set_updates_text}
use Rattle.conformance.proofs.labels.LabelSet.insert.Goals as goal

pub returns-in_ok-insert : goal.returns-in_ok-insert
returns-in_ok-insert c = λ q.
    let key = c.in_ok-label.label in
    let reported = hash_set_updates_text (string_bytes key) c.args.self.now.labels c.insert.new.self true c.in_ok-insert.ensures.updates q in
    grind (arith, common_steps)
