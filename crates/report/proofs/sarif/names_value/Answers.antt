use Rattle.std.specs.Prelude.{string_bytes}
use Rattle.report.specs.Sarif.{rule_data}
use Rattle.report.proofs.JsonLists.{mapped_more}
use Rattle.report.proofs.sarif.names_value.Goals as goal

pub loop-name-preserved : goal.loop-name-preserved
loop-name-preserved c =
    mapped_more rule_data string_bytes c.args.names.now c.loop-name.name-index c.name-item.result c.loop-name.values.items c.push_value.new.values.items c.rule_value.result c.loop-name-test.true c.name-item.is c.in_ok-push_value.ensures (rw c.deref.ensures at c.rule_value.ensures) c.loop-name.invariant
