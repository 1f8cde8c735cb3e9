use Rattle.std.specs.Prelude.{string_bytes}
use Rattle.serde_json.specs.Data.{string}
use Rattle.report.proofs.JsonLists.{mapped_more}
use Rattle.report.proofs.json_pools.names_value.Goals as goal

pub loop-name-preserved : goal.loop-name-preserved
loop-name-preserved c =
    mapped_more string string_bytes c.args.names.now c.loop-name.name-index c.name-item.result c.loop-name.values.items c.push_value.new.values.items c.try_from_str.result c.loop-name-test.true c.name-item.is c.in_ok-push_value.ensures (rw c.deref.ensures at c.try_from_str.ensures) c.loop-name.invariant
