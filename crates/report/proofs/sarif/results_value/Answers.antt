use Rattle.report.specs.Annotations.{remark_of}
use Rattle.report.specs.Sarif.{result_data}
use Rattle.report.proofs.JsonLists.{mapped_more}
use Rattle.report.proofs.sarif.results_value.Goals as goal

pub loop-annotation-preserved : goal.loop-annotation-preserved
loop-annotation-preserved c =
    mapped_more (result_data c.args.file.now) remark_of c.args.annotations.now c.loop-annotation.annotation-index c.annotation-item.result c.loop-annotation.values.items c.push_value.new.values.items c.result_value.result c.loop-annotation-test.true c.annotation-item.is c.in_ok-push_value.ensures c.result_value.ensures c.loop-annotation.invariant
