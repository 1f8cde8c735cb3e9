use Rattle.std.proofs.Common.{refl, ap}
use Rattle.std.specs.Prelude.{codes}
use Rattle.serde_json.specs.Data.{string}
use Rattle.report.specs.Json.{answer_data}
use Rattle.report.specs.JsonObject.{members_of}
use Rattle.report.proofs.JsonObjects.{has_none, has_value, has_part, is_object}
use Rattle.report.proofs.json_findings.finding_value.Goals as goal

pub returns : goal.returns
unfolding answer_data
returns c =
    let answer = has_value (members_of c.new.result) (members_of c.text.result) (codes "answer") _ _ _ (has_none _ c.new.ensures) (ap string c.word_of.ensures) c.text.ensures in
    let assumptions = has_part _ (members_of c.part.result) (codes "assumptions") c.assumptions_value.result _ _ answer c.assumptions_value.ensures c.part.ensures in
    let faults = has_value _ (members_of c.value.result) (codes "faults") _ _ _ assumptions c.empty_list.ensures c.value.ensures in
    let file = has_value _ (members_of c.text-2.result) (codes "file") _ _ _ faults refl c.text-2.ensures in
    let format = has_value _ (members_of c.value-2.result) (codes "format") _ _ _ file c.from.ensures c.value-2.ensures in
    let omitted = has_value _ (members_of c.value-3.result) (codes "omitted") _ _ _ format c.from-2.ensures c.value-3.ensures in
    let plan = has_part _ (members_of c.part-2.result) (codes "plan") c.plan_value.result _ _ omitted c.plan_value.ensures c.part-2.ensures in
    let pools = has_part _ (members_of c.part-3.result) (codes "pools") c.pools_of.result _ _ plan c.pools_of.ensures c.part-3.ensures in
    let sizes = has_part _ (members_of c.part-4.result) (codes "sizes") c.sizes_of.result _ _ pools c.sizes_of.ensures c.part-4.ensures in
    let version = has_value _ (members_of c.text-3.result) (codes "version") _ _ _ sizes refl c.text-3.ensures in
    let warnings = has_part _ (members_of c.part-5.result) (codes "warnings") c.warnings_value.result _ _ version c.warnings_value.ensures c.part-5.ensures in
    let witness = has_part _ (members_of c.part-6.result) (codes "witness") c.witness_of.result _ _ warnings c.witness_of.ensures c.part-6.ensures in
    is_object _ c.done.result _ witness c.done.ensures
