use Rattle.std.proofs.Common.{refl}
use Rattle.std.specs.Prelude.{codes}
use Rattle.serde_json.specs.Data.{null}
use Rattle.report.specs.Json.{answer_data}
use Rattle.report.specs.JsonObject.{members_of}
use Rattle.report.proofs.JsonObjects.{has_none, has_value, has_part, is_object, view_null}
use Rattle.report.proofs.json_answers.faulty_value.Goals as goal

pub returns : goal.returns
unfolding answer_data
returns c =
    let answer = has_value (members_of c.new.result) (members_of c.text.result) (codes "answer") _ _ _ (has_none _ c.new.ensures) refl c.text.ensures in
    let assumptions = has_value _ (members_of c.value.result) (codes "assumptions") _ _ _ answer c.empty_list.ensures c.value.ensures in
    let faults = has_value _ (members_of c.value-2.result) (codes "faults") _ _ _ assumptions refl c.value-2.ensures in
    let file = has_value _ (members_of c.text-2.result) (codes "file") _ _ _ faults refl c.text-2.ensures in
    let format = has_value _ (members_of c.value-3.result) (codes "format") _ _ _ file c.from.ensures c.value-3.ensures in
    let omitted = has_value _ (members_of c.value-4.result) (codes "omitted") _ _ _ format c.from-2.ensures c.value-4.ensures in
    let plan = has_part _ (members_of c.part.result) (codes "plan") c.text_only_value.result _ _ omitted c.text_only_value.ensures c.part.ensures in
    let pools = has_value _ (members_of c.value-5.result) (codes "pools") _ _ _ plan c.empty_list-2.ensures c.value-5.ensures in
    let sizes = has_value _ (members_of c.value-6.result) (codes "sizes") _ null _ pools view_null c.value-6.ensures in
    let version = has_value _ (members_of c.text-3.result) (codes "version") _ _ _ sizes refl c.text-3.ensures in
    let warnings = has_value _ (members_of c.value-7.result) (codes "warnings") _ _ _ version c.empty_list-3.ensures c.value-7.ensures in
    let witness = has_value _ (members_of c.value-8.result) (codes "witness") _ null _ warnings view_null c.value-8.ensures in
    is_object _ c.done.result _ witness c.done.ensures
