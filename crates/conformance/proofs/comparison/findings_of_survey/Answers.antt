use Rattle.std.proofs.Common.{List, IfOk, subst, ap, ◌∙◌, rules}
use Rattle.std.specs.Result.{result_from_control_flow}
use Rattle.std.proofs.lemmas.List.Sorted.{list_any-IsPermutation, IsNonDecreasingBy-from_sort_by_key}
use Rattle.recordings.specs.NotesOfLines.{IsNotesOf}
use Rattle.conformance.specs.Lines.{lines_of}
use Rattle.conformance.specs.CollectedFindings.{AreCollected}
use Rattle.conformance.specs.declared.round_comparison.RoundExcess.{RoundExcess}
use Rattle.conformance.specs.Finding.{sort_key}
use Rattle.conformance.specs.Findings.{is_of_actors}
use Rattle.conformance.proofs.AllFound.{all_found}
use Rattle.conformance.proofs.NoneUndecided.{none_undecided}
use Rattle.conformance.proofs.Conforming.{conforms, actors_do, none_before}
use Rattle.conformance.proofs.KindsByResults.{all_first_kinds}
use Rattle.conformance.proofs.comparison.findings_of_survey.Goals as goal

all_collected : (c : goal.After-drop-excesses-2) → IsNotesOf c.args.survey.line_survey.notes (lines_of c.args.recording.now) → AreCollected c.args.plan.now (lines_of c.args.recording.now) c.args.survey c.in_ok-excesses.excesses.items c.args.refusals.now c.in_ok-findings.findings.items
all_collected c notes =
    subst (λ (excesses : List RoundExcess). AreCollected c.args.plan.now (lines_of c.args.recording.now) c.args.survey excesses c.args.refusals.now c.in_ok-findings.findings.items)
    c.deref.ensures.value
    (subst (λ (collected : _). IfOk collected (λ found. AreCollected c.args.plan.now (lines_of c.args.recording.now) c.args.survey c.deref.result.now c.args.refusals.now found.items)) (c.branch-findings.ensures ∙ ap result_from_control_flow c.in_ok-findings.is) (c.collect_findings-collected.ensures notes))

pub returns-clause-conforms : goal.returns-clause-conforms
returns-clause-conforms c = λ keeps so are none.
    let lines = lines_of c.args.recording.now in
    let plan = c.args.plan.now in
    let first = all_first_kinds plan lines so.actor_survey.reported keeps so.actor_survey.all in
    conforms plan lines c.args.survey first.kinds c.in_ok-excesses.excesses.items c.args.refusals.now c.in_ok-findings.findings.items
    c.pools_are_as_planned.ensures.as_planned c.pools_are_as_planned.ensures.recorded c.rounds_are_within_plan.ensures.within
    so first.so (c.in_ok-excesses.ensures first.kinds keeps so first.so) are (all_collected c so.line_survey.notes)
    (none_before _ _ c.in_ok-sort_by_key.ensures.permutation none)

pub returns-clause-actors : goal.returns-clause-actors
returns-clause-actors c = λ keeps so none.
    let lines = lines_of c.args.recording.now in
    let plan = c.args.plan.now in
    let first = all_first_kinds plan lines so.actor_survey.reported keeps so.actor_survey.all in
    actors_do plan lines c.args.survey first.kinds c.in_ok-excesses.excesses.items c.args.refusals.now c.in_ok-findings.findings.items c.rounds_are_within_plan.ensures.within
    so first.so (c.in_ok-excesses.ensures first.kinds keeps so first.so) (all_collected c so.line_survey.notes)
    (list_any-IsPermutation is_of_actors _ _ c.in_ok-sort_by_key.ensures.permutation ∙ none)

pub returns-clause-found : goal.returns-clause-found
returns-clause-found c = λ keeps so are.
    let lines = lines_of c.args.recording.now in
    let plan = c.args.plan.now in
    let first = all_first_kinds plan lines so.actor_survey.reported keeps so.actor_survey.all in
    all_found plan lines c.args.survey first.kinds c.in_ok-excesses.excesses.items c.args.refusals.now c.in_ok-findings.findings.items _
    so first.so (c.in_ok-excesses.ensures first.kinds keeps so first.so) are (all_collected c so.line_survey.notes)
    c.in_ok-sort_by_key.ensures.permutation

pub returns-clause-decided : goal.returns-clause-decided
returns-clause-decided c = λ keeps so are.
    let lines = lines_of c.args.recording.now in
    let plan = c.args.plan.now in
    let first = all_first_kinds plan lines so.actor_survey.reported keeps so.actor_survey.all in
    none_undecided plan lines _
    (all_found plan lines c.args.survey first.kinds c.in_ok-excesses.excesses.items c.args.refusals.now c.in_ok-findings.findings.items _
    so first.so (c.in_ok-excesses.ensures first.kinds keeps so first.so) are (all_collected c so.line_survey.notes)
    c.in_ok-sort_by_key.ensures.permutation)

pub returns-clause-ascending : goal.returns-clause-ascending
returns-clause-ascending c = IsNonDecreasingBy-from_sort_by_key sort_key _ c.in_ok-sort_by_key.ensures.sorted (λ a r q k. search rules)
