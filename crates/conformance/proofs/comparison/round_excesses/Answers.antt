use Rattle.std.proofs.Common.{◌∙◌}
use Rattle.std.proofs.lemmas.Result.{IfOk-weaker}
use Rattle.conformance.specs.Lines.{lines_of}
use Rattle.conformance.proofs.ExcessTrackerAfter.{given_first}
use Rattle.conformance.proofs.OtherKindResults.{given_kinds}
use Rattle.conformance.proofs.comparison.round_excesses.Goals as goal

pub returns-then-others : goal.returns-then-others
returns-then-others c = λ kinds keeps so are.
    c.excesses.ensures kinds keeps (given_kinds c.args.plan.now (lines_of c.args.recording.now) so.actor_survey.reported kinds c.args.survey.now.actor_survey.others are so.actor_survey.others so.actor_survey.all.reported)

pub returns-else-others : goal.returns-else-others
returns-else-others c = λ kinds keeps so are.
    let lines = lines_of c.args.recording.now in
    let plan = c.args.plan.now in
    let others = c.args.survey.now.actor_survey.others in
    let none = so.actor_survey.others.none c.if-others.false in
    let given = given_kinds plan lines so.actor_survey.reported kinds others are so.actor_survey.others so.actor_survey.all.reported in
    let excess_tracker = so.excess_tracker.so c.if-others.false kinds (given_first plan others lines kinds none given) in
    IfOk-weaker c.from_slice.result _ _ (λ found is. is ∙ (c.deref.ensures.value ∙ excess_tracker.found)) c.from_slice.ensures.items
