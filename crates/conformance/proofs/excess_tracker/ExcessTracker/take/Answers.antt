use Rattle.recordings.specs.RecordingLine.{line_view}
use Rattle.conformance.proofs.VerdictsAfter.{on_both}
use Rattle.conformance.proofs.LineSurveyAfter.{excesses_after}
use Rattle.conformance.proofs.excess_tracker.ExcessTracker.take.Goals as goal

pub returns : goal.returns
returns c = λ kinds before keeps next given so.
    let plan = c.args.plan.now in
    let is = c.in_ok-kind.ensures.kind kinds before keeps given so.rounds in
    on_both c.take-2.result
    (λ taken found. record {
      rounds = c.in_ok-kind.ensures.kept kinds before keeps given so.rounds;
      comparison_state = taken;
      found = excesses_after plan kinds before (line_view c.args.line.now) c.args.number _ _ c.rounds_are_within_plan.ensures.adds_up next so.found found;
    })
    (c.take-2.ensures.taken plan kinds before is keeps so.comparison_state)
    (c.take-2.ensures.found plan kinds before is so.comparison_state)
