use Rattle.std.proofs.Common.{◌≡◌, ◌≤◌, ◌∷◌, [], drop, take, length, ap, sym, subst, ◌∙◌, arith}
use Rattle.recordings.specs.RecordingLine.{line_view}
use Rattle.conformance.specs.RoundExcesses.{excesses_by_lines}
use Rattle.conformance.specs.ExcessTracker.{IsExcessTrackerOf}
use Rattle.conformance.specs.Lines.{lines_of}
use Rattle.conformance.proofs.ExcessTrackerAfter.{given_before}
use Rattle.conformance.proofs.ActorTables.{keeps_next}
use Rattle.conformance.proofs.ListSteps.{both_next, rest_next, within_next, front_next, all_taken, number_next}
use Rattle.conformance.proofs.excess_tracker.excesses.Goals as goal

pub loop-line-init : goal.loop-line-init
loop-line-init c = record {
  rest = c.new-lines.ensures.lines;
  within = omega arith;
  few = subst (λ (n : _). n ≤ length c.args.recording.now) (ap length c.new-lines.ensures.lines) c.new-lines.ensures.few;
  excess_tracker = λ kinds keeps given. c.in_ok-excess_tracker.ensures kinds;
}

pub loop-line-preserved : goal.loop-line-preserved
loop-line-preserved c =
    let lines = lines_of c.args.recording.now in
    let n = c.loop-line.number in
    let line = line_view c.in-Some.line in
    let next : drop n lines ≡ line ∷ c.next.new.self = sym c.loop-line.invariant.rest ∙ c.in-Some.ensures in
    let plan = c.args.plan.now in
    record {
      rest = rest_next lines _ n _ next;
      within = within_next lines _ n _ next;
      few = c.loop-line.invariant.few;
      excess_tracker = λ kinds keeps given. subst (λ (ls : _). IsExcessTrackerOf plan kinds ls c.take.new.self) (sym (front_next lines _ n _ next))
          (c.in_ok-take.ensures kinds (take n lines) (keeps_next lines _ n _ next keeps) (number_next lines _ n _ next)
          (given_before plan c.args.others.now _ _ lines kinds (both_next lines _ n _ next) keeps given) (c.loop-line.invariant.excess_tracker kinds keeps given));
    }

pub returns : goal.returns
returns c = λ kinds keeps given.
    let lines = lines_of c.args.recording.now in
    let n = c.loop-line.number in
    let rest : drop n lines ≡ [] = sym c.loop-line.invariant.rest ∙ c.in_default.ensures.0 in
    (c.loop-line.invariant.excess_tracker kinds keeps given).found ∙ ap (excesses_by_lines c.args.plan.now kinds) (all_taken lines n rest)
