use Rattle.std.proofs.Common.{◌≡◌, ◌≤◌, ◌∷◌, List, [], drop, take, length, ap, sym, subst, ◌∙◌, arith}
use Rattle.recordings.specs.RecordingLine.{RecordedLine, line_view}
use Rattle.conformance.specs.Lines.{lines_of}
use Rattle.conformance.specs.Rejections.{AreRejectionsOfPrefix}
use Rattle.conformance.proofs.ListSteps.{both_next, rest_next, within_next, front_next, all_taken, number_next}
use Rattle.conformance.proofs.RefusalsAfter.{refused_there}
use Rattle.conformance.proofs.rejections.rejections_by.Goals as goal

pub loop-line-init : goal.loop-line-init
loop-line-init c = record {
  rest = c.new-lines.ensures.lines;
  within = omega arith;
  few = subst (λ (n : _). n ≤ length c.args.recording.now) (ap length c.new-lines.ensures.lines) c.new-lines.ensures.few;
  rejections = λ facts. c.new-rejections.ensures c.args.plan.now (lines_of c.args.recording.now);
}

pub loop-line-preserved : goal.loop-line-preserved
loop-line-preserved c =
    let lines = lines_of c.args.recording.now in
    let n = c.loop-line.number in
    let line = line_view c.in-Some.line in
    let next : drop n lines ≡ line ∷ c.next.new.self = sym c.loop-line.invariant.rest ∙ c.in-Some.ensures in
    record {
      rest = rest_next lines _ n _ next;
      within = within_next lines _ n _ next;
      few = c.loop-line.invariant.few;
      rejections = λ facts. subst (λ (read : List RecordedLine). AreRejectionsOfPrefix c.args.plan.now lines read c.take.new.self) (sym (front_next lines _ n _ next))
          (c.in_ok-take.ensures lines (take n lines) facts (refused_there lines (take n lines) _ line (both_next lines _ n _ next)) (number_next lines _ n _ next) (c.loop-line.invariant.rejections facts));
    }

pub returns : goal.returns
returns c = λ facts.
    let lines = lines_of c.args.recording.now in
    let n = c.loop-line.number in
    let rest : drop n lines ≡ [] = sym c.loop-line.invariant.rest ∙ c.in_default.ensures.0 in
    let so = subst (λ (read : List RecordedLine). AreRejectionsOfPrefix c.args.plan.now lines read c.loop-line.rejections) (all_taken lines n rest) (c.loop-line.invariant.rejections facts) in
    record { pools = so.pools; refusing = so.refusing; first = so.first }
