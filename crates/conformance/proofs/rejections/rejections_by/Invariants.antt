use Rattle.std.proofs.Common.{◌≡◌, ◌≤◌, drop, take, length}
use Rattle.conformance.specs.Lines.{lines_of}
use Rattle.conformance.specs.RefusalFacts.{AreFactsFor}
use Rattle.conformance.specs.Rejections.{AreRejectionsOfPrefix}
use Rattle.conformance.proofs.rejections.rejections_by.Given as goal

abbrev pub invariant-loop-line : goal.invariant-loop-line
invariant-loop-line l = record {
  rest : l.lines ≡ drop l.number (lines_of l.recording);
  within : l.number ≤ length (lines_of l.recording);
  few : length (lines_of l.recording) ≤ length l.recording;
  rejections : AreFactsFor l.plan (lines_of l.recording) l.facts → AreRejectionsOfPrefix l.plan (lines_of l.recording) (take l.number (lines_of l.recording)) l.rejections;
}

abbrev pub decreases-loop-line : goal.decreases-loop-line
decreases-loop-line l = length l.lines
