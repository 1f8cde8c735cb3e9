use Rattle.std.proofs.Common.{length, refl, ap, arith}
use Rattle.recordings.proofs.CheckedLinesAfter.{unbroken_none}
use Rattle.recordings.proofs.checked_lines.CheckedLines.new.Goals as goal

pub returns-clause-checked : goal.returns-clause-checked
returns-clause-checked c = record {
  few = omega (arith, c.new.ensures.few, ap length c.new.ensures.lines);
  within = omega arith;
  rest = c.new.ensures.lines;
  represents = c.new-2.ensures;
  counted = refl;
  unbroken = unbroken_none;
  good = λ k below. absurd (omega arith);
}
