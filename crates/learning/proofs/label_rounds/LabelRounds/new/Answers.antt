use Rattle.std.proofs.Common.{[], refl, slice_get, rules, arith}
use Rattle.learning.proofs.label_rounds.LabelRounds.new.Goals as goal

pub returns : goal.returns
returns c = record {
  kinds = [];
  begun = refl;
  open_labels = λ round kind there. absurd (grind (arith, there, c.new-2.ensures.values round));
  counts = λ more. c.in_ok-counts.ensures (slice_get more);
  of_kinds = λ more names. search rules;
}
