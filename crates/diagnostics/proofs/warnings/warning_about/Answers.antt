use Rattle.std.proofs.Common.{ap, ◌∙◌}
use Rattle.std.specs.Prelude.{string_bytes}
use Rattle.diagnostics.specs.Lines.{one_line}
use Rattle.diagnostics.proofs.warnings.warning_about.Goals as goal

pub returns-clause-circle : goal.returns-clause-circle
returns-clause-circle c = record {
  words = string_bytes c.in_ok-words.words;
  are_words = c.in_ok-words.ensures;
  in_line = c.in_ok-what.ensures.exact ∙ ap one_line c.deref.ensures;
}
