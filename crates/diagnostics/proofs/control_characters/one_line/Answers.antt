use Rattle.std.proofs.Common.{subst, sym, rules}
use Rattle.diagnostics.specs.Lines.{HasNoNewline}
use Rattle.diagnostics.proofs.Lines.{one_line-single}
use Rattle.diagnostics.proofs.control_characters.one_line.Goals as goal

pub returns-clause-single : goal.returns-clause-single
returns-clause-single c = subst HasNoNewline (sym (search rules)) (one_line-single c.args.text.now)
