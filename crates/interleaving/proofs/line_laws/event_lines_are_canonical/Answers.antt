use Rattle.interleaving.proofs.WrittenTexts.{canonical}
use Rattle.interleaving.proofs.line_laws.event_lines_are_canonical.Goals as goal

pub returns : goal.returns
returns c = canonical
