use Rattle.std.proofs.Common.{◌∙◌}
use Rattle.plan_text.proofs.Tables.{has_only_of_keys}
use Rattle.plan_text.proofs.document.has_only.Goals as goal

pub returns : goal.returns
returns c = c.are_among.ensures ∙ has_only_of_keys c.args.keys.now c.args.table.now.entries
