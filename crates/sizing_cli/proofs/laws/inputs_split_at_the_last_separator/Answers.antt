use Rattle.sizing_cli.proofs.LastSeparator.{split_is}
use Rattle.sizing_cli.proofs.laws.inputs_split_at_the_last_separator.Goals as goal

pub returns : goal.returns
returns c = split_is
