use Rattle.sizing_cli.proofs.LastSeparator.{no_split_is}
use Rattle.sizing_cli.proofs.laws.no_bundle_without_a_separator.Goals as goal

pub returns : goal.returns
returns c = no_split_is
