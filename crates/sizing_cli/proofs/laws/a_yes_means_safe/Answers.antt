use Rattle.sizing_cli.proofs.SafeInputs.{yes_means_safe}
use Rattle.sizing_cli.proofs.laws.a_yes_means_safe.Goals as goal

pub returns : goal.returns
returns c = yes_means_safe
