use Rattle.sizing_cli.proofs.JoinedTexts.{split_again}
use Rattle.sizing_cli.proofs.laws.joined_texts_split_again.Goals as goal

pub returns : goal.returns
returns c = split_again
