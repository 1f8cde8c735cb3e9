use Rattle.plan_text.proofs.ReadActions.{canonical}
use Rattle.plan_text.proofs.laws.spelling_is_canonical.Goals as goal

pub returns : goal.returns
returns c = canonical
