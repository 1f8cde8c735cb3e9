use Rattle.std.proofs.Common.{refl}
use Rattle.learning.proofs.FirstPass.{none_named}
use Rattle.learning.proofs.recorded_names.RecordedNames.new.Goals as goal

pub returns-clause-names : goal.returns-clause-names
returns-clause-names c = none_named _ c.new.ensures.items refl refl refl refl refl refl
