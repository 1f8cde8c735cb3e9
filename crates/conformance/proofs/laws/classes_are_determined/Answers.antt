use Rattle.conformance.proofs.Determined.{classes_determined, kinds_determined}
use Rattle.conformance.proofs.laws.classes_are_determined.Goals as goal

pub returns-clause-classes : goal.returns-clause-classes
returns-clause-classes c = classes_determined

pub returns-clause-kinds : goal.returns-clause-kinds
returns-clause-kinds c = kinds_determined
