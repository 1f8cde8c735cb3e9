use Rattle.conformance.proofs.LaterJobs.{jobs_are_later}
use Rattle.conformance.proofs.EndedActors.{stays}
use Rattle.conformance.proofs.SettledClassesStay.{classes_stay, kinds_stay}
use Rattle.conformance.proofs.laws.settled_actors_stay.Goals as goal

pub returns-clause-paths : goal.returns-clause-paths
returns-clause-paths c = λ before more actor kept h. (stays before more actor kept h).path

pub returns-clause-later : goal.returns-clause-later
returns-clause-later c = jobs_are_later

pub returns-clause-classes : goal.returns-clause-classes
returns-clause-classes c = λ plan before more job classes kept is are. classes_stay plan before more kept job classes are is

pub returns-clause-kinds : goal.returns-clause-kinds
returns-clause-kinds c = λ plan before more round kinds kept is are. kinds_stay plan before more kept round kinds are is
