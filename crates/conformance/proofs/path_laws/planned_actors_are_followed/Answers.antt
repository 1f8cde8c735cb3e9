use Rattle.conformance.proofs.FollowedActors.{planned_actors_are_followed}
use Rattle.conformance.proofs.path_laws.planned_actors_are_followed.Goals as goal

pub returns : goal.returns
returns c = planned_actors_are_followed
