use Rattle.soundness.proofs.WorkedJava.{java_may_refuse_with_room}
use Rattle.soundness.proofs.java_laws.java_may_refuse_with_room.Goals as goal

pub returns : goal.returns
returns c = java_may_refuse_with_room
