use Rattle.soundness.proofs.AtomicIsJava.{atomic_states_are_reached}
use Rattle.soundness.proofs.java_laws.atomic_states_are_reached.Goals as goal

pub returns : goal.returns
returns c = atomic_states_are_reached
