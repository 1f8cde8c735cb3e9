use Rattle.locked_runner.proofs.CompleteClients.{AreCompleteClients}
use Rattle.locked_runner.proofs.completeness.clients_are_complete.Given as goal

abbrev pub invariant-loop-number : goal.invariant-loop-number
invariant-loop-number l = AreCompleteClients l.plan l.kinds l.rounds l.made l.world.view l.number
