-- The loop of `try_clone_clients`: the copies are the client kinds before the current one.
use Rattle.std.proofs.Common.{◌≡◌, take}
use Rattle.job_bodies.proofs.copies.try_clone_clients.Given as goal

abbrev pub invariant-loop-client : goal.invariant-loop-client
invariant-loop-client l = l.copies.items ≡ take l.client-index l.clients
