-- The list so far, followed by the lints of the remaining client kinds, is the list at the start followed by the lints of all client kinds.
use Rattle.std.proofs.Common.{◌≡◌, ◌++◌, ℕ}
use Rattle.job_bodies.specs.Plan.{Client}
use Rattle.diagnostics.specs.Lints.{growing_of_client, growing_of_clients}
use Rattle.diagnostics.proofs.InOrder.{rest_of}
use Rattle.diagnostics.proofs.growing_queues.push_clients.Given as goal

abbrev pub invariant-loop-number : goal.invariant-loop-number
invariant-loop-number l = l.found.items ++ rest_of (λ (entry : ℕ × Client). growing_of_client l.plan entry.0 entry.1) l.plan.clients l.number ≡ l.fn.found.items ++ growing_of_clients l.plan
