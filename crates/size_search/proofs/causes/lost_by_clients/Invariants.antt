-- The loop of `lost_by_clients`: no client kind before the current one repeats and has such a submit without a get.
use Rattle.std.proofs.Common.{ℕ, ◌<◌}
use Rattle.size_search.specs.Submitted.{LostByClients}
use Rattle.size_search.proofs.causes.lost_by_clients.Given as goal

abbrev pub invariant-loop-number : goal.invariant-loop-number
invariant-loop-number l = (c i : ℕ) → c < l.number → ¬ LostByClients l.plan l.without_bound c i
