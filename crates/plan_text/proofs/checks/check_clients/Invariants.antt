use Rattle.std.proofs.Common.{◌≡◌, take}
use Rattle.support.proofs.Loops.{Checks}
use Rattle.job_bodies.specs.Checks as checks
use Rattle.plan_text.specs.Checks.{client_names, client_head}
use Rattle.plan_text.proofs.checks.check_clients.Given as goal

abbrev pub invariant-loop-index : goal.invariant-loop-index
invariant-loop-index l = record {
  names : l.names ≡ take l.index (client_names l.clients);
  passed : Checks (λ index client. checks.check_client (take index (client_names l.clients)) index (client_head client)) l.clients l.index;
}
