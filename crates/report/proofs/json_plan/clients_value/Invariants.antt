-- The values so far and the remaining client kinds are all client kinds.
use Rattle.std.proofs.Common.{◌≡◌}
use Rattle.report.specs.JsonPlan.{client_entry}
use Rattle.report.proofs.JsonLists.{with_rest}
use Rattle.report.proofs.ShareSums.{rest_given}
use Rattle.report.proofs.json_plan.clients_value.Given as goal

abbrev pub invariant-loop-number : goal.invariant-loop-number
invariant-loop-number l = with_rest (client_entry l.plan l.places) l.clients l.number l.values.items ≡ rest_given (client_entry l.plan l.places) l.clients 0
