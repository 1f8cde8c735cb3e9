-- The values so far and the remaining actions are all actions.
use Rattle.std.proofs.Common.{◌≡◌}
use Rattle.report.specs.JsonPlan.{action_entry}
use Rattle.report.proofs.JsonLists.{with_rest}
use Rattle.report.proofs.ShareSums.{rest_given}
use Rattle.report.proofs.json_bodies.body_value.Given as goal

abbrev pub invariant-loop-number : goal.invariant-loop-number
invariant-loop-number l = with_rest (action_entry l.plan l.places l.index l.body) l.body l.number l.values.items ≡ rest_given (action_entry l.plan l.places l.index l.body) l.body 0
