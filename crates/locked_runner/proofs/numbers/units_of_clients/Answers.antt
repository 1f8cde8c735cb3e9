use Rattle.std.proofs.Common.{◌≡◌, List, ap, ◌∙◌}
use Rattle.job_bodies.specs.declared.action.Action.{Action}
use Rattle.job_bodies.specs.Plan.{Client}
use Rattle.locked_runner.specs.RunNumbers.{capped, units_in}
use Rattle.locked_runner.proofs.numbers.units_of_clients.Goals as goal

pub returns : goal.returns
returns c =
    let body : c.deref.result.now ≡ c.args.client.now.body = c.deref.ensures.value ∙ ap (λ (client : Client). client.body) c.client.view_is in
    c.in_all_rounds.ensures (units_in c.args.client.now.body) (c.units_in.ensures ∙ ap (λ (actions : List Action). capped (units_in actions)) body)
