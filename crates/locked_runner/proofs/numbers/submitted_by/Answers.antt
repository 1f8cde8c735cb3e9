use Rattle.std.proofs.Common.{◌≡◌, List, slice_index, ap, ◌∙◌}
use Rattle.job_bodies.specs.declared.action.Action.{Action}
use Rattle.job_bodies.specs.Plan.{Client}
use Rattle.locked_runner.specs.RunNumbers.{capped, submitted}
use Rattle.locked_runner.proofs.numbers.submitted_by.Goals as goal

pub returns : goal.returns
returns c =
    let body : c.deref.result.now ≡ c.args.client.now.body = c.deref.ensures.value ∙ ap (λ (client : Client). client.body) c.client.view_is in
    c.in_all_rounds.ensures (submitted (slice_index c.args.numbers.now) c.args.client.now.body)
    (c.submitted.ensures ∙ ap (λ (actions : List Action). capped (submitted (slice_index c.args.numbers.now) actions)) body)
