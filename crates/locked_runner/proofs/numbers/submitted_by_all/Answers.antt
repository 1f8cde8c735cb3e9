use Rattle.std.proofs.Common.{◌≡◌, ◌≤◌, List, length, take, slice_index, sum_by, ap, ◌∙◌, arith}
use Rattle.std.proofs.lemmas.List.{take_all}
use Rattle.job_bodies.specs.Plan.{Client}
use Rattle.locked_runner.specs.RunNumbers.{capped, submitted_by}
use Rattle.locked_runner.proofs.Generations.{in_rounds}
use Rattle.locked_runner.proofs.numbers.submitted_by_all.Goals as goal

pub returns : goal.returns
returns c = λ f are.
    let past : length c.args.plan.now.clients ≤ c.loop-client.client-index = omega (arith, ap (λ (xs : List Client). length xs) c.clients-client-items.ensures.value) in
    let all : take c.loop-client.client-index c.args.plan.now.clients ≡ c.args.plan.now.clients = take_all c.loop-client.client-index c.args.plan.now.clients past in
    (c.loop-client.invariant ∙ ap (λ (xs : List Client). capped (sum_by (submitted_by c.args.rounds (slice_index c.args.numbers.now)) xs)) all)
    ∙ in_rounds c.args.plan.now c.args.rounds f c.args.numbers.now c.clients-client-items.ensures.well_formed are
