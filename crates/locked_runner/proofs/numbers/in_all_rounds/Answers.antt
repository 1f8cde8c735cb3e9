use Rattle.std.proofs.Common.{ap}
use Rattle.job_bodies.specs.Plan.{Client}
use Rattle.locked_runner.specs.Complete.{rounds_of}
use Rattle.locked_runner.proofs.Capped.{product_of}
use Rattle.locked_runner.proofs.numbers.in_all_rounds.Goals as goal

pub returns : goal.returns
returns c = λ n is.
    product_of 18446744073709551615 c.args.client.now.count (rounds_of c.args.rounds c.args.client.now) n c.client.inside.count
    c.rounds_of_client.result c.args.in_one c.saturating_mul-of_one.result c.saturating_mul.result
    (ap (λ (client : Client). client.count) c.client.view_is) c.rounds_of_client.ensures is c.saturating_mul-of_one.ensures c.saturating_mul.ensures
