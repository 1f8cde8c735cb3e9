use Rattle.std.proofs.Common.{ap, arith}
use Rattle.std.proofs.lemmas.Bool.{and_parts}
use Rattle.job_bodies.specs.Plan.{Pool}
use Rattle.job_bodies.specs.WellFormed.{is_valid_name, has_valid_sizes}
use Rattle.job_bodies.proofs.Bodies.{valid_sizes}
use Rattle.plan_text.proofs.plan_values.insert_sizes.Goals as goal

-- the queue of a valid pool is within the limit on sizes
pub insert_size-requires-2 : goal.insert_size-requires-2
insert_size-requires-2 c off =
    let pool = c.args.pool.now in
    let valid = and_parts (is_valid_name pool.name) (has_valid_sizes pool) c.requires in
    let most = (valid_sizes pool valid.1).most_queue in
    let same = ap (λ (seen : Pool). seen.queue) c.pool.view_is in
    omega arith
