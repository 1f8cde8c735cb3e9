use Rattle.std.proofs.Common.{◌≡◌, get_or, slice_get, Some, sym, ap, ◌∙◌}
use Rattle.std.proofs.lemmas.Bool.{and_parts}
use Rattle.std.proofs.lemmas.Option.{slice_get-get_or}
use Rattle.job_bodies.specs.WellFormed.{is_valid_name, has_valid_sizes, is_valid_pool}
use Rattle.job_bodies.proofs.Bodies.{list_all_get}
use Rattle.weights.proofs.bound.Bound.limit.Goals as goal

pub lifetime_limit-requires : goal.lifetime_limit-requires
lifetime_limit-requires c =
    let plan = c.args.plan.now in
    let one = c.index-pools-pool.result in
    let read : one ≡ get_or plan.pools c.args.pool one = rw (← c.pools.ensures.value) c.index-pools-pool.is in
    let here : slice_get plan.pools c.args.pool ≡ Some one = slice_get-get_or plan.pools c.args.pool one c.requires ∙ ap Some (sym read) in
    (and_parts (is_valid_name one.name) (has_valid_sizes one) (list_all_get is_valid_pool plan.pools c.args.pool one c.pools.ensures.well_formed.pools here)).1
