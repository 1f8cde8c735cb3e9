use Rattle.std.proofs.Common.{get_or, All, arith}
use Rattle.std.specs.Prelude.{IsTrue}
use Rattle.std.proofs.lemmas.Bool.{and_parts}
use Rattle.std.proofs.lemmas.Grind.{common_steps}
use Rattle.std.proofs.lemmas.Option.{slice_get-get_or}
use Rattle.job_bodies.specs.WellFormed.{is_valid_name, has_valid_sizes, is_valid_pool}
use Rattle.job_bodies.proofs.Bodies.{list_all_get}
use Rattle.interleaving.proofs.Reached.{starts_seen}
use Rattle.interleaving.proofs.ViewsToStates.{start_of_plan}
use Rattle.interleaving.proofs.world.World.start.Goals as goal

pub new_pools-requires : goal.new_pools-requires
new_pools-requires c =
    let plan = c.args.plan.now in
    let valid : All (λ pool. IsTrue (has_valid_sizes pool)) plan.pools = λ k d inside.
    let pool = get_or plan.pools k d in
    (and_parts (is_valid_name pool.name) (has_valid_sizes pool) (list_all_get is_valid_pool plan.pools k pool c.pools.ensures.well_formed.pools (slice_get-get_or plan.pools k d inside))).1 in
    rw c.pools.ensures.value valid

pub returns-clause-of_plan : goal.returns-clause-of_plan
returns-clause-of_plan c = start_of_plan c.args.plan.now _ (grind (arith, common_steps, starts_seen))

pub returns-clause-value : goal.returns-clause-value
returns-clause-value c = grind (arith, common_steps, starts_seen)
