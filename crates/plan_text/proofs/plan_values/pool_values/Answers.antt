use Rattle.std.proofs.Common.{List, map, ap, ◌∙◌}
use Rattle.std.proofs.lemmas.List.{length-map}
use Rattle.toml.specs.Data.{Data, array}
use Rattle.toml.specs.View.{view, items_of}
use Rattle.toml.proofs.Views.{view-Array}
use Rattle.support.proofs.Loops.{at_index_seen}
use Rattle.job_bodies.specs.Plan.{Pool}
use Rattle.plan_text.specs.PlanDocument as spec
use Rattle.plan_text.proofs.Images.{image_pushed, image_whole}
use Rattle.plan_text.proofs.plan_values.pool_values.Goals as goal

pub loop-pool-preserved : goal.loop-pool-preserved
loop-pool-preserved c =
    let made = spec.pool_data in
    let here = at_index_seen made c.pools-pool-items.result.now c.loop-pool.pool-index c.pool-item.result c.loop-pool-test.true c.pool-item.is in
    rw c.in_ok-push.ensures.items (image_pushed view _ _ _ _ _ here c.in_ok-pool_value.ensures c.loop-pool.invariant)

pub returns : goal.returns
returns c =
    let made = spec.pool_data in
    let whole = image_whole view c.loop-pool.values.items (map made c.pools-pool-items.result.now) c.loop-pool.pool-index (rw (length-map c.pools-pool-items.result.now made) c.loop-pool-test.false) c.loop-pool.invariant in
    view-Array _ ∙ ap (λ (values : List Data). array (items_of values)) whole ∙ ap (λ (pools : List Pool). spec.list_data (map spec.pool_data pools)) c.pools-pool-items.ensures.value
