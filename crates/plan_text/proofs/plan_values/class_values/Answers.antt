use Rattle.std.proofs.Common.{List, map, refl, ap, ◌∙◌}
use Rattle.std.proofs.lemmas.List.{length-map}
use Rattle.toml.specs.Data.{Data, array}
use Rattle.toml.specs.View.{view, items_of}
use Rattle.toml.proofs.Views.{view-Array}
use Rattle.support.proofs.Loops.{at_index_seen}
use Rattle.job_bodies.specs.Plan.{Pool, Class}
use Rattle.plan_text.specs.PlanDocument as spec
use Rattle.plan_text.proofs.Images.{image_pushed, image_whole}
use Rattle.plan_text.proofs.plan_values.class_values.Goals as goal

pub loop-class-preserved : goal.loop-class-preserved
loop-class-preserved c =
    let made = spec.class_data (map (λ (pool : Pool). pool.name) c.pools-pools.result.now) (map (λ (class : Class). class.name) c.classes-classes.result.now) in
    let here = at_index_seen made c.classes-classes.result.now c.loop-class.class-index c.class-item.result c.loop-class-test.true c.class-item.is in
    rw c.in_ok-push.ensures.items (image_pushed view _ _ _ _ _ here c.in_ok-class_value.ensures c.loop-class.invariant)

pub returns-clause-value : goal.returns-clause-value
returns-clause-value c =
    let made = spec.class_data (map (λ (pool : Pool). pool.name) c.pools-pools.result.now) (map (λ (class : Class). class.name) c.classes-classes.result.now) in
    let whole = image_whole view c.loop-class.values.items (map made c.classes-classes.result.now) c.loop-class.class-index (rw (length-map c.classes-classes.result.now made) c.loop-class-test.false) c.loop-class.invariant in
    view-Array _ ∙ ap (λ (values : List Data). array (items_of values)) whole ∙ rw (c.pools-pools.ensures.value, c.classes-classes.ensures.value) refl
