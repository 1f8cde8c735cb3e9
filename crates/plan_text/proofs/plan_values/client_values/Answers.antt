use Rattle.std.proofs.Common.{List, map, refl, ap, ◌∙◌}
use Rattle.std.proofs.lemmas.List.{length-map}
use Rattle.toml.specs.Data.{Data, array}
use Rattle.toml.specs.View.{view, items_of}
use Rattle.toml.proofs.Views.{view-Array}
use Rattle.support.proofs.Loops.{at_index_seen}
use Rattle.job_bodies.specs.Plan.{Class}
use Rattle.plan_text.specs.PlanDocument as spec
use Rattle.plan_text.proofs.Images.{image_pushed, image_whole}
use Rattle.plan_text.proofs.plan_values.client_values.Goals as goal

pub loop-client-preserved : goal.loop-client-preserved
loop-client-preserved c =
    let made = spec.client_data (map (λ (class : Class). class.name) c.classes-classes.result.now) in
    let here = at_index_seen made c.clients-client-items.result.now c.loop-client.client-index c.client-item.result c.loop-client-test.true c.client-item.is in
    rw c.in_ok-push.ensures.items (image_pushed view _ _ _ _ _ here c.in_ok-client_value.ensures c.loop-client.invariant)

pub returns : goal.returns
returns c =
    let made = spec.client_data (map (λ (class : Class). class.name) c.classes-classes.result.now) in
    let whole = image_whole view c.loop-client.values.items (map made c.clients-client-items.result.now) c.loop-client.client-index (rw (length-map c.clients-client-items.result.now made) c.loop-client-test.false) c.loop-client.invariant in
    view-Array _ ∙ ap (λ (values : List Data). array (items_of values)) whole ∙ rw (c.classes-classes.ensures.value, c.clients-client-items.ensures.value) refl
