use Rattle.std.proofs.Common.{List, ℕ, map, sym, ap, ◌∙◌}
use Rattle.std.specs.List.{enumerate_from}
use Rattle.std.proofs.lemmas.List.{length-map}
use Rattle.std.proofs.lemmas.List.FromFn.{length-enumerate_from}
use Rattle.std.proofs.lemmas.Simd.{map-map}
use Rattle.toml.specs.Data.{Data, string, array}
use Rattle.toml.specs.View.{view, items_of}
use Rattle.toml.proofs.Views.{view-Array, view-String}
use Rattle.plan_text.specs.Spelling as spec
use Rattle.plan_text.proofs.Images.{image_pushed, image_whole, enumerated}
use Rattle.plan_text.proofs.spelling.body_value.Goals as goal

pub loop-position-preserved : goal.loop-position-preserved
loop-position-preserved c =
    let spelled = λ (entry : ℕ × _). string (spec.action_text (map (λ class. class.name) c.args.classes.now) c.args.body.now entry.0 entry.1) in
    let here = enumerated spelled c.args.body.now c.loop-position.position _ c.loop-position-test.true in
    rw c.in_ok-push.ensures.items (image_pushed view _ _ _ _ _ here (view-String c.in_ok-text.text ∙ ap string c.in_ok-text.ensures) c.loop-position.invariant)

pub returns : goal.returns
unfolding spec.body_texts
returns c =
    let spelled = λ (entry : ℕ × _). string (spec.action_text (map (λ class. class.name) c.args.classes.now) c.args.body.now entry.0 entry.1) in
    let entries = enumerate_from 0 c.args.body.now in
    let whole = image_whole view c.loop-position.texts.items (map spelled entries) c.loop-position.position (rw (length-map entries spelled, length-enumerate_from 0 c.args.body.now) c.loop-position-test.false) c.loop-position.invariant in
    view-Array _ ∙ ap (λ (values : List Data). array (items_of values)) (whole ∙ sym (map-map string _ entries))
