use Rattle.std.proofs.Common.{◌≡◌, ◌∙◌, ◌∷◌, [], ap, sym, subst, length, map, slice_get, string_bytes, Some, arith}
use Rattle.std.proofs.lemmas.List.{length-map}
use Rattle.learning.specs.LabelRounds.{labels_of}
use Rattle.learning.proofs.LabelRounds.{at_end, place_is}
use Rattle.learning.proofs.label_rounds.LabelRounds.number_of.Goals as goal

pub returns-in-Some-clause-number : goal.returns-in-Some-clause-number
returns-in-Some-clause-number c =
    subst (λ items. slice_get (map string_bytes items) c.in-Some.kind ≡ Some c.args.label.now) c.deref.ensures.value
    (place_is string_bytes c.args.label.now c.deref.result.now c.in-Some.kind (sym c.in-Some.ensures))

pub returns-in_ok-add-in-None-clause-number : goal.returns-in_ok-add-in-None-clause-number
returns-in_ok-add-in-None-clause-number c =
    let labels = c.args.self.now.labels in
    let last : c.len-kind.result ≡ length (labels_of c.args.self.now) = grind (arith, c.len-kind.ensures, labels.ok, length-map labels.items string_bytes) in
    ap (λ ls. slice_get ls c.len-kind.result) c.in_ok-add-in-None.ensures.labels ∙ at_end (labels_of c.args.self.now) c.args.label.now c.len-kind.result last

pub returns-in_ok-add-in-None-clause-labels : goal.returns-in_ok-add-in-None-clause-labels
returns-in_ok-add-in-None-clause-labels c = (c.args.label.now ∷ [], c.in_ok-add-in-None.ensures.labels)
