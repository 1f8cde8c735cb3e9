use Rattle.std.proofs.Common.{true, [], ◌∷◌, ◌++◌, ap, ◌∙◌, rules}
use Rattle.conformance.specs.declared.walk_state.WalkState.{WalkState}
use Rattle.conformance.proofs.WalkSteps.{states_at_start}
use Rattle.conformance.proofs.walk_state.WalkState.new.Goals as goal

pub returns : goal.returns
returns c = λ kind path.
    let state : WalkState = record { jobs = c.new.result; passes = c.in_ok-from_elem.field-0; row = c.push.new.self } in
    let passes = c.in_ok-from_elem.ensures.items_if_clones_equal (λ y e. first_of (cc, search rules)) in
    let row = c.in_ok-push.ensures.items ∙ ap (λ xs. xs ++ true ∷ []) (c.in_ok-row.ensures.items_if_clones_equal (λ y e. first_of (cc, search rules))) in
    states_at_start c.args.body.now state c.new.ensures.items passes row kind path
