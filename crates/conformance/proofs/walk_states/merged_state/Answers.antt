use Rattle.std.proofs.Common.{List, ◌++◌, ◌∷◌, [], take, sym, subst, ◌∙◌}
use Rattle.conformance.specs.declared.walk_state.WalkState.{WalkState}
use Rattle.conformance.proofs.ReadStates.{read_in, take_read}
use Rattle.conformance.proofs.MergedStates.{IsMergedOf, merged_none, merged_same, merged_other}
use Rattle.conformance.proofs.walk_states.merged_state.Goals.{then-are_same, else-are_same}
use Rattle.conformance.proofs.walk_states.merged_state.Goals as goal

pub loop-state-init : goal.loop-state-init
loop-state-init c = merged_none c.args.states.now c.args.one.now c.in_ok-merged.merged c.requires c.in_ok-merged.ensures

pub loop-state-preserved : goal.loop-state-preserved
loop-state-preserved c =
    let states = c.args.states.now in
    let i = c.loop-state.state-index in
    let state = c.state-item.result in
    subst (λ (read : List WalkState). IsMergedOf states read c.args.one.now c.if-are_same.merged) (sym (take_read states i state c.loop-state-test.true c.state-item.is))
    (elim c.if-are_same.branch [
      | then-are_same w ↦
          subst (λ (new : WalkState). IsMergedOf states (take i states ++ state ∷ []) c.args.one.now new) (sym w.merged-is)
          (merged_same states (take i states) c.args.one.now c.loop-state.merged state w.add_row.new.self c.loop-state.invariant (read_in states i state c.loop-state-test.true c.state-item.is)
          (sym c.deref.ensures.value ∙ (c.are_same.ensures.same w.if-are_same.true ∙ c.deref-in-loop-state.ensures.value))
          w.add_row.ensures.jobs w.add_row.ensures.passes w.add_row.ensures.long w.add_row.ensures.row)
      | else-are_same w ↦
          subst (λ (new : WalkState). IsMergedOf states (take i states ++ state ∷ []) c.args.one.now new) (sym w.merged-is)
          (merged_other states (take i states) c.args.one.now c.loop-state.merged state c.loop-state.invariant
          (λ e. c.are_same.ensures.differ w.if-are_same.false (c.deref.ensures.value ∙ (e ∙ sym c.deref-in-loop-state.ensures.value))))
    ])
