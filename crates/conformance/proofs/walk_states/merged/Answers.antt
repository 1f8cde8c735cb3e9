use Rattle.std.proofs.Common.{List, [], ◌∷◌, ◌++◌, take, ap, sym, subst, ◌∙◌, arith}
use Rattle.std.specs.declared.alloc.Global.{Global}
use Rattle.std.specs.declared.vec.Vec.{Vec}
use Rattle.std.proofs.lemmas.List.{take_all}
use Rattle.support.specs.In.{In}
use Rattle.conformance.specs.declared.walk_state.WalkState.{WalkState}
use Rattle.conformance.specs.WalkStates.{IsMerged, AreMerged}
use Rattle.conformance.proofs.ReadStates.{read_in, take_read}
use Rattle.conformance.proofs.MergedStates.{AreMergedOf, none_merged, one_merged, none_more_merged, all_merged, single_merged}
use Rattle.conformance.proofs.walk_states.merged.Goals.{then-not-has_state_with+in_ok-joined+in_ok-push, else-not-has_state_with}
use Rattle.conformance.proofs.walk_states.merged.Goals as goal

pub returns-then-len-le1 : goal.returns-then-len-le1
returns-then-len-le1 c =
    let seen = c.len.ensures in
    let long = c.args.states.ok.0 in
    let few = c.if-len-le1.true in
    single_merged c.args.states.items (omega (arith, seen, long, few))

pub loop-state-init : goal.loop-state-init
loop-state-init c = subst (λ (new : List WalkState). AreMergedOf c.deref-state-items.result.now [] new) (sym c.new-merged.ensures.items) (none_merged c.deref-state-items.result.now)

pub merged_state-requires : goal.merged_state-requires
merged_state-requires c =
    subst (λ (states : List WalkState). In c.state-item.result states) (c.deref-state-items.ensures.value ∙ sym c.deref-then-not-has_state_with.ensures.value)
    (read_in c.deref-state-items.result.now c.loop-state.state-index c.state-item.result c.loop-state-test.true c.state-item.is)

pub loop-state-preserved : goal.loop-state-preserved
loop-state-preserved c =
    let states = c.deref-state-items.result.now in
    let i = c.loop-state.state-index in
    let state = c.state-item.result in
    let old = c.loop-state.merged.items in
    subst (λ (read : List WalkState). AreMergedOf states read c.if-not-has_state_with.merged.items) (sym (take_read states i state c.loop-state-test.true c.state-item.is))
    (elim c.if-not-has_state_with.branch [
      | then-not-has_state_with+in_ok-joined+in_ok-push w ↦
          subst (λ (new : List WalkState). AreMergedOf states (take i states ++ state ∷ []) new) (sym (ap (λ (v : Vec WalkState Global). v.items) w.merged-is ∙ w.in_ok-push.ensures.items))
          (one_merged states (take i states) old state w.in_ok-joined.joined c.loop-state.invariant (read_in states i state c.loop-state-test.true c.state-item.is)
          (subst (λ (ones : List WalkState). IsMerged ones state w.in_ok-joined.joined) (w.deref-then-not-has_state_with.ensures.value ∙ sym c.deref-state-items.ensures.value) w.in_ok-joined.ensures)
          (λ other is_in alike. c.has_state_with.ensures.none w.if-not-has_state_with.true other (subst (λ (ones : List WalkState). In other ones) (sym c.deref.ensures.value) is_in) (alike ∙ sym c.deref-in-loop-state.ensures.value)))
      | else-not-has_state_with w ↦
          let found = c.has_state_with.ensures.some w.if-not-has_state_with.false in
          subst (λ (new : List WalkState). AreMergedOf states (take i states ++ state ∷ []) new) (sym (ap (λ (v : Vec WalkState Global). v.items) w.merged-is))
          (none_more_merged states (take i states) old state found.0 c.loop-state.invariant (subst (λ (ones : List WalkState). In found.0 ones) c.deref.ensures.value found.1) (found.2 ∙ c.deref-in-loop-state.ensures.value))
    ])

pub returns : goal.returns
returns c =
    let states = c.deref-state-items.result.now in
    subst (λ (all : List WalkState). AreMerged all c.loop-state.merged.items) c.deref-state-items.ensures.value
    (all_merged states c.loop-state.merged.items
    (subst (λ (read : List WalkState). AreMergedOf states read c.loop-state.merged.items) (take_all c.loop-state.state-index states c.loop-state-test.false) c.loop-state.invariant))
