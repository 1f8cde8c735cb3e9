use Rattle.std.proofs.Common.{length, refl, sym, subst, take, List, [], ◌∷◌, ◌++◌, Option}
use Rattle.std.proofs.lemmas.List.{take_all}
use Rattle.std.proofs.lemmas.Option.{slice_get_read}
use Rattle.conformance.specs.declared.furthest.Reached.{Reached}
use Rattle.conformance.specs.declared.walk_state.WalkState.{WalkState}
use Rattle.conformance.proofs.ReadStates.{take_read}
use Rattle.conformance.proofs.FurthestStates.{IsFurthestOf, further_is, furthest_all}
use Rattle.conformance.proofs.furthest.furthest.Goals as goal

pub loop-number-preserved : goal.loop-number-preserved
loop-number-preserved c =
    let states = c.args.states.now in
    let n = c.loop-number.number in
    let state = c.index-states-number.result in
    subst (λ (read : List WalkState). IsFurthestOf states read c.args.end c.further-reached.result) (sym (take_read states n state c.loop-number-test.true c.index-states-number.is))
    (subst (λ (reached : Option Reached). IsFurthestOf states (take n states ++ state ∷ []) c.args.end reached) (sym c.further-reached.ensures)
    (further_is states (take n states) c.args.end c.loop-number.reached n c.last_at.result state c.loop-number.invariant (slice_get_read states (length states) n state refl c.loop-number-test.true c.index-states-number.is) c.last_at.ensures))

pub returns : goal.returns
returns c =
    let states = c.args.states.now in
    furthest_all states c.args.end c.loop-number.reached
    (subst (λ (read : List WalkState). IsFurthestOf states read c.args.end c.loop-number.reached) (take_all c.loop-number.number states c.loop-number-test.false) c.loop-number.invariant)
