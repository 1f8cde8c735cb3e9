use Rattle.std.proofs.Common.{◌≡◌, ℕ, subst, arith}
use Rattle.conformance.specs.WalkStates.{AreStatesAt}
use Rattle.conformance.proofs.walk_states.states_at.Goals as goal

pub returns : goal.returns
returns c =
    let all : c.loop-index.index ≡ c.args.place = omega (arith, c.loop-index-test.false, c.loop-index.auto.index-end) in
    subst (λ (n : ℕ). AreStatesAt c.args.kind c.args.body.now c.args.path.now n c.loop-index.states.items) all c.loop-index.invariant
