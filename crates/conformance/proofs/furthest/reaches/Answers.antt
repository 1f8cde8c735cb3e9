use Rattle.std.proofs.Common.{◌≡◌, ℕ, true, subst}
use Rattle.std.proofs.lemmas.Bool.{eqb-true}
use Rattle.support.proofs.Members.{In-slice_get}
use Rattle.conformance.specs.WalkState.{is_at}
use Rattle.conformance.proofs.furthest.reaches.Goals as goal

pub returns-in-Some-clause-yes : goal.returns-in-Some-clause-yes
returns-in-Some-clause-yes c = λ same.
    let found = c.in-Some.ensures in (
      found.state,
      In-slice_get c.args.states.now c.in-Some.reached.state found.state found.state_is,
      subst (λ (k : ℕ). is_at found.state k ≡ true) (eqb-true c.in-Some.reached.index c.args.end same) found.last.at,
    )
