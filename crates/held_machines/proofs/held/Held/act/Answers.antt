use Rattle.held_machines.proofs.Replays.{grown, settled}
use Rattle.held_machines.proofs.held.Held.act.Goals as goal

pub invariant_of-self-2 : goal.invariant_of-self-2
invariant_of-self-2 g c =
    rw (c.push_reserved.ensures.items, c.reserve.ensures.items) (grown _ _ _ _ _ _ _ _ c.if-not-branch.false c.self.invariant c.in_ok-step.ensures.answered)

pub returns-clause-state : goal.returns-clause-state
returns-clause-state g c =
    rw (c.push_reserved.ensures.items, c.reserve.ensures.items, ← c.self.view_is) (λ i leads. settled _ _ _ _ _ _ _ _ i c.if-not-branch.false c.self.invariant c.in_ok-step.ensures.answered leads)
