use Rattle.counterexample.proofs.Answered.{ends_refused}
use Rattle.counterexample.proofs.confirmation.witness_of.Goals as goal

pub returns-in-Refused-clause-answer : goal.returns-in-Refused-clause-answer
returns-in-Refused-clause-answer c =
    rw c.refused.ensures.ending
    (ends_refused c.args.plan.now c.args.events.items c.args.members.items c.args.standing.now c.refused.result.events.items c.in-Refused.length c.in-Refused.pool c.refused.ensures.events (rw c.in-Refused.is at c.requires))
