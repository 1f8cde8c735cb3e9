use Rattle.std.proofs.Common.{Some, None, refl}
use Rattle.counterexample.proofs.Answered.{is_witness, is_stuck, in_words_at, reason_at}
use Rattle.counterexample.proofs.confirmation.stuck.Goals as goal
use Rattle.counterexample.proofs.confirmation.stuck.Goals.{in-Some, in-None}

pub returns-clause-answer : goal.returns-clause-answer
returns-clause-answer c =
    let waits = (in_words_at c.args.plan.now c.args.events.items c.args.members.items c.args.world.now.view c.stuck.result c.requires (rw c.deref-2.ensures.value at c.stuck.ensures.in_words)).0 c.if-not-stuck.false in
    let shown = reason_at c.args.plan.now c.args.events.items c.args.members.items c.args.standing.now c.args.world.now.view c.reason.result c.requires (rw c.deref-3.ensures.value at c.reason.ensures) in
    elim c.match-reason.branch [
      | in-Some w ↦ rw w.ending-is (refl, refl, is_stuck c.args.plan.now c.args.events.items c.args.members.items c.args.standing.now c.args.world.now.view (Some w.in-Some.reason) c.requires (rw (← c.deref.ensures.value, ← c.are_rising.ensures) c.if-not-are_rising.false) waits (rw w.in-Some.is at shown))
      | in-None w ↦ rw w.ending-is (refl, refl, is_stuck c.args.plan.now c.args.events.items c.args.members.items c.args.standing.now c.args.world.now.view None c.requires (rw (← c.deref.ensures.value, ← c.are_rising.ensures) c.if-not-are_rising.false) waits (rw w.in-None.is at shown))
    ]

pub returns-clause-witness : goal.returns-clause-witness
returns-clause-witness c = is_witness c.args.plan.now c.args.events.items c.args.members.items c.args.standing.now c.args.events.items c.match-reason.ending (returns-clause-answer c)
