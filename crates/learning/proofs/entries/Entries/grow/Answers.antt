use Rattle.std.proofs.Common.{length, arith, ap, subst, sym, ◌∙◌}
use Rattle.learning.specs.declared.entries.Entries.{Entries}
use Rattle.learning.specs.LearningState.{AreEntriesOf}
use Rattle.learning.proofs.entries.Entries.grow.Goals.{then-is_free+in_ok-assignment+in_default, else-is_free}
use Rattle.learning.proofs.entries.Entries.grow.Goals as goal

pub loop-number-preserved : goal.loop-number-preserved
loop-number-preserved c = record {
  entries = λ lines beyond entries. elim c.if-is_free.branch [
    | then-is_free+in_ok-assignment+in_default w ↦ subst (AreEntriesOf lines beyond) (sym w.self-is) (w.cover.ensures.entries lines beyond (c.loop-number.invariant.entries lines beyond entries))
    | else-is_free w ↦ subst (AreEntriesOf lines beyond) (sym w.self-is) (c.loop-number.invariant.entries lines beyond entries)
  ];
  many = elim c.if-is_free.branch [
    | then-is_free+in_ok-assignment+in_default w ↦ ap (λ (e : Entries). length e.entries.items) w.self-is ∙ w.cover.ensures.length ∙ c.loop-number.invariant.many
    | else-is_free w ↦ ap (λ (e : Entries). length e.entries.items) w.self-is ∙ c.loop-number.invariant.many
  ];
}

pub returns-in-Some-clause-ok : goal.returns-in-Some-clause-ok
returns-in-Some-clause-ok c = λ lines beyond entries. c.cover.ensures.entries lines beyond (c.loop-number.invariant.entries lines beyond entries)

pub returns-then-not-has-clause-ok : goal.returns-then-not-has-clause-ok
returns-then-not-has-clause-ok c = λ lines beyond entries. c.loop-number.invariant.entries lines beyond entries

pub returns-clause-ok : goal.returns-clause-ok
returns-clause-ok c = λ lines beyond entries. let now = c.loop-number.invariant.entries lines beyond entries in
    c.add_for.ensures.ok lines beyond (c.has.ensures lines beyond now (grind (arith, c.if-not-has.false))) now

pub returns-clause-err : goal.returns-clause-err
returns-clause-err c = λ lines beyond entries. let now = c.loop-number.invariant.entries lines beyond entries in
    c.add_for.ensures.err lines beyond (c.has.ensures lines beyond now (grind (arith, c.if-not-has.false))) now
