use Rattle.std.proofs.Common.{◌≡◌, length, refl, sym, subst, inl, Some, arith}
use Rattle.std.proofs.lemmas.List.{with_items_is}
use Rattle.learning.specs.LearningState.{ChangesOne, with_end}
use Rattle.learning.proofs.LabelRounds.{ended_after}
use Rattle.learning.proofs.label_rounds.LabelRounds.end.Goals as goal

pub returns-clause-ok : goal.returns-clause-ok
returns-clause-ok c = λ before rounds.
    let old = c.args.self.now.counts in
    let new = c.count_end.new.counts in
    let long : length new ≡ old.len = grind (arith, c.in_ok-count_end.ensures.count, c.deref_mut.ensures.value, c.deref_mut.ensures.len, old.ok) in
    let one = subst (λ items. ChangesOne (Some c.in-Some.kind) with_end old.items items) (sym (with_items_is old new long))
    (subst (λ items. ChangesOne (Some c.in-Some.kind) with_end items new) c.deref_mut.ensures.value c.in_ok-count_end.ensures.one) in
    ended_after c.args.self.now _ c.in-Some.kind c.args.round before (sym c.in-Some.ensures.value) c.in-Some.ensures.values refl refl one rounds

pub returns-in_default-clause-err : goal.returns-in_default-clause-err
returns-in_default-clause-err c = λ lines label begun. (label, inl begun)
