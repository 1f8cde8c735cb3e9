use Rattle.std.proofs.Common.{refl, sym, ◌∙◌}
use Rattle.std.proofs.lemmas.Result.{on_ok_weaker}
use Rattle.recordings.specs.InvalidationList.{discards, ends}
use Rattle.recordings.proofs.invalidation_list.settle_event.Goals as goal

pub returns-then-excuses : goal.returns-then-excuses
returns-then-excuses c = discards c.in-Some.one (sym c.get.ensures.value ∙ sym c.in-Some.ensures) (sym c.if-excuses.ensures) c.remove.ensures.entries c.remove.ensures.ordered refl

pub returns-then-ends_pending : goal.returns-then-ends_pending
returns-then-ends_pending c =
    on_ok_weaker c.push_type.result (λ added. ends c.in-Some.one (sym c.get.ensures.value ∙ sym c.in-Some.ensures) (sym c.if-excuses.ensures) (sym c.if-ends_pending.ensures) refl added) c.push_type.ensures
