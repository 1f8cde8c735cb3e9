use Rattle.std.proofs.Common.{◌∙◌, ap, sym, [], length, slice_get}
use Rattle.learning.specs.LearningState.{IsCountOf}
use Rattle.learning.proofs.PushedElements.{pushed}
use Rattle.learning.proofs.counts.zero_counts.Goals as goal

pub loop-preserved : goal.loop-preserved
loop-preserved c = λ kinds kind count there. pushed (IsCountOf kinds []) c.loop.counts.items c.new.result (c.loop.invariant kinds) (c.new.ensures kinds (length c.loop.counts.items)) kind count
    (ap (λ items. slice_get items kind) (sym c.in_ok-push.ensures.items) ∙ there)
