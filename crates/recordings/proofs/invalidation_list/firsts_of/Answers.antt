use Rattle.std.proofs.Common.{ap, ◌∙◌}
use Rattle.recordings.specs.InvalidationList.{with_new_type}
use Rattle.recordings.proofs.Firsts.{firsts_next}
use Rattle.recordings.proofs.invalidation_list.firsts_of.Goals as goal

pub loop-one-preserved : goal.loop-one-preserved
loop-one-preserved c = c.in_ok-push_new_type.ensures ∙ (ap (with_new_type _) c.loop-one.invariant ∙ firsts_next c.loop-one.yielded c.in-Some.one)
