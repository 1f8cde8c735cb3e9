use Rattle.std.proofs.Common.{refl}
use Rattle.report.proofs.StoryState.{parts_pushed}
use Rattle.report.proofs.story.push_parts.Goals as goal

pub returns : goal.returns
returns c =
    parts_pushed c.push_waits.result c.args.text.now c.push_steps.new.text c.push_pools.new.text c.push_waits.new.text _ _ _ _ _ _ c.in_ok-push_steps.ensures c.in_ok-push_pools.ensures c.push_waits.ensures refl refl refl
