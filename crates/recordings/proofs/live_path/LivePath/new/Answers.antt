use Rattle.std.proofs.Common.{ap, sym, ◌∙◌}
use Rattle.recordings.specs.SubmitIndex.{entries_of}
use Rattle.recordings.proofs.SubmitIndex.{entries_none}
use Rattle.recordings.proofs.live_path.LivePath.new.Goals as goal

pub invariant_of-result : goal.invariant_of-result
invariant_of-result c = (c.new-2.ensures.entries ∙ sym (ap entries_of c.new.ensures.items ∙ entries_none), c.new-2.ensures.ordered)
