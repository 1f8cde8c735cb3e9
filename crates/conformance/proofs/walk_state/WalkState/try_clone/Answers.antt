use Rattle.std.proofs.Common.{◌∙◌}
use Rattle.conformance.proofs.walk_state.WalkState.try_clone.Goals as goal

pub returns : goal.returns
returns c = record {
  jobs = c.in_ok-jobs.ensures.items ∙ c.deref.ensures.value;
  passes = c.in_ok-passes.ensures.items ∙ c.deref-2.ensures.value;
  row = c.in_ok-row.ensures.items ∙ c.deref-3.ensures.value;
}
