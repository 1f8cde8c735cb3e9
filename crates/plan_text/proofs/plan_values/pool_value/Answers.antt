use Rattle.std.proofs.Common.{ap, ◌∙◌}
use Rattle.toml.specs.Data.{table}
use Rattle.toml.proofs.Views.{view-Table}
use Rattle.plan_text.proofs.Members.{pool_members}
use Rattle.plan_text.specs.PlanDocument.{pool_data}
use Rattle.plan_text.proofs.plan_values.pool_value.Goals as goal

pub returns : goal.returns
unfolding pool_data
returns c = view-Table _ ∙ ap table (rw (c.in_ok-insert_flags.ensures, c.in_ok-insert_text.ensures, c.in_ok-insert_sizes.ensures, c.new-table.ensures.empty, c.as_str.ensures.value, ← c.pool.view_is) (pool_members _ _ _ _ _ _ _))
