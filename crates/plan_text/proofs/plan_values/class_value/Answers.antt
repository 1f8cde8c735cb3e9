use Rattle.std.proofs.Common.{refl, ap, ◌∙◌}
use Rattle.toml.specs.Data.{table}
use Rattle.toml.proofs.Views.{view-Table}
use Rattle.plan_text.specs.PlanDocument.{class_data}
use Rattle.plan_text.proofs.plan_values.class_value.Goals as goal

pub returns : goal.returns
unfolding class_data
returns c = view-Table _ ∙ ap table (rw (c.in_ok-insert_text-2.ensures, c.in_ok-insert_text.ensures, c.in_ok-insert_body.ensures, c.new-table.ensures.empty, c.as_str.ensures.value, c.pool_name.ensures, c.deref.ensures.value, ← c.class.view_is) refl)
