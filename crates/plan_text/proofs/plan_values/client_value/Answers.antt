use Rattle.std.proofs.Common.{refl, ap, ◌∙◌}
use Rattle.toml.specs.Data.{table}
use Rattle.toml.proofs.Views.{view-Table, view-Boolean}
use Rattle.plan_text.specs.PlanDocument.{client_data}
use Rattle.plan_text.proofs.plan_values.client_value.Goals as goal

pub returns : goal.returns
unfolding client_data
returns c = view-Table _ ∙ ap table (rw (c.in_ok-insert_value-2.ensures, c.in_ok-insert_text.ensures, c.in_ok-insert_value.ensures, c.in_ok-insert_body.ensures, c.new-table.ensures.empty, c.number_value.ensures, c.as_str.ensures.value, c.deref.ensures.value, view-Boolean c.client.inside.repeat, ← c.client.view_is) refl)
