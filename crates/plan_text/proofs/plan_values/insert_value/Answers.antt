use Rattle.std.proofs.Common.{refl, ◌∙◌}
use Rattle.plan_text.proofs.Members.{members_with}
use Rattle.plan_text.proofs.plan_values.insert_value.Goals as goal

pub returns : goal.returns
returns c = rw c.in_ok-_before.ensures.entries (members_with c.in_ok-key.key c.args.value c.args.table.now.entries ∙ rw c.in_ok-key.ensures.ok refl)
