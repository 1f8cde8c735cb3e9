use Rattle.std.proofs.Common.{rules}
use Rattle.toml.specs.View.{view}
use Rattle.support.proofs.ReadingEach.{gives_each_seen}
use Rattle.plan_text.specs.Entries as spec
use Rattle.plan_text.proofs.entries.class_entries_of.Goals as goal

pub returns : goal.returns
returns c = gives_each_seen _ view spec.read_class (λ index value given h. search rules) _ _ c.read_each.ensures
