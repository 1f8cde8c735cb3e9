use Rattle.std.proofs.Common.{rules, Bor, List, ℕ}
use Rattle.toml.specs.View.{view}
use Rattle.support.proofs.ReadingEach.{gives_each_viewed}
use Rattle.plan_text.specs.Entry.{action_text}
use Rattle.plan_text.proofs.entry.action_texts.Goals as goal

pub returns : goal.returns
returns c = gives_each_viewed _ view (λ (text : Bor (List ℕ)). text.now) (action_text c.args.part c.args.index) (λ action value given h. search rules) _ _ c.read_each.ensures
