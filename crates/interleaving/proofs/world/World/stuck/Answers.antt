use Rattle.std.proofs.Common.{◌≡◌, false, sym, ap, subst, ◌∙◌}
use Rattle.pool_machine.specs.Waiting.{is_none}
use Rattle.interleaving.specs.Waiting.{is_waiting_set_in}
use Rattle.interleaving.proofs.WaitingSets.{some_members}
use Rattle.interleaving.proofs.ViewsToStates.{set_seen, set_in_words}
use Rattle.interleaving.proofs.world.World.stuck.Goals as goal

pub is_waiting_set-requires-clause-some : goal.is_waiting_set-requires-clause-some
is_waiting_set-requires-clause-some c = subst (λ members. is_none members ≡ false) (sym c.new.ensures) (some_members c.args.members.now (sym c.is_empty.ensures ∙ c.if-is_empty.false))

pub returns-clause-in_view : goal.returns-clause-in_view
returns-clause-in_view c = c.is_waiting_set.ensures.value ∙ ap (is_waiting_set_in c.args.plan.now c.args.self.now.view) c.new.ensures

pub returns-clause-value : goal.returns-clause-value
returns-clause-value c = λ s reached same.
    set_seen c.args.plan.now s c.args.self.now.view c.args.members.now c.is_waiting_set.result c.is_waiting_set.ensures.well_formed reached same (returns-clause-in_view c)

pub returns-clause-in_words : goal.returns-clause-in_words
returns-clause-in_words c = λ s reached same. set_in_words c.args.plan.now s c.args.members.now c.is_waiting_set.result (returns-clause-value c s reached same)
