use Rattle.std.proofs.Common.{◌∙◌, ℕ, List, ap, sym}
use Rattle.pool_machine.specs.Waiting.{is_waiting_set}
use Rattle.interleaving.specs.declared.reply.Reply.TheVariants as reply
use Rattle.sizing_cli.proofs.SameSets.{same_sets}
use Rattle.sizing_cli.proofs.Answering.{replies_to_event, replies_not_possible}
use Rattle.sizing_cli.proofs.replay.reply_to.Goals as goal

pub returns-in-Some : goal.returns-in-Some
returns-in-Some c = λ s reached live.
    rw c.in-Perform.is
    (replies_to_event c.args.plan.now s _ c.in-Some.outcome c.step.new.self.view reached ((rw c.in-Some.is at c.in_ok-outcome-in-Perform.ensures.answered) s reached live))

pub returns-in-None : goal.returns-in-None
returns-in-None c = λ s reached live.
    rw c.in-Perform.is
    (replies_not_possible c.args.plan.now s _ c.step.new.self.view reached ((rw c.in-None.is at c.in_ok-outcome-in-Perform.ensures.answered) s reached live))

pub returns-in_ok-members-in-Stuck : goal.returns-in_ok-members-in-Stuck
returns-in_ok-members-in-Stuck c = λ s reached live.
    let test = λ (numbers : List ℕ). is_waiting_set c.args.plan.now s numbers in
    rw c.in-Stuck.is (
      reached,
      live,
      ap reply.Stuck (sym
          (c.stuck.ensures.value s reached live
          ∙ (ap test c.deref.ensures.value
          ∙ (same_sets c.args.plan.now s _ _ c.sort_unstable.ensures.permutation
          ∙ ap test c.in_ok-members-in-Stuck.ensures)))),
    )
