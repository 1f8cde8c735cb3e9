use Rattle.std.proofs.Common.{ℕ, Option, subst, ◌∙◌}
use Rattle.sizing_cli.specs.PartialTranscript.{IsTranscribed}
use Rattle.sizing_cli.proofs.Answering.{if_ok_map}
use Rattle.sizing_cli.proofs.replay.replay_in.Goals as goal

pub returns-in-None : goal.returns-in-None
returns-in-None c =
    let reply_answer = subst (λ (bad : Option ℕ). IsTranscribed c.args.plan.now c.args.lines c.push_replies.new.world.view c.push_replies.new.rejected c.push_replies.new.answer bad) c.in-None.is c.in_ok-push_replies.ensures in
    if_ok_map c.finish.result _ _ reply_answer c.finish.ensures

pub returns-in-Some : goal.returns-in-Some
returns-in-Some c =
    let reply_answer = subst (λ (bad : Option ℕ). IsTranscribed c.args.plan.now c.args.lines c.push_replies.new.world.view c.push_replies.new.rejected c.push_replies.new.answer bad) c.in-Some.is c.in_ok-push_replies.ensures in
    if_ok_map c.bad_event.result _ _ (λ whole is. is ∙ reply_answer) c.bad_event.ensures
