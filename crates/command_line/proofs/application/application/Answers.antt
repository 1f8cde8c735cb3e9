use Rattle.std.proofs.Common.{◌∙◌, ap}
use Rattle.std.proofs.lemmas.Result.{IfOk-weaker}
use Rattle.command_line.specs.Application.{with_recording_commands, with_review_commands, with_tasks}
use Rattle.command_line.proofs.application.application.Goals as goal

pub returns : goal.returns
returns c =
    let reviewed = c.in_ok-reviewed.ensures ∙ ap with_review_commands c.program.ensures in
    let tasked = c.in_ok-tasked.ensures ∙ ap with_tasks reviewed in
    IfOk-weaker c.with_recording_commands.result _ _ (λ made adds. adds ∙ ap with_recording_commands tasked) c.with_recording_commands.ensures
