use Rattle.std.proofs.Common.{◌≡◌, refl}
use Rattle.std.proofs.lemmas.Result.{IfOk-weaker}
use Rattle.clap.specs.Words.{app_of, with_subcommand}
use Rattle.command_line.specs.Application.{replay_shape, check_shape, explain_shape}
use Rattle.command_line.proofs.Subcommands.{adds_subcommand}
use Rattle.command_line.proofs.application.with_review_commands.Goals as goal

pub returns : goal.returns
returns c =
    let made_0 = app_of c.args.program in
    let made_1 = with_subcommand made_0 replay_shape in
    let is_1 : app_of c.in_ok-replayed.replayed ≡ made_1 = adds_subcommand c.replay.result replay_shape made_0 made_0 c.in_ok-replayed.replayed c.replay.ensures.shape c.in_ok-replayed.ensures refl in
    let made_2 = with_subcommand made_1 check_shape in
    let is_2 : app_of c.in_ok-checked.checked ≡ made_2 = adds_subcommand c.check.result check_shape (app_of c.in_ok-replayed.replayed) made_1 c.in_ok-checked.checked c.check.ensures.shape c.in_ok-checked.ensures is_1 in
    IfOk-weaker c.with_subcommand-3.result _ _ (λ made adds. adds_subcommand c.explain.result explain_shape (app_of c.in_ok-checked.checked) made_2 made c.explain.ensures.shape adds is_2) c.with_subcommand-3.ensures
