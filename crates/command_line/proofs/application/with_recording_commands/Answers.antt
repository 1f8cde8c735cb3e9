use Rattle.std.proofs.Common.{◌≡◌, refl}
use Rattle.std.proofs.lemmas.Result.{IfOk-weaker}
use Rattle.clap.specs.Words.{app_of, with_subcommand}
use Rattle.command_line.specs.Application.{conform_shape, learn_shape}
use Rattle.command_line.proofs.Subcommands.{adds_subcommand}
use Rattle.command_line.proofs.application.with_recording_commands.Goals as goal

pub returns : goal.returns
returns c =
    let made_0 = app_of c.args.program in
    let made_1 = with_subcommand made_0 conform_shape in
    let is_1 : app_of c.in_ok-conformed.conformed ≡ made_1 = adds_subcommand c.conform.result conform_shape made_0 made_0 c.in_ok-conformed.conformed c.conform.ensures.shape c.in_ok-conformed.ensures refl in
    IfOk-weaker c.with_subcommand-2.result _ _ (λ made adds. adds_subcommand c.learn.result learn_shape (app_of c.in_ok-conformed.conformed) made_1 made c.learn.ensures.shape adds is_1) c.with_subcommand-2.ensures
