use Rattle.std.proofs.Common.{◌≡◌, refl}
use Rattle.std.proofs.lemmas.Result.{IfOk-weaker}
use Rattle.clap.specs.Words.{app_of, with_subcommand}
use Rattle.command_line.specs.Application.{certify_shape, fit_shape, run_shape, refute_shape, ask_shape}
use Rattle.command_line.proofs.Subcommands.{adds_subcommand}
use Rattle.command_line.proofs.application.with_tasks.Goals as goal

pub returns : goal.returns
returns c =
    let made_0 = app_of c.args.program in
    let made_1 = with_subcommand made_0 certify_shape in
    let is_1 : app_of c.in_ok-certified.certified ≡ made_1 = adds_subcommand c.certify.result certify_shape made_0 made_0 c.in_ok-certified.certified c.certify.ensures.shape c.in_ok-certified.ensures refl in
    let made_2 = with_subcommand made_1 fit_shape in
    let is_2 : app_of c.in_ok-fitted.fitted ≡ made_2 = adds_subcommand c.fit.result fit_shape (app_of c.in_ok-certified.certified) made_1 c.in_ok-fitted.fitted c.fit.ensures.shape c.in_ok-fitted.ensures is_1 in
    let made_3 = with_subcommand made_2 run_shape in
    let is_3 : app_of c.in_ok-ran.ran ≡ made_3 = adds_subcommand c.run.result run_shape (app_of c.in_ok-fitted.fitted) made_2 c.in_ok-ran.ran c.run.ensures.shape c.in_ok-ran.ensures is_2 in
    let made_4 = with_subcommand made_3 refute_shape in
    let is_4 : app_of c.in_ok-refuted.refuted ≡ made_4 = adds_subcommand c.refute.result refute_shape (app_of c.in_ok-ran.ran) made_3 c.in_ok-refuted.refuted c.refute.ensures.shape c.in_ok-refuted.ensures is_3 in
    IfOk-weaker c.with_subcommand-5.result _ _ (λ made adds. adds_subcommand c.ask.result ask_shape (app_of c.in_ok-refuted.refuted) made_4 made c.ask.ensures.shape adds is_4) c.with_subcommand-5.ensures
