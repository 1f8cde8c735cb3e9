use Rattle.std.proofs.Common.{ℕ, List, Bor, map}
use Rattle.command_line.specs.Command.{command_of, files_of}
use Rattle.command_line.specs.declared.command.Command.{Command}
use Rattle.sizing_cli.specs.Texts.{input_named, plan_name}
use Rattle.sizing_cli.proofs.WrittenBefore.{calm_before}
use Rattle.sizing_cli.proofs.arguments.serve_words.Goals as goal

pub returns-in_err-ensure_replaceable-clause-before : goal.returns-in_err-ensure_replaceable-clause-before
returns-in_err-ensure_replaceable-clause-before g c =
    let words = map (λ (word : Bor (List ℕ)). word.now) c.args.words.now in
    let inputs = λ (command : Command). input_named command (g.F.TextFiles.content c.args.files.now) (g.S.Source.remaining c.args.input.now) (files_of words) in
    let written = g.K.Sink.written c.args.sink.now in
    calm_before c.from_residual-in_err-ensure_replaceable.result _ (command_of words) inputs (plan_name (files_of words)) written written
    c.from_residual-in_err-ensure_replaceable.ensures.1 c.in_err-ensure_replaceable.ensures.before
