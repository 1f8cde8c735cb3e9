-- A `clap` command with one more subcommand or argument.
use Rattle.std.proofs.Common.{◌≡◌, ◌∙◌, ap, ap₂, false, [], ◌∷◌, ◌++◌, Result, Ok, Err}
use Rattle.std.specs.Prelude.{◌||◌, IfOk, IsOkAnd}
use Rattle.std.specs.declared.alloc.AllocError.{AllocError}
use Rattle.clap.specs.Words.{AddsArg, App, Rule, Shape, app_of, rule_of, shape_of, with_subcommand}
use Rattle.clap.specs.declared.builder.arg.Arg.{Arg}
use Rattle.clap.specs.declared.builder.command.Command.TheViews.{out-Command as fields_of}
use Rattle.clap.specs.declared.builder.command.Command.{Command}

-- if a subcommand of this shape was created, the program gets the shape as its last subcommand
pub adds_subcommand : (made : Result Command AllocError) (shape : Shape) (before was : App) (both : Command)
    → IfOk made (λ it. shape_of it ≡ shape)
    → IsOkAnd made (λ it. app_of both ≡ with_subcommand before (shape_of it))
    → before ≡ was
    → app_of both ≡ with_subcommand was shape
adds_subcommand (Ok it) shape before was both is adds same = adds ∙ ap (with_subcommand before) is ∙ ap (λ app. with_subcommand app shape) same
adds_subcommand (Err error) shape before was both is adds same = absurd adds

-- an argument that is not global is added as the last rule of the command's shape
pub adds_argument : (old : Command) (argument : Arg) (new : Command) (shape : Shape) (rule : Rule)
    → AddsArg old argument new → argument.global ≡ false → rule_of argument ≡ rule → shape_of old ≡ shape
    → shape_of new ≡ record shape { rules = shape.rules ++ rule ∷ [] }
adds_argument old argument new shape rule adds local is was =
    ap (λ app. app.top) (adds.shape local) ∙ ap₂ (λ (first : Shape) (last : Rule). record first { rules = first.rules ++ last ∷ [] }) was is

-- a command without global arguments still has none after an argument that is not global is added
pub still_local : (old : Command) (argument : Arg) (new : Command) → AddsArg old argument new → argument.global ≡ false
    → (fields_of old).has_globals ≡ false → (fields_of new).has_globals ≡ false
still_local old argument new adds local was = adds.globals ∙ ap₂ (λ first last. first || last) was local
