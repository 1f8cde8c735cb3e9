use Rattle.std.proofs.Common.{◌≡◌, ◌∙◌, sym, ap, Some, None, option_map}
use Rattle.std.specs.Prelude.{option_and_then}
use Rattle.clap.specs.Words.{found_of, first_of, rows_of}
use Rattle.clap.proofs.WalkLemmas.{first_value-rows}
use Rattle.command_line.specs.Command.{number_in}
use Rattle.command_line.proofs.number.number_of.Goals as goal

pub returns-in_err-get_str-clause-number : goal.returns-in_err-get_str-clause-number
returns-in_err-get_str-clause-number c =
    let found = found_of c.args.options.now in
    let none : None ≡ first_of c.args.id.now (rows_of found) = ap (option_map (λ s. s.now)) (sym c.in_err-get_str.was) ∙ (c.get_str.ensures ∙ first_value-rows found c.args.id.now) in
    c.from_residual.ensures ∙ ap (option_and_then (number_in c.args.low c.args.high)) none

pub returns-clause-number : goal.returns-clause-number
returns-clause-number c =
    let found = found_of c.args.options.now in
    let some : Some c.in_ok-get_str.field-0.now ≡ first_of c.args.id.now (rows_of found) = ap (option_map (λ s. s.now)) (sym c.in_ok-get_str.was) ∙ (c.get_str.ensures ∙ first_value-rows found c.args.id.now) in
    c.number_in.ensures.number ∙ ap (option_and_then (number_in c.args.low c.args.high)) some
