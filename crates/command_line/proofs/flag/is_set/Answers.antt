use Rattle.std.proofs.Common.{◌≡◌, ◌∙◌, sym, ap, Some, None, option_map}
use Rattle.std.specs.Option.{option_map_or}
use Rattle.std.specs.Prelude.{false, codes}
use Rattle.std.specs.Str.{bytes_eq}
use Rattle.clap.specs.Words.{found_of, first_of, rows_of}
use Rattle.clap.proofs.WalkLemmas.{first_value-rows}
use Rattle.command_line.proofs.flag.is_set.Goals as goal

pub returns-in-Some : goal.returns-in-Some
returns-in-Some c =
    let found = found_of c.args.options.now in
    let some : Some c.in-Some.text.now ≡ first_of c.args.id.now (rows_of found) = ap (option_map (λ s. s.now)) (sym c.in-Some.is) ∙ (c.get_str.ensures ∙ first_value-rows found c.args.id.now) in
    c.eq.ensures ∙ ap (λ o. option_map_or (λ text. bytes_eq text (codes "true")) o false) some

pub returns-in-None : goal.returns-in-None
returns-in-None c =
    let found = found_of c.args.options.now in
    let none : None ≡ first_of c.args.id.now (rows_of found) = ap (option_map (λ s. s.now)) (sym c.in-None.is) ∙ (c.get_str.ensures ∙ first_value-rows found c.args.id.now) in
    ap (λ o. option_map_or (λ text. bytes_eq text (codes "true")) o false) none
