use Rattle.std.proofs.Common.{◌≡◌, true, refl}
use Rattle.plan_text.specs.ParsedActions.{is_positive_decimal, parse_units}
use Rattle.plan_text.proofs.Numbers.{too_large}
use Rattle.plan_text.proofs.parsed_action.parse_units.Goals as goal

pub returns-in-Err : goal.returns-in-Err
unfolding parse_units
returns-in-Err c =
    let decimal : is_positive_decimal c.args.text.now ≡ true = cc in
    let large = too_large c.args.text.now c.in-Err.field-0 decimal c.in-Err.ensures.value.0 in
    rw (decimal, large) refl
