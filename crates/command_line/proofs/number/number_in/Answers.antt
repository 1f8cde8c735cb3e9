use Rattle.std.proofs.Common.{◌≡◌, arith}
use Rattle.std.specs.Str.Parse.{digits_value, without_leading_plus}
use Rattle.command_line.proofs.Numbers.{number_read, number_refused}
use Rattle.command_line.proofs.number.number_in.Goals as goal

pub returns-in-Ok-clause-number : goal.returns-in-Ok-clause-number
returns-in-Ok-clause-number c =
    let read = c.in-Ok.ensures.value in
    let is : c.in-Ok.number ≡ digits_value 10 (without_leading_plus c.args.text.now) = read.0.1 in
    number_read c.args.low c.args.high c.args.text.now c.in-Ok.number (read.0.0.0, read.0.0.1, omega arith, omega arith) is

pub returns-in_default-clause-number : goal.returns-in_default-clause-number
returns-in_default-clause-number c =
    let is : c.in-Ok.number ≡ digits_value 10 (without_leading_plus c.args.text.now) = c.in-Ok.ensures.value.0.1 in
    number_refused c.args.low c.args.high c.args.text.now (λ lies. omega (arith, lies.3))

pub returns-in_default-2-clause-number : goal.returns-in_default-2-clause-number
returns-in_default-2-clause-number c =
    let is : c.in-Ok.number ≡ digits_value 10 (without_leading_plus c.args.text.now) = c.in-Ok.ensures.value.0.1 in
    number_refused c.args.low c.args.high c.args.text.now (λ lies. omega (arith, lies.2))

pub returns-in_default-3-clause-number : goal.returns-in_default-3-clause-number
returns-in_default-3-clause-number c = number_refused c.args.low c.args.high c.args.text.now (λ lies. c.in_default.ensures.value.0 (lies.0, lies.1))
