use Rattle.std.proofs.Common.{◌≡◌, ◌+◌, ◌*◌, ◌<◌, ◌≤◌, false, ◌==◌, length, get_or, sym, ap, ◌∙◌, arith}
use Rattle.std.proofs.lemmas.List.{take_rest}
use Rattle.std.proofs.lemmas.Bool.Decides.{nat_tests}
use Rattle.support.proofs.Numbers.{digits_more, more_digits}
use Rattle.recordings.proofs.FrequentLines.{one_digit, power_more, number_there}
use Rattle.recordings.proofs.frequent_lines.split_number.Goals as goal

pub loop-count-preserved : goal.loop-count-preserved
loop-count-preserved c =
    let text = c.args.text.now in
    let count = c.loop-count.count in
    let number = c.loop-count.number in
    let within : count < length text = omega arith in
    let digit = one_digit (get_or text count 0) c.digit_of-digit.result c.digit_of-digit.ensures.digit c.digit_of-digit.ensures.other c.if-digit-gt9.false in
    record {
      some = omega arith;
      inside = omega arith;
      digits = more_digits text count within c.loop-count.invariant.digits digit.0;
      read = ap (λ d. number * 10 + d) digit.1 ∙ digits_more text count number digit.0 within c.loop-count.invariant.read;
      small = power_more number c.digit_of-digit.result count c.loop-count.invariant.small c.if-digit-gt9.false;
    }

pub returns : goal.returns
returns c =
    let text = c.args.text.now in
    let count = c.loop-count.count in
    let first : (get_or text 0 0 == 48) ≡ false = grind (arith, nat_tests) in
    let inside : count ≤ length text = omega arith in
    let few : count ≤ 9 = omega arith in
    number_there text count c.loop-count.number c.args.end c.in_ok-strip_byte.field-0.now c.loop-count.invariant.some inside few first c.loop-count.invariant.digits c.loop-count.invariant.read
    c.loop-count.invariant.small (sym (take_rest text count) ∙ c.in_ok-strip_byte.ensures)
