use Rattle.std.proofs.Common.{◌≡◌, ◌+◌, ◌*◌, ◌<◌, false, length, get_or, sym, ◌∙◌, arith}
use Rattle.std.specs.Char.{is_ascii_digit}
use Rattle.support.proofs.Numbers.{digits_more, more_digits, counted, none_past, none_begun, some_read}
use Rattle.support.proofs.line_number.leading_number.Goals as goal
use Rattle.support.proofs.line_number.leading_number.Goals.{then-loop-count-test+else-is_ascii_digit, else-loop-count-test}

pub returns-then-value-gt-MAX_LINE_NUMBER : goal.returns-then-value-gt-MAX_LINE_NUMBER
returns-then-value-gt-MAX_LINE_NUMBER c =
    let digit = sym c.if-is_ascii_digit.ensures.value in
    let more = digits_more c.args.text.now c.loop-count.count c.loop-count.value digit c.loop-count-test.true c.loop-count.invariant.read in
    none_past c.args.text.now (c.loop-count.count + 1) (c.loop-count.value * 10 + c.from.result) (omega arith) (more_digits c.args.text.now c.loop-count.count c.loop-count-test.true c.loop-count.invariant.digits digit) (cc) c.if-value-gt-MAX_LINE_NUMBER.true

pub loop-count-preserved : goal.loop-count-preserved
loop-count-preserved c =
    let digit = sym c.if-is_ascii_digit.ensures.value in
    let more = digits_more c.args.text.now c.loop-count.count c.loop-count.value digit c.loop-count-test.true c.loop-count.invariant.read in
    record {
      inside = omega arith;
      digits = more_digits c.args.text.now c.loop-count.count c.loop-count-test.true c.loop-count.invariant.digits digit;
      read = cc;
      within = c.if-value-gt-MAX_LINE_NUMBER.false;
    }

pub returns-then-not-begins_as_number : goal.returns-then-not-begins_as_number
returns-then-not-begins_as_number c =
    let text = c.args.text.now in
    let i = c.loop-count.count in
    let stops : i < length text → is_ascii_digit (get_or text i 0) ≡ false =
    elim c.loop-count-test.branch [
      | then-loop-count-test+else-is_ascii_digit w ↦ λ inside. sym w.is_ascii_digit.ensures.value ∙ w.if-is_ascii_digit.false
      | else-loop-count-test w ↦ λ inside. absurd (omega (arith, w.loop-count-test.false))
    ]
    in
    none_begun text i (counted text i c.loop-count.invariant.inside c.loop-count.invariant.digits stops) (sym (rw (← c.split_at.ensures.front) c.if-not-begins_as_number.ensures))

pub returns : goal.returns
returns c =
    let text = c.args.text.now in
    let i = c.loop-count.count in
    let stops : i < length text → is_ascii_digit (get_or text i 0) ≡ false =
    elim c.loop-count-test.branch [
      | then-loop-count-test+else-is_ascii_digit w ↦ λ inside. sym w.is_ascii_digit.ensures.value ∙ w.if-is_ascii_digit.false
      | else-loop-count-test w ↦ λ inside. absurd (omega (arith, w.loop-count-test.false))
    ]
    in
    rw c.split_at.ensures.back
    (some_read text i c.loop-count.value (counted text i c.loop-count.invariant.inside c.loop-count.invariant.digits stops) c.loop-count.invariant.digits
    (sym (rw (← c.split_at.ensures.front) c.if-not-begins_as_number.ensures)) c.loop-count.invariant.read c.loop-count.invariant.within)
