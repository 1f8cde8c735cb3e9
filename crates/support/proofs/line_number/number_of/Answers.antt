use Rattle.std.proofs.Common.{sym}
use Rattle.std.proofs.lemmas.Bool.{eqb-true}
use Rattle.support.proofs.Numbers.{not_zero, whole_read, whole_none, whole_more}
use Rattle.support.proofs.line_number.number_of.Goals as goal

pub returns-in_err-number : goal.returns-in_err-number
returns-in_err-number c = rw c.from_residual.ensures (whole_none c.args.text.now (rw c.in_err-number.was at c.leading_number.ensures))

pub returns-then-is_empty : goal.returns-then-is_empty
returns-then-is_empty c = whole_read c.args.text.now c.in_ok-number.number c.in_ok-number.rest_after.now (rw c.in_ok-number.was at c.leading_number.ensures) (eqb-true _ 0 (sym c.if-is_empty.ensures))

pub returns-else-is_empty : goal.returns-else-is_empty
returns-else-is_empty c = whole_more c.args.text.now c.in_ok-number.number c.in_ok-number.rest_after.now (rw c.in_ok-number.was at c.leading_number.ensures) (not_zero _ (sym c.if-is_empty.ensures))
