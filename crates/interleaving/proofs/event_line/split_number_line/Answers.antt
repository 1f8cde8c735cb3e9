use Rattle.std.proofs.Common.{◌∷◌, [], Some, None, sym}
use Rattle.std.proofs.lemmas.Bool.{eqb-true}
use Rattle.std.proofs.lemmas.Bool.Decides.{Decides-eqb}
use Rattle.std.proofs.lemmas.Slice.Eq.{strip_prefix_is}
use Rattle.support.proofs.Numbers.{not_zero, line_none, line_last, line_newline, line_more}
use Rattle.interleaving.proofs.event_line.split_number_line.Goals as goal

pub returns-in_err-number : goal.returns-in_err-number
returns-in_err-number c = rw c.from_residual.ensures (line_none c.args.text.now (rw c.in_err-number.was at c.leading_number.ensures))

pub returns-then-is_empty : goal.returns-then-is_empty
returns-then-is_empty c = line_last c.args.text.now c.in_ok-number.number c.in_ok-number.behind.now (rw c.in_ok-number.was at c.leading_number.ensures) (eqb-true _ 0 (sym c.if-is_empty.ensures))

pub returns-in_err-strip_prefix : goal.returns-in_err-strip_prefix
returns-in_err-strip_prefix c =
    rw c.from_residual-in_err-strip_prefix.ensures
    (line_more c.args.text.now c.in_ok-number.number c.in_ok-number.behind.now (rw c.in_ok-number.was at c.leading_number.ensures) (not_zero _ (sym c.if-is_empty.ensures))
    (strip_prefix_is Decides-eqb c.in_ok-number.behind.now (10 ∷ []) None c.in_err-strip_prefix.ensures.cases))

pub returns : goal.returns
returns c =
    let behind = strip_prefix_is Decides-eqb c.in_ok-number.behind.now (10 ∷ []) (Some c.in_ok-strip_prefix.field-0) c.in_ok-strip_prefix.ensures.cases in
    line_newline c.args.text.now c.in_ok-number.number c.in_ok-strip_prefix.field-0.now (rw behind at (rw c.in_ok-number.was at c.leading_number.ensures))
