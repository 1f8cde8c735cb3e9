use Rattle.std.proofs.Common.{◌∷◌, [], Some, None}
use Rattle.std.proofs.lemmas.Bool.Decides.{Decides-eqb}
use Rattle.std.proofs.lemmas.Slice.Eq.{strip_prefix_is}
use Rattle.recordings.proofs.FirstNumbers.{space_there, number_none, no_space}
use Rattle.recordings.proofs.words.parse_number.Goals as goal

pub returns-in_err-number : goal.returns-in_err-number
returns-in_err-number c = rw c.from_residual.ensures (number_none c.args.text.now (rw c.in_err-number.was at c.leading_number.ensures))

pub returns-in_err-strip_prefix : goal.returns-in_err-strip_prefix
returns-in_err-strip_prefix c =
    rw c.from_residual-in_err-strip_prefix.ensures
    (no_space c.args.text.now c.in_ok-number.number c.in_ok-number.after.now (rw c.in_ok-number.was at c.leading_number.ensures)
    (strip_prefix_is Decides-eqb c.in_ok-number.after.now (32 ∷ []) None c.in_err-strip_prefix.ensures.cases))

pub returns : goal.returns
returns c =
    let after = strip_prefix_is Decides-eqb c.in_ok-number.after.now (32 ∷ []) (Some c.in_ok-strip_prefix.field-0) c.in_ok-strip_prefix.ensures.cases in
    space_there c.args.text.now c.in_ok-number.number c.in_ok-strip_prefix.field-0.now (rw after at (rw c.in_ok-number.was at c.leading_number.ensures))
