use Rattle.std.proofs.Common.{refl}
use Rattle.plan_text.proofs.Tables.{elements-items_of}
use Rattle.plan_text.proofs.document.list_in.Goals as goal

pub returns : goal.returns
returns c = rw (← c.in_ok-values.ensures, elements-items_of, c.as_slice.ensures.value) refl
