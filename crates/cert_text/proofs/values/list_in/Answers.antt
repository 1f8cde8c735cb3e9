use Rattle.std.proofs.Common.{refl}
use Rattle.cert_text.proofs.Lists.{elements-items_of}
use Rattle.cert_text.proofs.values.list_in.Goals as goal

pub returns-in-Some : goal.returns-in-Some
returns-in-Some c = rw (← c.in-Some.ensures, elements-items_of, c.as_slice.ensures.value) refl
