-- Consequences of a result that is not an error.
use Rattle.std.proofs.Common.{Result, Ok, Err, OnOk}

-- if P holds for a result that is not an error, and P implies Q, then Q holds for it
pub on_ok : {T E : Type 0} {P Q : Type 0} (r : Result T E) → OnOk r P → (P → Q) → OnOk r Q
on_ok (Ok x) ok f = f ok
on_ok (Err e) ok f = ok
