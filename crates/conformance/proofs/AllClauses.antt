-- Several clauses about one result.
use Rattle.std.specs.Result.{IfOk}
use Rattle.std.specs.declared.result.Result.{Result}
use Rattle.std.specs.declared.result.Result.TheVariants.{Ok, Err}

-- The conjunction of five clauses.
pub all_five : {X E : Type 0} (r : Result X E) (A B C D F P : X → Type 0) → ((x : X) → A x → B x → C x → D x → F x → P x) → IfOk r A → IfOk r B → IfOk r C → IfOk r D → IfOk r F → IfOk r P
all_five (Ok x) A B C D F P all a b c d f = all x a b c d f
all_five (Err e) A B C D F P all a b c d f = tt
