-- What holds of the error that a call ends with.
use Rattle.std.proofs.Common.{◌≡◌, Result, Ok, Err, subst, sym}
use Rattle.std.specs.Prelude.{IfErr, IsErrAnd}
use Rattle.sizing_cli.specs.declared.fault.CliError.{CliError}

-- a property of a fault carries over to the result with that fault
pub failed_with : {T : Type 0} (result : Result T CliError) (fault : CliError) (P : CliError → Type 0) → IsErrAnd result (λ error. error ≡ fault) → P fault → IfErr result P
failed_with (Ok value) fault P same holds = tt
failed_with (Err error) fault P same holds = subst P (sym same) holds
