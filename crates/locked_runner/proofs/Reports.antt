-- Properties of a report whose value is known.
use Rattle.std.proofs.Common.{◌≡◌, sym, subst, Result, Ok, Err}
use Rattle.std.specs.Prelude.{IfOk}
use Rattle.locked_runner.specs.Report.{RunReport}
use Rattle.locked_runner.specs.declared.report.RunFault.{RunFault}

-- a property that holds for the value of every success holds for the report
pub value_holds : (P : RunReport → Type 0) (r : Result RunReport RunFault) (whole : RunReport) → IfOk r (λ report. report ≡ whole) → IfOk r (λ _. P whole) → IfOk r P
value_holds P (Ok report) whole is holds = subst P (sym is) holds
value_holds P (Err fault) whole is holds = tt

-- a property of the known value holds for the report
pub value_holds_of_all : (P : RunReport → Type 0) (r : Result RunReport RunFault) (whole : RunReport) → IfOk r (λ report. report ≡ whole) → P whole → IfOk r P
value_holds_of_all P (Ok report) whole is holds = subst P (sym is) holds
value_holds_of_all P (Err fault) whole is holds = tt
