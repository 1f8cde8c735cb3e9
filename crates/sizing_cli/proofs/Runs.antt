-- The answer and the fault of a run of a plan with a certificate that accepts it.
use Rattle.std.proofs.Common.{◌≡◌, ℕ, Bool, true, false, inl, inr, Some, Result, Ok, Err, IfOk, refl, subst, ap, ◌∙◌, arith}
use Rattle.std.specs.Prelude.{◌==◌, IsOk}
use Rattle.std.specs.Result.{result_ok}
use Rattle.support.specs.declared.number.TheConstants.{RUN_TOO_LARGE}
use Rattle.locked_runner.specs.declared.report.RunFault.{RunFault}
use Rattle.locked_runner.specs.Faults.{IsFaultOf}
use Rattle.sizing_cli.specs.ServeFault.{is_of_run}
use Rattle.job_bodies.specs.Plan.{Plan}
use Rattle.cert_text.specs.Cert.{Cert}
use Rattle.soundness.specs.Accepted.{accepted}
use Rattle.cert_check.specs.Certified.{Certified}
use Rattle.sizing_cli.specs.declared.status.ServeFault.{ServeFault}
use Rattle.sizing_cli.specs.Answer.{Answer}
use Rattle.sizing_cli.specs.Report.{run_of_cert, run_of_accepted}

pub run_of_certified : {E : Type 0} (plan : Plan) (cert : Cert) (rounds : ℕ) (checked : Result Certified E) (certified : Certified) (result : Result Answer ServeFault) → Some certified ≡ result_ok checked
    → IfOk checked (λ c. c ≡ record { plan = plan; cert = cert }) → (IsOk checked → accepted plan cert ≡ true)
    → IfOk result (λ answer. answer ≡ run_of_accepted certified.plan certified.cert rounds) → IfOk result (λ answer. answer ≡ run_of_cert plan rounds (Ok cert))
run_of_certified plan cert rounds (Err back) certified result none same fits ran = absurd cc
run_of_certified plan cert rounds (Ok checked) certified (Err fault) some same fits ran = tt
run_of_certified plan cert rounds (Ok checked) certified (Ok answer) some same fits ran =
    let is : certified ≡ checked = cc in
    rw (fits refl) (ran ∙ ap (λ (c : Certified). run_of_accepted c.plan c.cert rounds) (is ∙ same))

-- fault 40 occurs only if the plan is too large
pub too_large_if_reported : (large : Bool) (fault : RunFault) → IsFaultOf large fault → fault.number ≡ RUN_TOO_LARGE → large ≡ true
too_large_if_reported true fault is reported = refl
too_large_if_reported false fault (inl strange) reported = absurd (omega arith)
too_large_if_reported false fault (inr (inl mixed)) reported = absurd (omega arith)
too_large_if_reported false fault (inr (inr (inl memory))) reported = absurd (omega arith)
too_large_if_reported false fault (inr (inr (inr gate))) reported = absurd (omega arith)

-- every other fault is one of a run
pub of_run_else : (large : Bool) (fault : RunFault) → IsFaultOf large fault → (fault.number == RUN_TOO_LARGE) ≡ false → is_of_run fault.number ≡ true
of_run_else true fault (inl reported, none) other =
    let no : (RUN_TOO_LARGE == RUN_TOO_LARGE) ≡ false = subst (λ (n : ℕ). (n == RUN_TOO_LARGE) ≡ false) reported other in
    absurd cc
of_run_else true fault (inr memory, none) other = rw memory refl
of_run_else false fault (inl strange) other = rw strange refl
of_run_else false fault (inr (inl mixed)) other = rw mixed refl
of_run_else false fault (inr (inr (inl memory))) other = rw memory refl
of_run_else false fault (inr (inr (inr gate))) other = rw gate refl
