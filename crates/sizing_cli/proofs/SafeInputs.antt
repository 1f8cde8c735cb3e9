-- If `check` answers yes, the input has a safe plan.
use Rattle.std.proofs.Common.{◌≡◌, ℕ, Bool, true, false, cond, ltb, List, length, Option, Some, None, Result, Ok, Err, refl}
use Rattle.job_bodies.specs.Plan.{Plan}
use Rattle.job_bodies.specs.declared.fault.PlanFault.{PlanFault}
use Rattle.plan_text.specs.PlanOf.{plan_of}
use Rattle.cert_text.specs.Cert.{Cert}
use Rattle.cert_text.specs.declared.fault.CertFault.{CertFault}
use Rattle.cert_text.specs.CertOf.{cert_of}
use Rattle.soundness.specs.Accepted.{accepted}
use Rattle.cert_check.specs.Check.{IsSafeWith, IsSafeToRun}
use Rattle.cert_check.proofs.Yes.{plans_read_are_well_formed, safe_with}
use Rattle.job_bodies.specs.declared.limits.TheConstants.{MAX_INPUT_BYTES}
use Rattle.sizing_cli.specs.declared.status.Status.TheVariants.{Done}
use Rattle.sizing_cli.specs.Answer.{yes_or_no, input_too_long}
use Rattle.sizing_cli.specs.Bundle.{Bundle, bundle_of}
use Rattle.sizing_cli.specs.Report.{check, check_of_cert, run, run_of_cert, run_of_accepted, run_report, not_run, answer_of_plan, answer_of_bundle}
use Rattle.sizing_cli.specs.SafeInput.{IsSafeInput, YesMeansSafe}

-- a yes-or-no answer with status Done is yes
pub yes_from_done : (answer : Bool) → yes_or_no answer ≡ Done → answer ≡ true
yes_from_done true done = refl
yes_from_done false done = absurd cc

-- once the certificate is parsed
with_cert : (plan : Plan) (text : List ℕ) (found : Result Cert CertFault) → (bytes : List ℕ) → plan_of bytes ≡ Ok plan → cert_of text plan ≡ found → (check_of_cert plan found).status ≡ Done → IsSafeWith plan text
with_cert plan text (Err fault) bytes is_plan is done = absurd cc
with_cert plan text (Ok cert) bytes is_plan is done = safe_with plan cert text (plans_read_are_well_formed bytes plan is_plan) is (yes_from_done (accepted plan cert) done)

-- once the plan is parsed
with_plan : (bytes text : List ℕ) (found : Result Plan PlanFault) → plan_of bytes ≡ found → (answer_of_plan check text found).status ≡ Done → IsSafeToRun bytes text
with_plan bytes text (Err fault) is done = absurd cc
with_plan bytes text (Ok plan) is done = record { plan = plan; is_plan = is; with_cert = with_cert plan text (cert_of text plan) bytes is refl done }

-- once the input is split
with_bundle : (input : List ℕ) (found : Option Bundle) → bundle_of input ≡ found → (answer_of_bundle check found).status ≡ Done → IsSafeInput input
with_bundle input None is done = absurd cc
with_bundle input (Some bundle) is done = record { bundle = bundle; is_bundle = is; safe = with_plan bundle.plan bundle.second (plan_of bundle.plan) refl done }

pub yes_means_safe : YesMeansSafe
yes_means_safe input done = by_length (ltb MAX_INPUT_BYTES (length input)) done
  where
    by_length : (long : Bool) → (cond long input_too_long (answer_of_bundle check (bundle_of input))).status ≡ Done → IsSafeInput input
    by_length true done = absurd cc
    by_length false done = with_bundle input (bundle_of input) refl done

-- ---- a completed run

run_with_cert : (rounds : ℕ) (plan : Plan) (text : List ℕ) (found : Result Cert CertFault) → (bytes : List ℕ) → plan_of bytes ≡ Ok plan → cert_of text plan ≡ found → (run_of_cert plan rounds found).status ≡ Done → IsSafeWith plan text
run_with_cert rounds plan text (Err fault) bytes is_plan is done = absurd cc
run_with_cert rounds plan text (Ok cert) bytes is_plan is done = safe_with plan cert text (plans_read_are_well_formed bytes plan is_plan) is (by_test (accepted plan cert) done)
  where
    by_test : (test : Bool) → (cond test (run_of_accepted plan cert rounds) not_run).status ≡ Done → test ≡ true
    by_test true done = refl
    by_test false done = absurd cc

run_with_plan : (rounds : ℕ) (bytes text : List ℕ) (found : Result Plan PlanFault) → plan_of bytes ≡ found → (answer_of_plan (run rounds) text found).status ≡ Done → IsSafeToRun bytes text
run_with_plan rounds bytes text (Err fault) is done = absurd cc
run_with_plan rounds bytes text (Ok plan) is done = record { plan = plan; is_plan = is; with_cert = run_with_cert rounds plan text (cert_of text plan) bytes is refl done }

run_with_bundle : (rounds : ℕ) (input : List ℕ) (found : Option Bundle) → bundle_of input ≡ found → (answer_of_bundle (run rounds) found).status ≡ Done → IsSafeInput input
run_with_bundle rounds input None is done = absurd cc
run_with_bundle rounds input (Some bundle) is done = record { bundle = bundle; is_bundle = is; safe = run_with_plan rounds bundle.plan bundle.second (plan_of bundle.plan) refl done }

pub run_means_safe : (rounds : ℕ) (input : List ℕ) → (run_report rounds input).status ≡ Done → IsSafeInput input
run_means_safe rounds input done = by_length (ltb MAX_INPUT_BYTES (length input)) done
  where
    by_length : (long : Bool) → (cond long input_too_long (answer_of_bundle (run rounds) (bundle_of input))).status ≡ Done → IsSafeInput input
    by_length true done = absurd cc
    by_length false done = run_with_bundle rounds input (bundle_of input) refl done
