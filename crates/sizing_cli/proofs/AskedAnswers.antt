-- The meaning of status 0 of `ask`.
use Rattle.std.proofs.Common.{◌≡◌, ℕ, Bool, true, false, List, length, Option, Some, None, Result, Ok, Err, refl, sym, ◌∙◌}
use Rattle.std.specs.Prelude.{MatchBool, nat_lt}
use Rattle.clap.specs.Words.{Text}
use Rattle.job_bodies.specs.Plan.{Plan}
use Rattle.job_bodies.specs.declared.fault.PlanFault.{PlanFault}
use Rattle.plan_text.specs.PlanOf.{plan_of}
use Rattle.cert_text.specs.Cert.{Cert}
use Rattle.cert_text.specs.CertOf.{cert_of}
use Rattle.cert_text.specs.declared.fault.CertFault.{CertFault}
use Rattle.soundness.proofs.Promised.{promises}
use Rattle.cert_check.proofs.Yes.{plans_read_are_well_formed}
use Rattle.report.specs.declared.finding.PlanFinding.{PlanFinding}
use Rattle.report.specs.declared.finding.PlanFinding.TheVariants.{Safe, NotSafe, NotDecided}
use Rattle.report.specs.Finding.{IsFinding}
use Rattle.command_line.specs.declared.command.AskInput.{AskInput}
use Rattle.command_line.specs.declared.command.AskOptions.{AskOptions}
use Rattle.command_line.specs.declared.command.AskInput.TheVariants.{PlanAlone, WithCertificate}
use Rattle.job_bodies.specs.declared.limits.TheConstants.{MAX_INPUT_BYTES}
use Rattle.sizing_cli.specs.declared.status.Status.TheVariants.{Done, Refused, BadText, Undecided}
use Rattle.sizing_cli.specs.Answer.{Answer, input_too_long, no_separator}
use Rattle.sizing_cli.specs.Bundle.{Bundle, bundle_of}
use Rattle.sizing_cli.specs.SafeInput.{IsSafePlan}
use Rattle.sizing_cli.specs.Ask.{AnswersBundle, AnswersCert, AnswersGiven, AnswersInput, AnswersPlan, AnswersReading, IsAskAnswer, IsSafeAskInput, IsSafeBundle, PlanSource, source_of, status_of}
use Rattle.sizing_cli.proofs.FittedAnswers.{bad_text_is_not_done}

-- a plan with a finding of status 0 is safe
found_safe : (options : AskOptions) (source : PlanSource) (text : List ℕ) (plan : Plan) (given : Option Cert) (left : Option (List ℕ)) (answer : Answer) → plan_of text ≡ Ok plan → AnswersPlan options source plan given left answer → answer.status ≡ Done → IsSafePlan text
found_safe options source text plan given left answer is_plan answers done = by_finding answers.finding answers.is_finding (sym answers.reported.answers.status ∙ done)
  where
    by_finding : (finding : PlanFinding) → IsFinding plan finding → status_of options.strict answers.reported.answers.warnings finding ≡ Done → IsSafePlan text
    by_finding (Safe cert rejections) is_safe is_done = record {
      plan = plan;
      is_plan = is_plan;
      cert = cert;
      promises = promises plan cert (plans_read_are_well_formed text plan is_plan) is_safe.0;
    }
    by_finding (NotSafe witness sizes) is_witness is_done =
        let no : Refused ≡ Done = is_done in
        absurd cc
    by_finding (NotDecided sizes) is_found is_done =
        let no : Undecided ≡ Done = is_done in
        absurd cc

bad_is_not_done : (answer : Answer) → answer.status ≡ BadText → answer.status ≡ Done → ⊥
bad_is_not_done answer bad done =
    let no : BadText ≡ Done = sym bad ∙ done in
    absurd cc

read_safe : (options : AskOptions) (source : PlanSource) (text : List ℕ) (cert left : Option (List ℕ)) (answer : Answer) → AnswersReading options source cert (plan_of text) left answer → answer.status ≡ Done → IsSafePlan text
read_safe options source text cert left answer answers done = by_plan (plan_of text) refl answers
  where
    by_cert : (plan : Plan) → plan_of text ≡ Ok plan → (read : Result Cert CertFault) → AnswersCert options source plan read left answer → IsSafePlan text
    by_cert plan is_plan (Err fault) bad = absurd (bad_is_not_done answer bad.1.status done)
    by_cert plan is_plan (Ok c) found = found_safe options source text plan (Some c) left answer is_plan found done

    by_given : (plan : Plan) → plan_of text ≡ Ok plan → (given : Option (List ℕ)) → AnswersGiven options source given plan left answer → IsSafePlan text
    by_given plan is_plan None found = found_safe options source text plan None left answer is_plan found done
    by_given plan is_plan (Some second) found = by_cert plan is_plan (cert_of second plan) found

    by_plan : (read : Result Plan PlanFault) → plan_of text ≡ read → AnswersReading options source cert read left answer → IsSafePlan text
    by_plan (Err fault) is_fault bad = absurd (bad_is_not_done answer bad.1.status done)
    by_plan (Ok plan) is_plan given = by_given plan is_plan cert given

input_safe : (given : AskInput) (options : AskOptions) (file : Text) (input : List ℕ) (left : Option (List ℕ)) (answer : Answer) → AnswersInput given options file input left answer → answer.status ≡ Done → IsSafeAskInput given input
input_safe PlanAlone options file input left answer answers done = read_safe options (source_of file input) input None left answer answers done
input_safe WithCertificate options file input left answer answers done = by_bundle (bundle_of input) refl answers
  where
    by_bundle : (split : Option Bundle) → bundle_of input ≡ split → AnswersBundle options file split left answer → IsSafeBundle input
    by_bundle None is_none bad = absurd (bad_text_is_not_done answer no_separator bad.1 refl done)
    by_bundle (Some bundle) is_bundle read = record {
      bundle = bundle;
      is_bundle = is_bundle;
      safe = read_safe options (source_of file bundle.plan) bundle.plan (Some bundle.second) left answer read done;
    }

pub asked_means_safe : (given : AskInput) (options : AskOptions) (file : Text) (input : List ℕ) (left : Option (List ℕ)) (answer : Answer) → IsAskAnswer given options file input left answer → answer.status ≡ Done → IsSafeAskInput given input
asked_means_safe given options file input left answer is done = by_length (nat_lt MAX_INPUT_BYTES (length input)) is
  where
    by_length : (long : Bool) → MatchBool long ((left ≡ None) × (answer ≡ input_too_long)) (AnswersInput given options file input left answer) → IsSafeAskInput given input
    by_length true too_long = absurd (bad_text_is_not_done answer input_too_long too_long.1 refl done)
    by_length false answers = input_safe given options file input left answer answers done
