-- The meaning of status 0 of `conform`.
use Rattle.std.proofs.Common.{◌≡◌, ℕ, Bool, true, false, cond, List, [], length, Option, Some, None, Result, Ok, Err, refl, sym, ap, ◌∙◌}
use Rattle.std.specs.Prelude.{MatchBool, nat_lt, ◌==◌}
use Rattle.std.proofs.lemmas.Bool.{eqb-true}
use Rattle.std.proofs.lemmas.List.{nil_from_length}
use Rattle.std.specs.List.{list_all}
use Rattle.job_bodies.specs.Plan.{Plan}
use Rattle.job_bodies.specs.declared.fault.PlanFault.{PlanFault}
use Rattle.plan_text.specs.PlanOf.{plan_of}
use Rattle.conformance.specs.declared.comparison.Conformance.{Conformance}
use Rattle.conformance.specs.declared.comparison.Conformance.TheVariants.{Invalid, Compared}
use Rattle.conformance.specs.declared.finding.Finding.{Finding}
use Rattle.job_bodies.specs.declared.limits.TheConstants.{MAX_RECORDED_BYTES}
use Rattle.sizing_cli.specs.declared.status.Status.TheVariants.{Done, Refused, BadText, Undecided}
use Rattle.sizing_cli.specs.Answer.{Answer, input_too_long}
use Rattle.sizing_cli.specs.Bundle.{Bundle, first_bundle_of}
use Rattle.sizing_cli.specs.Conform.{AnswersBundle, AnswersReading, IsConformAnswer, IsConformingInput, IsConformance, answer_of, is_undecided, status_of}

-- status 0 means that there are no findings
done_of_no_findings : (findings : List Finding) → status_of findings ≡ Done → findings ≡ []
done_of_no_findings findings done = by_length (length findings == 0) refl done
  where
    by_all : (all : Bool) → cond all Undecided Refused ≡ Done → findings ≡ []
    by_all true outcome = absurd cc
    by_all false outcome = absurd cc

    by_length : (none : Bool) → (length findings == 0) ≡ none → cond none Done (cond (list_all is_undecided findings) Undecided Refused) ≡ Done → findings ≡ []
    by_length true is outcome = nil_from_length findings (eqb-true (length findings) 0 is)
    by_length false is outcome = by_all (list_all is_undecided findings) outcome

with_outcome : (input : List ℕ) (bundle : Bundle) (plan : Plan) → first_bundle_of input ≡ Some bundle → plan_of bundle.plan ≡ Ok plan → (outcome : Conformance)
    → IsConformance plan bundle.second outcome → (answer_of plan bundle.second outcome).status ≡ Done → IsConformingInput input
with_outcome input bundle plan is_bundle is_plan (Invalid fault) outcome done = absurd cc
with_outcome input bundle plan is_bundle is_plan (Compared findings rejections) outcome done =
    let all = outcome.conforms (done_of_no_findings findings.items done) in
    record { bundle = bundle; is_bundle = is_bundle; plan = plan; is_plan = is_plan; no_fault = outcome.bad; conforms = all.0; valid = all.1 }

with_reading : (input : List ℕ) (bundle : Bundle) (answer : Answer) (found : Result Plan PlanFault) → first_bundle_of input ≡ Some bundle → plan_of bundle.plan ≡ found
    → AnswersReading bundle.second found answer → answer.status ≡ Done → IsConformingInput input
with_reading input bundle answer (Err fault) is_bundle is_plan is done =
    let no : BadText ≡ Done = sym (ap (λ (a : Answer). a.status) is) ∙ done in
    absurd cc
with_reading input bundle answer (Ok plan) is_bundle is_plan is done =
    with_outcome input bundle plan is_bundle is_plan is.outcome is.is_outcome (sym (ap (λ (a : Answer). a.status) is.answer_is) ∙ done)

with_bundle : (input : List ℕ) (answer : Answer) (found : Option Bundle) → first_bundle_of input ≡ found → AnswersBundle found answer → answer.status ≡ Done → IsConformingInput input
with_bundle input answer None is_bundle is done =
    let no : BadText ≡ Done = sym (ap (λ (a : Answer). a.status) is) ∙ done in
    absurd cc
with_bundle input answer (Some bundle) is_bundle is done = with_reading input bundle answer (plan_of bundle.plan) is_bundle refl is done

pub conformed : (input : List ℕ) (answer : Answer) → IsConformAnswer input answer → answer.status ≡ Done → IsConformingInput input
conformed input answer is done = by_length (nat_lt MAX_RECORDED_BYTES (length input)) is
  where
    by_length : (long : Bool) → MatchBool long (answer ≡ input_too_long) (AnswersBundle (first_bundle_of input) answer) → IsConformingInput input
    by_length true too_long =
        let no : BadText ≡ Done = sym (ap (λ (a : Answer). a.status) too_long) ∙ done in
        absurd cc
    by_length false answers = with_bundle input answer (first_bundle_of input) refl answers done
