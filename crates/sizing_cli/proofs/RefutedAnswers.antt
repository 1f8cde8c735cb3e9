-- What status 0 of `refute` means, for a story and for a bundle.
use Rattle.std.proofs.Common.{◌≡◌, ◌≤◌, ℕ, inl, inr, ⊎_elim, Bool, true, false, List, length, Result, Ok, Err, refl, sym, ap, ◌∙◌}
use Rattle.std.specs.Prelude.{MatchBool, nat_lt, Option, Some, None, IfSome, IfNone}
use Rattle.counterexample.specs.declared.witness.Witness.{Witness}
use Rattle.command_line.specs.declared.command.RefuteFormat.{RefuteFormat}
use Rattle.job_bodies.specs.Plan.{Plan}
use Rattle.job_bodies.specs.declared.fault.PlanFault.{PlanFault}
use Rattle.plan_text.specs.PlanOf.{plan_of}
use Rattle.soundness.proofs.Promised.{promises}
use Rattle.cert_check.proofs.Yes.{plans_read_are_well_formed}
use Rattle.command_line.specs.declared.command.RefuteFormat.TheVariants.{Story, Bundle}
use Rattle.job_bodies.specs.declared.limits.TheConstants.{MAX_INPUT_BYTES}
use Rattle.sizing_cli.specs.declared.status.Status.TheVariants.{Done, Refused, Undecided}
use Rattle.sizing_cli.specs.Answer.{Answer, input_too_long}
use Rattle.sizing_cli.specs.SafeInput.{IsSafePlan}
use Rattle.sizing_cli.specs.Certify.{IsUncertified}
use Rattle.sizing_cli.specs.Bundle.{whole_lines}
use Rattle.sizing_cli.specs.Refute.{not_decided, AnswersPlan, AnswersReading, BundlesWitness, IsRefuteAnswer, IsWitnessBundle, IsWitnessOf, Refutes, ShowsWitness}
use Rattle.sizing_cli.proofs.FittedAnswers.{bad_text_is_not_done}

-- the answer for a plan without a certificate follows from the witness that was found
pub answered_by : (states : ℕ) (refute_format : RefuteFormat) (text : List ℕ) (plan : Plan) (answer : Answer) (found : Option Witness) (searched : ℕ) → IsUncertified plan → IfSome found (IsWitnessOf plan) → searched ≤ states
    → IfSome found (λ witness. ShowsWitness refute_format text plan witness answer) → IfNone found (answer ≡ not_decided refute_format searched) → AnswersPlan states refute_format text plan answer
answered_by states refute_format text plan answer (Some witness) searched uncertified is_witness within shows nothing = inr (inr (record { witness = witness; is_witness = is_witness; shows = shows }))
answered_by states refute_format text plan answer None searched uncertified is_witness within shows nothing = inr (inl (record { uncertified = uncertified; searched = searched; within = within; reported = nothing }))

pub refuted_means_safe : (states : ℕ) (input : List ℕ) (answer : Answer) → IsRefuteAnswer states Story input answer → answer.status ≡ Done → IsSafePlan (whole_lines input)
refuted_means_safe states input answer is done = by_length (nat_lt MAX_INPUT_BYTES (length input)) is
  where
    by_answer : (plan : Plan) → plan_of (whole_lines input) ≡ Ok plan → AnswersPlan states Story (whole_lines input) plan answer → IsSafePlan (whole_lines input)
    by_answer plan is_plan (inl safe) =
        record {
          plan = plan;
          is_plan = is_plan;
          cert = safe.1.cert;
          promises = promises plan safe.1.cert (plans_read_are_well_formed (whole_lines input) plan is_plan) safe.1.accepts;
        }
    by_answer plan is_plan (inr (inl nothing)) =
        let no : Undecided ≡ Done = sym (ap (λ (a : Answer). a.status) nothing.reported) ∙ done in
        absurd cc
    by_answer plan is_plan (inr (inr refutes)) =
        let no : Refused ≡ Done = sym refutes.shows.status ∙ done in
        absurd cc

    by_plan : (read : Result Plan PlanFault) → plan_of (whole_lines input) ≡ read → AnswersReading states Story (whole_lines input) read answer → IsSafePlan (whole_lines input)
    by_plan (Err fault) is_fault bad = absurd (bad_text_is_not_done answer _ bad refl done)
    by_plan (Ok plan) is_plan answers = by_answer plan is_plan answers

    by_length : (long : Bool) → MatchBool long (answer ≡ input_too_long) (AnswersReading states Story (whole_lines input) (plan_of (whole_lines input)) answer) → IsSafePlan (whole_lines input)
    by_length true too_long = absurd (bad_text_is_not_done answer input_too_long too_long refl done)
    by_length false answers = by_plan (plan_of (whole_lines input)) refl answers

-- the plan's text with the events of a witness
abbrev Shows : List ℕ → Answer → Type 0
Shows input answer = IsWitnessBundle input answer.text

pub bundle_means_witness : (states : ℕ) (input : List ℕ) (answer : Answer) → IsRefuteAnswer states Bundle input answer → answer.status ≡ Done → Shows input answer
bundle_means_witness states input answer is done = by_length (nat_lt MAX_INPUT_BYTES (length input)) is
  where
    by_witness_shown : (plan : Plan) → plan_of (whole_lines input) ≡ Ok plan → (refutes : Refutes Bundle (whole_lines input) plan answer) → Shows input answer
    by_witness_shown plan is_plan refutes =
        ⊎_elim (λ too_long. let no : Refused ≡ Done = sym (ap (λ (a : Answer). a.status) too_long.0) ∙ done in absurd cc)
        (λ (bundles : BundlesWitness (whole_lines input) plan refutes.witness answer).
        record { plan = plan; is_plan = is_plan; witness = refutes.witness; is_witness = refutes.is_witness; bundle = bundles.bundle; short = bundles.short })
        refutes.shows

    by_answer : (plan : Plan) → plan_of (whole_lines input) ≡ Ok plan → AnswersPlan states Bundle (whole_lines input) plan answer → Shows input answer
    by_answer plan is_plan (inl safe) =
        let no : Refused ≡ Done = sym (ap (λ (a : Answer). a.status) safe.0) ∙ done in
        absurd cc
    by_answer plan is_plan (inr (inl nothing)) =
        let no : Refused ≡ Done = sym (ap (λ (a : Answer). a.status) nothing.reported) ∙ done in
        absurd cc
    by_answer plan is_plan (inr (inr refutes)) = by_witness_shown plan is_plan refutes

    by_plan : (read : Result Plan PlanFault) → plan_of (whole_lines input) ≡ read → AnswersReading states Bundle (whole_lines input) read answer → Shows input answer
    by_plan (Err fault) is_fault bad = absurd (bad_text_is_not_done answer _ bad refl done)
    by_plan (Ok plan) is_plan answers = by_answer plan is_plan answers

    by_length : (long : Bool) → MatchBool long (answer ≡ input_too_long) (AnswersReading states Bundle (whole_lines input) (plan_of (whole_lines input)) answer) → Shows input answer
    by_length true too_long = absurd (bad_text_is_not_done answer input_too_long too_long refl done)
    by_length false answers = by_plan (plan_of (whole_lines input)) refl answers
