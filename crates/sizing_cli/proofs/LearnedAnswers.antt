-- The meaning of status 0 of `learn`.
use Rattle.std.proofs.Common.{◌≡◌, ℕ, inl, inr, Bool, true, false, List, [], ◌∷◌, length, None, refl, subst, sym, ap, ◌∙◌}
use Rattle.std.specs.Prelude.{MatchBool, nat_lt}
use Rattle.job_bodies.specs.declared.limits.TheConstants.{MAX_RECORDED_BYTES}
use Rattle.job_bodies.specs.Plan.{Plan}
use Rattle.recordings.specs.RecordingLine.{lines_read}
use Rattle.recordings.specs.Faults.{IsFirstFault}
use Rattle.learning.specs.declared.inference_limit.InferenceLimit.TheVariants.{Text}
use Rattle.learning.specs.declared.inference_result.InferredPlan.{InferredPlan}
use Rattle.conformance.specs.declared.finding.Finding.{Finding}
use Rattle.conformance.specs.declared.rejections.PoolRejections.{PoolRejections}
use Rattle.sizing_cli.specs.declared.status.Status.TheVariants.{Done, Refused, BadText}
use Rattle.sizing_cli.specs.Answer.{Answer, input_too_long}
use Rattle.sizing_cli.specs.Learn.{AnswersComparison, AnswersLines, IsConformingText, IsLearnAnswer, IsLearned, IsLearnedText, IsOfPlan, learned_answer}

-- an answer with a learned plan and status 0 is the text of that plan, and there is no finding
conforming : (strict : Bool) (recording text : List ℕ) (answer : Answer) (learned : IsLearnedText recording text) (findings : List Finding)
    → learned.findings ≡ findings → answer ≡ learned_answer strict text learned.plan findings → answer.status ≡ Done
    → IsConformingText recording answer.text
conforming strict recording text answer learned [] none is done =
    subst (λ (a : Answer). IsConformingText recording a.text) (sym is) (record { learned = learned; conforms = none })
conforming false recording text answer learned (finding ∷ others) some is done =
    let no : Refused ≡ Done = sym (ap (λ (a : Answer). a.status) is) ∙ done in
    absurd cc
conforming true recording text answer learned (finding ∷ others) some is done =
    let no : Refused ≡ Done = sym (ap (λ (a : Answer). a.status) is) ∙ done in
    absurd cc

by_lines : (strict : Bool) (input : List ℕ) (answer : Answer) → AnswersLines strict input answer → answer.status ≡ Done → IsConformingText input answer.text
by_lines strict input answer (inl bad) done =
    let no : BadText ≡ Done = sym (ap (λ (a : Answer). a.status) bad.answer_is) ∙ done in
    absurd cc
by_lines strict input answer (inr (inl none)) done =
    let no : Refused ≡ Done = sym (ap (λ (a : Answer). a.status) none.answer_is) ∙ done in
    absurd cc
by_lines strict input answer (inr (inr found)) done =
    conforming strict input found.text answer found.learned found.learned.findings refl found.answer_is done

pub learned : (strict : Bool) (input : List ℕ) (answer : Answer) → IsLearnAnswer strict input answer → answer.status ≡ Done → IsConformingText input answer.text
learned strict input answer is done = by_length (nat_lt MAX_RECORDED_BYTES (length input)) is
  where
    by_length : (long : Bool) → MatchBool long (answer ≡ input_too_long) (AnswersLines strict input answer) → IsConformingText input answer.text
    by_length true too_long =
        let no : BadText ≡ Done = sym (ap (λ (a : Answer). a.status) too_long) ∙ done in
        absurd cc
    by_length false answers = by_lines strict input answer answers done

-- the answer for a plan that was compared with a well-formed recording
pub compared : (strict : Bool) (recording : List ℕ) (seen : InferredPlan) (plan : Plan) (rejections : List PoolRejections) (findings : List Finding) (answer : Answer) → IsFirstFault (lines_read recording) None
    → (IsOfPlan strict seen plan rejections findings answer → IsLearned strict recording answer) → AnswersComparison strict seen plan rejections findings answer → AnswersLines strict recording answer
compared strict recording seen plan rejections findings answer no_fault learned (inl too_long) = inr (inl (record { no_fault = no_fault; reason = Text; because = inl refl; answer_is = too_long }))
compared strict recording seen plan rejections findings answer no_fault learned (inr of_plan) = inr (inr (learned of_plan))
