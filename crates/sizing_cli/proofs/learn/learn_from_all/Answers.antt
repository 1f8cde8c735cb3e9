use Rattle.std.proofs.Common.{◌≡◌, inl, inr, refl, subst, None}
use Rattle.recordings.specs.RecordingLine.{lines_read}
use Rattle.recordings.specs.Faults.{IsFirstFault}
use Rattle.learning.specs.declared.inference_result.InferenceResult.{InferenceResult}
use Rattle.learning.specs.declared.inference_limit.InferenceLimit.TheVariants.{Paths}
use Rattle.learning.specs.InferenceResult.{fault_of}
use Rattle.sizing_cli.specs.Answer.{Answer}
use Rattle.sizing_cli.specs.Learn.{AnswersLines, not_learned}
use Rattle.sizing_cli.proofs.Answering.{if_ok_map}
use Rattle.sizing_cli.proofs.learn.learn_from_all.Goals as goal

pub returns : goal.returns
returns c =
    let lines = lines_read c.args.recording.now in
    let no_fault : IsFirstFault lines None = subst (λ (reported : InferenceResult). IsFirstFault lines (fault_of reported)) c.in-Inferred.is c.in_ok-fault.ensures.bad in
    if_ok_map c.not_learned-in-None.result (λ (answer : Answer). answer ≡ not_learned Paths) (AnswersLines c.args.strict c.args.recording.now)
    (λ answer is. inr (inl (record { no_fault = no_fault; reason = Paths; because = inr (inl refl); answer_is = is }))) c.not_learned-in-None.ensures
