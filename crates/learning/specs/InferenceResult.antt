-- The result of learning a plan.
use Rattle.std.specs.Prelude.{ℕ, List, Option, Some, None, ⊤}
use Rattle.std.specs.List.{filter_map}
use Rattle.recordings.specs.RecordingLine.{RecordedLine, lines_read}
use Rattle.recordings.specs.declared.fault.RecordingFault.{RecordingFault}
use Rattle.learning.specs.declared.inference_result.InferenceResult.{InferenceResult}
use Rattle.learning.specs.declared.inference_result.InferenceResult.TheVariants.{Invalid, Inferred, InferenceLimit}
use Rattle.learning.specs.declared.inference_result.InferredPlan.{InferredPlan}
use Rattle.learning.specs.declared.inference_limit.InferenceLimit.{InferenceLimit as InferenceLimitReason}

-- The well-formed lines of a recording.
abbrev pub lines_of : List ℕ → List RecordedLine
lines_of text = filter_map (λ line. line) (lines_read text)

-- The fault of the first invalid line; `None` if the result is not an invalid line.
abbrev pub fault_of : InferenceResult → Option RecordingFault
fault_of (Invalid fault) = Some fault
fault_of (Inferred inferred) = None
fault_of (InferenceLimit reason) = None

-- If the result is a plan, `P` holds for the plan.
abbrev pub IfInferred : (InferredPlan → Type 0) → InferenceResult → Type 0
IfInferred P (Inferred inferred) = P inferred
IfInferred P (Invalid fault) = ⊤
IfInferred P (InferenceLimit reason) = ⊤

-- If the result is a reason why there is no plan, `P` holds for the reason.
abbrev pub IfLimit : (InferenceLimitReason → Type 0) → InferenceResult → Type 0
IfLimit P (InferenceLimit reason) = P reason
IfLimit P (Inferred inferred) = ⊤
IfLimit P (Invalid fault) = ⊤
