-- The possible answers of `conform` to an input. The definition is a relation, because it does not fix the order in which paths
-- through a body are tried.
use Rattle.std.specs.Prelude.{◌≡◌, ◌==◌, ℕ, Bool, true, false, nat_lt, if◌then◌else◌, List, [], ◌∷◌, ◌++◌, length, flat_map, codes, decimal, Option, Some, None, Result, Ok, Err, MatchBool}
use Rattle.std.specs.List.{list_all}
use Rattle.job_bodies.specs.Plan.{Plan, pool_at}
use Rattle.job_bodies.specs.FaultText.{fault_line}
use Rattle.job_bodies.specs.declared.fault.PlanFault.{PlanFault}
use Rattle.plan_text.specs.PlanOf.{plan_of}
use Rattle.support.specs.Name.{head}
use Rattle.support.specs.declared.number.TheConstants.{BAD_RECORDING}
use Rattle.recordings.specs.RecordingLine.{lines_read}
use Rattle.recordings.specs.Faults.{IsFirstFault}
use Rattle.recordings.specs.FaultText.{fault_text}
use Rattle.recordings.specs.declared.fault.RecordingFault.{RecordingFault}
use Rattle.conformance.specs.declared.comparison.Conformance.{Conformance}
use Rattle.conformance.specs.declared.comparison.Conformance.TheVariants.{Invalid, Compared}
use Rattle.conformance.specs.declared.finding.Finding.{Finding}
use Rattle.conformance.specs.declared.rejections.PoolRejections.{PoolRejections}
use Rattle.conformance.specs.Rejections.{rejections_of}
use Rattle.conformance.specs.declared.finding.Finding.TheVariants as finding
use Rattle.conformance.specs.Conforms.{Conforms, HasNoInvalidation}
use Rattle.conformance.specs.Findings.{AreFindingsOf}
use Rattle.conformance.specs.FindingText.{findings_text}
use Rattle.conformance.specs.Lines.{lines_of}
use Rattle.conformance.specs.Outcome.{AreInOrder, IfCompared, IfCounted, fault_of}
use Rattle.job_bodies.specs.declared.limits.TheConstants.{MAX_RECORDED_BYTES}
use Rattle.sizing_cli.specs.declared.status.Status.{Status}
use Rattle.sizing_cli.specs.declared.status.Status.TheVariants.{Done, Refused, Undecided}
use Rattle.sizing_cli.specs.Answer.{Answer, fault, input_too_long, no_separator}
use Rattle.sizing_cli.specs.Bundle.{Bundle, first_bundle_of}
use Rattle.sizing_cli.specs.LineEnds.{line_end_hint}

-- ---- the text and the status
-- the answer that reports this malformed line of a recording
abbrev pub bad_recording : List ℕ → RecordingFault → Answer
bad_recording recording found = fault (head BAD_RECORDING ++ (codes " at " ++ (fault_text found ++ line_end_hint recording found.line)))

abbrev pub is_undecided : Finding → Bool
is_undecided (finding.NotDecided actor name) = true
is_undecided _ = false

-- the status: Done if there are no findings, Undecided if all findings are undecided, and otherwise Refused
abbrev pub status_of : List Finding → Status
status_of findings = if length findings == 0 then Done else (if list_all is_undecided findings then Undecided else Refused)

abbrev pub conform_text : Plan → List Finding → List ℕ
conform_text plan findings = if length findings == 0 then codes "conforms" ++ 10 ∷ [] else findings_text plan findings

-- the line with the number of jobs that the pool rejected as the plan allows; empty if it rejected none
abbrev pub rejections_line : Plan → PoolRejections → List ℕ
rejections_line plan of_pool =
    if of_pool.count == 0 then []
    else (if of_pool.count == 1
    then codes "pool " ++ ((pool_at plan of_pool.pool).name ++ (codes " rejected 1 job, as the plan allows" ++ 10 ∷ []))
    else codes "pool " ++ ((pool_at plan of_pool.pool).name ++ (codes " rejected " ++ (decimal of_pool.count ++ (codes " jobs, as the plan allows" ++ 10 ∷ [])))))

abbrev pub findings_answer : Plan → List Finding → List PoolRejections → Answer
findings_answer plan findings rejections = record { text = conform_text plan findings ++ flat_map (rejections_line plan) rejections; status = status_of findings }

abbrev pub answer_of : Plan → List ℕ → Conformance → Answer
answer_of plan recording (Invalid found) = bad_recording recording found
answer_of plan recording (Compared findings rejections) = findings_answer plan findings.items rejections.items

-- ---- the findings
-- If there are no findings, the recording conforms to the plan. If a line of the recording would invalidate this result, the
-- line is then a rejection that the plan allows.
abbrev pub AreAllFindings : Plan → List ℕ → List Finding → Type 0
AreAllFindings plan recording findings = findings ≡ [] → Conforms plan (lines_of recording) × HasNoInvalidation plan (lines_of recording)

-- The outcome of comparing the recording with the plan. If a line is malformed, it is the first malformed line. Otherwise it is
-- all findings, each once, in the order of the lines, and the numbers of rejected jobs.
pub record IsConformance (plan : Plan) (recording : List ℕ) (outcome : Conformance) : Type 0 where
  pub bad : IsFirstFault (lines_read recording) (fault_of outcome)
  pub found : IfCompared outcome (AreFindingsOf plan (lines_of recording))
  pub conforms : IfCompared outcome (AreAllFindings plan recording)
  pub ascending : IfCompared outcome AreInOrder
  pub rejections : IfCounted outcome (λ counts. counts ≡ rejections_of plan (lines_of recording))

-- the answers for a plan and a recording
pub record AnswersRecording (plan : Plan) (recording : List ℕ) (answer : Answer) : Type 0 where
  pub outcome : Conformance
  pub is_outcome : IsConformance plan recording outcome
  pub answer_is : answer ≡ answer_of plan recording outcome

abbrev pub AnswersReading : List ℕ → Result Plan PlanFault → Answer → Type 0
AnswersReading recording (Err f) answer = answer ≡ fault (fault_line f)
AnswersReading recording (Ok plan) answer = AnswersRecording plan recording answer

abbrev pub AnswersBundle : Option Bundle → Answer → Type 0
AnswersBundle None answer = answer ≡ no_separator
AnswersBundle (Some bundle) answer = AnswersReading bundle.second (plan_of bundle.plan) answer

-- the possible answers to an input
abbrev pub IsConformAnswer : List ℕ → Answer → Type 0
IsConformAnswer input answer = MatchBool (nat_lt MAX_RECORDED_BYTES (length input)) (answer ≡ input_too_long) (AnswersBundle (first_bundle_of input) answer)

-- What status 0 means. The input is a bundle of a plan and a recording that conforms to it. If a line of the recording would
-- invalidate this result, the line is a rejection that the plan allows.
pub record IsConformingInput (input : List ℕ) : Type 0 where
  pub bundle : Bundle
  pub is_bundle : first_bundle_of input ≡ Some bundle
  pub plan : Plan
  pub is_plan : plan_of bundle.plan ≡ Ok plan
  pub no_fault : IsFirstFault (lines_read bundle.second) None
  pub conforms : Conforms plan (lines_of bundle.second)
  pub valid : HasNoInvalidation plan (lines_of bundle.second)
