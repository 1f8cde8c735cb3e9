-- The possible answers of `learn` to a recording. The definition is a relation, because it does not fix which bodies are found.
use Rattle.std.specs.Prelude.{◌≡◌, ◌==◌, ◌⊎◌, ◌&&◌, ℕ, Bool, true, false, if◌then◌else◌, nat_lt, nat_eq, List, [], ◌∷◌, ◌++◌, length, flat_map, codes, decimal, None, Some, Ok, MatchBool}
use Rattle.std.specs.List.{All, list_any}
use Rattle.job_bodies.specs.Plan.{Plan, pool_at}
use Rattle.plan_text.specs.PlanOf.{plan_of}
use Rattle.plan_text.specs.PlanDocument.{IsPlanText}
use Rattle.recordings.specs.RecordingLine.{RecordedLine, lines_read}
use Rattle.recordings.specs.Before.{begins, submits}
use Rattle.recordings.specs.Faults.{IsFirstFault}
use Rattle.recordings.specs.declared.fault.RecordingFault.{RecordingFault}
use Rattle.conformance.specs.declared.finding.Finding.{Finding}
use Rattle.conformance.specs.declared.rejections.PoolRejections.{PoolRejections}
use Rattle.conformance.specs.Conforms.{DoAsPlanned}
use Rattle.conformance.specs.Findings.{AreFindingsOf, is_of_actors}
use Rattle.conformance.specs.FindingText.{finding_line, findings_text}
use Rattle.conformance.specs.Lines.{lines_of}
use Rattle.conformance.specs.Outcome.{AreInOrder}
use Rattle.conformance.specs.RejectingPools.{with_rejecting_pools}
use Rattle.conformance.specs.Rejections.{rejections_of}
use Rattle.learning.specs.Counts.{AreCounted}
use Rattle.learning.specs.Pools.{recorded_pools}
use Rattle.learning.specs.Names.{IsNamedClass, IsNamedClient}
use Rattle.learning.specs.InferenceLimit.{IsReason, inference_limit_text}
use Rattle.learning.specs.Unfinished.{unfinished_rounds, unfinished_jobs, failed_gets}
use Rattle.learning.specs.declared.inference_result.InferredPlan.{InferredPlan}
use Rattle.learning.specs.declared.inference_limit.InferenceLimit.{InferenceLimit}
use Rattle.learning.specs.declared.inference_limit.InferenceLimit.TheVariants.{Paths, Text}
use Rattle.job_bodies.specs.declared.limits.TheConstants.{MAX_RECORDED_BYTES}
use Rattle.sizing_cli.specs.declared.status.Status.TheVariants.{Done, Refused}
use Rattle.sizing_cli.specs.Answer.{Answer, input_too_long}
use Rattle.sizing_cli.specs.Conform.{AreAllFindings, bad_recording}

-- ---- the comments at the head of a plan
-- the comment with the numbers of rounds and jobs that the plan was derived from
abbrev pub extent_comment : ℕ → ℕ → List ℕ
extent_comment rounds jobs = codes "# Learned from a recording. Rounds: " ++ (decimal rounds ++ (codes ". Jobs: " ++ (decimal jobs ++ (codes "." ++ 10 ∷ []))))

-- the comment that says what a recording cannot show
abbrev pub not_taken_comment : List ℕ
not_taken_comment = codes "# Paths, classes, kinds and pools that this run did not use are missing. Each count is the most that were open at once." ++ 10 ∷ []

-- the comment with the numbers of unfinished rounds and jobs; empty if there are none
abbrev pub unfinished_comment : ℕ → ℕ → List ℕ
unfinished_comment rounds jobs =
    if nat_eq rounds 0 && nat_eq jobs 0 then [] else
    (codes "# Unfinished. Rounds: " ++ (decimal rounds ++ (codes ". Jobs: " ++ (decimal jobs ++ (codes ". Their bodies lack the gets that these wait for, and all later actions." ++ 10 ∷ [])))))

-- the comment with the number of gets that timed out or were interrupted; empty if there are none
abbrev pub failed_gets_comment : ℕ → List ℕ
failed_gets_comment gets =
    if nat_eq gets 0 then [] else
    (codes "# Gets that timed out or were interrupted: " ++ (decimal gets ++ (codes ". A body has such a get only if a later get of the same job returned." ++ 10 ∷ [])))

-- The comment for a pool that may reject jobs. It has the number of jobs that the pool rejected. If the pool rejected none, it
-- says that the pool has a SynchronousQueue.
abbrev pub rejection_comment : Plan → PoolRejections → List ℕ
rejection_comment plan of_pool =
    if of_pool.count == 0
    then codes "# Pool " ++ ((pool_at plan of_pool.pool).name ++ (codes " has a SynchronousQueue, so it has may_reject: a submit to it may be skipped with its get." ++ 10 ∷ []))
    else
    (if of_pool.count == 1
    then codes "# Pool " ++ ((pool_at plan of_pool.pool).name ++ (codes " rejected 1 job, so it has may_reject: a submit to it may be skipped with its get." ++ 10 ∷ []))
    else codes "# Pool " ++ ((pool_at plan of_pool.pool).name ++ (codes " rejected " ++ (decimal of_pool.count ++ (codes " jobs, so it has may_reject: a submit to it may be skipped with its get." ++ 10 ∷ [])))))

abbrev pub rejection_comments : Plan → List PoolRejections → List ℕ
rejection_comments plan rejections = flat_map (rejection_comment plan) rejections

abbrev pub head_comment : InferredPlan → List ℕ
head_comment seen =
    extent_comment seen.rounds seen.jobs
    ++ (not_taken_comment ++ (unfinished_comment seen.unfinished_rounds seen.unfinished_jobs ++ failed_gets_comment seen.failed_gets))

-- the comment for a finding, which the recording shows and the plan does not contain
abbrev pub comment_line : Plan → Finding → List ℕ
comment_line plan found = codes "# " ++ finding_line plan found

abbrev pub comments : Plan → List Finding → List ℕ
comments plan findings = flat_map (comment_line plan) findings

-- ---- the answers
-- `seen` matches the recording's lines. Its plan has their pools, and the counts of clients that they show. Its names of
-- classes and clients are those of the lines. It also has the numbers of rounds and jobs, of unfinished rounds and jobs, and of
-- gets that failed.
pub record IsSeen (lines : List RecordedLine) (seen : InferredPlan) : Type 0 where
  pub pools : seen.plan.pools ≡ recorded_pools lines
  pub counts : AreCounted lines seen.plan.clients
  pub classes : All (IsNamedClass lines) seen.plan.classes
  pub clients : All (IsNamedClient lines) seen.plan.clients
  pub rounds : seen.rounds ≡ begins lines
  pub jobs : seen.jobs ≡ submits lines
  pub unfinished_rounds : seen.unfinished_rounds ≡ unfinished_rounds lines
  pub unfinished_jobs : seen.unfinished_jobs ≡ unfinished_jobs lines
  pub failed_gets : seen.failed_gets ≡ failed_gets lines

-- The text is this plan's text. Comments at its head give the extent of the recording, the pools that may reject jobs, and each
-- finding.
pub record IsTextOf (seen : InferredPlan) (plan : Plan) (rejections : List PoolRejections) (findings : List Finding) (text : List ℕ) : Type 0 where
  pub is_plan : plan_of text ≡ Ok plan
  pub written : List ℕ
  pub is_written : IsPlanText plan written
  pub text_is : text ≡ head_comment seen ++ (rejection_comments plan rejections ++ (comments plan findings ++ 10 ∷ written))

-- The text is that of a plan. The plan has the pools of the recording, and `with_rejecting_pools` says which of them may reject
-- jobs. The count of a client kind is the largest number of its rounds that were open at once, and at least 1. The jobs and the
-- rounds of the recording follow the plan's bodies, and the plan has enough clients. Any other finding is in a comment at the
-- head of the text, in the order of the recording's lines. If there are no findings, the recording conforms to the plan.
pub record IsLearnedText (recording text : List ℕ) : Type 0 where
  pub seen : InferredPlan
  pub is_seen : IsSeen (lines_of recording) seen
  pub plan : Plan
  pub marked : plan ≡ with_rejecting_pools seen.plan (lines_of recording)
  pub findings : List Finding
  pub found : AreFindingsOf plan (lines_of recording) findings
  pub in_order : AreInOrder findings
  pub beside_actors : list_any is_of_actors findings ≡ false
  pub actors : DoAsPlanned plan (lines_of recording)
  pub conforms : AreAllFindings plan recording findings
  pub is_text : IsTextOf seen plan (rejections_of plan (lines_of recording)) findings text

-- The text is that of a learned plan (`IsLearnedText`). The recording conforms to this plan, so there are no findings.
pub record IsConformingText (recording text : List ℕ) : Type 0 where
  pub learned : IsLearnedText recording text
  pub conforms : learned.findings ≡ []

-- the text of `learn --strict` for a recording that does not conform to the plan that was derived from it
abbrev pub differences : Plan → List Finding → List ℕ
differences plan findings = codes "no plan was written: the recording does not conform to it" ++ 10 ∷ findings_text plan findings

-- The answer for a learned plan with this text and these findings. Its status is a yes only if there are no findings. If there
-- are findings and the flag (`--strict`) is true, the findings replace the text.
abbrev pub learned_answer : Bool → List ℕ → Plan → List Finding → Answer
learned_answer strict text plan [] = record { text = text; status = Done }
learned_answer false text plan (finding ∷ others) = record { text = text; status = Refused }
learned_answer true text plan (finding ∷ others) = record { text = differences plan (finding ∷ others); status = Refused }

-- a plan was learned
pub record IsLearned (strict : Bool) (recording : List ℕ) (answer : Answer) : Type 0 where
  pub no_fault : IsFirstFault (lines_read recording) None
  pub text : List ℕ
  pub learned : IsLearnedText recording text
  pub answer_is : answer ≡ learned_answer strict text learned.plan learned.findings

abbrev pub not_learned : InferenceLimit → Answer
not_learned reason = record { text = codes "no plan was learned: " ++ inference_limit_text reason ++ 10 ∷ []; status = Refused }

-- The answer has the text of this plan. For `--strict`, it has the findings instead, if there are any.
pub record IsOfPlan (strict : Bool) (seen : InferredPlan) (plan : Plan) (rejections : List PoolRejections) (findings : List Finding) (answer : Answer) : Type 0 where
  pub text : List ℕ
  pub is_text : IsTextOf seen plan rejections findings text
  pub answer_is : answer ≡ learned_answer strict text plan findings

-- the possible answers for a plan that was compared with the recording
abbrev pub AnswersComparison : Bool → InferredPlan → Plan → List PoolRejections → List Finding → Answer → Type 0
AnswersComparison strict seen plan rejections findings answer = (answer ≡ not_learned Text) ⊎ IsOfPlan strict seen plan rejections findings answer

-- The recording is well-formed, and the answer is that no plan was learned, with a reason. The reason is `Text`, `Paths`, or
-- one for which `IsReason` holds. This definition does not say when the reason is `Text` or `Paths`.
pub record IsNotLearned (recording : List ℕ) (answer : Answer) : Type 0 where
  pub no_fault : IsFirstFault (lines_read recording) None
  pub reason : InferenceLimit
  pub because : (reason ≡ Text) ⊎ ((reason ≡ Paths) ⊎ IsReason (lines_of recording) reason)
  pub answer_is : answer ≡ not_learned reason

pub record IsBadRecording (recording : List ℕ) (answer : Answer) : Type 0 where
  pub found : RecordingFault
  pub is_first : IsFirstFault (lines_read recording) (Some found)
  pub answer_is : answer ≡ bad_recording recording found

abbrev pub AnswersLines : Bool → List ℕ → Answer → Type 0
AnswersLines strict recording answer = IsBadRecording recording answer ⊎ (IsNotLearned recording answer ⊎ IsLearned strict recording answer)

-- the possible answers to an input, which is a recording
abbrev pub IsLearnAnswer : Bool → List ℕ → Answer → Type 0
IsLearnAnswer strict input answer = MatchBool (nat_lt MAX_RECORDED_BYTES (length input)) (answer ≡ input_too_long) (AnswersLines strict input answer)
