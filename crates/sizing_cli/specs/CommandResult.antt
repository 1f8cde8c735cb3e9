-- What a command writes, and what its status means.
use Rattle.std.specs.Prelude.{◌≡◌, ◌≢◌, ◌+◌, ℕ, List, Option, Result, Ok, IfOk, IfErr, IfSome, IsTrue}
use Rattle.std.specs.Io.KnownBytes.{Appends, Keeps}
use Rattle.clap.specs.Words.{Text}
use Rattle.byte_streams.specs.Reading.{ConsumesAtMost}
use Rattle.byte_streams.specs.Writing.{AppendsFront}
use Rattle.support.specs.declared.number.TheConstants.{READ_FAILED, WRITE_FAILED}
use Rattle.job_bodies.specs.Plan.{Plan}
use Rattle.plan_text.specs.PlanOf.{plan_of}
use Rattle.command_line.specs.declared.command.Command.{Command}
use Rattle.command_line.specs.declared.command.Command.TheVariants.{Sequential, OnRecording, OnThreads}
use Rattle.command_line.specs.declared.command.RecordingCommand.{RecordingCommand}
use Rattle.command_line.specs.declared.command.RecordingCommand.TheVariants.{Conform, Learn}
use Rattle.command_line.specs.declared.command.ReviewCommand.TheVariants.{Replay, Check, Explain}
use Rattle.command_line.specs.declared.command.Task.{Task}
use Rattle.command_line.specs.declared.command.Task.TheVariants.{Certify, Fit, Run, Refute, Ask}
use Rattle.command_line.specs.declared.command.SizesForm.TheVariants.{Sizes, Bundle}
use Rattle.command_line.specs.declared.command.RefuteFormat.TheVariants as refute_format
use Rattle.sizing_cli.specs.declared.status.ServeFault.{ServeFault}
use Rattle.sizing_cli.specs.declared.status.Status.{Status}
use Rattle.sizing_cli.specs.declared.status.Status.TheVariants.{Done}
use Rattle.sizing_cli.specs.ServeFault.{count_of, is_known_of}
use Rattle.sizing_cli.specs.InputLength.{most_bytes}
use Rattle.sizing_cli.specs.Answer.{Answer}
use Rattle.sizing_cli.specs.Report.{report, run_report}
use Rattle.sizing_cli.specs.SafeInput.{IsSafeInput, IsSafePlan}
use Rattle.sizing_cli.specs.Certify.{IsCertifyAnswer, IsCertifiedBundle}
use Rattle.sizing_cli.specs.Bundle.{whole_lines}
use Rattle.sizing_cli.specs.Fit.{IsFitAnswer, IsFittedBundle}
use Rattle.sizing_cli.specs.Refute.{IsRefuteAnswer, IsWitnessBundle}
use Rattle.sizing_cli.specs.Ask.{IsAskAnswer, IsSafeAskInput}
use Rattle.sizing_cli.specs.Conform.{IsConformAnswer, IsConformingInput}
use Rattle.sizing_cli.specs.Learn.{IsConformingText, IsLearnAnswer}

-- The answer is a possible answer of the task to the input. Here and below, `file` is the name of the plan's file in messages.
abbrev pub IsTaskAnswer : Task → Text → List ℕ → Answer → Type 0
IsTaskAnswer (Certify workers) file input answer = IsCertifyAnswer input answer
IsTaskAnswer (Fit sizes_form) file input answer = IsFitAnswer sizes_form input answer
IsTaskAnswer (Run rounds) file input answer = answer ≡ run_report rounds input
IsTaskAnswer (Refute states refute_format) file input answer = IsRefuteAnswer states refute_format input answer
IsTaskAnswer (Ask given options) file input answer = (left : Option (List ℕ)) × IsAskAnswer given options file input left answer

-- the answer is a possible answer of the command to an input with a recording
abbrev pub IsRecordingAnswer : RecordingCommand → List ℕ → Answer → Type 0
IsRecordingAnswer Conform input answer = IsConformAnswer input answer
IsRecordingAnswer (Learn strict) input answer = IsLearnAnswer strict input answer

-- the answer is a possible answer of the command to the input
abbrev pub IsAnswer : Command → Text → List ℕ → Answer → Type 0
IsAnswer (Sequential review) file input answer = answer ≡ report review input
IsAnswer (OnRecording reading) file input answer = IsRecordingAnswer reading input answer
IsAnswer (OnThreads task) file input answer = IsTaskAnswer task file input answer

-- a possible answer of the command was written, and `status` is the status of this answer
pub record WritesAnswer (command : Command) (file : Text) (input : List ℕ) (status : Status) (old new : Option (List ℕ)) : Type 0 where
  pub answer : Answer
  pub is_answer : IsAnswer command file input answer
  pub written : Appends old new answer.text
  pub status_is : status ≡ answer.status

-- a proper prefix of a possible answer of the command was written
pub record WritesPrefix (command : Command) (file : Text) (input : List ℕ) (old new : Option (List ℕ)) : Type 0 where
  pub answer : Answer
  pub is_answer : IsAnswer command file input answer
  pub written : AppendsFront old new answer.text

-- a bundle was written: the input's plan with a certificate that `check` accepts
pub record WritesCertified (input : List ℕ) (old new : Option (List ℕ)) : Type 0 where
  pub text : List ℕ
  pub certified : IsCertifiedBundle (whole_lines input) text
  pub written : Appends old new text

-- A bundle was written, with a certificate that `check` accepts. Its plan differs from the input's plan only in sizes, none of
-- which is smaller.
pub record WritesFitted (input : List ℕ) (old new : Option (List ℕ)) : Type 0 where
  pub plan : Plan
  pub is_plan : plan_of input ≡ Ok plan
  pub text : List ℕ
  pub fitted : IsFittedBundle plan text
  pub written : Appends old new text

-- a bundle was written: the input's plan with a witness against it
pub record WritesWitness (input : List ℕ) (old new : Option (List ℕ)) : Type 0 where
  pub text : List ℕ
  pub shows : IsWitnessBundle input text
  pub written : Appends old new text

-- a plan was written to which the recording conforms
pub record WritesLearned (input : List ℕ) (old new : Option (List ℕ)) : Type 0 where
  pub text : List ℕ
  pub learned : IsConformingText input text
  pub written : Appends old new text

-- What status 0 means. For `check`, `run`, `ask`, `fit` without a bundle and `refute` without a bundle, the input's plan is
-- safe. For `certify` and `fit` with a bundle, the plan that was written is safe. For `refute` with a bundle, the plan that was
-- written has a witness. For `conform`, the recording conforms to the input's plan. For `learn`, the recording conforms to the
-- plan that was written. For `replay` and `explain`, nothing is claimed.
abbrev pub MeansSafe : Command → List ℕ → Option (List ℕ) → Option (List ℕ) → Type 0
MeansSafe (Sequential Replay) input old new = Unit {0}
MeansSafe (Sequential Check) input old new = IsSafeInput input
MeansSafe (Sequential Explain) input old new = Unit {0}
MeansSafe (OnRecording Conform) input old new = IsConformingInput input
MeansSafe (OnRecording (Learn strict)) input old new = WritesLearned input old new
MeansSafe (OnThreads (Certify workers)) input old new = WritesCertified input old new
MeansSafe (OnThreads (Fit Sizes)) input old new = IsSafePlan input
MeansSafe (OnThreads (Fit Bundle)) input old new = WritesFitted input old new
MeansSafe (OnThreads (Run rounds)) input old new = IsSafeInput input
MeansSafe (OnThreads (Refute states refute_format.Story)) input old new = IsSafePlan (whole_lines input)
MeansSafe (OnThreads (Refute states refute_format.Bundle)) input old new = WritesWitness input old new
MeansSafe (OnThreads (Ask given options)) input old new = IsSafeAskInput given input

-- What a command returns besides its output. For `ask`, the answer is a possible answer, and `left` is the text of the
-- certificate that shows that the plan is safe. It is None for any other answer, or if the text is too long to be read back.
-- For other commands, nothing is claimed of `left`.
abbrev pub IsAnswerWith : Command → Text → List ℕ → Answer → Option (List ℕ) → Type 0
IsAnswerWith (Sequential review) file input answer left = Unit {0}
IsAnswerWith (OnRecording reading) file input answer left = Unit {0}
IsAnswerWith (OnThreads (Certify workers)) file input answer left = Unit {0}
IsAnswerWith (OnThreads (Fit sizes_form)) file input answer left = Unit {0}
IsAnswerWith (OnThreads (Run rounds)) file input answer left = Unit {0}
IsAnswerWith (OnThreads (Refute states refute_format)) file input answer left = Unit {0}
IsAnswerWith (OnThreads (Ask given options)) file input answer left = IsAskAnswer given options file input left answer

-- An answer was written, `status` is the status of this answer, and `left` is returned with it (`IsAnswerWith`).
pub record WritesWithCertificate (command : Command) (file : Text) (input : List ℕ) (status : Status) (left old new : Option (List ℕ)) : Type 0 where
  pub answer : Answer
  pub is_left : IsAnswerWith command file input answer left
  pub written : Appends old new answer.text
  pub status_is : status ≡ answer.status

-- ---- whole calls

-- A source or a sink before and after a call. The state of a source is the bytes that are still to be read. The state of a sink
-- is the bytes that are already written. A state is None if it is not known. Failures are counted.
pub record StreamChange : Type 0 where
  pub before : Option (List ℕ)
  pub after : Option (List ℕ)
  pub failed_before : ℕ
  pub failed_after : ℕ

-- the change of a stream from `old` to `new`, given its bytes and its number of failures in each state
abbrev pub stream_change : {X : Type 0} → (X → Option (List ℕ)) → (X → ℕ) → X → X → StreamChange
stream_change bytes failures old new = record { before = bytes old; after = bytes new; failed_before = failures old; failed_after = failures new }

-- A call runs the command on this input and writes the answer to the sink. If the sink fails, the call wrote a prefix of the
-- answer. After any other fault, it wrote nothing.
pub record ServesInput (command : Command) (file : Text) (input : List ℕ) (sink : StreamChange) (result : Result Status ServeFault) : Type 0 where
  -- what was written and the status belong to a possible answer of the command
  pub answered : IfOk result (λ status. WritesAnswer command file input status sink.before sink.after)
  pub prefix : IfErr result (λ fault. fault.number ≡ WRITE_FAILED → WritesPrefix command file input sink.before sink.after)
  pub nothing : IfErr result (λ fault. fault.number ≢ WRITE_FAILED → Keeps sink.before sink.after)
  pub safe : IfOk result (λ status. status ≡ Done → MeansSafe command input sink.before sink.after)
  -- The fault is one of the command's own faults. It is never 60. It is 61 exactly when the sink failed.
  pub known : IfErr result (λ fault. IsTrue (is_known_of command fault.number))
  pub unread : IfErr result (λ fault. fault.number ≢ READ_FAILED)
  pub write_failed : sink.failed_after ≡ sink.failed_before + count_of WRITE_FAILED result

-- A call reads an input, runs the command on it and writes the answer to the sink. If the sink fails, the call wrote a prefix
-- of the answer. After any other fault, it wrote nothing.
pub record Serves (command : Command) (file : Text) (source sink : StreamChange) (result : Result Status ServeFault) : Type 0 where
  -- what was written and the status belong to a possible answer of the command to the input that was read
  pub answered : IfOk result (λ status. IfSome source.before (λ input. WritesAnswer command file input status sink.before sink.after))
  pub prefix : IfErr result (λ fault. fault.number ≡ WRITE_FAILED → IfSome source.before (λ input. WritesPrefix command file input sink.before sink.after))
  pub nothing : IfErr result (λ fault. fault.number ≢ WRITE_FAILED → Keeps sink.before sink.after)
  pub safe : IfOk result (λ status. status ≡ Done → IfSome source.before (λ input. MeansSafe command input sink.before sink.after))
  -- The fault is one of the command's own faults. It is 60 exactly when the source failed, and 61 exactly when the sink failed.
  pub known : IfErr result (λ fault. IsTrue (is_known_of command fault.number))
  pub read_failed : source.failed_after ≡ source.failed_before + count_of READ_FAILED result
  pub write_failed : sink.failed_after ≡ sink.failed_before + count_of WRITE_FAILED result
  pub at_most : ConsumesAtMost source.before source.after (most_bytes command + 1)
