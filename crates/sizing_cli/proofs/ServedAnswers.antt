-- A command writes a possible answer to what it read, and what status 0 then means.
use Rattle.std.proofs.Common.{◌≡◌, ℕ, ◌+◌, inl, inr, Bool, true, false, List, length, take, Option, Some, None, Result, Ok, Err, IfSome, IfOk, IfErr, IsTrue, refl, sym, ap, subst, ◌∙◌, arith}
use Rattle.std.specs.Prelude.{MatchBool, nat_lt}
use Rattle.std.specs.Io.KnownBytes.{Appends}
use Rattle.std.proofs.lemmas.Bool.{cases_lt, lt-ltb}
use Rattle.std.proofs.lemmas.List.{take_all, length-take-le}
use Rattle.clap.specs.Words.{Text}
use Rattle.byte_streams.specs.Writing.{AppendsFront}
use Rattle.job_bodies.specs.Plan.{Plan}
use Rattle.job_bodies.specs.declared.fault.PlanFault.{PlanFault}
use Rattle.plan_text.specs.PlanOf.{plan_of}
use Rattle.command_line.specs.declared.command.Command.{Command}
use Rattle.command_line.specs.declared.command.Command.TheVariants.{Sequential, OnRecording, OnThreads}
use Rattle.command_line.specs.declared.command.RecordingCommand.{RecordingCommand}
use Rattle.command_line.specs.declared.command.RecordingCommand.TheVariants.{Conform, Learn}
use Rattle.command_line.specs.declared.command.ReviewCommand.TheVariants.{Replay, Check, Explain}
use Rattle.command_line.specs.declared.command.Task.{Task}
use Rattle.command_line.specs.declared.command.Task.TheVariants.{Certify, Fit, Run, Refute, Ask}
use Rattle.command_line.specs.declared.command.AskInput.{AskInput}
use Rattle.command_line.specs.declared.command.AskOptions.{AskOptions}
use Rattle.command_line.specs.declared.command.SizesForm.TheVariants.{Sizes, Bundle}
use Rattle.command_line.specs.declared.command.RefuteFormat.TheVariants as refute_format
use Rattle.job_bodies.specs.declared.limits.TheConstants.{MAX_INPUT_BYTES, MAX_RECORDED_BYTES}
use Rattle.sizing_cli.specs.declared.status.Status.{Status}
use Rattle.sizing_cli.specs.declared.status.Status.TheVariants.{Done, Refused, BadText}
use Rattle.sizing_cli.specs.Answer.{Answer, input_too_long}
use Rattle.sizing_cli.specs.Report.{run}
use Rattle.sizing_cli.specs.Certify.{IsCertifyAnswer, IsCertifiedBundle, AnswersReading, AnswersPlan}
use Rattle.sizing_cli.specs.Fit as fit
use Rattle.sizing_cli.specs.Refute as refute
use Rattle.sizing_cli.specs.Bundle.{first_bundle_of, whole_lines}
use Rattle.sizing_cli.specs.Conform.{AnswersBundle}
use Rattle.sizing_cli.specs.Learn.{AnswersLines}
use Rattle.sizing_cli.specs.CommandResult.{IsAnswer, IsRecordingAnswer, IsTaskAnswer, WritesAnswer, MeansSafe, ServesInput, StreamChange}
use Rattle.sizing_cli.specs.declared.status.ServeFault.{ServeFault}
use Rattle.sizing_cli.specs.ServeFault.{count_of, is_known_of}
use Rattle.support.specs.declared.number.TheConstants.{WRITE_FAILED}
use Rattle.sizing_cli.proofs.PastTheLimit.{answered_whole}
use Rattle.sizing_cli.proofs.SafeInputs.{yes_means_safe, run_means_safe}
use Rattle.sizing_cli.proofs.FittedAnswers.{sizes_mean_safe, bundle_means_fitted}
use Rattle.sizing_cli.proofs.RefutedAnswers.{refuted_means_safe, bundle_means_witness}
use Rattle.sizing_cli.specs.Ask.{AnswersInput, IsAskAnswer}
use Rattle.sizing_cli.proofs.AskedAnswers.{asked_means_safe}
use Rattle.sizing_cli.proofs.ConformedAnswers.{conformed}
use Rattle.sizing_cli.proofs.LearnedAnswers.{learned}

-- ---- an answer to the part that was read is an answer to the whole input

abbrev ByLength : Type 0 → Type 0 → Bool → Type 0
ByLength TooLong Answers long = MatchBool long TooLong Answers

-- the answers to an input, by its length
abbrev IsWithin : ℕ → Type 0 → (List ℕ → Type 0) → List ℕ → Type 0
IsWithin most TooLong Answers input = ByLength TooLong (Answers input) (nat_lt most (length input))

answered_within : (most : ℕ) (TooLong : Type 0) (Answers : List ℕ → Type 0) (remaining : Option (List ℕ)) (items : List ℕ) → IfSome remaining (λ input. items ≡ take (most + 1) input)
    → IsWithin most TooLong Answers items → IfSome remaining (IsWithin most TooLong Answers)
answered_within most TooLong Answers None items front is = tt
answered_within most TooLong Answers (Some input) items front is =
    elim (cases_lt (most + 1) (length input)) [
      | inl long ↦
          let cut : length items ≡ most + 1 = ap (λ (l : List ℕ). length l) front ∙ length-take-le (most + 1) input (omega arith) in
          let too_long : TooLong = subst (ByLength TooLong (Answers items)) (lt-ltb most (length items) (omega arith)) is in
          subst (ByLength TooLong (Answers input)) (sym (lt-ltb most (length input) (omega arith))) too_long
      | inr short ↦ subst (IsWithin most TooLong Answers) (front ∙ take_all (most + 1) input short) is
    ]

abbrev IsByLength : Type 0 → (List ℕ → Type 0) → List ℕ → Type 0
IsByLength = IsWithin MAX_INPUT_BYTES

answered_by_length : (TooLong : Type 0) (Answers : List ℕ → Type 0) (remaining : Option (List ℕ)) (items : List ℕ) → IfSome remaining (λ input. items ≡ take (MAX_INPUT_BYTES + 1) input)
    → IsByLength TooLong Answers items → IfSome remaining (IsByLength TooLong Answers)
answered_by_length = answered_within MAX_INPUT_BYTES

-- for commands on recordings
pub recorded_by_front : (remaining : Option (List ℕ)) (items : List ℕ) (reading : RecordingCommand) (answer : Answer) → IfSome remaining (λ input. items ≡ take (MAX_RECORDED_BYTES + 1) input)
    → IsRecordingAnswer reading items answer → IfSome remaining (λ input. IsRecordingAnswer reading input answer)
recorded_by_front remaining items Conform answer front is = answered_within MAX_RECORDED_BYTES (answer ≡ input_too_long) (λ bytes. AnswersBundle (first_bundle_of bytes) answer) remaining items front is
recorded_by_front remaining items (Learn strict) answer front is = answered_within MAX_RECORDED_BYTES (answer ≡ input_too_long) (λ bytes. AnswersLines strict bytes answer) remaining items front is

pub asked_by_front : (remaining : Option (List ℕ)) (items : List ℕ) (given : AskInput) (options : AskOptions) (file : Text) (left : Option (List ℕ)) (answer : Answer)
    → IfSome remaining (λ input. items ≡ take (MAX_INPUT_BYTES + 1) input) → IsAskAnswer given options file items left answer → IfSome remaining (λ input. IsAskAnswer given options file input left answer)
asked_by_front remaining items given options file left answer front is =
    answered_by_length ((left ≡ None) × (answer ≡ input_too_long)) (λ bytes. AnswersInput given options file bytes left answer) remaining items front is

-- for every task
pub answered_by_front : (remaining : Option (List ℕ)) (items : List ℕ) (task : Task) (file : Text) (answer : Answer) → IfSome remaining (λ input. items ≡ take (MAX_INPUT_BYTES + 1) input)
    → IsTaskAnswer task file items answer → IfSome remaining (λ input. IsTaskAnswer task file input answer)
answered_by_front remaining items (Certify workers) file answer front is =
    answered_by_length (answer ≡ input_too_long) (λ bytes. AnswersReading (whole_lines bytes) (plan_of (whole_lines bytes)) answer) remaining items front is
answered_by_front remaining items (Fit sizes_form) file answer front is = answered_by_length (answer ≡ input_too_long) (λ bytes. fit.AnswersReading sizes_form (plan_of bytes) answer) remaining items front is
answered_by_front remaining items (Run rounds) file answer front is = answered_whole remaining items items (run rounds) answer front refl is
answered_by_front remaining items (Refute states refute_format) file answer front is =
    answered_by_length (answer ≡ input_too_long) (λ bytes. refute.AnswersReading states refute_format (whole_lines bytes) (plan_of (whole_lines bytes)) answer) remaining items front is
answered_by_front remaining items (Ask given options) file answer front is = left_somehow remaining (asked_by_front remaining items given options file is.0 answer front is.1)
  where
    left_somehow : (known : Option (List ℕ)) → IfSome known (λ input. IsAskAnswer given options file input is.0 answer) → IfSome known (λ input. IsTaskAnswer (Ask given options) file input answer)
    left_somehow None asked = tt
    left_somehow (Some input) asked = (is.0, asked)

-- ---- what status 0 means

certified_answer : (input : List ℕ) (answer : Answer) → IsCertifyAnswer input answer → answer.status ≡ Done → IsCertifiedBundle (whole_lines input) answer.text
certified_answer input answer is done = by_length (nat_lt MAX_INPUT_BYTES (length input)) is
  where
    by_answer : (plan : Plan) → AnswersPlan (whole_lines input) plan answer → IsCertifiedBundle (whole_lines input) answer.text
    by_answer plan (inl long) =
        let no : Refused ≡ Done = sym (ap (λ (a : Answer). a.status) long.0) ∙ done in
        absurd cc
    by_answer plan (inr (inl none)) =
        let no : Refused ≡ Done = sym (ap (λ (a : Answer). a.status) none.0) ∙ done in
        absurd cc
    by_answer plan (inr (inr certified)) = certified.bundle

    by_plan : (read : Result Plan PlanFault) → AnswersReading (whole_lines input) read answer → IsCertifiedBundle (whole_lines input) answer.text
    by_plan (Err fault) bad =
        let no : BadText ≡ Done = sym (ap (λ (a : Answer). a.status) bad) ∙ done in
        absurd cc
    by_plan (Ok plan) answers = by_answer plan answers

    by_length : (long : Bool) → ByLength (answer ≡ input_too_long) (AnswersReading (whole_lines input) (plan_of (whole_lines input)) answer) long → IsCertifiedBundle (whole_lines input) answer.text
    by_length true too_long =
        let no : BadText ≡ Done = sym (ap (λ (a : Answer). a.status) too_long) ∙ done in
        absurd cc
    by_length false answers = by_plan (plan_of (whole_lines input)) answers

pub means_safe : (command : Command) (file : Text) (input : List ℕ) (status : Status) (old new : Option (List ℕ)) → WritesAnswer command file input status old new → status ≡ Done → MeansSafe command input old new
means_safe (Sequential Replay) file input status old new writes done = tt
means_safe (Sequential Check) file input status old new writes done = yes_means_safe input (sym (ap (λ (a : Answer). a.status) writes.is_answer) ∙ (sym writes.status_is ∙ done))
means_safe (Sequential Explain) file input status old new writes done = tt
means_safe (OnRecording Conform) file input status old new writes done = conformed input writes.answer writes.is_answer (sym writes.status_is ∙ done)
means_safe (OnRecording (Learn strict)) file input status old new writes done =
    record { text = writes.answer.text; learned = learned strict input writes.answer writes.is_answer (sym writes.status_is ∙ done); written = writes.written }
means_safe (OnThreads (Fit Sizes)) file input status old new writes done = sizes_mean_safe input writes.answer writes.is_answer (sym writes.status_is ∙ done)
means_safe (OnThreads (Fit Bundle)) file input status old new writes done =
    let fitted = bundle_means_fitted input writes.answer writes.is_answer (sym writes.status_is ∙ done) in
    record { plan = fitted.plan; is_plan = fitted.is_plan; text = writes.answer.text; fitted = fitted.bundle; written = writes.written }
means_safe (OnThreads (Run rounds)) file input status old new writes done = run_means_safe rounds input (sym (ap (λ (a : Answer). a.status) writes.is_answer) ∙ (sym writes.status_is ∙ done))
means_safe (OnThreads (Refute states refute_format.Story)) file input status old new writes done = refuted_means_safe states input writes.answer writes.is_answer (sym writes.status_is ∙ done)
means_safe (OnThreads (Refute states refute_format.Bundle)) file input status old new writes done =
    record { text = writes.answer.text; shows = bundle_means_witness states input writes.answer writes.is_answer (sym writes.status_is ∙ done); written = writes.written }
means_safe (OnThreads (Ask given options)) file input status old new writes done = asked_means_safe given options file input writes.is_answer.0 writes.answer writes.is_answer.1 (sym writes.status_is ∙ done)
means_safe (OnThreads (Certify workers)) file input status old new writes done =
    record { text = writes.answer.text; certified = certified_answer input writes.answer writes.is_answer (sym writes.status_is ∙ done); written = writes.written }

-- ---- the written answer

-- the number of a fault of the sink is known to every command
known_of_sink : (command : Command) (number : ℕ) → number ≡ WRITE_FAILED → IsTrue (is_known_of command number)
known_of_sink (Sequential review) number same = rw same refl
known_of_sink (OnRecording reading) number same = rw same refl
known_of_sink (OnThreads task) number same = rw same refl

-- an answer of the command was written, or a prefix of it if the sink failed
pub serves_written : (command : Command) (file : Text) (input : List ℕ) (answer : Answer) (sink : StreamChange) (result : Result Status ServeFault) → IsAnswer command file input answer
    → IfOk result (λ status. status ≡ answer.status) → IfOk result (λ _. Appends sink.before sink.after answer.text)
    → IfErr result (λ fault. fault.number ≡ WRITE_FAILED) → IfErr result (λ _. AppendsFront sink.before sink.after answer.text)
    → sink.failed_after ≡ sink.failed_before + count_of WRITE_FAILED result → ServesInput command file input sink result
serves_written command file input answer sink (Ok status) is same written number prefix failed =
    let writes : WritesAnswer command file input status sink.before sink.after = record { answer = answer; is_answer = is; written = written; status_is = same } in
    record { answered = writes; prefix = tt; nothing = tt; safe = means_safe command file input status sink.before sink.after writes; known = tt; unread = tt; write_failed = failed }
serves_written command file input answer sink (Err fault) is same written number prefix failed =
    record {
      answered = tt;
      prefix = λ _. record { answer = answer; is_answer = is; written = prefix };
      nothing = λ other. absurd (other number);
      safe = tt;
      known = known_of_sink command fault.number number;
      unread = λ read. absurd (omega (arith, number, read));
      write_failed = failed;
    }
