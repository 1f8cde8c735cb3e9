-- What is written in answer to the part of an input that was read is an answer to the whole input.
use Rattle.std.proofs.Common.{◌≡◌, ℕ, ◌+◌, inl, inr, List, take, Option, Some, None, Result, Ok, Err, IfSome, refl, subst, arith}
use Rattle.std.proofs.lemmas.Bool.{ne_eqb}
use Rattle.clap.specs.Words.{Text}
use Rattle.byte_streams.specs.Reading.{ConsumesAtMost}
use Rattle.command_line.specs.declared.command.Command.{Command}
use Rattle.command_line.specs.declared.command.Command.TheVariants.{Sequential, OnRecording, OnThreads}
use Rattle.command_line.specs.declared.command.Task.TheVariants.{Certify, Fit, Run, Refute, Ask}
use Rattle.support.specs.declared.number.TheConstants.{READ_FAILED, WRITE_FAILED}
use Rattle.sizing_cli.specs.declared.status.ServeFault.{ServeFault}
use Rattle.sizing_cli.specs.declared.status.Status.{Status}
use Rattle.sizing_cli.specs.declared.status.Status.TheVariants.{Done}
use Rattle.sizing_cli.specs.Answer.{Answer}
use Rattle.sizing_cli.specs.CliError.{IsWrittenBefore}
use Rattle.sizing_cli.specs.declared.fault.CliError.TheVariants.{Serve}
use Rattle.sizing_cli.specs.CommandResult.{IsAnswer, IsAnswerWith, MeansSafe, Serves, ServesInput, StreamChange, WritesAnswer, WritesPrefix, WritesWithCertificate}
use Rattle.sizing_cli.specs.InputLength.{most_bytes}
use Rattle.sizing_cli.specs.Report.{answer_of}
use Rattle.sizing_cli.specs.Texts.{IsReadOf, read_part}
use Rattle.sizing_cli.proofs.PastTheLimit.{answered_whole}
use Rattle.sizing_cli.proofs.ServedAnswers.{answered_by_front, asked_by_front, means_safe, recorded_by_front}

-- ---- one answer

answered_part : (command : Command) (file : Text) (remaining : Option (List ℕ)) (items : List ℕ) (answer : Answer) → IfSome remaining (λ input. items ≡ read_part command input) → IsAnswer command file items answer
    → IfSome remaining (λ input. IsAnswer command file input answer)
answered_part (Sequential review) file remaining items answer front is = answered_whole remaining items items (answer_of review) answer front refl is
answered_part (OnRecording reading) file remaining items answer front is = recorded_by_front remaining items reading answer front is
answered_part (OnThreads task) file remaining items answer front is = answered_by_front remaining items task file answer front is

answered_read : (command : Command) (file : Text) (input items : List ℕ) (answer : Answer) → IsReadOf command items input → IsAnswer command file items answer → IsAnswer command file input answer
answered_read command file input items answer (inl same) is = subst (λ (text : List ℕ). IsAnswer command file text answer) same is
answered_read command file input items answer (inr part) is = answered_part command file (Some input) items answer part is

pub wrote_read : (known : Option (List ℕ)) (command : Command) (file : Text) (items : List ℕ) (status : Status) (old new : Option (List ℕ)) → IfSome known (IsReadOf command items) → WritesAnswer command file items status old new
    → IfSome known (λ input. WritesAnswer command file input status old new)
wrote_read None command file items status old new read writes = tt
wrote_read (Some input) command file items status old new read writes =
    record { answer = writes.answer; is_answer = answered_read command file input items writes.answer read writes.is_answer; written = writes.written; status_is = writes.status_is }

pub wrote_prefix_read : (known : Option (List ℕ)) (command : Command) (file : Text) (items : List ℕ) (old new : Option (List ℕ)) → IfSome known (IsReadOf command items) → WritesPrefix command file items old new
    → IfSome known (λ input. WritesPrefix command file input old new)
wrote_prefix_read None command file items old new read writes = tt
wrote_prefix_read (Some input) command file items old new read writes = record { answer = writes.answer; is_answer = answered_read command file input items writes.answer read writes.is_answer; written = writes.written }

-- what was written before a fault
pub before_read : (known : Option (List ℕ)) (command : Command) (file : Text) (items : List ℕ) (fault : ServeFault) (old new : Option (List ℕ)) → IfSome known (IsReadOf command items)
    → (fault.number ≡ WRITE_FAILED → WritesPrefix command file items old new) → IfSome known (λ input. IsWrittenBefore (Serve fault) command file input old new)
before_read None command file items fault old new read prefix = tt
before_read (Some input) command file items fault old new read prefix = λ failed. wrote_prefix_read (Some input) command file items old new read (prefix failed)

-- the meaning of status 0
pub safe_read : (known : Option (List ℕ)) (command : Command) (file : Text) (items : List ℕ) (status : Status) (old new : Option (List ℕ)) → IfSome known (IsReadOf command items) → WritesAnswer command file items status old new
    → status ≡ Done → IfSome known (λ input. MeansSafe command input old new)
safe_read None command file items status old new read writes done = tt
safe_read (Some input) command file items status old new read writes done = means_safe command file input status old new (wrote_read (Some input) command file items status old new read writes) done

-- the certificate that is returned with the answer
left_part : (command : Command) (file : Text) (input items : List ℕ) (answer : Answer) (left : Option (List ℕ)) → items ≡ read_part command input → IsAnswerWith command file items answer left → IsAnswerWith command file input answer left
left_part (Sequential review) file input items answer left front is = tt
left_part (OnRecording reading) file input items answer left front is = tt
left_part (OnThreads (Certify workers)) file input items answer left front is = tt
left_part (OnThreads (Fit sizes_form)) file input items answer left front is = tt
left_part (OnThreads (Run rounds)) file input items answer left front is = tt
left_part (OnThreads (Refute states refute_format)) file input items answer left front is = tt
left_part (OnThreads (Ask given options)) file input items answer left front is = asked_by_front (Some input) items given options file left answer front is

left_of : (command : Command) (file : Text) (input items : List ℕ) (answer : Answer) (left : Option (List ℕ)) → IsReadOf command items input → IsAnswerWith command file items answer left → IsAnswerWith command file input answer left
left_of command file input items answer left (inl same) is = subst (λ (text : List ℕ). IsAnswerWith command file text answer left) same is
left_of command file input items answer left (inr part) is = left_part command file input items answer left part is

pub left_read : (known : Option (List ℕ)) (command : Command) (file : Text) (items : List ℕ) (status : Status) (left old new : Option (List ℕ)) → IfSome known (IsReadOf command items) → WritesWithCertificate command file items status left old new
    → IfSome known (λ input. WritesWithCertificate command file input status left old new)
left_read None command file items status left old new read leaves = tt
left_read (Some input) command file items status left old new read leaves =
    record { answer = leaves.answer; is_left = left_of command file input items leaves.answer left read leaves.is_left; written = leaves.written; status_is = leaves.status_is }

-- ---- whole calls

-- the part that was read from a source
pub front_read : (known : Option (List ℕ)) (command : Command) (items : List ℕ) → IfSome known (λ input. items ≡ take (most_bytes command + 1) input) → IfSome known (IsReadOf command items)
front_read None command items front = tt
front_read (Some input) command items front = inr front

-- a call that reads a part of its input and answers that serves the whole input
pub serves_whole : (command : Command) (file : Text) (items : List ℕ) (source sink : StreamChange) (result : Result Status ServeFault) → IfSome source.before (λ input. items ≡ take (most_bytes command + 1) input)
    → ConsumesAtMost source.before source.after (most_bytes command + 1) → source.failed_after ≡ source.failed_before → ServesInput command file items sink result → Serves command file source sink result
serves_whole command file items source sink (Ok status) front at_most calm serves =
    let read = front_read source.before command items front in
    record {
      answered = wrote_read source.before command file items status sink.before sink.after read serves.answered;
      prefix = tt;
      nothing = tt;
      safe = safe_read source.before command file items status sink.before sink.after read serves.answered;
      known = tt;
      read_failed = omega (arith, calm);
      write_failed = serves.write_failed;
      at_most = at_most;
    }
serves_whole command file items source sink (Err fault) front at_most calm serves =
    let read = front_read source.before command items front in
    record {
      answered = tt;
      prefix = λ failed. wrote_prefix_read source.before command file items sink.before sink.after read (serves.prefix failed);
      nothing = serves.nothing;
      safe = tt;
      known = serves.known;
      read_failed = rw (ne_eqb fault.number READ_FAILED serves.unread) (omega (arith, calm));
      write_failed = serves.write_failed;
      at_most = at_most;
    }
