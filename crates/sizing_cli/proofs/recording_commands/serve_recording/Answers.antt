use Rattle.std.proofs.Common.{ℕ, List, subst, sym, arith}
use Rattle.command_line.specs.declared.command.Command.TheVariants.{OnRecording}
use Rattle.sizing_cli.proofs.ReadParts.{serves_whole}
use Rattle.sizing_cli.proofs.ServedAnswers.{serves_written}
use Rattle.sizing_cli.specs.Answer.{Answer}
use Rattle.sizing_cli.specs.CommandResult.{IsRecordingAnswer}
use Rattle.sizing_cli.proofs.recording_commands.serve_recording.Goals as goal

pub returns : goal.returns
returns g c = λ file.
    let read = c.in_ok-input.ensures in
    let wrote = c.write_output.ensures in
    let is = subst (λ (answer : Answer). IsRecordingAnswer c.args.reading c.in_ok-input.input.items answer) (sym c.of-output.ensures) (subst (λ (text : List ℕ). IsRecordingAnswer c.args.reading text c.in_ok-recording_report.field-0) c.deref.ensures.value c.in_ok-recording_report.ensures) in
    serves_whole (OnRecording c.args.reading) file c.in_ok-input.input.items _ _ _ read.front read.at_most (omega (arith, read.failed))
    (serves_written (OnRecording c.args.reading) file c.in_ok-input.input.items c.of-output.result _ _ is wrote.status wrote.written wrote.number wrote.prefix wrote.failed)
