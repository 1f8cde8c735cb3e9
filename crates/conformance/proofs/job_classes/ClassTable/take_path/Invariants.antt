use Rattle.std.proofs.Common.{List, IsTrue, take}
use Rattle.recordings.specs.RecordingLine.{RecordedLine}
use Rattle.job_bodies.specs.Plan.{Plan}
use Rattle.conformance.specs.Classes.{AreStepsOf}
use Rattle.conformance.specs.ActorTables.{AreClassesIn, AreDecidedOn, AreAllIn, AreOnce, AreRemoved}
use Rattle.conformance.proofs.job_classes.ClassTable.take_path.Given as goal

abbrev pub invariant-loop-step : goal.invariant-loop-step
invariant-loop-step l = record {
  represents : (plan : Plan) (lines : List RecordedLine) → AreClassesIn plan lines l.initial.self → IsTrue l.is_decided → AreStepsOf plan lines (take l.step-index l.path) l.steps.items;
  decided : AreDecidedOn l.initial.self l.path → AreAllIn l.initial.self l.path → AreOnce l.path → IsTrue l.is_decided;
  gone : AreRemoved l.initial.self (take l.step-index l.path) l.self;
}
