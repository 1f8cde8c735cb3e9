-- The text of the fault of a bad line.
use Rattle.std.specs.Prelude.{ℕ, List, ◌++◌, codes, decimal}
use Rattle.recordings.specs.declared.fault.FaultReason.{FaultReason}
use Rattle.recordings.specs.declared.fault.FaultReason.TheVariants as reason
use Rattle.recordings.specs.declared.fault.RecordingFault.{RecordingFault}
use Rattle.recordings.specs.RuleText.{rule_text}

abbrev pub reason_text : FaultReason → List ℕ
reason_text reason.Form = codes "it is not a valid line"
reason_text (reason.LineRule rule) = rule_text rule

abbrev pub fault_text : RecordingFault → List ℕ
fault_text fault = codes "line " ++ (decimal fault.line ++ (codes ": " ++ reason_text fault.reason))
