-- The result of a comparison.
use Rattle.std.specs.Prelude.{List, ⊤, Option, Some, None}
use Rattle.std.specs.List.Sorted.{IsNonDecreasingBy}
use Rattle.recordings.specs.declared.fault.RecordingFault.{RecordingFault}
use Rattle.conformance.specs.declared.comparison.Conformance.{Conformance}
use Rattle.conformance.specs.declared.comparison.Conformance.TheVariants.{Invalid, Compared}
use Rattle.conformance.specs.declared.finding.Finding.{Finding}
use Rattle.conformance.specs.declared.rejections.PoolRejections.{PoolRejections}
use Rattle.conformance.specs.Finding.{sort_key}

-- The fault of the first invalid line, if there is one.
abbrev pub fault_of : Conformance → Option RecordingFault
fault_of (Invalid fault) = Some fault
fault_of (Compared findings rejections) = None

-- `P` holds of the findings, unless a line is invalid.
abbrev pub IfCompared : Conformance → (List Finding → Type 0) → Type 0
IfCompared (Invalid fault) P = ⊤
IfCompared (Compared findings rejections) P = P findings.items

-- `P` holds for the numbers of rejections, unless a line is invalid.
abbrev pub IfCounted : Conformance → (List PoolRejections → Type 0) → Type 0
IfCounted (Invalid fault) P = ⊤
IfCounted (Compared findings rejections) P = P rejections.items

-- The findings are ordered by line, then by type, and then by number. Findings without a line come last.
abbrev pub AreInOrder : List Finding → Type 0
AreInOrder findings = IsNonDecreasingBy sort_key findings
