-- The text of a fault of a plan.
use Rattle.std.specs.Prelude.{ℕ, ◌++◌, List, [], Option, None, Some, codes, decimal}
use Rattle.support.specs.Name.{head}
use Rattle.job_bodies.specs.declared.fault.PlanFault.{PlanFault}
use Rattle.job_bodies.specs.declared.fault.Part.{Part}
use Rattle.job_bodies.specs.declared.fault.Part.TheVariants as part

-- the entry that has the fault, written as ` at pool INDEX`; empty if the part is `Text`
abbrev pub part_text : Part → ℕ → List ℕ
part_text part.Text index = []
part_text part.Pool index = codes " at pool " ++ decimal index
part_text part.Class index = codes " at class " ++ decimal index
part_text part.Client index = codes " at client " ++ decimal index

-- the action that has the fault, written as ` action POSITION`; empty if no action has the fault
abbrev pub action_text : Option ℕ → List ℕ
action_text None = []
action_text (Some action) = codes " action " ++ decimal action

-- the text of a fault, without a newline
abbrev pub fault_line : PlanFault → List ℕ
fault_line fault = head fault.number ++ part_text fault.part fault.index ++ action_text fault.action
