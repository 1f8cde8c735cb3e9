-- The faults of runs.
use Rattle.std.specs.Prelude.{◌≡◌, ◌⊎◌, Bool, true, false}
use Rattle.support.specs.declared.number.TheConstants.{MEMORY, RUN_TOO_LARGE, STRANGE, MIXED, GATE}
use Rattle.locked_runner.specs.declared.report.RunFault.{RunFault}

-- The fault is one that a run can return. The flag says whether the run exceeds a limit. If it does, the fault is 40, or 20 if
-- memory ran out, and its legal prefix has 0 events. Otherwise the fault is 20, 41, 42 or 43.
abbrev pub IsFaultOf : Bool → RunFault → Type 0
IsFaultOf true fault = ((fault.number ≡ RUN_TOO_LARGE) ⊎ (fault.number ≡ MEMORY)) × (fault.events ≡ 0)
IsFaultOf false fault = (fault.number ≡ STRANGE) ⊎ (fault.number ≡ MIXED) ⊎ (fault.number ≡ MEMORY) ⊎ (fault.number ≡ GATE)
