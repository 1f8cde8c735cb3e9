-- Paths in which the jobs have fewer classes.
use Rattle.std.specs.Prelude.{◌≡◌, ℕ, List, Contains}
use Rattle.std.specs.List.{AllZip}
use Rattle.conformance.specs.declared.step.PathStep.{PathStep}
use Rattle.conformance.specs.declared.step.PathStep.TheVariants.{Submits, Gets}

-- The steps are the same, except that the job of the first step may have fewer classes.
abbrev pub IsNarrowerStep : PathStep → PathStep → Type 0
IsNarrowerStep (Submits fewer) (Submits classes) = (class : ℕ) → Contains fewer.items class → Contains classes.items class
IsNarrowerStep (Gets one) (Gets other) = one ≡ other
IsNarrowerStep _ _ = ⊥

-- The paths are the same, except that the jobs of the first path may have fewer classes.
abbrev pub IsNarrower : List PathStep → List PathStep → Type 0
IsNarrower fewer path = AllZip IsNarrowerStep fewer path
