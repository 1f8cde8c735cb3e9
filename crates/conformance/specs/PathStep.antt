-- The steps of an actor.
use Rattle.std.specs.Prelude.{ℕ, Bool, false, ◌==◌}
use Rattle.std.specs.List.{list_any}
use Rattle.conformance.specs.declared.step.PathStep.{PathStep}
use Rattle.conformance.specs.declared.step.PathStep.TheVariants.{Submits, Gets}

-- The step submits a job that may belong to this class.
abbrev pub submits : PathStep → ℕ → Bool
submits (Submits classes) class = list_any (λ one. one == class) classes.items
submits (Gets place) class = false
