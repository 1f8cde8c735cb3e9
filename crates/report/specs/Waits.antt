-- The waits between pools: a pool waits for another pool if its jobs get jobs of the other pool.
use Rattle.std.specs.Prelude.{ℕ, Bool, false, ◌==◌, ◌&&◌, List, Option, Some, slice_get}
use Rattle.std.specs.List.{list_any}
use Rattle.job_bodies.specs.declared.action.Action.{Action}
use Rattle.job_bodies.specs.declared.action.Action.TheVariants.{Submit, Get}
use Rattle.job_bodies.specs.Plan.{Class, Plan}

-- the class belongs to the pool
abbrev pub is_of_pool : ℕ → Option Class → Bool
is_of_pool p (Some class) = class.pool == p
is_of_pool p _ = false

-- the action submits a job to the pool
abbrev pub submits_to : Plan → ℕ → Option Action → Bool
submits_to plan p (Some (Submit k)) = is_of_pool p (slice_get plan.classes k)
submits_to plan p _ = false

-- the action of the body gets a job of the pool
abbrev pub gets_of : Plan → List Action → ℕ → Action → Bool
gets_of plan body p (Get t) = submits_to plan p (slice_get body t)
gets_of plan body p _ = false

-- the class belongs to pool p, and its jobs get jobs of pool q
abbrev pub class_waits_for : Plan → ℕ → ℕ → Class → Bool
class_waits_for plan p q class = class.pool == p && list_any (gets_of plan class.body q) class.body

-- jobs of pool p get jobs of pool q
abbrev pub waits_for : Plan → ℕ → ℕ → Bool
waits_for plan p q = list_any (class_waits_for plan p q) plan.classes
