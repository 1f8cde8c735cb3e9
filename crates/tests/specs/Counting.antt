-- A counter that is always between 0 and its maximum.
use Rattle.std.specs.Prelude.{ℕ, ◌+◌, ◌-◌, ◌==◌, Option, Some, None, nat_lt, if◌then◌else◌}
use Rattle.tests.specs.declared.threads.counter.Change.{Change}
use Rattle.tests.specs.declared.threads.counter.Change.TheVariants.{Up, Down}

-- the count after a change, or None if it would be below 0 or above the maximum
abbrev pub next_count : ℕ → ℕ → Change → Option ℕ
next_count most n Up = if nat_lt n most then Some (n + 1) else None
next_count most n Down = if n == 0 then None else Some (n - 1)
