-- The planned failure of a stream in memory.
use Rattle.std.specs.Prelude.{ℕ, ◌-◌, Option, None, Some, if◌then◌else◌, ◌==◌}

-- the number of calls before the call that must fail, updated after one more call; None means that no call must fail
abbrev pub calls_after : Option ℕ → Option ℕ
calls_after None = None
calls_after (Some calls) = if calls == 0 then None else Some (calls - 1)
