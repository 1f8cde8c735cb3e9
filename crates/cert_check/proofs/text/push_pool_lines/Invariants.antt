-- The text is the old text followed by the lines of the pools before this one.
use Rattle.std.proofs.Common.{◌≡◌, ◌++◌, take}
use Rattle.std.specs.Prelude.{string_bytes}
use Rattle.cert_check.specs.Text.{pool_lines_text}
use Rattle.cert_check.proofs.text.push_pool_lines.Given as goal

abbrev pub invariant-loop-pool : goal.invariant-loop-pool
invariant-loop-pool l = string_bytes l.text ≡ string_bytes l.fn.text ++ pool_lines_text l.plan (take l.pool l.lines)
