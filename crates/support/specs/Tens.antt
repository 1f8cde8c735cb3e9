-- The decimal digits of a number except the last.
use Rattle.std.specs.Prelude.{ℕ, ◌==◌, if◌then◌else◌, List, []}
use Rattle.std.specs.Fmt.{decimal}

-- the decimal digits of a number except the last one; `tens` is the number divided by 10, and the text is empty if `tens` is 0
abbrev pub tens_text : ℕ → List ℕ
tens_text tens = if tens == 0 then [] else decimal tens
