-- The text for more rounds than the plan allows.
use Rattle.std.specs.Prelude.{ℕ, ◌++◌, List, codes, decimal}
use Rattle.conformance.specs.declared.excess.Excess.{Excess}
use Rattle.conformance.specs.declared.excess.Excess.TheVariants.{Concurrent, InAll}

-- The text of an excess, such as `31 at once, count is 30`. It has no name of the client kind and no newline.
abbrev pub excess_text : Excess → List ℕ
excess_text (Concurrent rounds count) = decimal rounds ++ codes " at once, count is " ++ decimal count
excess_text (InAll rounds count) = decimal rounds ++ codes " in all, count is " ++ decimal count ++ codes " and it does not repeat"
