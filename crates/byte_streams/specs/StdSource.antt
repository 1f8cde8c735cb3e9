-- The state of a source for a std reader.
use Rattle.std.specs.Prelude.{ℕ}
use Rattle.byte_streams.specs.declared.std_source.StdSource.{StdSource}

-- the reader from which the source reads
abbrev pub reader_of : {R : Type 0} → StdSource R → R
reader_of source = source.reader

-- the number of failed calls
abbrev pub failure_count : {R : Type 0} → StdSource R → ℕ
failure_count source = source.failures.exact.value
