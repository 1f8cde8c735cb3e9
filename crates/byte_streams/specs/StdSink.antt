-- The state of a sink for a std writer.
use Rattle.std.specs.Prelude.{ℕ}
use Rattle.byte_streams.specs.declared.std_sink.StdSink.{StdSink}

-- the writer to which the sink writes
abbrev pub writer_of : {W : Type 0} → StdSink W → W
writer_of sink = sink.writer

-- the number of failed calls
abbrev pub failure_count : {W : Type 0} → StdSink W → ℕ
failure_count sink = sink.failures.exact.value
