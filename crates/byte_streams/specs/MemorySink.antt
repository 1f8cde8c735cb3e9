-- The state of a sink in memory.
use Rattle.std.specs.Prelude.{ℕ, List, Option}
use Rattle.byte_streams.specs.declared.memory_sink.MemorySink.{MemorySink}

-- the bytes written so far
abbrev pub written_to : MemorySink → List ℕ
written_to sink = sink.bytes.items

-- the maximum number of bytes that each call accepts
abbrev pub max_bytes_of : MemorySink → ℕ
max_bytes_of sink = sink.max_bytes

-- the number of calls before the call that must fail; None if no call must fail
abbrev pub calls_before_fault : MemorySink → Option ℕ
calls_before_fault sink = sink.fault.calls_before

-- the number of failed calls
abbrev pub failure_count : MemorySink → ℕ
failure_count sink = sink.failures.exact.value
