-- The state of a source in memory.
use Rattle.std.specs.Prelude.{ℕ, List, Option}
use Rattle.byte_streams.specs.declared.memory_source.MemorySource.{MemorySource}

-- the bytes that have not been read yet
abbrev pub left : MemorySource → List ℕ
left source = source.rest.now

-- the maximum number of bytes that each call returns
abbrev pub max_bytes_of : MemorySource → ℕ
max_bytes_of source = source.max_bytes

-- the number of calls before the call that must fail; None if no call must fail
abbrev pub calls_before_fault : MemorySource → Option ℕ
calls_before_fault source = source.fault.calls_before

-- the number of failed calls
abbrev pub failure_count : MemorySource → ℕ
failure_count source = source.failures.exact.value
