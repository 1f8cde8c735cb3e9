pub mod MemorySink
pub mod MemorySource
pub mod Reading
pub mod ScriptedFault
pub mod StdSink
pub mod StdSource
pub mod Writing
