pub mod Edges
pub mod MemorySink
pub mod MemorySource
pub mod SteadySink
pub mod StdSink
pub mod StdSource
