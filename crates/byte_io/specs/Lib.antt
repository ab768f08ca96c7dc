pub mod Sources
pub mod Sinks
pub mod Memory
pub mod Streams
pub mod Files
pub mod Rows
pub mod Records
