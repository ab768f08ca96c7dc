pub mod Generator
pub mod FixedJob
pub mod Lines
pub mod Laws
pub mod Tallies
pub mod Sources
pub mod Sinks
