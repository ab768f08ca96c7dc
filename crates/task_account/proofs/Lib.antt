pub mod FirstAsked
pub mod Granted
pub mod Peaks
