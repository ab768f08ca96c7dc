pub mod Tables
pub mod UseOrder
pub mod Replays
pub mod Checks
pub mod Verdicts
