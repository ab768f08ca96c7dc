pub mod Parts
pub mod Passes
pub mod Views
pub mod Turns
pub mod Steps
