pub mod Fronts
pub mod Scripted
