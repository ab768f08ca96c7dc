pub mod LookUps
pub mod Partly
mod OpenFiles
