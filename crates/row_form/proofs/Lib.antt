pub mod Numerals
pub mod Walking
pub mod Formed
