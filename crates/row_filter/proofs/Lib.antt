pub mod Meanings
pub mod Columns
pub mod Lineage
pub mod Movings
mod Negations
mod Selections
