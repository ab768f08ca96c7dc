pub mod Spelling
pub mod Partial
pub mod PartialLaws
pub mod Values
pub mod Totals
pub mod Rows
pub mod Fronts
pub mod Keyed
