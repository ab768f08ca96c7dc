pub mod Fronts
pub mod Parts
pub mod Shown
pub mod Steps
pub mod Lengths
pub mod Rows
pub mod PageRows
pub mod PagePlaces
