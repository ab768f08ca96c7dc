pub mod Fitting
pub mod Workers
pub mod Endings
pub mod Crew
