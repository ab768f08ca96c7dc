pub mod Beginning
pub mod Crew
pub mod Steady
