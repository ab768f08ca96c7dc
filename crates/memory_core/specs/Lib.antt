pub mod Attempts
pub mod Caches
pub mod Changes
pub mod Choices
pub mod Evictions
pub mod Steady
