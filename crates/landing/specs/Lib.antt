pub mod Checks
pub mod Landed
pub mod Ruling
pub mod Explaining
pub mod Filling
pub mod Headers
