pub mod Gains
pub mod Working
pub mod Told
pub mod Right
pub mod FormedRows
pub mod Given
pub mod Kept
