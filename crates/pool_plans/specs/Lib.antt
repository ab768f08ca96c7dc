pub mod Listed
pub mod Needs
