pub mod Alone
pub mod Planned
