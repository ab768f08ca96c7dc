pub mod Chains
pub mod Derived
pub mod Lines
pub mod Meaning
pub mod Moved
pub mod Rows
