pub mod Text
pub mod Fields
pub mod Entries
pub mod Reading
pub mod Lines
pub mod Rules
