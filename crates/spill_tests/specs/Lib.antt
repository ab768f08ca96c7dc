pub mod Rows
pub mod Scripts
pub mod Spillers
