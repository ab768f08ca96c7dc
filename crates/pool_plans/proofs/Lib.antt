pub mod Chosen
pub mod Mapped
