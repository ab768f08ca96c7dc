pub mod Places
pub mod Walks
pub mod UseOrder
pub mod Written
pub mod Filing
pub mod Copied
pub mod Forgetting
