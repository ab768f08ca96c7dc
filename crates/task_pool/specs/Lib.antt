pub mod Accounts
pub mod Asks
pub mod Pools
pub mod Workers
