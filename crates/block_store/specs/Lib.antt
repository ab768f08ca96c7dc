pub mod Stores
pub mod Slots
pub mod Copies
pub mod StoredProp
pub mod Evictions
pub mod Seen
pub mod Listing
