pub mod UseOrder
pub mod Laws
pub mod Growing
pub mod Uncached
pub mod SafeJournal
pub mod Owners
pub mod Evicting
pub mod ByGroups
