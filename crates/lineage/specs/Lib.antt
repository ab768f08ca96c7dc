pub mod LineageViews
pub mod Standing
pub mod Checking
pub mod Handed
pub mod Entries
pub mod Telling
