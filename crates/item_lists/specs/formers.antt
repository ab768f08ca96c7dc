-- How the two types of this crate store what they hold.
-- The form of the toolchain's crate sqlite_items.
pub mod boxed
pub mod listed
