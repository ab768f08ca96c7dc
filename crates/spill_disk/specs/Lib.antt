pub mod Files
pub mod Kept
pub mod Ahead
pub mod Memory
pub mod Veil
pub mod Folder
pub mod Shelves
