pub mod StableSort
pub mod PlaceOrder
pub mod Parts
pub mod Ends
