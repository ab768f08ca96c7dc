pub mod Table
pub mod Faults
pub mod Results
pub mod Ahead
pub mod Told
