pub mod Sorting
pub mod Collected
