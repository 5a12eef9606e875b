pub mod SmallMap
pub mod Collected
