pub mod Laws
pub mod Known
pub mod Add
pub mod Sized
pub mod Events
pub mod Collected
pub mod Filled
pub mod Intervals
