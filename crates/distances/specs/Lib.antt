pub mod Met
pub mod Reached
pub mod Smallest
pub mod Closed
