pub mod Starts
pub mod Known
pub mod Places
pub mod Rises
pub mod Ordering
pub mod Whole
