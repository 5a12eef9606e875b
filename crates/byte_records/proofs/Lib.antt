pub mod Enough
pub mod Reading
pub mod Crossed
