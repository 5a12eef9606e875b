pub mod Sums
pub mod Reading
pub mod Found
