pub mod Sized
pub mod Lined
pub mod Good
