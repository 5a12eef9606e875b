pub mod Holds
pub mod Filling
pub mod Answer
