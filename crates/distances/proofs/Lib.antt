pub mod Joining
pub mod Marking
pub mod Passing
pub mod Rounding
pub mod Smallest
pub mod Seeking
pub mod Reaching
pub mod Open
