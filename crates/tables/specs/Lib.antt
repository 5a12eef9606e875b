pub mod Within
pub mod Placed
pub mod Usable
pub mod Recorded
pub mod Answered
