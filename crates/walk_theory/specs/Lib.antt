pub mod Marked
pub mod Joined
