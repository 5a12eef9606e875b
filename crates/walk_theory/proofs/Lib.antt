pub mod Join
pub mod Joined
pub mod Entries
pub mod Together
pub mod Answers
