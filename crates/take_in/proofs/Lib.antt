pub mod Search
pub mod Taking
pub mod Each
pub mod Passing
pub mod Answers
pub mod Listed
pub mod ListTaken
pub mod Into
