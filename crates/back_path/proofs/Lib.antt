pub mod Searching
pub mod Written
pub mod Told
pub mod Answers
pub mod Listing
