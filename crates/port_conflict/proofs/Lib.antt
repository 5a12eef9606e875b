pub mod Conflict
pub mod Written
pub mod Marking
pub mod Both
pub mod Ends
pub mod Passing
pub mod Answering
