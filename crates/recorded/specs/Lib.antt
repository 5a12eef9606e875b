pub mod Parts
pub mod Laid
pub mod Answers
pub mod Questions
pub mod Sections
