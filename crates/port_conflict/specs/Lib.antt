pub mod FirstLinks
pub mod Room
pub mod Marks
