pub mod Formed
pub mod Marks
