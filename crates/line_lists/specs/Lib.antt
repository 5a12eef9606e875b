pub mod Columns
pub mod Pushing
