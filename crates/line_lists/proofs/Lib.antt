pub mod Pushes
pub mod Row
pub mod Rows
pub mod Held
pub mod Reading
pub mod Counted
pub mod Whole
pub mod Case
